-- Worked examples of spreads: each was worked out by hand.
use Rattle.std.specs.Prelude.{◌≡◌, ℕ, List, [], ◌∷◌, ◌++◌, map, replicate, codes, Option, Some, None}
use Rattle.ng_machine.specs.declared.input.Input.{Input}
use Rattle.ng_machine.specs.World.{World, Port, item_id}
use Rattle.ng_base.specs.declared.event.Event.{Event}
use Rattle.ng_base.specs.declared.event.Event.TheVariants.{Feed, Back}
use Rattle.ng_machine.specs.Laws.{Setting, world_after}
use Rattle.ng_machine.specs.PlainSteps.{plain_steps}
use Rattle.ng_machine_tests.specs.Commands.{mkpeer, connect, msg, take, apply}
use Rattle.ng_machine_tests.specs.TypeCommands.{full_stock, full_begin, given_bytes, world_by, packet_at, left_by}
use Rattle.ng_machine_tests.specs.TypeExamples.{vlan_filter, twelve, v5}
use Rattle.ng_machine.specs.declared.place.Place.TheVariants.{Wire as ToWire, Host as ToHost, Reader as ToReader}
use Rattle.ng_machine.specs.Spread.{Spread, fed_flight, spread_of, spread_of_all, IsSameBag, count_of}
use Rattle.ng_laws.specs.still_graph.Bag.{IsTrafficAfter, LosesNothing, flights_of, OnWire, AtHost, in_spread}

abbrev pub em0 : List ℕ
em0 = codes "em0"

abbrev pub em1 : List ℕ
em1 = codes "em1"

abbrev pub em2 : List ℕ
em2 = codes "em2"

abbrev pub em0_lower : List ℕ
em0_lower = codes "em0:lower"

abbrev pub lower : List ℕ
lower = codes "lower"

abbrev pub two_ports : List (List ℕ)
two_ports = em0 ∷ em1 ∷ []

abbrev pub three_ports : List (List ℕ)
three_ports = em0 ∷ em1 ∷ em2 ∷ []

-- the world after commands, and the spread of a packet that comes by the first port's wire and visits so many nodes
abbrev pub built : List (List ℕ) → List Input → World
built ports commands = world_by ports (given_bytes commands)

abbrev pub first_spread : World → ℕ → List ℕ → Option Spread
first_spread w n packet = spread_of w (fed_flight 0 packet) n

-- 1. A hub between three ports: a packet is copied to the two others. It visits three nodes, one after another.

abbrev pub hub_graph : List Input
hub_graph =
    mkpeer 1 (codes "em0:") (codes "hub") lower (codes "a")
    ∷ connect 2 em0_lower (codes "em1:") (codes "b") lower
    ∷ connect 3 em0_lower (codes "em2:") (codes "c") lower
    ∷ []

abbrev pub two_spreads : Spread
two_spreads = (ToWire 1, 1 ∷ []) ∷ (ToWire 2, 1 ∷ []) ∷ (ToWire 1, 2 ∷ []) ∷ (ToWire 2, 2 ∷ []) ∷ []

-- the same graph, with the two packets fed, in the plain run
abbrev pub hub_run : World
hub_run = built three_ports (hub_graph ++ packet_at 0 1000 (1 ∷ []) ∷ packet_at 0 1100 (2 ∷ []) ∷ [])

abbrev pub HubSpreads : Type 0
HubSpreads =
    (first_spread (built three_ports hub_graph) 3 (1 ∷ []) ≡ Some ((ToWire 1, 1 ∷ []) ∷ (ToWire 2, 1 ∷ []) ∷ []))
    × (first_spread (built three_ports hub_graph) 64 (1 ∷ []) ≡ Some ((ToWire 1, 1 ∷ []) ∷ (ToWire 2, 1 ∷ []) ∷ []))
    × (first_spread (built three_ports hub_graph) 2 (1 ∷ []) ≡ None)
    × (spread_of_all (built three_ports hub_graph) (fed_flight 0 (1 ∷ []) ∷ fed_flight 0 (2 ∷ []) ∷ []) 3 ≡ Some two_spreads)
    × (left_by hub_run ≡ [] ∷ ((1 ∷ []) ∷ (2 ∷ []) ∷ []) ∷ ((1 ∷ []) ∷ (2 ∷ []) ∷ []) ∷ [])
    × IsSameBag ((ToWire 1, 1 ∷ []) ∷ (ToWire 2, 1 ∷ []) ∷ []) ((ToWire 2, 1 ∷ []) ∷ (ToWire 1, 1 ∷ []) ∷ [])
    × (count_of two_spreads (ToWire 1, 2 ∷ []) ≡ 1)
    × (in_spread (OnWire 1 (2 ∷ [])) two_spreads ≡ 1)
    × (in_spread (AtHost 0) two_spreads ≡ 0)

-- 2. A bridge learns and a one2many takes turns, so they aren't followed; and without any node each packet goes up to the host.

abbrev pub bridged : List Input
bridged = mkpeer 1 (codes "em0:") (codes "bridge") lower (codes "link0") ∷ connect 2 em0_lower (codes "em1:") (codes "link1") lower ∷ []

abbrev pub links_to_deal : List Input
links_to_deal = mkpeer 1 (codes "em0:") (codes "one2many") lower (codes "one") ∷ connect 2 em0_lower (codes "em1:") (codes "many0") lower ∷ []

-- the packets that went up, by ports
abbrev pub went_up : World → List ℕ
went_up w = map (λ (port : Port). port.up) w.ports

abbrev pub BridgeSpreads : Type 0
BridgeSpreads =
    (first_spread (built two_ports bridged) 64 (replicate 14 7) ≡ None)
    × (first_spread (built two_ports links_to_deal) 64 (replicate 14 7) ≡ None)
    × (went_up (built two_ports (packet_at 0 1000 (1 ∷ []) ∷ packet_at 0 1100 (2 ∷ []) ∷ [])) ≡ 2 ∷ 0 ∷ [])
    × (first_spread (built two_ports []) 1 (replicate 14 7) ≡ Some ((ToHost 0, replicate 14 7) ∷ []))
    × (first_spread (built two_ports []) 0 (replicate 14 7) ≡ None)

-- 3. A tee between two ports, with a copy for the reader. There is no fourth port: nothing comes of its packets.

abbrev pub teed : List Input
teed =
    mkpeer 1 (codes "em0:") (codes "tee") lower (codes "left")
    ∷ connect 2 em0_lower (codes "em1:") (codes "right") lower
    ∷ connect 3 em0_lower (codes "ngctl:") (codes "left2right") (codes "snoop")
    ∷ []

abbrev pub TeeSpreads : Type 0
TeeSpreads =
    (first_spread (built two_ports teed) 3 (5 ∷ []) ≡ Some ((ToReader (codes "snoop"), 5 ∷ []) ∷ (ToWire 1, 5 ∷ []) ∷ []))
    × (spread_of (built two_ports teed) (fed_flight 1 (5 ∷ [])) 3 ≡ Some ((ToWire 0, 5 ∷ []) ∷ []))
    × (spread_of (built two_ports teed) (fed_flight 3 (5 ∷ [])) 0 ≡ Some [])

-- 4. A vlan node takes a tag of the number 5 away, and drops what has no tag, since it has no hook for that.

abbrev pub tagged : List Input
tagged =
    mkpeer 1 (codes "em0:") (codes "vlan") lower (codes "downstream")
    ∷ connect 2 em0_lower (codes "em1:") v5 lower
    ∷ msg 3 em0_lower (codes "addfilter") (vlan_filter v5 5 0 0)
    ∷ []

abbrev pub TagSpreads : Type 0
TagSpreads =
    (first_spread (built two_ports tagged) 3 (twelve ++ 0x81 ∷ 0 ∷ 0x20 ∷ 5 ∷ 8 ∷ 0 ∷ []) ≡ Some ((ToWire 1, twelve ++ 8 ∷ 0 ∷ []) ∷ []))
    × (first_spread (built two_ports tagged) 2 (twelve ++ 8 ∷ 0 ∷ []) ≡ Some [])
    × (spread_of (built two_ports tagged) (fed_flight 1 (twelve ++ 8 ∷ 0 ∷ [])) 3 ≡ Some ((ToWire 0, twelve ++ 0x81 ∷ 0 ∷ 0 ∷ 5 ∷ 8 ∷ 0 ∷ []) ∷ []))

-- 5. Two hubs that are joined twice send a packet round for ever, so it has no spread.

abbrev pub looped : List Input
looped =
    mkpeer 1 (codes "em0:") (codes "hub") lower (codes "a")
    ∷ mkpeer 2 em0_lower (codes "hub") (codes "b") (codes "x")
    ∷ connect 3 em0_lower (codes "b") (codes "c") (codes "y")
    ∷ []

abbrev pub LoopSpreads : Type 0
LoopSpreads = (first_spread (built two_ports looped) 9 (1 ∷ []) ≡ None) × (first_spread (built two_ports looped) 12 (1 ∷ []) ≡ None)

-- 6. The two packets of the first example, by two seats: the second is applied before the copies of the first, and one copy is given
-- back. The premises of the law hold, and what leaves is what left in the plain run.

abbrev pub hub_setting : Setting
hub_setting = record {
  own = codes "ngctl";
  ports = three_ports;
  stock = full_stock;
  given = given_bytes (hub_graph ++ packet_at 0 1000 (1 ∷ []) ∷ packet_at 0 1100 (2 ∷ []) ∷ []);
  budget = 1000000;
  seats = 2;
}

-- the plain journal of the commands
abbrev pub hub_before : List Event
hub_before = (plain_steps 10 hub_setting.given (full_begin three_ports)).events

abbrev pub hub_more : List Event
hub_more =
    (Feed ∷ Feed ∷ take 8 0 ∷ apply 8 ∷ take 9 0 ∷ take 10 1 ∷ apply 9 ∷ apply 10 ∷ [])
    ++ (take 11 0 ∷ take 12 1 ∷ Back (item_id 12) ∷ take 12 1 ∷ apply 11 ∷ apply 12 ∷ [])
    ++ (take 13 0 ∷ take 14 1 ∷ apply 14 ∷ apply 13 ∷ take 15 0 ∷ apply 15 ∷ [])

abbrev pub HubBag : Type 0
HubBag =
    IsTrafficAfter hub_setting hub_before hub_more
    × LosesNothing (world_after hub_setting hub_before) (world_after hub_setting (hub_before ++ hub_more))
    × ((world_after hub_setting (hub_before ++ hub_more)).pending ≡ [])
    × (spread_of_all (world_after hub_setting hub_before) (flights_of hub_setting hub_before hub_more) 3 ≡ Some two_spreads)
    × (left_by (world_after hub_setting (hub_before ++ hub_more)) ≡ [] ∷ ((1 ∷ []) ∷ (2 ∷ []) ∷ []) ∷ ((1 ∷ []) ∷ (2 ∷ []) ∷ []) ∷ [])
