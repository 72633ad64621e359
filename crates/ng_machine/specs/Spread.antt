-- Where the copies of one packet leave, in a graph that stays as it is: the packet is followed from node to node by the rules of
-- their types, and no list of what waits is kept. That packets are followed so is this project's own.
use Rattle.std.specs.Prelude.{◌≡◌, ℕ, zero, suc, Bool, true, false, ◌==◌, ◌&&◌, List, [], ◌∷◌, ◌++◌, is_some, Option, Some, None}
use Rattle.std.specs.Str.{bytes_eq}
use Rattle.ng_base.specs.declared.ids.LinkId.{LinkId}
use Rattle.ng_base.specs.declared.ids.NodeId.{NodeId}
use Rattle.ng_base.specs.declared.kind.Kind.{Kind}
use Rattle.ng_base.specs.declared.kind.Kind.TheVariants.{One2many, Bridge}
use Rattle.ng_machine.specs.declared.body.Body.{Body}
use Rattle.ng_machine.specs.declared.body.Body.TheVariants.{Frame}
use Rattle.ng_machine.specs.declared.body.Door.{Door}
use Rattle.ng_machine.specs.declared.body.Door.TheVariants.{Wire, Hook as ByHook}
use Rattle.ng_machine.specs.declared.body.Exit.{Exit}
use Rattle.ng_machine.specs.declared.body.Exit.TheVariants.{Wire as ByWire, Host, Reader}
use Rattle.ng_machine.specs.declared.hook.Hook.{Hook}
use Rattle.ng_machine.specs.declared.item.Item.{Item}
use Rattle.ng_machine.specs.declared.outcome.Outcome.{Outcome}
use Rattle.ng_machine.specs.declared.place.Place.{Place}
use Rattle.ng_machine.specs.declared.place.Place.TheVariants.{Wire as ToWire, Host as ToHost, Reader as ToReader}
use Rattle.ng_machine.specs.Words.{times}
use Rattle.ng_machine.specs.World.{World, NodeRecord, node_in, hook_of, kind_at, state_of, port_of, port_node}
use Rattle.ng_machine.specs.Case.{outcome_of}
use Rattle.ng_machine.specs.Effect.{door_name, is_hook_gone}

-- Packets with their places: how often each stands there matters, and not the order.
abbrev pub Spread : Type 0
Spread = List (Place × List ℕ)

-- How often a packet stands at a place

abbrev pub same_place : Place → Place → Bool
same_place (ToWire a) (ToWire b) = a == b
same_place (ToHost a) (ToHost b) = a == b
same_place (ToReader a) (ToReader b) = bytes_eq a b
same_place _ _ = false

abbrev pub same_pair : Place × List ℕ → Place × List ℕ → Bool
same_pair a b = same_place a.0 b.0 && bytes_eq a.1 b.1

abbrev pub count_of : Spread → Place × List ℕ → ℕ
count_of spread pair = times (same_pair pair) spread

abbrev pub IsSameBag : Spread → Spread → Type 0
IsSameBag a b = (pair : Place × List ℕ) → count_of a pair ≡ count_of b pair

-- A packet on its way: the node that it comes to, by which door, and over which link.
pub record Flight : Type 0 where
  pub to : NodeId
  pub door : Door
  pub link : Option LinkId
  pub packet : List ℕ

abbrev pub body_of : Flight → Body
body_of f = Frame f.door f.link f.packet

-- a packet that is fed at a port
abbrev pub fed_flight : ℕ → List ℕ → Flight
fed_flight port packet = record { to = port_node port; door = Wire; link = None; packet = packet }

-- the packet of an item, if it is one
abbrev pub flights_to : NodeId → Body → List Flight
flights_to to (Frame door link packet) = record { to = to; door = door; link = link; packet = packet } ∷ []
flights_to to _ = []

-- the packets among what waits
abbrev pub waiting : List Item → List Flight
waiting [] = []
waiting (item ∷ items) = flights_to item.to item.body ++ waiting items

-- a packet at a node of the kind is followed: what becomes of it doesn't depend on the packets before it
abbrev pub is_followed : Kind → Bool
is_followed Bridge = false
is_followed One2many = false
is_followed _ = true

-- What becomes of a packet at the node that it comes to: nothing, since the node or its hook isn't there; no one can say; or
-- some copies leave, and some are sent on.
pub data Fate : Type 0 where
  Vanishes : Fate
  Untold : Fate
  Comes : Spread → List Flight → Fate

abbrev pub place_of : NodeId → List ℕ → Exit → Place
place_of at hook ByWire = ToWire (port_of at)
place_of at hook Host = ToHost (port_of at)
place_of at hook Reader = ToReader hook

abbrev pub leaving : NodeId → List ℕ → List (Exit × List ℕ) → Spread
leaving at hook [] = []
leaving at hook (x ∷ rest) = (place_of at hook x.0, x.1) ∷ leaving at hook rest

-- a copy that is sent out of a hook arrives where the hook is joined and its peer's node is there
abbrev pub sent_if : Hook → Bool → Bool → List ℕ → List Flight
sent_if hook true true packet = record { to = hook.peer.node; door = ByHook hook.peer.hook; link = Some hook.link; packet = packet } ∷ []
sent_if hook true false packet = []
sent_if hook false there packet = []

abbrev pub sent_by : List (Option NodeRecord) → Option Hook → List ℕ → List Flight
sent_by nodes None packet = []
sent_by nodes (Some hook) packet = sent_if hook hook.joined (is_some (node_in nodes hook.peer.node)) packet

abbrev pub sent_on : List (Option NodeRecord) → NodeRecord → List (List ℕ × List ℕ) → List Flight
sent_on nodes node [] = []
sent_on nodes node (x ∷ rest) = sent_by nodes (hook_of node x.0) x.1 ++ sent_on nodes node rest

abbrev pub comes : List (Option NodeRecord) → Flight → NodeRecord → Outcome → Fate
comes nodes f node out = Comes (leaving f.to (door_name f.door) out.leaves) (sent_on nodes node out.sends)

abbrev pub fate_if : List (Option NodeRecord) → Flight → NodeRecord → Bool → Bool → Fate
fate_if nodes f node true followed = Vanishes
fate_if nodes f node false false = Untold
fate_if nodes f node false true = comes nodes f node (outcome_of (state_of node) (body_of f))

abbrev pub fate_at : List (Option NodeRecord) → Flight → Option NodeRecord → Fate
fate_at nodes f None = Vanishes
fate_at nodes f (Some node) = fate_if nodes f node (is_hook_gone (Some node) (body_of f)) (is_followed (kind_at node))

abbrev pub fate : List (Option NodeRecord) → Flight → Fate
fate nodes f = fate_at nodes f (node_in nodes f.to)

-- Spreads of several packets, one after another; undefined where one is

abbrev pub beside : Option Spread → Option Spread → Option Spread
beside None b = None
beside (Some a) None = None
beside (Some a) (Some b) = Some (a ++ b)

abbrev pub spread_all : (Flight → Option Spread) → List Flight → Option Spread
spread_all spread [] = Some []
spread_all spread (f ∷ fs) = beside (spread f) (spread_all spread fs)

abbrev pub spread_by : (List Flight → Option Spread) → Fate → Option Spread
spread_by rest Vanishes = Some []
spread_by rest Untold = None
spread_by rest (Comes leaves sent) = beside (Some leaves) (rest sent)

-- The spread of a packet that may visit n nodes one after another, where there is one.
abbrev pub spread_in : List (Option NodeRecord) → ℕ → Flight → Option Spread
spread_in nodes zero f = spread_by (λ fs. None) (fate nodes f)
spread_in nodes (suc n) f = spread_by (spread_all (λ g. spread_in nodes n g)) (fate nodes f)

abbrev pub spread_of : World → Flight → ℕ → Option Spread
spread_of w f n = spread_in w.nodes n f

-- the spreads of packets together
abbrev pub spread_of_all : World → List Flight → ℕ → Option Spread
spread_of_all w fs n = spread_all (λ f. spread_in w.nodes n f) fs
