-- A graph that stays as it is: what leaves it depends on its packets alone, and on no other part of the journal.
use Rattle.std.specs.Prelude.{◌≡◌, ℕ, pred, ◌+◌, ◌<◌, ◌≤◌, Bool, true, false, ◌==◌, ◌&&◌, List, [], ◌∷◌, ◌++◌, length, slice_get, slice_index_or, Option, Some, None}
use Rattle.std.specs.List.{list_any}
use Rattle.std.specs.Str.{bytes_eq}
use Rattle.ng_base.specs.declared.event.Event.{Event}
use Rattle.ng_base.specs.declared.event.Event.TheVariants.{Feed, Take, Back, Apply, Stop}
use Rattle.ng_base.specs.declared.ids.NodeId.{NodeId}
use Rattle.ng_base.specs.declared.ids.Stamp.{Stamp}
use Rattle.ng_machine.specs.declared.input.Input.{Input}
use Rattle.ng_machine.specs.declared.input.Input.TheVariants.{Command, Late, Packet, Tick}
use Rattle.ng_machine.specs.declared.item.Item.{Item}
use Rattle.ng_machine.specs.declared.told.Told.{Told}
use Rattle.ng_machine.specs.declared.told.Told.TheVariants.{Frame as ToldFrame}
use Rattle.ng_machine.specs.Words.{Has, Every, times}
use Rattle.ng_machine.specs.Body.{has_frame}
use Rattle.ng_machine.specs.State.{way_of}
use Rattle.ng_machine.specs.World.{World, NodeRecord, Port, blank_port, node_in, kind_at, state_of}
use Rattle.ng_machine.specs.Effect.{take_out, apply_item}
use Rattle.ng_machine.specs.Feed.{RunInput}
use Rattle.ng_machine.specs.Laws.{Setting, IsJournal, world_after}
use Rattle.ng_machine.specs.declared.place.Place.{Place}
use Rattle.ng_machine.specs.declared.place.Place.TheVariants.{Wire as ToWire, Host as ToHost, Reader as ToReader}
use Rattle.ng_machine.specs.Spread.{Spread, count_of, same_pair, Flight, fed_flight, flights_to, waiting, is_followed, spread_of, spread_of_all}

-- FUEL: a spread that is defined for n is defined and the same for every greater n.
abbrev pub Fuel : Type 0
Fuel = (w : World) (f : Flight) (n m : ℕ) (spread : Spread) → n ≤ m → spread_of w f n ≡ Some spread → spread_of w f m ≡ Some spread

-- STILL: while packets and ticks alone are fed, the graph stays.

-- a node with the name, the kind and the hooks of another, with their links, peers and joined marks; and with its plan where
-- packets are followed
pub record IsStillNode (before now : NodeRecord) : Type 0 where
  pub name : now.name ≡ before.name
  pub kind : kind_at now ≡ kind_at before
  pub hooks : now.hooks ≡ before.hooks
  pub way : is_followed (kind_at before) ≡ true → way_of (state_of now) ≡ way_of (state_of before)

abbrev pub StillAt : Option NodeRecord → Option NodeRecord → Type 0
StillAt None None = Unit {0}
StillAt None (Some now) = ⊥
StillAt (Some before) None = ⊥
StillAt (Some before) (Some now) = IsStillNode before now

-- no node is made or removed, and each is as it was
pub record IsStillGraph (before now : List (Option NodeRecord)) : Type 0 where
  pub numbers : length now ≡ length before
  pub each : (id : NodeId) → StillAt (node_in before id) (node_in now id)

-- only packets are pending
abbrev pub HasOnlyFrames : World → Type 0
HasOnlyFrames w = (item : Item) → Has item w.pending → has_frame item ≡ true

-- the inputs that the events feed, where so many were fed before
abbrev pub inputs_from : RunInput → ℕ → List Event → List (Option Input)
inputs_from given fed [] = []
inputs_from given fed (Feed ∷ events) = slice_get given.inputs fed ∷ inputs_from given (fed + 1) events
inputs_from given fed (Take seat id ∷ events) = inputs_from given fed events
inputs_from given fed (Back id ∷ events) = inputs_from given fed events
inputs_from given fed (Apply id ∷ events) = inputs_from given fed events
inputs_from given fed (Stop ∷ events) = inputs_from given fed events

abbrev pub IsTraffic : Option Input → Type 0
IsTraffic None = Unit {0}
IsTraffic (Some (Packet port stamp packet)) = Unit {0}
IsTraffic (Some (Tick seconds)) = Unit {0}
IsTraffic (Some (Command command)) = ⊥
IsTraffic (Some (Late command)) = ⊥

abbrev pub is_stop : Event → Bool
is_stop Stop = true
is_stop _ = false

-- after the first journal only packets are pending, and the second feeds packets and ticks alone and doesn't stop
pub record IsTrafficAfter (s : Setting) (before more : List Event) : Type 0 where
  pub orderly : IsJournal s (before ++ more)
  pub frames : HasOnlyFrames (world_after s before)
  pub traffic : Every IsTraffic (inputs_from s.given (world_after s before).fed more)
  pub unstopped : list_any is_stop more ≡ false

abbrev pub Still : Type 0
Still =
    (s : Setting) (before more : List Event) → IsTrafficAfter s before more
    → IsStillGraph (world_after s before).nodes (world_after s (before ++ more)).nodes
    × ((f : Flight) (n : ℕ) → spread_of (world_after s (before ++ more)) f n ≡ spread_of (world_after s before) f n)

-- ONE STEP: an applied packet leaves in its place what leaves of it and the packets that are sent on.

-- What is counted: packets of these bytes on the wire of a port, or for the reader by a hook; or what the host of a port gets.
pub data Meter : Type 0 where
  OnWire : ℕ → List ℕ → Meter
  AtReader : List ℕ → List ℕ → Meter
  AtHost : ℕ → Meter

-- in a spread
abbrev pub is_host : ℕ → Place × List ℕ → Bool
is_host port (ToWire other, bytes) = false
is_host port (ToHost other, bytes) = port == other
is_host port (ToReader hook, bytes) = false

abbrev pub meters : Meter → Place × List ℕ → Bool
meters (OnWire port bytes) pair = same_pair (ToWire port, bytes) pair
meters (AtReader hook bytes) pair = same_pair (ToReader hook, bytes) pair
meters (AtHost port) pair = is_host port pair

abbrev pub in_spread : Meter → Spread → ℕ
in_spread meter spread = times (meters meter) spread

-- and in what left a world
abbrev pub same_packet : List ℕ → Stamp × List ℕ → Bool
same_packet bytes x = bytes_eq bytes x.1

abbrev pub is_told_packet : List ℕ → List ℕ → Told → Bool
is_told_packet hook bytes (ToldFrame name packet) = bytes_eq hook name && bytes_eq bytes packet
is_told_packet hook bytes _ = false

abbrev pub port_in : List Port → ℕ → Port
port_in ports port = slice_index_or ports port blank_port

abbrev pub count_left : Meter → List Port → List Told → ℕ
count_left (OnWire port bytes) ports told = times (same_packet bytes) (port_in ports port).leaving
count_left (AtReader hook bytes) ports told = times (is_told_packet hook bytes) told
count_left (AtHost port) ports told = (port_in ports port).up

abbrev pub left_of : World → Meter → ℕ
left_of w meter = count_left meter w.ports w.told

-- a meter of a port that is there
abbrev pub IsAtPort : List Port → Meter → Type 0
IsAtPort ports (OnWire port bytes) = port < length ports
IsAtPort ports (AtReader hook bytes) = Unit {0}
IsAtPort ports (AtHost port) = port < length ports

-- nothing was lost on the way from one world to another since too many packets waited or too much had left
pub record LosesNothing (before now : World) : Type 0 where
  pub full : now.lost.full ≡ before.lost.full
  pub spool : now.lost.spool ≡ before.lost.spool

-- The item is no longer pending, and its spread is what left of it and the spreads of the packets among the items that it made.
pub record IsReplaced (before now : World) (item : Item) (spread : Spread) (n : ℕ) : Type 0 where
  pub leaves : Spread
  pub made : List Item
  pub frames : Every (λ (x : Item). has_frame x ≡ true) made
  pub rest : Spread
  pub ports : length now.ports ≡ length before.ports
  pub pending : now.pending ≡ (take_out before item.id).pending ++ made
  pub sent : spread_of_all before (waiting made) n ≡ Some rest
  pub left : (meter : Meter) → IsAtPort before.ports meter → left_of now meter ≡ left_of before meter + in_spread meter leaves
  pub whole : spread ≡ leaves ++ rest
  pub count : (pair : Place × List ℕ) → count_of spread pair ≡ count_of leaves pair + count_of rest pair

abbrev pub OneStep : Type 0
OneStep =
    (w : World) (item : Item) (f : Flight) (n : ℕ) (spread : Spread) → flights_to item.to item.body ≡ f ∷ [] → spread_of w f n ≡ Some spread
    → LosesNothing w (apply_item w item) → IsReplaced w (apply_item w item) item spread (pred n)

-- PLACES: wires and hosts are those of ports that are there.

abbrev pub IsPlace : ℕ → Place × List ℕ → Type 0
IsPlace ports (ToWire port, bytes) = port < ports
IsPlace ports (ToHost port, bytes) = port < ports
IsPlace ports (ToReader hook, bytes) = Unit {0}

abbrev pub PlacesArePorts : Type 0
PlacesArePorts =
    (s : Setting) (journal : List Event) (f : Flight) (n : ℕ) (spread : Spread) → spread_of (world_after s journal) f n ≡ Some spread
    → Every (IsPlace (length s.ports)) spread

-- THE SAME BAG: where nothing is lost and nothing is left pending, what left is what the spreads say of the packets that were
-- pending and of those that were fed.

abbrev pub arrivals : List (Option Input) → List Flight
arrivals [] = []
arrivals (Some (Packet port stamp packet) ∷ inputs) = fed_flight port packet ∷ arrivals inputs
arrivals (Some (Tick seconds) ∷ inputs) = arrivals inputs
arrivals (Some (Command command) ∷ inputs) = arrivals inputs
arrivals (Some (Late command) ∷ inputs) = arrivals inputs
arrivals (None ∷ inputs) = arrivals inputs

-- the packets that are pending after the first journal, and those that the second feeds
abbrev pub flights_of : Setting → List Event → List Event → List Flight
flights_of s before more = waiting (world_after s before).pending ++ arrivals (inputs_from s.given (world_after s before).fed more)

abbrev pub SameBag : Type 0
SameBag =
    (s : Setting) (before more : List Event) (n : ℕ) (bag : Spread) → IsTrafficAfter s before more
    → LosesNothing (world_after s before) (world_after s (before ++ more)) → (world_after s (before ++ more)).pending ≡ []
    → spread_of_all (world_after s before) (flights_of s before more) n ≡ Some bag
    → (meter : Meter) → left_of (world_after s (before ++ more)) meter ≡ left_of (world_after s before) meter + in_spread meter bag

-- So what leaves depends on the packets, and on no other part of the second journal.
abbrev pub PacketsDecide : Type 0
PacketsDecide =
    (s : Setting) (before more other : List Event) (n : ℕ) (bag : Spread) → IsTrafficAfter s before more → IsTrafficAfter s before other
    → LosesNothing (world_after s before) (world_after s (before ++ more)) → LosesNothing (world_after s before) (world_after s (before ++ other))
    → (world_after s (before ++ more)).pending ≡ [] → (world_after s (before ++ other)).pending ≡ []
    → flights_of s before other ≡ flights_of s before more → spread_of_all (world_after s before) (flights_of s before more) n ≡ Some bag
    → (meter : Meter) → left_of (world_after s (before ++ more)) meter ≡ left_of (world_after s (before ++ other)) meter
