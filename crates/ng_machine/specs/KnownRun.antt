-- What holds of what waits, of hooks and of what left, in every world of a run over inputs that fit: what a command waits for is
-- the last command's, peers have numbers that were given, the wire leads to ports, and no packet is too long.
use Rattle.std.specs.Prelude.{◌≡◌, ℕ, ◌<◌, List, length, Option, Some}
use Rattle.ng_base.specs.declared.event.Event.{Event}
use Rattle.ng_base.specs.declared.ids.NodeId.{NodeId}
use Rattle.ng_base.specs.declared.ids.Stamp.{Stamp}
use Rattle.ng_base.specs.declared.kind.Kind.TheVariants.{Ether}
use Rattle.ng_machine.specs.declared.body.Body.{Body}
use Rattle.ng_machine.specs.declared.body.Body.TheVariants.{Frame, Msg, Join2, Join3, Undo, Leave, Rebind, Tick, Learn}
use Rattle.ng_machine.specs.declared.body.Door.TheVariants.{Wire, Hook as ByHook}
use Rattle.ng_machine.specs.declared.hook.Hook.{Hook}
use Rattle.ng_machine.specs.declared.input.Input.{Input}
use Rattle.ng_machine.specs.declared.input.Input.TheVariants.{Command, Late, Packet, Tick as Ticks}
use Rattle.ng_machine.specs.declared.item.Item.{Item}
use Rattle.ng_machine.specs.declared.told.Told.{Told}
use Rattle.ng_machine.specs.declared.told.Told.TheVariants.{Line, Refused, Help, Answer, Frame as ToldFrame}
use Rattle.ng_machine.specs.Words.{Has, Every}
use Rattle.ng_machine.specs.Bounds.{Fits}
use Rattle.ng_machine.specs.World.{World, NodeRecord, Port, node_in, node_at, kind_at}
use Rattle.ng_machine.specs.Feed.{Request, RefusedFor, Helps, Nothing, Orders, Asks, Writes, request_of}
use Rattle.ng_machine.specs.Laws.{Setting, IsJournal, world_after}

-- Inputs that fit: a packet comes by a port of the run, and no packet is longer than the longest.

abbrev pub FitsRequest : Request → Type 0
FitsRequest (Writes hook bytes) = Fits bytes
FitsRequest (RefusedFor why) = Unit {0}
FitsRequest Helps = Unit {0}
FitsRequest Nothing = Unit {0}
FitsRequest (Orders path number name args) = Unit {0}
FitsRequest (Asks path name text) = Unit {0}

abbrev pub FitsInput : ℕ → Input → Type 0
FitsInput ports (Command command) = FitsRequest (request_of command.what)
FitsInput ports (Late command) = FitsRequest (request_of command.what)
FitsInput ports (Packet port stamp packet) = (port < ports) × Fits packet
FitsInput ports (Ticks seconds) = Unit {0}

abbrev pub AreFit : Setting → Type 0
AreFit s = Every (FitsInput (length s.ports)) s.given.inputs

-- the node that a step of a join speaks of has a number below this one
abbrev pub SpeaksBelow : ℕ → Body → Type 0
SpeaksBelow n (Join2 hook link peer peer_hook) = peer.0 < n
SpeaksBelow n (Rebind hook old new peer peer_hook) = peer.0 < n
SpeaksBelow n (Frame door link packet) = Unit {0}
SpeaksBelow n (Msg msg) = Unit {0}
SpeaksBelow n (Join3 hook link) = Unit {0}
SpeaksBelow n (Undo hook link errno) = Unit {0}
SpeaksBelow n (Leave hook link) = Unit {0}
SpeaksBelow n (Tick seconds) = Unit {0}
SpeaksBelow n (Learn hook link addr) = Unit {0}

abbrev pub PacketFits : Body → Type 0
PacketFits (Frame door link packet) = Fits packet
PacketFits (Msg msg) = Unit {0}
PacketFits (Join2 hook link peer peer_hook) = Unit {0}
PacketFits (Join3 hook link) = Unit {0}
PacketFits (Undo hook link errno) = Unit {0}
PacketFits (Leave hook link) = Unit {0}
PacketFits (Rebind hook old new peer peer_hook) = Unit {0}
PacketFits (Tick seconds) = Unit {0}
PacketFits (Learn hook link addr) = Unit {0}

-- a packet by the wire waits at an ether, which is the node of a port
abbrev pub WireIsEther : List (Option NodeRecord) → NodeId → Body → Type 0
WireIsEther nodes to (Frame Wire link packet) = (node : NodeRecord) × (node_in nodes to ≡ Some node) × (kind_at node ≡ Ether)
WireIsEther nodes to (Frame (ByHook hook) link packet) = Unit {0}
WireIsEther nodes to (Msg msg) = Unit {0}
WireIsEther nodes to (Join2 hook link peer peer_hook) = Unit {0}
WireIsEther nodes to (Join3 hook link) = Unit {0}
WireIsEther nodes to (Undo hook link errno) = Unit {0}
WireIsEther nodes to (Leave hook link) = Unit {0}
WireIsEther nodes to (Rebind hook old new peer peer_hook) = Unit {0}
WireIsEther nodes to (Tick seconds) = Unit {0}
WireIsEther nodes to (Learn hook link addr) = Unit {0}

abbrev pub ToldFits : Told → Type 0
ToldFits (ToldFrame hook packet) = Fits packet
ToldFits (Line command) = Unit {0}
ToldFits (Refused command errno why) = Unit {0}
ToldFits (Help command) = Unit {0}
ToldFits (Answer command from cookie number bytes) = Unit {0}

abbrev pub PortFits : Port → Type 0
PortFits port = Every (λ (x : Stamp × List ℕ). Fits x.1) port.leaving

abbrev pub PeersBelow : ℕ → NodeRecord → Type 0
PeersBelow n node = Every (λ (h : Hook). h.peer.node.0 < n) node.hooks

pub record IsKnown (w : World) : Type 0 where
  pub tags : (p : Item) (tag : ℕ) → Has p w.pending → p.tag ≡ Some tag → tag ≡ w.command
  pub peers : (id : NodeId) (node : NodeRecord) → node_at w id ≡ Some node → PeersBelow (length w.nodes) node
  pub speaks : (p : Item) → Has p w.pending → SpeaksBelow (length w.nodes) p.body
  pub wires : (p : Item) → Has p w.pending → WireIsEther w.nodes p.to p.body
  pub packets : (p : Item) → Has p w.pending → PacketFits p.body
  pub told : Every ToldFits w.told
  pub left : Every PortFits w.ports

abbrev pub RunsAreKnown : Type 0
RunsAreKnown = (s : Setting) (journal : List Event) → IsJournal s journal → AreFit s → IsKnown (world_after s journal)
