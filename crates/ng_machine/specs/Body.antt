-- What an item carries: whether it is a packet, its mode and its lane. netgraph(4): an item is a reader or a writer of
-- its node, and a writer is alone with it.
use Rattle.std.specs.Prelude.{ℕ, Bool, true, false, not, ◌&&◌, ◌==◌, Option, Some, None}
use Rattle.std.specs.Str.{bytes_eq}
use Rattle.ng_base.specs.declared.ids.ItemId.{ItemId}
use Rattle.ng_base.specs.declared.ids.NodeId.{NodeId}
use Rattle.ng_base.specs.declared.kind.Kind.{Kind}
use Rattle.ng_message.specs.Numbers.{is_reader_number}
use Rattle.ng_base.specs.declared.kind.Kind.TheVariants.{One2many}
use Rattle.ng_machine.specs.declared.body.Body.{Body}
use Rattle.ng_machine.specs.declared.body.Body.TheVariants.{Frame, Msg, Tick}
use Rattle.ng_machine.specs.declared.body.Door.{Door}
use Rattle.ng_machine.specs.declared.body.Door.TheVariants.{Wire, Hook as ByHook}
use Rattle.ng_machine.specs.declared.body.Lane.{Lane}
use Rattle.ng_machine.specs.declared.body.Lane.TheVariants.{Door as OfDoor, Sender as OfSender}
use Rattle.ng_machine.specs.declared.item.Item.{Item}

abbrev pub is_frame : Body → Bool
is_frame (Frame door link packet) = true
is_frame _ = false

abbrev pub is_tick : Body → Bool
is_tick (Tick seconds) = true
is_tick _ = false

-- a packet changes more than counters of this kind, so it wants such a node alone: one2many deals packets out by turns
abbrev pub writes_by_packets : Kind → Bool
writes_by_packets One2many = true
writes_by_packets _ = false

-- the mode of a body at a node of the kind
abbrev pub is_writer : Kind → Body → Bool
is_writer kind (Frame door link packet) = writes_by_packets kind
is_writer kind (Msg msg) = not (is_reader_number msg.header.cmd)
is_writer kind _ = true

-- packets that come by one door stay in order, and so do messages of one sender
abbrev pub lane_of : Body → Option Lane
lane_of (Frame door link packet) = Some (OfDoor door)
lane_of (Msg msg) = Some (OfSender msg.from)
lane_of _ = None

abbrev pub same_door : Door → Door → Bool
same_door Wire Wire = true
same_door Wire (ByHook b) = false
same_door (ByHook a) Wire = false
same_door (ByHook a) (ByHook b) = bytes_eq a b

abbrev pub same_lane : Lane → Lane → Bool
same_lane (OfDoor a) (OfDoor b) = same_door a b
same_lane (OfSender a) (OfSender b) = a.0 == b.0
same_lane (OfDoor a) (OfSender b) = false
same_lane (OfSender a) (OfDoor b) = false

-- both have a lane, and it is one
abbrev pub share_lane : Option Lane → Option Lane → Bool
share_lane None b = false
share_lane (Some a) None = false
share_lane (Some a) (Some b) = same_lane a b

-- two items of a node that may be worked on side by side: both are readers, and of different lanes
abbrev pub are_compatible : Item → Item → Bool
are_compatible a b = not a.writer && (not b.writer && not (share_lane (lane_of a.body) (lane_of b.body)))

abbrev pub has_id : ItemId → Item → Bool
has_id id item = item.id.0 == id.0

abbrev pub is_at : NodeId → Item → Bool
is_at node item = item.to.0 == node.0

abbrev pub has_frame : Item → Bool
has_frame item = is_frame item.body

abbrev pub has_tick : Item → Bool
has_tick item = is_tick item.body

-- a command waits for the item
abbrev pub is_tag : ℕ → Option ℕ → Bool
is_tag command None = false
is_tag command (Some tag) = tag == command

abbrev pub has_tag : ℕ → Item → Bool
has_tag command item = is_tag command item.tag
