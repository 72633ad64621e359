-- Where an applied item is, and what ended there, by the worlds before and after it.
use Rattle.std.specs.Prelude.{◌-◌, Bool, true, false, ◌&&◌, nat_lt, List, [], ◌∷◌, ◌++◌, length, replicate, Option, Some, None}
use Rattle.ng_base.specs.declared.cause.Cause.TheVariants.{NodeGone, HookGone, NoPeer, Full, Spool}
use Rattle.ng_base.specs.declared.errno.Errno.{Errno}
use Rattle.ng_base.specs.declared.ids.NodeId.{NodeId}
use Rattle.ng_machine.specs.declared.body.Body.{Body}
use Rattle.ng_machine.specs.declared.body.Body.TheVariants.{Frame}
use Rattle.ng_machine.specs.declared.body.Door.{Door}
use Rattle.ng_machine.specs.declared.item.Item.{Item}
use Rattle.ng_machine.specs.declared.lost.Lost.{Lost}
use Rattle.ng_machine.specs.declared.outcome.Outcome.{Outcome}
use Rattle.ng_machine.specs.Case.{outcome_of}
use Rattle.ng_machine.specs.Effect.{is_fine, is_hook_gone}
use Rattle.ng_machine.specs.Errors.{no_error}
use Rattle.ng_machine.specs.Words.{is_empty}
use Rattle.ng_machine.specs.World.{NodeRecord, kind_at, node_in, state_of}
use Rattle.ng_trace.specs.declared.ending.Ending.{Ending}
use Rattle.ng_trace.specs.declared.ending.Ending.TheVariants as so
use Rattle.ng_trace.specs.declared.ending.Came.{Came}
use Rattle.ng_trace.specs.declared.ending.Label.{Label}
use Rattle.ng_trace.specs.declared.ending.Spot.{Spot}

-- Where an item is

abbrev pub label_of : NodeId → NodeRecord → Label
label_of id node = record { node = id; name = node.name; kind = kind_at node }

-- the door of a packet
abbrev pub door_of : Body → Option Door
door_of (Frame door link packet) = Some door
door_of _ = None

abbrev pub spot_of : Item → NodeRecord → Spot
spot_of item node = record { id = item.id; label = label_of item.to node; door = door_of item.body }

abbrev pub spot_if : Item → Option NodeRecord → List Spot
spot_if item None = []
spot_if item (Some node) = spot_of item node ∷ []

-- those of items, whose nodes are there
abbrev pub spots : List (Option NodeRecord) → List Item → List Spot
spots nodes [] = []
spots nodes (item ∷ items) = spot_if item (node_in nodes item.to) ++ spots nodes items

-- What ended

-- packets that were lost meanwhile
abbrev pub lost_between : Lost → Lost → List Ending
lost_between old new =
    replicate (new.no_peer - old.no_peer) (so.Lost NoPeer)
    ++ (replicate (new.node_gone - old.node_gone) (so.Lost NodeGone)
    ++ (replicate (new.full - old.full) (so.Lost Full)
    ++ replicate (new.spool - old.spool) (so.Lost Spool)))

abbrev pub refused_unless : Bool → Errno → List Ending
refused_unless true errno = []
refused_unless false errno = so.Refused errno ∷ []

abbrev pub refused_by : Errno → List Ending
refused_by errno = refused_unless (is_fine errno) errno

abbrev pub ended_if : Bool → List Ending
ended_if true = so.Ended ∷ []
ended_if false = []

-- What came of a packet at its node: its hook was gone; how many copies left; whether nothing was sent on and nothing left; and
-- why it was refused

abbrev pub is_silent : Outcome → Bool
is_silent out = is_fine out.errno && (is_empty out.sends && is_empty out.leaves)

abbrev pub came_unless : Bool → Outcome → Came
came_unless true out = record { gone = true; leaves = 0; silent = false; errno = no_error }
came_unless false out = record { gone = false; leaves = length out.leaves; silent = is_silent out; errno = out.errno }

abbrev pub came_of : NodeRecord → Body → Option Came
came_of node (Frame door link packet) =
    Some (came_unless (is_hook_gone (Some node) (Frame door link packet)) (outcome_of (state_of node) (Frame door link packet)))
came_of node _ = None

abbrev pub packet_endings : Bool → Came → List Ending → List Ending
packet_endings true came lost = so.Dropped HookGone ∷ []
packet_endings false came lost = refused_by came.errno ++ (lost ++ ended_if came.silent)

abbrev pub endings : Option Came → Lost → Lost → List Ending
endings None old new = lost_between old new
endings (Some came) old new = packet_endings came.gone came (lost_between old new)

-- a copy left, and wasn't lost for want of room
abbrev pub has_left : Option Came → Lost → Lost → Bool
has_left None old new = false
has_left (Some came) old new = nat_lt (new.spool - old.spool) came.leaves
