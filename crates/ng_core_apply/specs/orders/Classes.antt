-- Orders as they are carried out, and which message it is.
use Rattle.std.specs.Prelude.{◌≡◌, Bool, true, false, Result, Ok, Err}
use Rattle.ng_base.specs.declared.errno.Errno.{Errno}
use Rattle.ng_base.specs.declared.ids.NodeId.{NodeId}
use Rattle.ng_machine.specs.declared.item.Item.{Item}
use Rattle.ng_machine.specs.Effect.{MessageClass, AnAnswer, AnOrder, OfKind, Foreign}
use Rattle.ng_machine.specs.Generic.{carry_out, ordered_by}
use Rattle.ng_machine.specs.Order.{Order, Shutdown, Rmhook, Asks}
use Rattle.ng_message.specs.declared.message.Header.{Header}
use Rattle.ng_core_apply.specs.declared.orders.inside.Inside.{Inside}
use Rattle.ng_core_apply.specs.declared.orders.inside.Inside.TheVariants.{Done, Left}
use Rattle.ng_core_apply.specs.declared.orders.messages.Class.{Class}
use Rattle.ng_core_apply.specs.declared.orders.messages.Class.TheVariants as class
use Rattle.ng_core_apply.specs.orders.Asked.{message_of}
use Rattle.ng_core_apply.specs.orders.Inside.{removes, removes_as_read}
use Rattle.ng_core_state.specs.step.Steps.{Changes, Steps, world_at}
use Rattle.ng_core_state.specs.declared.state.State.{State}

abbrev pub class_as : Class → MessageClass
class_as class.Answer = AnAnswer
class_as class.Order = AnOrder
class_as class.Own = OfKind
class_as class.Foreign = Foreign

-- the changes of an order of a message of this sender and this header
abbrev pub carries_out : Item → NodeId → Header → Order → Changes
carries_out item sender header order a node = carry_out (world_at a item) item node (message_of sender header) order

-- the orders that change the graph and aren't left
abbrev pub changes_graph : Order → Bool
changes_graph Shutdown = false
changes_graph (Rmhook hook) = false
changes_graph (Asks question) = false
changes_graph _ = true

-- an order that is done is carried out; one that is left is one by which a node or a hook goes, and nothing changed
abbrev pub OrderBecame : {B : Type 0} → State B → State B → Item → NodeId → Header → Order → Inside → Type 0
OrderBecame old new item sender header order Done = (removes order ≡ false) × Steps old new item (carries_out item sender header order)
OrderBecame old new item sender header order (Left it) = (it ≡ item) × (new ≡ old) × (removes order ≡ true)

-- the same of an order as it was read, or of the refusal of one
abbrev pub obeys : Item → NodeId → Header → Result Order Errno → Changes
obeys item sender header read a node = ordered_by (world_at a item) item node (message_of sender header) read

abbrev pub changes_as_read : Result Order Errno → Bool
changes_as_read (Ok order) = changes_graph order
changes_as_read (Err errno) = false

abbrev pub ReadBecame : {B : Type 0} → State B → State B → Item → NodeId → Header → Result Order Errno → Inside → Type 0
ReadBecame old new item sender header read Done = (removes_as_read read ≡ false) × Steps old new item (obeys item sender header read)
ReadBecame old new item sender header read (Left it) = (it ≡ item) × (new ≡ old) × (removes_as_read read ≡ true)
