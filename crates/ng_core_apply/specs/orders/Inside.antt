-- Items that need no work outside, and which of them the steps of another crate apply.
use Rattle.std.specs.Prelude.{◌≡◌, Bool, true, false, Some, Result, Ok, Err}
use Rattle.ng_base.specs.declared.errno.Errno.{Errno}
use Rattle.ng_base.specs.declared.kind.Kind.{Kind}
use Rattle.ng_machine.specs.declared.body.Body.{Body}
use Rattle.ng_machine.specs.declared.body.Body.TheVariants.{Msg, Leave, Tick}
use Rattle.ng_machine.specs.declared.item.Item.{Item}
use Rattle.ng_machine.specs.Desk.{Within, job_at}
use Rattle.ng_machine.specs.Effect.{MessageClass, AnAnswer, AnOrder, OfKind, Foreign, class_of}
use Rattle.ng_machine.specs.LowRun.{IsLow}
use Rattle.ng_machine.specs.Order.{Order, Shutdown, Rmhook, read_order}
use Rattle.ng_machine.specs.Run.{RunState}
use Rattle.ng_machine.specs.World.{NodeRecord, kind_at}
use Rattle.ng_message.specs.declared.message.Msg.{Msg as Message}
use Rattle.ng_core_apply.specs.declared.orders.inside.Inside.{Inside}
use Rattle.ng_core_apply.specs.declared.orders.inside.Inside.TheVariants.{Done, Left}
use Rattle.ng_core_state.specs.step.Applied.{IsAtNode, applied_from}
use Rattle.ng_core_state.specs.declared.state.State.{State}
use Rattle.ng_core_state.specs.Stands.{Stands}

-- what is kept stands for the run, in which the item is taken at its node and needs no work outside
pub record IsInside {B : Type 0} (s : State B) (item : Item) (a : RunState) (node : NodeRecord) : Type 0 where
  pub stands : Stands s a
  pub at : IsAtNode a item node
  pub low : IsLow a.world
  pub job : job_at item (Some node) ≡ Within item

-- the orders by which a node or a hook goes
abbrev pub removes : Order → Bool
removes Shutdown = true
removes (Rmhook hook) = true
removes _ = false

abbrev pub removes_as_read : Result Order Errno → Bool
removes_as_read (Ok order) = removes order
removes_as_read (Err errno) = false

-- left are the orders by which a node or a hook goes, and the type's own messages
abbrev pub is_left_message : MessageClass → Message → Bool
is_left_message AnAnswer msg = false
is_left_message AnOrder msg = removes_as_read (read_order msg.header.cmd msg.args)
is_left_message OfKind msg = true
is_left_message Foreign msg = false

-- and a peer's going; time is never inside
abbrev pub is_left : Kind → Body → Bool
is_left kind (Msg msg) = is_left_message (class_of kind msg) msg
is_left kind (Leave hook link) = true
is_left kind (Tick seconds) = true
is_left kind _ = false

-- an item that is done was none of those, and is applied; one that is left was one, and nothing changed
abbrev pub Became : {B : Type 0} → State B → State B → Item → Inside → Type 0
Became old new item Done =
    (a : RunState) (node : NodeRecord) → IsInside old item a node → (is_left (kind_at node) item.body ≡ false) × Stands new (applied_from a item)
Became old new item (Left it) =
    (it ≡ item) × (new ≡ old) × ((a : RunState) (node : NodeRecord) → IsInside old item a node → is_left (kind_at node) item.body ≡ true)
