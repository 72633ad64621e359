-- What there is room for before a command does what it does.
use Rattle.std.specs.Prelude.{ℕ, ◌<◌, length}
use Rattle.ng_queue.specs.Queues.{spare_at}
use Rattle.ng_core_state.specs.declared.state.State.{State}
use Rattle.ng_core.specs.declared.intake.decided.Decided.{Decided}
use Rattle.ng_core.specs.declared.intake.decided.Decided.TheVariants.{Refuse, Help, Nothing, Accept}

-- a node of that number, if it is there, has room for an item
abbrev pub HasRoomAt : {B : Type 0} → State B → ℕ → Type 0
HasRoomAt s n = n < length s.pending.queues.lists → 0 < spare_at s.pending.queues.spares n

abbrev pub HasRoomFor : {B : Type 0} → State B → Decided → Type 0
HasRoomFor s (Refuse errno why) = Unit {0}
HasRoomFor s Help = Unit {0}
HasRoomFor s Nothing = Unit {0}
HasRoomFor s (Accept to body tag) = HasRoomAt s to.0
