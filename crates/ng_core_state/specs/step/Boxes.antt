-- Where the box of an item's node is at home.
use Rattle.std.specs.Prelude.{◌≡◌, true, Some}
use Rattle.ng_machine.specs.declared.item.Item.{Item}
use Rattle.ng_machine.specs.Desk.{Writes, job_at}
use Rattle.ng_machine.specs.Run.{RunState}
use Rattle.ng_machine.specs.State.{State}
use Rattle.ng_machine.specs.Words.{Has}
use Rattle.ng_machine.specs.World.{NodeRecord}
use Rattle.ng_queue.specs.tie.Tie.{is_out}

-- no other writer of the item's node is taken
abbrev pub IsAloneIn : RunState → Item → Type 0
IsAloneIn a item = (other : Item) → Has other a.world.pending → is_out other.id.0 a.taken ≡ true → other.to ≡ item.to → other.writer ≡ true → other ≡ item

-- the item isn't worked on with the box of its node
abbrev pub LeavesBox : Item → NodeRecord → Type 0
LeavesBox item node = (state : State) → job_at item (Some node) ≡ Writes item state → ⊥
