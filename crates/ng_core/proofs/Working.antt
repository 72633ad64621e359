-- A taken item is out, and alone where another would be a writer.
use Rattle.std.proofs.Common.{◌≡◌, ℕ, List, true, refl, ap, subst}
use Rattle.std.proofs.lemmas.Bool.{eq-eqb}
use Rattle.ng_machine.specs.declared.item.Item.{Item}
use Rattle.ng_machine.specs.Laws.{taken_by}
use Rattle.ng_machine.specs.Orderly.{IsTaken}
use Rattle.ng_machine.proofs.Ordering.{alone}
use Rattle.ng_core_state.specs.step.Boxes.{IsAloneIn}
use Rattle.ng_queue.proofs.tie.Heads.{out_taken}
use Rattle.ng_machine.specs.Run.{Taken, is_of}
use Rattle.ng_machine.specs.Words.{Has}
use Rattle.ng_machine.proofs.Standing.{to_any}
use Rattle.ng_machine.specs.story.DeskLaws.{IsOrderlySoFar}
use Rattle.ng_machine.specs.story.Story.{Story, run_state_of, world_of}
use Rattle.ng_queue.specs.tie.Tie.{is_out}

pub taken_out : (item : Item) (seat : ℕ) (taken : List Taken) → Has (taken_by item.id seat) taken → is_out item.id.0 taken ≡ true
taken_out item seat taken h = to_any (is_of item.id) (taken_by item.id seat) taken h (eq-eqb item.id.0 item.id.0 refl)

-- no other writer of a taken item's node is taken
pub alone_in : (s : Story) (item : Item) (seat : ℕ) → IsOrderlySoFar s → Has item (world_of s).pending → Has (taken_by item.id seat) (run_state_of s).taken → IsAloneIn (run_state_of s) item
alone_in s item seat J h t other k out to writes = by (out_taken (run_state_of s).taken other.id out)
  where
    by : IsTaken (run_state_of s).taken other.id → other ≡ item
    by x = alone s.setting s.journal other item x.0.seat seat J k h (subst (λ (y : Taken). Has y (run_state_of s).taken) (same x.0 x.2) x.1) t to writes
      where
        same : (y : Taken) → y.id ≡ other.id → y ≡ taken_by other.id y.seat
        same y e = ap (λ i. taken_by i y.seat) e
