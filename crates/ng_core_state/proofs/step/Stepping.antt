-- What a step knows and owes.
use Rattle.std.proofs.Common.{◌≡◌, ℕ, ◌^◌, ◌≤◌, true, false, List, Option, Some, sym, ap, ◌∙◌, subst, arith, true≢false}
use Rattle.std.specs.Prelude.{Result, Ok, Err, is_err, OnOk, OnErr}
use Rattle.ng_machine.specs.declared.item.Item.{Item}
use Rattle.ng_machine.specs.Change.{Change, change_all}
use Rattle.ng_machine.specs.LowRun.{IsLow}
use Rattle.ng_machine.specs.Run.{RunState}
use Rattle.ng_machine.specs.World.{NodeRecord, node_in}
use Rattle.ng_core_state.specs.step.Steps.{Changes, IsStep, MayStep, Steps, world_at}
use Rattle.ng_queue.specs.pending.Holds.{done_from, in_world}
use Rattle.ng_core_state.specs.step.Applied.{applied_from, changed_from}
use Rattle.ng_core_state.proofs.step.AppliedItems.{items_are_applied}
use Rattle.ng_queue.specs.tally.Tally.{HasNumbers}
use Rattle.ng_queue.proofs.tally.LowCounts.{counts_are_low}
use Rattle.ng_core_state.specs.declared.state.State.{State}
use Rattle.ng_core_state.specs.Stands.{Stands}

-- no number comes near its end
pub numbers : {B : Type 0} (s : State B) (a : RunState) (k : ℕ) → Stands s a → IsLow a.world → k ≤ 2 ^ 62 → HasNumbers k s.pending.tally
numbers s a k S low le =
    let N : HasNumbers (2 ^ 62) s.pending.tally = subst (HasNumbers (2 ^ 62)) (sym S.items.tally) (counts_are_low.low a.world low) in
    record {
      made = let n = N.made in omega arith;
      settled = let n = N.settled in omega arith;
      applies = let n = N.applies in omega arith;
      frames = let n = N.frames in omega arith;
      ticks = let n = N.ticks in omega arith;
      tagged = let n = N.tagged in omega arith;
      spool = N.spool;
    }

-- the run after a step is the one in which the item is done and makes its changes
pub stepped : {B : Type 0} (s t : State B) (item : Item) (a : RunState) (node : NodeRecord) (changes : List Change) → IsStep s item a node changes
    → Stands t (in_world (done_from a item) (change_all item.to item.stamp (world_at a item) changes)) → Stands t (applied_from a item)
stepped s t item a node changes I S =
    subst (λ (b : RunState). Stands t b) (sym (items_are_applied.done a item node I.at I.stays ∙ ap (λ (cs : List Change). changed_from (done_from a item) item cs) I.effect)) S

-- the node as the graph has it
pub node_here : {B : Type 0} (s : State B) (item : Item) (a : RunState) (node : NodeRecord) (changes : List Change) → IsStep s item a node changes → node_in s.graph.nodes item.to ≡ Some node
node_here s item a node changes I = ap (λ (l : List (Option NodeRecord)). node_in l item.to) I.stands.graph.nodes ∙ I.at.here

-- the same step, said otherwise
pub step_as : {B : Type 0} (s : State B) (item : Item) (a : RunState) (node : NodeRecord) (these those : List Change) → these ≡ those → IsStep s item a node these → IsStep s item a node those
step_as s item a node these those e I = subst (IsStep s item a node) e I

pub may_as : {B : Type 0} (s : State B) (item : Item) (these those : Changes) → ((a : RunState) (node : NodeRecord) → IsStep s item a node (these a node) → these a node ≡ those a node) → MayStep s item these → MayStep s item those
may_as s item these those e M = (M.0, (M.1.0, step_as s item M.0 M.1.0 (these M.0 M.1.0) (those M.0 M.1.0) (e M.0 M.1.0 M.1.1) M.1.1))

pub steps_as : {B : Type 0} (s t : State B) (item : Item) (these those : Changes) → ((a : RunState) (node : NodeRecord) → IsStep s item a node (these a node) → these a node ≡ those a node) → Steps s t item those → Steps s t item these
steps_as s t item these those e S a node I = S a node (step_as s item a node (these a node) (those a node) (e a node I) I)

-- WHAT A RESULT SAYS

pub ok_of : {A E P : Type 0} (r : Result A E) → is_err r ≡ false → OnOk r P → P
ok_of (Ok x) e p = p
ok_of (Err x) e p = absurd (true≢false e)

pub err_of : {A E P : Type 0} (r : Result A E) → is_err r ≡ true → OnErr r P → P
err_of (Ok x) e p = absurd (true≢false (sym e))
err_of (Err x) e p = p

pub on_ok : {A E P Q : Type 0} (r : Result A E) → (P → Q) → OnOk r P → OnOk r Q
on_ok (Ok x) f p = f p
on_ok (Err x) f p = p
