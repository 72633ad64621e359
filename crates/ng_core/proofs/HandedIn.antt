-- What a seat hands in is what comes of its item, which is taken at its node.
use Rattle.std.proofs.Common.{◌≡◌, ◌≢◌, ◌∙◌, ℕ, Bool, true, false, not, refl, sym, ap, subst}
use Rattle.std.proofs.lemmas.Bool.{eqb-false, not-true}
use Rattle.std.specs.declared.option.Option.TheVariants.{None, Some}
use Rattle.ng_machine.specs.declared.item.Item.{Item}
use Rattle.ng_machine.specs.Body.{has_id}
use Rattle.ng_machine.specs.Desk.{Job, job_at}
use Rattle.ng_machine.specs.Laws.{taken_by}
use Rattle.ng_machine.specs.LowRun.{IsModest}
use Rattle.ng_machine.specs.Orderly.{IsTaken}
use Rattle.ng_machine.specs.Run.{RunState, Taken}
use Rattle.ng_machine.specs.State.{State as NodeState}
use Rattle.ng_machine.specs.Words.{Has}
use Rattle.ng_machine.specs.World.{NodeRecord, node_at}
use Rattle.ng_machine.proofs.NodeLists.{node_same}
use Rattle.ng_machine.proofs.Ordering.{alone}
use Rattle.ng_machine.proofs.Standing.{of_filter}
use Rattle.ng_core_apply.specs.removal.Removals.{IsAlone}
use Rattle.ng_machine.specs.story.DeskLaws.{IsOrderlySoFar}
use Rattle.ng_machine.specs.story.Desks.{IsAtWork, IsJobNow, story_job}
use Rattle.ng_machine.specs.story.SoundStory.{IsSoundStory}
use Rattle.ng_machine.specs.story.Story.{Story, run_state_of, world_of}
use Rattle.ng_machine.specs.story.Work.{IsDone}
use Rattle.ng_machine.proofs.story.AtWork.{jobs_stand}
use Rattle.ng_machine.proofs.story.SoundStories.{so_far}
use Rattle.ng_queue.specs.tie.Tie.{is_out, untaken}
use Rattle.ng_queue.proofs.tie.Heads.{out_taken}
use Rattle.ng_queue.proofs.tie.OfQueues.{untaken_other}
use Rattle.ng_core_state.specs.declared.handed.Done.{Done}
use Rattle.ng_core_state.specs.declared.handed.Done.TheVariants.{Read, Write, Inside}
use Rattle.ng_core_state.specs.declared.state.State.{State}
use Rattle.ng_core_state.specs.Handed.{handed_with, item_done}
use Rattle.ng_core_state.specs.Stands.{Stands}
use Rattle.ng_core_apply.specs.AtHand.{IsAtHand, IsHandedIn}
use Rattle.ng_core.specs.CoreStory.{CoreStory, setting_of, story}
use Rattle.ng_core.proofs.OpenStories.{low_story}
use Rattle.ng_core.proofs.Working.{alone_in, taken_out}

-- the job is that of the item
job_works : {B : Type 0} (state : B → NodeState) (at : RunState) (seat : ℕ) (done : Done B) (job : Job) → IsDone job (handed_with state done) → IsJobNow at seat job → IsAtWork at seat (item_done done) job
job_works state at seat (Read item outcome) job D J = subst (IsAtWork at seat item) (sym D.1) (subst (IsJobNow at seat) D.1 J)
job_works state at seat (Write item node outcome) job D J = subst (IsAtWork at seat item) (sym D.1) (subst (IsJobNow at seat) D.1 J)
job_works state at seat (Inside item) job D J = subst (IsAtWork at seat item) (sym D) (subst (IsJobNow at seat) D J)

pub at_work : {B : Type 0} (state : B → NodeState) (s : Story) (seat : ℕ) (done : Done B) → IsOrderlySoFar s → IsDone (story_job s seat) (handed_with state done) → IsAtWork (run_state_of s) seat (item_done done) (story_job s seat)
at_work state s seat done J D = job_works state (run_state_of s) seat done (story_job s seat) D (jobs_stand s seat J)

-- beside a taken writer nothing of its node is taken
none_beside : (s : Story) (item : Item) (seat : ℕ) → IsOrderlySoFar s → Has item (world_of s).pending → Has (taken_by item.id seat) (run_state_of s).taken → item.writer ≡ true → IsAlone (run_state_of s) item
none_beside s item seat J h t writes other k to = by (is_out other.id.0 (untaken item.id.0 (run_state_of s).taken)) refl
  where
    was : Has other (world_of s).pending × (not (has_id item.id other) ≡ true)
    was = of_filter (λ q. not (has_id item.id q)) other (world_of s).pending k

    differs : other.id.0 ≢ item.id.0
    differs = eqb-false other.id.0 item.id.0 (not-true (has_id item.id other) was.1)

    same : IsTaken (run_state_of s).taken other.id → item ≡ other
    same x = alone s.setting s.journal item other seat x.0.seat J h was.0 t
        (subst (λ (y : Taken). Has y (run_state_of s).taken) (is x.0 x.2) x.1) (node_same item.to other.to (sym to)) writes
      where
        is : (y : Taken) → y.id ≡ other.id → y ≡ taken_by other.id y.seat
        is y e = ap (λ i. taken_by i y.seat) e

    by : (b : Bool) → is_out other.id.0 (untaken item.id.0 (run_state_of s).taken) ≡ b → is_out other.id.0 (untaken item.id.0 (run_state_of s).taken) ≡ false
    by false e = e
    by true e =
        let out : is_out other.id.0 (run_state_of s).taken ≡ true = sym (untaken_other other.id.0 item.id.0 (run_state_of s).taken (λ q. differs (sym q))) ∙ e in
        absurd (differs (ap (λ (q : Item). q.id.0) (sym (same (out_taken (run_state_of s).taken other.id out)))))

-- a taken item at its node
pub is_at_hand : {B : Type 0} (t : State B) (c : CoreStory) (item : Item) (seat : ℕ) → IsSoundStory (story c) → IsModest (setting_of c) → (story c).closed ≡ None → Stands t (run_state_of (story c)) → Has item (world_of (story c)).pending
    → Has (taken_by item.id seat) (run_state_of (story c)).taken → (node : NodeRecord) → node_at (world_of (story c)) item.to ≡ Some node → IsAtHand t item (run_state_of (story c)) node
is_at_hand t c item seat sound modest is_open S h taken node there = record {
  stands = S;
  at = record { sorted = S.items.sorted; out = (h, taken_out item seat (run_state_of (story c)).taken taken); here = there };
  low = low_story c sound modest is_open;
  only = alone_in (story c) item seat (so_far (story c) sound is_open) h taken;
  alone = none_beside (story c) item seat (so_far (story c) sound is_open) h taken;
}

pub is_handed_in : {B : Type 0} (state : B → NodeState) (t : State B) (c : CoreStory) (done : Done B) (seat : ℕ) → IsSoundStory (story c) → IsModest (setting_of c) → (story c).closed ≡ None → Stands t (run_state_of (story c))
    → IsDone (story_job (story c) seat) (handed_with state done) → (node : NodeRecord) × IsHandedIn t state done (run_state_of (story c)) node
is_handed_in state t c done seat sound modest is_open S D =
    let W = at_work state (story c) seat done (so_far (story c) sound is_open) D in
    let there = S.there (item_done done) W.pending in
    let job : job_at (item_done done) (Some there.0) ≡ story_job (story c) seat = ap (job_at (item_done done)) (sym there.1) ∙ W.job_is in (
      there.0,
      (is_at_hand t c (item_done done) seat sound modest is_open S W.pending W.taken there.0 there.1, subst (λ (j : Job). IsDone j (handed_with state done)) (sym job) D),
    )
