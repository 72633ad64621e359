-- A core of which nothing is taken: no seat works, and where nothing may be taken nothing is pending, or the limit is reached.
use Rattle.std.proofs.Common.{◌≡◌, ◌⊎◌, inl, inr, ℕ, ◌<◌, ◌≤◌, ◌==◌, Bool, not, cond, ◌&&◌, List, [], ◌∷◌, ◌++◌, length, false, true, refl, sym, ap, ⊎_elim, arith, true≢false, ◌∙◌, subst}
use Rattle.std.proofs.lemmas.Bool.{cases_lt, eq-eqb, eqb-true}
use Rattle.std.specs.List.{find}
use Rattle.ng_base.specs.declared.event.Event.{Event}
use Rattle.ng_base.specs.declared.event.Event.TheVariants.{Feed, Take, Back, Apply, Stop}
use Rattle.ng_base.specs.declared.ids.ItemId.{ItemId}
use Rattle.ng_machine.specs.declared.item.Item.{Item}
use Rattle.ng_machine.specs.Body.{has_id}
use Rattle.ng_machine.specs.Desk.{Job, Idle, has_taken, job_after, job_found, job_from}
use Rattle.ng_machine.specs.Feed.{RunInput}
use Rattle.ng_machine.specs.Laws.{start, taken_by}
use Rattle.ng_machine.specs.Orderly.{MayTake}
use Rattle.ng_machine.specs.Run.{RunState, Taken, after, after_all, beginning, is_of, taken_after, without}
use Rattle.ng_machine.specs.Words.{Has}
use Rattle.ng_machine.proofs.PlainSteps.{nothing_in}
use Rattle.ng_machine.proofs.Standing.{in_back, in_front, to_any, to_filter}
use Rattle.ng_machine.specs.story.Desks.{IsJobNow, story_job}
use Rattle.ng_machine.specs.story.SoundStory.{IsSoundStory}
use Rattle.ng_machine.specs.story.Story.{NothingToTake, Story, has_ended, run_state_of, world_of}
use Rattle.ng_machine.proofs.story.AtWork.{jobs_stand}
use Rattle.ng_machine.proofs.story.SoundStories.{so_far}
use Rattle.std.specs.declared.option.Option.TheVariants.{None}

nobody : (at : RunState) → at.taken ≡ [] → (t : Taken) → Has t at.taken → ⊥
nobody at none t h = nothing_in Taken at.taken t none h

-- a seat has no job, or something is taken by it
abbrev IsBusy : List Taken → ℕ → Job → Type 0
IsBusy taken seat job = (job ≡ Idle) ⊎ ((t : Taken) × Has t taken × (t.seat ≡ seat))

takes : (at : RunState) (seat : ℕ) (job : Job) (id : ItemId) (by : ℕ) → IsBusy at.taken seat job → (b : Bool) → (by == seat) ≡ b
    → IsBusy (at.taken ++ taken_by id by ∷ []) seat (cond b (job_found at.world (find (has_id id) at.world.pending)) job)
takes at seat job id by busy true e = inr (taken_by id by, in_back (taken_by id by) at.taken (taken_by id by ∷ []) (inl refl), eqb-true by seat e)
takes at seat job id by (inl idle) false e = inl idle
takes at seat job id by (inr (t, h, mine)) false e = inr (t, in_front t at.taken (taken_by id by ∷ []) h, mine)

another : (taken : List Taken) (seat : ℕ) (id : ItemId) (t : Taken) → Has t taken → t.seat ≡ seat → has_taken taken id seat ≡ false → is_of id t ≡ false
another taken seat id t h mine other = by (is_of id t) refl
  where
    by : (b : Bool) → is_of id t ≡ b → is_of id t ≡ false
    by false e = e
    by true e = absurd (true≢false (sym (to_any (λ x. is_of id x && x.seat == seat) t taken h (let m = eq-eqb t.seat seat mine in grind arith)) ∙ other))

ends : (at : RunState) (seat : ℕ) (job : Job) (id : ItemId) → IsBusy at.taken seat job → (b : Bool) → has_taken at.taken id seat ≡ b → IsBusy (without at.taken id) seat (cond b Idle job)
ends at seat job id busy true e = inl refl
ends at seat job id (inl idle) false e = inl idle
ends at seat job id (inr (t, h, mine)) false e = inr (t, to_filter (λ x. not (is_of id x)) t at.taken h (ap not (another at.taken seat id t h mine e)), mine)

busy_after : (at : RunState) (seat : ℕ) (job : Job) (e : Event) → IsBusy at.taken seat job → IsBusy (taken_after at.taken e) seat (job_after at seat job e)
busy_after at seat job Feed busy = busy
busy_after at seat job (Take by id) busy = takes at seat job id by busy (by == seat) refl
busy_after at seat job (Back id) busy = ends at seat job id busy (has_taken at.taken id seat) refl
busy_after at seat job (Apply id) busy = ends at seat job id busy (has_taken at.taken id seat) refl
busy_after at seat job Stop busy = busy

busy_from : (given : RunInput) (at : RunState) (seat : ℕ) (job : Job) (j : List Event) → IsBusy at.taken seat job → IsBusy (after_all given at j).taken seat (job_from given at seat job j)
busy_from given at seat job [] busy = busy
busy_from given at seat job (e ∷ es) busy = busy_from given (after given at e) seat (job_after at seat job e) es (busy_after at seat job e busy)

-- nobody works
pub all_idle : (s : Story) (seat : ℕ) → (run_state_of s).taken ≡ [] → story_job s seat ≡ Idle
all_idle s seat none = by (busy_from s.setting.given (beginning (start s.setting)) seat Idle s.journal (inl refl))
  where
    by : IsBusy (run_state_of s).taken seat (story_job s seat) → story_job s seat ≡ Idle
    by (inl idle) = idle
    by (inr (t, h, mine)) = absurd (nobody (run_state_of s) none t h)

-- where nobody works nothing is taken
pub none_out : (s : Story) → IsSoundStory s → s.closed ≡ None → ((seat : ℕ) → story_job s seat ≡ Idle) → (run_state_of s).taken ≡ []
none_out s sound unclosed idle = by (run_state_of s).taken refl
  where
    free : (seat : ℕ) → IsJobNow (run_state_of s) seat Idle
    free seat = subst (IsJobNow (run_state_of s) seat) (idle seat) (jobs_stand s seat (so_far s sound unclosed))

    by : (ts : List Taken) → (run_state_of s).taken ≡ ts → (run_state_of s).taken ≡ []
    by [] e = e
    by (t ∷ ts) e = absurd (free t.seat t (subst (Has t) (sym e) (inl refl)) refl)

-- The item of the least number

record Least (ps : List Item) : Type 0 where
  item : Item
  pending : Has item ps
  least : (other : Item) → Has other ps → item.id.0 ≤ other.id.0

lesser : (p : Item) (ps : List Item) (m : Least ps) → (p.id.0 < m.item.id.0) ⊎ (m.item.id.0 ≤ p.id.0) → Least (p ∷ ps)
lesser p ps m (inl lt) = record {
  item = p;
  pending = inl refl;
  least = λ other h. ⊎_elim (λ (e : other ≡ p). let s = ap (λ (y : Item). y.id.0) e in omega arith) (λ (k : Has other ps). let le = m.least other k in omega arith) h;
}
lesser p ps m (inr le) = record {
  item = m.item;
  pending = inr m.pending;
  least = λ other h. ⊎_elim (λ (e : other ≡ p). let s = ap (λ (y : Item). y.id.0) e in omega arith) (λ (k : Has other ps). m.least other k) h;
}

least_of : (p : Item) (ps : List Item) → Least (p ∷ ps)
least_of p [] = record { item = p; pending = inl refl; least = λ other h. ⊎_elim (λ (e : other ≡ p). let s = ap (λ (y : Item). y.id.0) e in omega arith) (λ (n : ⊥). absurd n) h }
least_of p (q ∷ ps) = let m = least_of q ps in lesser p (q ∷ ps) m (cases_lt p.id.0 m.item.id.0)

-- where nothing is taken it may be taken
may_take : (at : RunState) (m : Least at.world.pending) → at.taken ≡ [] → MayTake at m.item
may_take at m none = record {
  pending = m.pending;
  untaken = λ t. nobody at none t.0 t.1;
  first = λ other h node less. let le = m.least other h in absurd (omega arith);
  no_writer = λ other b. absurd (nobody at none b.taken.0 b.taken.1);
  alone = λ other b. absurd (nobody at none b.taken.0 b.taken.1);
  other_lanes = λ other b. absurd (nobody at none b.taken.0 b.taken.1);
}

none_pending : (at : RunState) → at.taken ≡ [] → ((item : Item) → MayTake at item → ⊥) → at.world.pending ≡ []
none_pending at none never = by at.world.pending refl
  where
    by : (ps : List Item) → at.world.pending ≡ ps → at.world.pending ≡ []
    by [] e = e
    by (p ∷ ps) e = let m = subst Least (sym e) (least_of p ps) in absurd (never m.item (may_take at m none))

pub nothing_left : (s : Story) → has_ended s ≡ false → (run_state_of s).taken ≡ [] → NothingToTake s → ((world_of s).pending ≡ []) ⊎ (s.setting.budget ≤ (world_of s).applies)
nothing_left s running none (inl ended) = absurd (true≢false (sym ended ∙ running))
nothing_left s running none (inr (inl spent)) = let l = ap (λ (ts : List Taken). length ts) none in inr (omega arith)
nothing_left s running none (inr (inr never)) = inl (none_pending (run_state_of s) none never)
