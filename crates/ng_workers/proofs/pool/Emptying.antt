-- Seats give back what they hold, one after another, and hold nothing then.
use Rattle.std.proofs.Common.{◌≡◌, ℕ, zero, suc, ◌+◌, ◌-◌, ◌<◌, ◌≤◌, List, [], ◌∷◌, ◌++◌, length, refl, sym, ap, ⊎_elim, arith, ◌∙◌}
use Rattle.std.proofs.lemmas.Bool.{cases_lt}
use Rattle.std.specs.declared.option.Option.{Option}
use Rattle.std.specs.declared.option.Option.TheVariants.{None}
use Rattle.ng_base.specs.declared.event.Event.TheVariants.{Back}
use Rattle.ng_machine.specs.Desk.{Idle}
use Rattle.ng_machine.specs.State.{State}
use Rattle.ng_machine.specs.story.Desks.{story_job}
use Rattle.ng_machine.specs.story.Story.{Story, run_state_of}
use Rattle.ng_core_state.specs.declared.handed.Work.{Work}
use Rattle.ng_workers.specs.pool.Held.{HoldsJobs, held_at, held_job}
use Rattle.ng_workers.specs.pool.Moves.{given_back, with_of}
use Rattle.ng_workers.proofs.pool.Idle.{all_idle}

-- one seat more
pub back_more : (seats seat : ℕ) (s u : Story) → seat < seats → u ≡ with_of Back (story_job s seat) s → given_back (seats - (seat + 1)) (seat + 1) u ≡ given_back (seats - seat) seat s
back_more seats seat s u lt back =
    let more : seats - seat ≡ suc (seats - (seat + 1)) = omega arith in
    ap (given_back (seats - (seat + 1)) (seat + 1)) back ∙ sym (ap (λ (n : ℕ). given_back n seat s) more)

pub back_all : (seats seat : ℕ) (s : Story) → seats ≤ seat → given_back (seats - seat) seat s ≡ s
back_all seats seat s le = let none : seats - seat ≡ 0 = omega arith in ap (λ (n : ℕ). given_back n seat s) none

pub empty_more : {B : Type 0} (held now : List (Option (Work B))) (seat : ℕ) → ((k : ℕ) → k < seat → held_at held k ≡ None) → held_at now seat ≡ None → ((k : ℕ) → held_at held k ≡ None → held_at now k ≡ None)
    → (k : ℕ) → k < seat + 1 → held_at now k ≡ None
empty_more held now seat before here others k lt = ⊎_elim
    (λ (less : k < seat). others k (before k less))
    (λ (le : seat ≤ k). let same : k ≡ seat = omega arith in ap (held_at now) same ∙ here)
    (cases_lt k seat)

past_end : {B : Type 0} (held : List (Option (Work B))) (k : ℕ) → length held ≤ k → held_at held k ≡ None
past_end [] k le = refl
past_end (x ∷ held) zero le = absurd (omega arith)
past_end (x ∷ held) (suc k) le = past_end held k (omega arith)

-- where no seat holds anything nobody works
pub none_works : {B : Type 0} (state : B → State) (held : List (Option (Work B))) (s : Story) (seat : ℕ) → HoldsJobs state held s → length held ≤ seat → ((k : ℕ) → k < seat → held_at held k ≡ None)
    → (k : ℕ) → story_job s k ≡ Idle
none_works state held s seat H le before k = H.jobs k ∙ ap (held_job state) (⊎_elim (λ (less : k < seat). before k less) (λ (more : seat ≤ k). past_end held k (omega arith)) (cases_lt k seat))

-- where nothing is taken, empty hands are what desks say
pub empty_holds : {B : Type 0} (state : B → State) (held : List (Option (Work B))) (s : Story) → ((seat : ℕ) → held_at held seat ≡ None) → (run_state_of s).taken ≡ [] → HoldsJobs state held s
empty_holds state held s empty none = record {
  jobs = λ seat. all_idle s seat none ∙ sym (ap (held_job state) (empty seat));
  running = λ seat some. absurd (cc (some, empty seat));
}

pub none_pushed : {B : Type 0} (held : List (Option (Work B))) → ((seat : ℕ) → held_at held seat ≡ None) → (seat : ℕ) → held_at (held ++ None ∷ []) seat ≡ None
none_pushed [] empty zero = refl
none_pushed [] empty (suc seat) = refl
none_pushed (x ∷ held) empty zero = empty 0
none_pushed (x ∷ held) empty (suc seat) = none_pushed held (λ k. empty (suc k)) seat
