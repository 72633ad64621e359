-- What seats hold, after one of them took, put back or applied its item.
use Rattle.std.proofs.Common.{◌≡◌, ◌≢◌, inl, inr, ℕ, zero, suc, ◌<◌, Bool, true, false, List, [], ◌∷◌, length, set, get_or, is_some, refl, sym, ap, ⊎_elim, subst, arith, true≢false, ◌∙◌}
use Rattle.std.proofs.lemmas.Bool.{cases_eq}
use Rattle.std.proofs.lemmas.List.{get_or-set_other, get_or-set_same}
use Rattle.std.specs.declared.option.Option.{Option}
use Rattle.std.specs.declared.option.Option.TheVariants.{None, Some}
use Rattle.ng_base.specs.declared.event.Event.TheVariants.{Take}
use Rattle.ng_base.specs.declared.ids.ItemId.{ItemId}
use Rattle.ng_machine.specs.declared.input.Input.{Input}
use Rattle.ng_machine.specs.Desk.{Idle, SeatDesk}
use Rattle.ng_machine.specs.Laws.{start}
use Rattle.ng_machine.specs.Orderly.{MayTakeNow}
use Rattle.ng_machine.specs.Run.{beginning}
use Rattle.ng_machine.specs.State.{State}
use Rattle.ng_machine.proofs.Ordering.{orderly_back}
use Rattle.ng_machine.specs.story.Desks.{Others, story_job}
use Rattle.ng_machine.specs.story.SoundStory.{IsSoundStory}
use Rattle.ng_machine.specs.story.Story.{AreFitFor, Story, has_ended, run_state_of, with_event}
use Rattle.ng_machine.proofs.story.SoundStories.{so_far}
use Rattle.ng_core_state.specs.declared.handed.Work.{Work}
use Rattle.ng_core.proofs.OpenStories.{open_story}
use Rattle.ng_workers.specs.pool.Feeding.{IsFed}
use Rattle.ng_workers.specs.pool.Held.{HoldsJobs, held_at, held_job}
use Rattle.ng_workers.specs.pool.Moves.{Skips}
use Rattle.ng_workers.specs.declared.pool.moves.Move.TheVariants as by
use Rattle.ng_workers.proofs.pool.Steps.{fed_fits}

-- one seat holds something else, as its desk says
pub holds_set : {B : Type 0} (state : B → State) (held : List (Option (Work B))) (s t : Story) (seat : ℕ) (w : Option (Work B)) → HoldsJobs state held s → Others seat s t → story_job t seat ≡ held_job state w
    → (is_some w ≡ true → has_ended t ≡ false) → has_ended t ≡ has_ended s → seat < length held → HoldsJobs state (set held seat w) t
holds_set state held s t seat w H others job on ends lt = record {
  jobs = λ k. ⊎_elim
      (λ (e : k ≡ seat). ap (story_job t) e ∙ job ∙ ap (held_job state) (sym (get_or-set_same held seat w None lt)) ∙ ap (λ (n : ℕ). held_job state (held_at (set held seat w) n)) (sym e))
      (λ (ne : k ≢ seat). ap (λ (d : SeatDesk). d.job) (others k ne) ∙ H.jobs k ∙ sym (ap (held_job state) (get_or-set_other held seat k w None ne)))
      (cases_eq k seat);
  running = λ k some. ⊎_elim
      (λ (e : k ≡ seat). on (ap is_some (sym (get_or-set_same held seat w None lt)) ∙ ap (λ (n : ℕ). is_some (held_at (set held seat w) n)) (sym e) ∙ some))
      (λ (ne : k ≢ seat). ends ∙ H.running k (ap is_some (sym (get_or-set_other held seat k w None ne)) ∙ some))
      (cases_eq k seat);
}

-- a seat that takes an item could take one
pub not_skipped : (s : Story) (seat : ℕ) (id : ItemId) (inputs : List Input) → IsSoundStory (with_event s (Take seat id)) → has_ended s ≡ false → story_job s seat ≡ Idle → Skips s inputs (by.Take seat) → ⊥
not_skipped s seat id inputs sound running idle = cases
  where
    took : MayTakeNow s.setting.budget s.setting.seats (run_state_of s) id seat
    took = (orderly_back s.setting.given s.setting.budget s.setting.seats (beginning (start s.setting)) s.journal (Take seat id ∷ []) (so_far (with_event s (Take seat id)) sound (open_story s running))).0.1

    cases : Skips s inputs (by.Take seat) → ⊥
    cases (inl le) = let lt = took.seat_is in absurd (omega arith)
    cases (inr (inl busy)) = busy idle
    cases (inr (inr (inl ended))) = true≢false (sym ended ∙ running)
    cases (inr (inr (inr (inl spent)))) = let lt = took.within in absurd (omega arith)
    cases (inr (inr (inr (inr never)))) = never took.item took.may

-- whether the next input is fed or not, what is left fits
pub either_fits : (s t : Story) (left rest : List Input) (fed : Bool) → (fed ≡ true → IsFed s left t rest) → (fed ≡ false → (t ≡ s) × (rest ≡ left)) → AreFitFor s left → AreFitFor t rest
either_fits s t left rest true does skips fits = fed_fits s t left rest (does refl) fits
either_fits s t left rest false does skips fits = let k = skips refl in subst (λ (x : Story). AreFitFor x rest) (sym k.0) (subst (AreFitFor s) (sym k.1) fits)

nothing_held : {B : Type 0} (w : Option (Work B)) → is_some w ≡ false → w ≡ None
nothing_held None e = refl
nothing_held (Some work) e = absurd (true≢false e)

-- a seat that was found to hold nothing
pub free_at : {B : Type 0} (held : List (Option (Work B))) (seat : ℕ) (w : Option (Work B)) → seat < length held → is_some (get_or held seat w) ≡ false → held_at held seat ≡ None
free_at [] seat w lt e = absurd (omega arith)
free_at (x ∷ held) zero w lt e = nothing_held x e
free_at (x ∷ held) (suc seat) w lt e = free_at held seat w (omega arith) e
