-- Where nothing may be taken and nothing is fed, a core may be closed.
use Rattle.std.proofs.Common.{◌≡◌, ℕ, ◌<◌, ◌≤◌, List, [], ◌∷◌, length, Bool, false, true, refl, sym, ap, ⊎_elim, arith, true≢false, ◌∙◌, is_none}
use Rattle.std.proofs.lemmas.Bool.{cases_lt, eq-eqb}
use Rattle.std.specs.declared.option.Option.TheVariants.{None, Some}
use Rattle.ng_machine.specs.declared.fed.Fed.{Fed}
use Rattle.ng_machine.specs.declared.input.Input.{Input}
use Rattle.ng_machine.specs.declared.item.Item.{Item}
use Rattle.ng_machine.specs.Refusal.{feed_refusal}
use Rattle.ng_machine.specs.World.{World}
use Rattle.ng_machine.proofs.Feeding.{feeds_unless_refused}
use Rattle.ng_machine.proofs.Ordering.{kept_all}
use Rattle.ng_machine.proofs.Reached.{feeds_idle}
use Rattle.ng_machine.specs.story.Closing.{close_refusal, is_spent, refusal_below}
use Rattle.ng_machine.specs.story.SoundStory.{IsSoundStory}
use Rattle.ng_machine.specs.story.Story.{NothingToTake, Story, has_ended, run_state_of, world_of}
use Rattle.ng_machine.proofs.story.SoundStories.{so_far}
use Rattle.ng_workers.specs.pool.Feeding.{IsUnfed}
use Rattle.ng_workers.proofs.pool.Idle.{nothing_left}

-- below the limit, where nothing is pending, the next input is fed
pub refused_at_limit : (budget : ℕ) (w : World) (input : Input) (why : Fed) → w.pending ≡ [] → feed_refusal budget w input ≡ Some why → budget ≤ w.applies
refused_at_limit budget w input why idle refused = ⊎_elim
    (λ (lt : w.applies < budget).
    let fine : is_none (feed_refusal budget w input) ≡ true = (feeds_unless_refused budget w input).1 (lt, feeds_idle w input idle) in
    absurd (true≢false (sym fine ∙ ap is_none refused)))
    (λ (le : budget ≤ w.applies). le)
    (cases_lt w.applies budget)

at_limit : (s : Story) (unfed : ℕ) → IsSoundStory s → s.closed ≡ None → s.setting.budget ≤ (world_of s).applies → close_refusal s unfed ≡ None
at_limit s unfed sound unclosed le =
    let room = (kept_all s.setting s.journal (so_far s sound unclosed)).room in
    let spent : is_spent s ≡ true = eq-eqb (world_of s).applies s.setting.budget (omega arith) in
    ap (λ (b : Bool). refusal_below b (length (world_of s).pending) unfed) spent

nothing_at_all : (b : Bool) → refusal_below b 0 0 ≡ None
nothing_at_all true = refl
nothing_at_all false = refl

pub may_close : (s : Story) (left : List Input) → IsSoundStory s → s.closed ≡ None → has_ended s ≡ false → (run_state_of s).taken ≡ [] → NothingToTake s → IsUnfed s left → close_refusal s (length left) ≡ None
may_close s left sound unclosed running none nothing unfed = ⊎_elim
    (λ (idle : (world_of s).pending ≡ []). by left idle unfed)
    (λ (le : s.setting.budget ≤ (world_of s).applies). at_limit s (length left) sound unclosed le)
    (nothing_left s running none nothing)
  where
    by : (left : List Input) → (world_of s).pending ≡ [] → IsUnfed s left → close_refusal s (length left) ≡ None
    by [] idle unfed = ap (λ (items : List Item). refusal_below (is_spent s) (length items) 0) idle ∙ nothing_at_all (is_spent s)
    by (input ∷ inputs) idle (why, refused) = at_limit s (length (input ∷ inputs)) sound unclosed (refused_at_limit s.setting.budget (world_of s) input why idle refused)
