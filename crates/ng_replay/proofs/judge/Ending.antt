-- How a core that has followed a journal ends.
use Rattle.std.proofs.Common.{◌≡◌, ◌⊎◌, inl, inr, ℕ, ◌+◌, ◌<◌, ◌||◌, Bool, true, false, nat_lt, List, [], ◌∷◌, ◌++◌, length, refl, sym, ap, ◌∙◌, subst, length-append, arith, true≢false}
use Rattle.std.proofs.lemmas.Bool.{and_parts, le-ltb, lt-ltb, ltb-true}
use Rattle.std.specs.declared.option.Option.TheVariants.{Some}
use Rattle.ng_base.specs.declared.event.Event.TheVariants.{Stop}
use Rattle.ng_machine.specs.declared.input.Input.{Input}
use Rattle.ng_machine.specs.declared.item.Item.{Item}
use Rattle.ng_machine.specs.Laws.{start}
use Rattle.ng_machine.specs.Orderly.{IsQuiet, IsWhole}
use Rattle.ng_machine.specs.Run.{RunState}
use Rattle.ng_machine.specs.Words.{first_refusal}
use Rattle.ng_core.proofs.OpenStories.{open_story}
use Rattle.ng_machine.specs.story.Closing.{close_refusal, closed_with, is_spent, refusal_below, stopped_if, stops}
use Rattle.ng_machine.specs.story.SoundStory.{IsSoundStory}
use Rattle.ng_machine.specs.story.Story.{Story, has_ended, world_of}
use Rattle.ng_machine.specs.declared.story.unclosed.Unclosed.{Unclosed}
use Rattle.ng_machine.specs.declared.story.unclosed.Unclosed.TheVariants.{Pending, Unfed}
use Rattle.ng_replay.specs.judge.Following.{Goes, HasRest, StandsAfter, all_with}

-- A CLOSED CORE

-- whether it stopped is seen by its journal's length
grew_by : (s : Story) (b : Bool) → nat_lt (length s.journal) (length (stopped_if b s).journal) ≡ b
grew_by s true = lt-ltb (length s.journal) (length (s.journal ++ Stop ∷ [])) (let l = length-append s.journal (Stop ∷ []) in omega arith)
grew_by s false = le-ltb (length s.journal) (length s.journal) (omega arith)

pub grew : (s : Story) (unfed : ℕ) → nat_lt (length s.journal) (length (closed_with s unfed).journal) ≡ stops s unfed
grew s unfed = grew_by s (stops s unfed)

rest_by : (pending unfed : ℕ) (a : Bool) → nat_lt 0 pending ≡ a → (a || nat_lt 0 unfed) ≡ true → (0 < pending) ⊎ (0 < unfed)
rest_by pending unfed true e some = inl (ltb-true 0 pending e)
rest_by pending unfed false e some = inr (ltb-true 0 unfed some)

-- where it stops something is left
pub stops_with_rest : (s : Story) (unfed : ℕ) → stops s unfed ≡ true → HasRest (world_of s) unfed
stops_with_rest s unfed stop =
    rest_by (length (world_of s).pending) unfed (nat_lt 0 (length (world_of s).pending)) refl (and_parts (is_spent s) (nat_lt 0 (length (world_of s).pending) || nat_lt 0 unfed) stop).1

-- where it is closed without a Stop nothing is left
pub quiet_without_rest : (s : Story) (unfed : ℕ) → IsSoundStory s → has_ended s ≡ false → IsSoundStory (record s { closed = Some unfed }) → HasRest (world_of s) unfed → ⊥
quiet_without_rest s unfed sound running closed (inl lt) = let none = ap (λ (items : List Item). length items) closed.closed.0 in absurd (omega arith)
quiet_without_rest s unfed sound running closed (inr lt) = let none = closed.closed.1 (sound.going (open_story s running)) in absurd (omega arith)

-- where it isn't closed, the limit isn't reached and something is left

below_by : (spent : Bool) (pending unfed : ℕ) (why : Unclosed) → refusal_below spent pending unfed ≡ Some why → (spent ≡ false) × ((0 < pending) ⊎ (0 < unfed))
below_by true pending unfed why e = absurd (cc e)
below_by false pending unfed why e = (refl, by (nat_lt 0 pending) (nat_lt 0 unfed) refl refl e)
  where
    by : (a b : Bool) → nat_lt 0 pending ≡ a → nat_lt 0 unfed ≡ b → first_refusal ((a, Pending pending) ∷ (b, Unfed unfed) ∷ []) ≡ Some why → (0 < pending) ⊎ (0 < unfed)
    by true b p u f = inl (ltb-true 0 pending p)
    by false true p u f = inr (ltb-true 0 unfed u)
    by false false p u f = absurd (cc f)

pub unclosed_below : (s : Story) (unfed : ℕ) (why : Unclosed) → close_refusal s unfed ≡ Some why → (is_spent s ≡ false) × HasRest (world_of s) unfed
unclosed_below s unfed why e = below_by (is_spent s) (length (world_of s).pending) unfed why e

-- WHOLE

module _ (s : Story) (left : List Input) (G : Goes s left) where
  abbrev Whole : Type 0
  Whole = IsWhole (start (all_with s left)) (all_with s left).given s.journal

  pub whole_ended : has_ended s ≡ true → Whole
  whole_ended ended = record { quiet = λ on. absurd (true≢false (sym ended ∙ G.ended ∙ sym (ap (λ (at : RunState). at.stopped) G.stands.run) ∙ on)) }

  all_fed : IsSoundStory s → length (s.setting.given.inputs ++ left) ≡ (world_of s).fed + length left
  all_fed sound = length-append s.setting.given.inputs left ∙ ap (λ (n : ℕ). n + length left) (sym sound.fed)

  -- nothing is left
  pub whole_quiet : IsSoundStory s → (HasRest (world_of s) (length left) → ⊥) → Whole
  whole_quiet sound none = record { quiet = λ on. record { idle = ap (λ (at : RunState). at.world.pending) G.stands.run ∙ nothing (world_of s).pending refl; fed = ap (λ (at : RunState). at.world.fed) G.stands.run ∙ fed } }
    where
      nothing : (items : List Item) → (world_of s).pending ≡ items → items ≡ []
      nothing [] e = refl
      nothing (item ∷ items) e = absurd (none (inl (let l = ap (λ (l : List Item). length l) e in omega arith)))

      fed : (world_of s).fed ≡ length (s.setting.given.inputs ++ left)
      fed = by left refl
        where
          by : (l : List Input) → left ≡ l → (world_of s).fed ≡ length (s.setting.given.inputs ++ left)
          by [] e = let t = all_fed sound in let z = ap (λ (l : List Input). length l) e in omega arith
          by (x ∷ xs) e = absurd (none (inr (let z = ap (λ (l : List Input). length l) e in omega arith)))

  -- something is left
  pub cut_short : IsSoundStory s → has_ended s ≡ false → HasRest (world_of s) (length left) → Whole → ⊥
  cut_short sound running rest W = by rest
    where
      Q : IsQuiet (all_with s left).given (world_of s)
      Q = subst (λ (at : RunState). at.stopped ≡ false → IsQuiet (all_with s left).given at.world) G.stands.run W.quiet (sym G.ended ∙ running)

      by : HasRest (world_of s) (length left) → ⊥
      by (inl lt) = let z = ap (λ (l : List Item). length l) Q.idle in absurd (omega arith)
      by (inr lt) = let t = all_fed sound in let f = Q.fed in absurd (omega arith)

  -- closed without a Stop it stands where it stood
  pub stands_closed : (t : Story) (unfed : ℕ) → t ≡ record s { closed = Some unfed } → StandsAfter (all_with s left) s.journal t left
  stands_closed t unfed is = subst (λ (x : Story). StandsAfter (all_with s left) s.journal x left) (sym is) (record {
    inputs = refl;
    events = refl;
    allowed = G.stands.allowed;
    run = G.stands.run;
  })
