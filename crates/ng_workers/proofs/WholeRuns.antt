-- A run by seats of threads, from the beginning of a core on, is orderly over all inputs, and whole.
use Rattle.std.proofs.Common.{◌≡◌, ◌+◌, ◌<◌, ◌≤◌, ℕ, zero, suc, List, [], ◌∷◌, ◌++◌, length, Bool, true, false, not, ◌&&◌, ◌||◌, is_some, slice_get, refl, sym, ap, ◌∙◌, subst, true≢false, length-append, arith}
use Rattle.std.proofs.lemmas.List.{append-nil, append_assoc}
use Rattle.std.specs.declared.option.Option.{Option}
use Rattle.std.specs.declared.option.Option.TheVariants.{None, Some}
use Rattle.ng_base.specs.declared.event.Event.{Event}
use Rattle.ng_base.specs.declared.event.Event.TheVariants.{Feed, Take, Back, Apply, Stop}
use Rattle.ng_machine.proofs.Kept.{fed_quietly}
use Rattle.ng_machine.proofs.Moves.{apply_fed}
use Rattle.ng_machine.proofs.Quieted.{input_quietly}
use Rattle.ng_machine.specs.declared.input.Input.{Input}
use Rattle.ng_machine.specs.Feed.{RunInput, feed_next}
use Rattle.ng_machine.specs.Laws.{IsJournal, Setting, run_state_after, start}
use Rattle.ng_machine.specs.Orderly.{IsQuiet, IsWhole, MayFeedNext, OrderlyFrom}
use Rattle.ng_machine.specs.Run.{RunState, after, after_all, beginning}
use Rattle.ng_machine.specs.Refusal.{is_command}
use Rattle.ng_machine.specs.SetUp.{all_wait, has_waited, is_first_traffic, waits}
use Rattle.ng_machine.specs.Words.{is_empty, times}
use Rattle.ng_machine.specs.World.{World}
use Rattle.ng_machine.specs.story.SoundStory.{IsSoundStory}
use Rattle.ng_machine.specs.story.Story.{Story, begun, follow_if, run_state_of, with_more}
use Rattle.ng_workers.specs.Desks.{is_feed}
use Rattle.ng_workers.specs.Ending.{RanIsWhole, RanToEnd}

in_front : {A : Type 0} (xs ys : List A) (k : ℕ) → k < length xs → slice_get (xs ++ ys) k ≡ slice_get xs k
in_front [] ys k below = absurd (omega arith)
in_front (x ∷ xs) ys zero below = refl
in_front (x ∷ xs) ys (suc k) below = in_front xs ys k (omega arith)

first_in_front : (xs ys : List Input) (k : ℕ) → k < length xs → is_first_traffic (xs ++ ys) k ≡ is_first_traffic xs k
first_in_front [] ys k below = absurd (omega arith)
first_in_front (x ∷ xs) ys zero below = refl
first_in_front (x ∷ xs) ys (suc k) below = ap (λ (b : Bool). is_command x && b) (first_in_front xs ys k (omega arith))

-- an input more is counted where one may be fed
counts : (given : RunInput) (w : World) (o : Option Input) → MayFeedNext w o → (feed_next given w o).fed ≡ w.fed + 1
counts given w None may = absurd may
counts given w (Some input) may = fed_quietly (input_quietly given (record w { fed = w.fed + 1 }) input)

-- inputs behind those that are fed change nothing of a run
same_from : (s : Setting) (more : List Input) (at : RunState) (j : List Event) → OrderlyFrom (with_more s more).given s.budget s.seats at j
    → at.world.fed + times is_feed j ≤ length s.given.inputs → after_all (with_more s more).given at j ≡ after_all s.given at j
same_from s more at [] o few = refl
same_from s more at (Feed ∷ es) o few =
    let f : at.world.fed + (1 + times is_feed es) ≤ length s.given.inputs = few in
    let next : slice_get (s.given.inputs ++ more) at.world.fed ≡ slice_get s.given.inputs at.world.fed = in_front s.given.inputs more at.world.fed (omega arith) in
    let same : after (with_more s more).given at Feed ≡ after s.given at Feed = ap (λ (o : Option Input). let r : RunState = record at { world = feed_next s.given at.world o } in r) next in
    let one = counts (with_more s more).given at.world (slice_get (s.given.inputs ++ more) at.world.fed) o.0.1.1 in
    same_from s more (after (with_more s more).given at Feed) es o.1 (omega arith) ∙ ap (λ (x : RunState). after_all s.given x es) same
same_from s more at (Take seat id ∷ es) o few = same_from s more (after s.given at (Take seat id)) es o.1 (let f : at.world.fed + (0 + times is_feed es) ≤ length s.given.inputs = few in omega arith)
same_from s more at (Back id ∷ es) o few = same_from s more (after s.given at (Back id)) es o.1 (let f : at.world.fed + (0 + times is_feed es) ≤ length s.given.inputs = few in omega arith)
same_from s more at (Apply id ∷ es) o few =
    let fed = apply_fed at.world id in let f : at.world.fed + (0 + times is_feed es) ≤ length s.given.inputs = few in same_from s more (after s.given at (Apply id)) es o.1 (omega arith)
same_from s more at (Stop ∷ es) o few = same_from s more (after s.given at Stop) es o.1 (let f : at.world.fed + (0 + times is_feed es) ≤ length s.given.inputs = few in omega arith)

-- and of what was waited for
waits_from : (s : Setting) (more : List Input) (at : RunState) (j : List Event) → OrderlyFrom (with_more s more).given s.budget s.seats at j
    → at.world.fed + times is_feed j ≤ length s.given.inputs → all_wait (with_more s more).given at j ≡ all_wait s.given at j
waits_from s more at [] o few = refl
waits_from s more at (Feed ∷ es) o few =
    let f : at.world.fed + (1 + times is_feed es) ≤ length s.given.inputs = few in
    let next : slice_get (s.given.inputs ++ more) at.world.fed ≡ slice_get s.given.inputs at.world.fed = in_front s.given.inputs more at.world.fed (omega arith) in
    let same : after (with_more s more).given at Feed ≡ after s.given at Feed = ap (λ (o : Option Input). let r : RunState = record at { world = feed_next s.given at.world o } in r) next in
    let one = counts (with_more s more).given at.world (slice_get (s.given.inputs ++ more) at.world.fed) o.0.1.1 in
    ap (λ (b : Bool). (not b || is_empty at.world.pending) && all_wait (with_more s more).given (after (with_more s more).given at Feed) es)
    (first_in_front s.given.inputs more at.world.fed (omega arith))
    ∙ ap (λ (b : Bool). waits s.given at.world Feed && b)
    (waits_from s more (after (with_more s more).given at Feed) es o.1 (omega arith) ∙ ap (λ (x : RunState). all_wait s.given x es) same)
waits_from s more at (Take seat id ∷ es) o few = waits_from s more (after s.given at (Take seat id)) es o.1 (let f : at.world.fed + (0 + times is_feed es) ≤ length s.given.inputs = few in omega arith)
waits_from s more at (Back id ∷ es) o few = waits_from s more (after s.given at (Back id)) es o.1 (let f : at.world.fed + (0 + times is_feed es) ≤ length s.given.inputs = few in omega arith)
waits_from s more at (Apply id ∷ es) o few =
    let fed = apply_fed at.world id in let f : at.world.fed + (0 + times is_feed es) ≤ length s.given.inputs = few in waits_from s more (after s.given at (Apply id)) es o.1 (omega arith)
waits_from s more at (Stop ∷ es) o few = waits_from s more (after s.given at Stop) es o.1 (let f : at.world.fed + (0 + times is_feed es) ≤ length s.given.inputs = few in omega arith)

follows : (b : Bool) (more : List Input) → follow_if b (Some (length more)) more
follows true more = refl
follows false more = tt

no_inputs : (inputs : List Input) → length inputs ≡ 0 → inputs ≡ []
no_inputs [] e = refl
no_inputs (x ∷ xs) e = absurd (omega arith)

-- a setting with these inputs
abbrev over : Setting → List Input → Setting
over setting inputs = record setting { given = record setting.given { inputs = inputs } }

module _ (setting : Setting) (fed left : List Input) (journal : List Event) (gave_up : List Bool) where
  abbrev s : Story
  s = record { setting = with_more setting fed; journal = journal; gave_up = gave_up; closed = Some (length left) }

  abbrev all : Setting
  all = with_more setting (fed ++ left)

  module _ (sound : IsSoundStory s) (feeds : times is_feed journal ≡ length fed) where
    orderly_behind : IsJournal (with_more s.setting left) journal
    orderly_behind = sound.orderly left (follows (run_state_of s).stopped left)

    same_behind : run_state_after (with_more s.setting left) journal ≡ run_state_of s
    same_behind = let long = length-append setting.given.inputs fed in same_from s.setting left (beginning (start setting)) journal orderly_behind (omega arith)

    orderly : IsJournal all journal
    orderly = subst (λ (inputs : List Input). IsJournal (over setting inputs) journal) (append_assoc setting.given.inputs fed left) orderly_behind

    same : run_state_after all journal ≡ run_state_of s
    same = ap (λ (inputs : List Input). run_state_after (over setting inputs) journal) (sym (append_assoc setting.given.inputs fed left)) ∙ same_behind

    waited_behind : has_waited (with_more s.setting left) journal ≡ has_waited s.setting journal
    waited_behind = let long = length-append setting.given.inputs fed in waits_from s.setting left (beginning (start setting)) journal orderly_behind (omega arith)

    waited : has_waited all journal ≡ has_waited s.setting journal
    waited = ap (λ (inputs : List Input). has_waited (over setting inputs) journal) (sym (append_assoc setting.given.inputs fed left)) ∙ waited_behind

    -- a run that did not stop fed all inputs
    quiet : (run_state_after all journal).stopped ≡ false → IsQuiet all.given (run_state_after all journal).world
    quiet on =
        let off : (run_state_of s).stopped ≡ false = ap (λ (at : RunState). at.stopped) (sym same) ∙ on in
        let none : left ≡ [] = no_inputs left (sound.closed.1 off) in record {
          idle = ap (λ (at : RunState). at.world.pending) same ∙ sound.closed.0;
          fed = ap (λ (at : RunState). at.world.fed) same ∙ sound.fed
              ∙ ap (λ (inputs : List Input). length (setting.given.inputs ++ inputs)) (sym (append-nil fed) ∙ ap (λ (inputs : List Input). fed ++ inputs) (sym none));
        }

abbrev Whole : Setting → List Input → Story → Type 0
Whole setting inputs new =
    IsJournal (with_more setting inputs) new.journal × IsWhole (start setting) (with_more setting inputs).given new.journal
    × (run_state_after (with_more setting inputs) new.journal ≡ run_state_of new)
    × (has_waited (with_more setting inputs) new.journal ≡ true)

pub ran_is_whole : RanIsWhole
ran_is_whole setting inputs new sound ran =
    let shape : new ≡ record { setting = with_more setting ran.fed; journal = new.journal; gave_up = new.gave_up; closed = Some (length ran.left) } =
    λ i. record { setting = ran.setting i; journal = new.journal; gave_up = new.gave_up; closed = ran.closed i } in
    let S = subst IsSoundStory shape sound in
    let feeds : times is_feed new.journal ≡ length ran.fed = let f : times is_feed new.journal ≡ 0 + length ran.fed = ran.feeds in omega arith in
    subst (λ (l : List Input). Whole setting l new) (sym ran.parts)
    (subst (Whole setting (ran.fed ++ ran.left)) (sym shape) (
      orderly setting ran.fed ran.left new.journal new.gave_up S feeds,
      record { quiet = quiet setting ran.fed ran.left new.journal new.gave_up S feeds },
      same setting ran.fed ran.left new.journal new.gave_up S feeds,
      waited setting ran.fed ran.left new.journal new.gave_up S feeds ∙ ap (λ (s : Setting). has_waited s new.journal) (sym ran.setting) ∙ ran.waited,
    ))
