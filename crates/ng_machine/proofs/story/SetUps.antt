-- Whether the first packet or tick waited, after one event more.
use Rattle.std.proofs.Common.{◌≡◌, ◌⊎◌, ℕ, zero, suc, List, [], ◌∷◌, ◌++◌, length, Bool, true, false, not, ◌&&◌, ◌||◌, slice_get, is_some, inl, inr, refl, sym, ap, ◌∙◌, true≢false}
use Rattle.std.specs.List.{list_any}
use Rattle.ng_base.specs.declared.event.Event.{Event}
use Rattle.ng_base.specs.declared.event.Event.TheVariants.{Feed, Take, Back, Apply, Stop}
use Rattle.ng_machine.specs.declared.input.Input.{Input}
use Rattle.ng_machine.specs.Words.{is_empty}
use Rattle.ng_machine.specs.Refusal.{is_command}
use Rattle.ng_machine.specs.Feed.{RunInput}
use Rattle.ng_machine.specs.Run.{RunState, after, after_all, beginning}
use Rattle.ng_machine.specs.Orderly.{OrderlyFrom, AllowedEvent}
use Rattle.ng_machine.specs.Laws.{Setting, start, run_state_after, IsJournal}
use Rattle.ng_machine.specs.SetUp.{all_wait, has_waited, is_first_traffic, is_traffic, waits}
use Rattle.ng_machine.specs.story.Story.{with_more}
use Rattle.ng_machine.proofs.story.MoreInputs.{feed_some, same_after, same_run}

abbrev pub feeds : Event → Bool
feeds Feed = true
feeds _ = false

and_true : (b : Bool) → (b && true) ≡ b
and_true true = refl
and_true false = refl

and_assoc : (a b c : Bool) → ((a && b) && c) ≡ (a && (b && c))
and_assoc true b c = refl
and_assoc false b c = refl

wait_push : (given : RunInput) (at : RunState) (j : List Event) (e : Event)
    → all_wait given at (j ++ e ∷ []) ≡ (all_wait given at j && waits given (after_all given at j).world e)
wait_push given at [] e = and_true (waits given at.world e)
wait_push given at (x ∷ xs) e =
    ap (λ (b : Bool). waits given at.world x && b) (wait_push given (after given at x) xs e)
    ∙ sym (and_assoc (waits given at.world x) (all_wait given (after given at x) xs) (waits given (after_all given (after given at x) xs).world e))

pub waited_push : (s : Setting) (j : List Event) (e : Event) → has_waited s (j ++ e ∷ []) ≡ (has_waited s j && waits s.given (run_state_after s j).world e)
waited_push s j e = wait_push s.given (beginning (start s)) j e

-- an event that feeds nothing waits for nothing
pub still_waited : (s : Setting) (j : List Event) (e : Event) → feeds e ≡ false → has_waited s (j ++ e ∷ []) ≡ has_waited s j
still_waited s j Feed none = absurd (true≢false none)
still_waited s j (Take seat id) none = waited_push s j (Take seat id) ∙ and_true (has_waited s j)
still_waited s j (Back id) none = waited_push s j (Back id) ∙ and_true (has_waited s j)
still_waited s j (Apply id) none = waited_push s j (Apply id) ∙ and_true (has_waited s j)
still_waited s j Stop none = waited_push s j Stop ∙ and_true (has_waited s j)

-- MORE INPUTS

pub first_front : (xs ys : List Input) (k : ℕ) → is_some (slice_get xs k) ≡ true → is_first_traffic (xs ++ ys) k ≡ is_first_traffic xs k
first_front [] ys k some = absurd (true≢false (sym some))
first_front (x ∷ xs) ys zero some = refl
first_front (x ∷ xs) ys (suc k) some = ap (λ (b : Bool). is_command x && b) (first_front xs ys k some)

-- an event that is allowed waits as it does with more inputs after
same_waits : (s : Setting) (more : List Input) (at : RunState) (e : Event) → AllowedEvent s.given s.budget s.seats at e
    → waits (with_more s more).given at.world e ≡ waits s.given at.world e
same_waits s more at Feed a =
    ap (λ (b : Bool). not b || is_empty at.world.pending)
    (first_front s.given.inputs more at.world.fed (feed_some at.world (slice_get s.given.inputs at.world.fed) a.1))
same_waits s more at (Take seat id) a = refl
same_waits s more at (Back id) a = refl
same_waits s more at (Apply id) a = refl
same_waits s more at Stop a = refl

same_all : (s : Setting) (more : List Input) (at : RunState) (j : List Event) → OrderlyFrom s.given s.budget s.seats at j
    → all_wait (with_more s more).given at j ≡ all_wait s.given at j
same_all s more at [] o = refl
same_all s more at (e ∷ es) o =
    ap (λ (b : Bool). b && all_wait (with_more s more).given (after (with_more s more).given at e) es) (same_waits s more at e o.0.1)
    ∙ ap (λ (x : RunState). waits s.given at.world e && all_wait (with_more s more).given x es) (same_after s more at e o.0.1)
    ∙ ap (λ (b : Bool). waits s.given at.world e && b) (same_all s more (after s.given at e) es o.1)

pub same_waited : (s : Setting) (more : List Input) (j : List Event) → IsJournal s j → has_waited (with_more s more) j ≡ has_waited s j
same_waited s more j o = same_all s more (beginning (start s)) j o

-- A FEED

first_after : (is_command is_first began begins : Bool) → is_first ≡ (not began && begins) → (is_command && is_first) ≡ (not (not is_command || began) && begins)
first_after true is_first began begins is = is
first_after false is_first began begins is = refl

first_at_end : (inputs : List Input) (input : Input)
    → is_first_traffic (inputs ++ input ∷ []) (length inputs) ≡ (not (list_any is_traffic inputs) && is_traffic input)
first_at_end [] input = refl
first_at_end (x ∷ xs) input =
    first_after (is_command x) (is_first_traffic (xs ++ input ∷ []) (length xs)) (list_any is_traffic xs) (is_traffic input) (first_at_end xs input)

if_began : (b : Bool) → (false ≡ true) ⊎ (b ≡ true) → b ≡ true
if_began b (inl never) = absurd (true≢false (sym never))
if_began b (inr is) = is

waits_if : (began begins is_quiet : Bool) → (begins ≡ true → (began ≡ true) ⊎ (is_quiet ≡ true)) → (not (not began && begins) || is_quiet) ≡ true
waits_if true begins is_quiet free = refl
waits_if false false is_quiet free = refl
waits_if false true is_quiet free = if_began is_quiet (free refl)

module _ (s : Setting) (input : Input) (j : List Event) where
  abbrev all : Setting
  all = with_more s (input ∷ [])

  abbrev now : RunState
  now = run_state_after s j

  module _ (fed : now.world.fed ≡ length s.given.inputs) (free : is_traffic input ≡ true → (list_any is_traffic s.given.inputs ≡ true) ⊎ (is_empty now.world.pending ≡ true)) where
    waited : waits all.given now.world Feed ≡ true
    waited =
        ap (λ (n : ℕ). not (is_first_traffic (s.given.inputs ++ input ∷ []) n) || is_empty now.world.pending) fed
        ∙ ap (λ (b : Bool). not b || is_empty now.world.pending) (first_at_end s.given.inputs input)
        ∙ waits_if (list_any is_traffic s.given.inputs) (is_traffic input) (is_empty now.world.pending) free

    -- an input is fed where the traffic has begun, or nothing is pending, or it is a command
    pub fed_waits : IsJournal s j → has_waited all (j ++ Feed ∷ []) ≡ has_waited s j
    fed_waits o =
        waited_push all j Feed
        ∙ ap (λ (at : RunState). has_waited all j && waits all.given at.world Feed) (same_run s (input ∷ []) j o)
        ∙ ap (λ (b : Bool). b && waits all.given now.world Feed) (same_waited s (input ∷ []) j o)
        ∙ ap (λ (b : Bool). has_waited s j && b) waited
        ∙ and_true (has_waited s j)
