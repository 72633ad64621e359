-- The run of a journal is the same with more inputs behind those that it feeds.
use Rattle.std.proofs.Common.{◌≡◌, ℕ, zero, suc, List, [], ◌∷◌, ◌++◌, length, true, slice_get, is_some, refl, sym, ap, ◌∙◌, true≢false}
use Rattle.std.specs.declared.option.Option.{Option}
use Rattle.std.specs.declared.option.Option.TheVariants.{None, Some}
use Rattle.ng_base.specs.declared.event.Event.{Event}
use Rattle.ng_base.specs.declared.event.Event.TheVariants.{Feed, Take, Back, Apply, Stop}
use Rattle.ng_machine.specs.declared.input.Input.{Input}
use Rattle.ng_machine.specs.World.{World}
use Rattle.ng_machine.specs.Feed.{feed_next}
use Rattle.ng_machine.specs.Run.{RunState, after, after_all, beginning}
use Rattle.ng_machine.specs.Orderly.{MayFeedNext, AllowedEvent, OrderlyFrom}
use Rattle.ng_machine.specs.Laws.{Setting, start, run_state_after, IsJournal}
use Rattle.ng_machine.specs.Desk.{Job, Idle, job_after, job_from, job_in}
use Rattle.ng_machine.specs.story.Story.{with_more}

get_front : {A : Type 0} (xs ys : List A) (k : ℕ) → is_some (slice_get xs k) ≡ true → slice_get (xs ++ ys) k ≡ slice_get xs k
get_front [] ys k some = absurd (true≢false (sym some))
get_front (x ∷ xs) ys zero some = refl
get_front (x ∷ xs) ys (suc k) some = get_front xs ys k some

pub get_next : {A : Type 0} (xs ys : List A) (x : A) → slice_get (xs ++ x ∷ ys) (length xs) ≡ Some x
get_next [] ys x = refl
get_next (z ∷ zs) ys x = get_next zs ys x

pub feed_some : (w : World) (o : Option Input) → MayFeedNext w o → is_some o ≡ true
feed_some w None a = absurd a
feed_some w (Some input) a = refl

-- an event that is allowed does the same with more inputs behind
pub same_after : (s : Setting) (more : List Input) (at : RunState) (e : Event) → AllowedEvent s.given s.budget s.seats at e → after (with_more s more).given at e ≡ after s.given at e
same_after s more at Feed a =
    let next = get_front s.given.inputs more at.world.fed (feed_some at.world (slice_get s.given.inputs at.world.fed) a.1) in
    ap (λ (o : Option Input). record at { world = feed_next s.given at.world o }) next
same_after s more at (Take seat id) a = refl
same_after s more at (Back id) a = refl
same_after s more at (Apply id) a = refl
same_after s more at Stop a = refl

run_from : (s : Setting) (more : List Input) (at : RunState) (j : List Event) → OrderlyFrom s.given s.budget s.seats at j → after_all (with_more s more).given at j ≡ after_all s.given at j
run_from s more at [] o = refl
run_from s more at (e ∷ es) o =
    ap (λ (x : RunState). after_all (with_more s more).given x es) (same_after s more at e o.0.1) ∙ run_from s more (after s.given at e) es o.1

pub same_run : (s : Setting) (more : List Input) (j : List Event) → IsJournal s j → run_state_after (with_more s more) j ≡ run_state_after s j
same_run s more j o = run_from s more (beginning (start s)) j o

same_job_from : (s : Setting) (more : List Input) (at : RunState) (seat : ℕ) (job : Job) (j : List Event) → OrderlyFrom s.given s.budget s.seats at j
    → job_from (with_more s more).given at seat job j ≡ job_from s.given at seat job j
same_job_from s more at seat job [] o = refl
same_job_from s more at seat job (e ∷ es) o =
    ap (λ (x : RunState). job_from (with_more s more).given x seat (job_after at seat job e) es) (same_after s more at e o.0.1)
    ∙ same_job_from s more (after s.given at e) seat (job_after at seat job e) es o.1

pub same_job : (s : Setting) (more : List Input) (j : List Event) (seat : ℕ) → IsJournal s j → job_in (with_more s more) j seat ≡ job_in s j seat
same_job s more j seat o = same_job_from s more (beginning (start s)) seat Idle j o
