-- The desk of the seat 0, by what the core's calls say of it.
use Rattle.std.proofs.Common.{◌≡◌, ◌⊎◌, ◌+◌, ◌<◌, ◌==◌, ℕ, zero, suc, List, [], ◌∷◌, ◌++◌, length, Bool, true, false, not, ◌&&◌, ◌||◌, nat_lt, is_some, inl, inr, refl, sym, ap, ◌∙◌, subst, true≢false, length-append, arith}
use Rattle.std.proofs.lemmas.List.{append-nil, append_assoc}
use Rattle.std.proofs.lemmas.Bool.{ltb-false, lt-ltb, ne_eqb}
use Rattle.std.specs.List.{list_any}
use Rattle.std.specs.declared.option.Option.{Option}
use Rattle.std.specs.declared.option.Option.TheVariants.{None, Some}
use Rattle.ng_base.specs.declared.event.Event.{Event}
use Rattle.ng_base.specs.declared.event.Event.TheVariants.{Feed, Stop}
use Rattle.ng_machine.proofs.Counted.{times-append}
use Rattle.ng_machine.specs.declared.input.Input.{Input}
use Rattle.ng_machine.specs.Desk.{FirstDesk, SeatDesk}
use Rattle.ng_machine.specs.State.{State}
use Rattle.ng_core_state.specs.declared.handed.Work.{Work}
use Rattle.ng_machine.specs.Words.{first_refusal, is_empty, times}
use Rattle.ng_workers.proofs.pool.Steps.{fed_fits}
use Rattle.ng_workers.specs.pool.Feeding.{IsFed, IsUnfed, begins_with_traffic}
use Rattle.ng_core.specs.CoreStory.{CoreStory, story}
use Rattle.ng_machine.proofs.story.OfDesks.{feed_tells}
use Rattle.ng_machine.proofs.story.SetUps.{fed_waits}
use Rattle.ng_machine.proofs.story.SoundStories.{so_far}
use Rattle.ng_machine.specs.SetUp.{has_waited, is_traffic}
use Rattle.ng_machine.specs.story.Closing.{close_refusal, is_spent, refusal_below, stops}
use Rattle.ng_machine.specs.declared.story.unclosed.Unclosed.{Unclosed}
use Rattle.ng_machine.specs.declared.story.unclosed.Unclosed.TheVariants.{Pending, Unfed}
use Rattle.ng_machine.specs.story.DeskLaws.{closed_desk, fed_desk, stop_events}
use Rattle.ng_machine.specs.story.Desks.{story_desk}
use Rattle.ng_machine.specs.story.SoundStory.{IsSoundStory}
use Rattle.ng_machine.specs.story.Story.{AreFitFor, Story, with_input, world_of}
use Rattle.ng_workers.specs.Desks.{Gains, Grew, MayBack, core_desk, is_feed}
use Rattle.ng_turn.specs.declared.pass.Pass.{Pass}
use Rattle.ng_workers.specs.declared.next.Next.{Next}
use Rattle.ng_workers.specs.declared.next.Next.TheVariants as next
use Rattle.ng_workers.specs.declared.step.Step.{Step}
use Rattle.ng_workers.specs.declared.step.Step.TheVariants.{Goes, Ends}
use Rattle.ng_workers.specs.Hands.{Drove, Takes}
use Rattle.ng_workers.specs.Passes.{DroveStep, IfEnds, desk, pass_of}
use Rattle.ng_workers.specs.Driving.{Closes, Drives, DroveOn, GivesUp, IsAtEnd, IsOpenFor, MayFeed, after_feeding, has_begun, is_open_for}
use Rattle.ng_workers.specs.SetUp.{is_held_back, stage_after}
use Rattle.ng_workers.specs.declared.feeder.Feeder.{Feeder}
use Rattle.ng_workers.specs.declared.feeder.Stage.{Stage}
use Rattle.ng_workers.specs.declared.feeder.Stage.TheVariants.{SetUp, Traffic}
use Rattle.ng_workers.proofs.Growing.{gains_none, gains_then}

or_true : (b : Bool) → (b || true) ≡ true
or_true true = refl
or_true false = refl

-- WHAT IS SHOWN

-- a first desk of a core that isn't closed, when nothing was fed
after_nothing : (o : Option FirstDesk) (seats : ℕ) (inputs : List Input) → is_open_for inputs seats o → o ≡ after_feeding [] None o
after_nothing None seats inputs fits = absurd fits
after_nothing (Some first) seats inputs fits =
    ap (λ (c : Option ℕ). Some (let f : FirstDesk = record first { closed = c } in f)) fits.0
    ∙ ap (λ (l : List Input). Some (let f : FirstDesk = record first { inputs = l; closed = None } in f)) (sym (append-nil first.inputs))

after_twice : (fed more : List Input) (closed : Option ℕ) (o : Option FirstDesk) → after_feeding more closed (after_feeding fed None o) ≡ after_feeding (fed ++ more) closed o
after_twice fed more closed None = refl
after_twice fed more closed (Some first) =
    ap (λ (l : List Input). Some (let f : FirstDesk = record first { inputs = l; closed = closed } in f)) (append_assoc first.inputs fed more)

-- STEPS

pub drives_none : (d : SeatDesk) (inputs : List Input) → IsOpenFor inputs d → Drives d d inputs inputs None
drives_none d inputs fits = record {
  more = [];
  gains = gains_none d;
  fed = [];
  parts = refl;
  feeds = refl;
  first = after_nothing d.first d.seats inputs fits;
}

pub drives_then : (a b c : SeatDesk) (xs ys zs : List Input) (closed : Option ℕ) → Drives a b xs ys None → Drives b c ys zs closed → Drives a c xs zs closed
drives_then a b c xs ys zs closed x y = record {
  more = x.more ++ y.more;
  gains = gains_then a b c x.more y.more x.gains y.gains;
  fed = x.fed ++ y.fed;
  parts = x.parts ∙ ap (λ (l : List Input). x.fed ++ l) y.parts ∙ sym (append_assoc x.fed y.fed zs);
  feeds = let all = times-append is_feed x.more y.more in let long = length-append x.fed y.fed in let one = x.feeds in let other = y.feeds in omega arith;
  first = y.first ∙ ap (after_feeding y.fed closed) x.first ∙ after_twice x.fed y.fed closed a.first;
}

-- nothing was fed meanwhile
drives_on : (a b : SeatDesk) (inputs : List Input) → a.first ≡ after_feeding [] None a.first → Grew a b → Drives a b inputs inputs None
drives_on a b inputs unclosed G = record { more = G.more; gains = G.gains; fed = []; parts = refl; feeds = G.feeds; first = G.first ∙ unclosed }

pub drives_grew : (a b : SeatDesk) (inputs : List Input) → IsOpenFor inputs a → Grew a b → Drives a b inputs inputs None
drives_grew a b inputs fits G = drives_on a b inputs (after_nothing a.first a.seats inputs fits) G

-- what was fed leaves the core unclosed
still_unclosed : (a b : SeatDesk) (inputs left : List Input) → Drives a b inputs left None → b.first ≡ after_feeding [] None b.first
still_unclosed a b inputs left D =
    D.first ∙ ap (λ (l : List Input). after_feeding l None a.first) (sym (append-nil D.fed)) ∙ sym (after_twice D.fed [] None a.first) ∙ ap (after_feeding [] None) (sym D.first)

pub open_grew : (a b : SeatDesk) (inputs : List Input) → IsOpenFor inputs a → Grew a b → IsOpenFor inputs b
open_grew a b inputs fits G =
    subst (λ (o : Option FirstDesk). is_open_for inputs b.seats o) (sym G.first)
    (subst (λ (n : ℕ). is_open_for inputs n a.first) (sym G.gains.seats) fits)

pub may_grew : (a b : SeatDesk) (feeder : Feeder) → MayFeed feeder a → Grew a b → MayFeed feeder b
may_grew a b feeder fits G = (open_grew a b feeder.unfed fits.0 G, subst (has_begun feeder.stage) (sym G.first) fits.1)

-- THE NEXT INPUT

-- where the input is fed the first packet or tick has waited, if it had before
abbrev Waited : Story → Input → Type 0
Waited s input = has_waited (with_input s input).setting (s.journal ++ Feed ∷ []) ≡ has_waited s.setting s.journal

-- an input that isn't held back
none_left : {A : Type 0} (xs : List A) → not (length xs == 0) ≡ false → is_empty xs ≡ true
none_left [] is = refl
none_left (x ∷ xs) is = absurd (true≢false (sym (ap not (ne_eqb (length (x ∷ xs)) 0 (λ e. omega arith))) ∙ is))

goes_by : (stage : Stage) (s : Story) (input : Input) (inputs : List Input) → has_begun stage (story_desk s 0).first → is_held_back stage s (input ∷ inputs) ≡ false
    → is_traffic input ≡ true → (list_any is_traffic s.setting.given.inputs ≡ true) ⊎ (is_empty (world_of s).pending ≡ true)
goes_by SetUp s input inputs began free traffic =
    inr (none_left (world_of s).pending (ap (λ (b : Bool). b && not (length (world_of s).pending == 0)) (sym traffic) ∙ free))
goes_by Traffic s input inputs began free traffic = inl began

waited : (stage : Stage) (s : Story) (input : Input) (inputs : List Input) → IsSoundStory s → s.closed ≡ None → has_begun stage (story_desk s 0).first
    → is_held_back stage s (input ∷ inputs) ≡ false → Waited s input
waited stage s input inputs sound unclosed began free =
    fed_waits s.setting input s.journal sound.fed (goes_by stage s input inputs began free) (so_far s sound unclosed)

one_fed : (s : Story) (d : SeatDesk) (input : Input) (inputs rest : List Input) → s.closed ≡ None → Waited s input → d ≡ fed_desk s input → rest ≡ inputs
    → Drives (story_desk s 0) d (input ∷ inputs) rest None
one_fed s d input inputs rest unclosed waited is same = subst (λ (x : SeatDesk). Drives (story_desk s 0) x (input ∷ inputs) rest None) (sym is) (record {
  more = Feed ∷ [];
  gains = record { seats = refl; own = refl; backs = no_back (story_desk s 0).gave_up; marks = λ marked. marked };
  fed = input ∷ [];
  parts = ap (λ (l : List Input). input ∷ l) (sym same);
  feeds = refl;
  first =
      ap (λ (c : Option ℕ). shown (has_waited (with_input s input).setting (s.journal ++ Feed ∷ [])) c) unclosed
      ∙ ap (λ (b : Bool). shown b None) waited;
})
  where
    shown : Bool → Option ℕ → Option FirstDesk
    shown b c = Some (record {
      own = s.setting.own;
      ports = s.setting.ports;
      stock = s.setting.stock;
      budget = s.setting.budget;
      inputs = s.setting.given.inputs ++ input ∷ [];
      waited = b;
      closed = c;
    })

    no_back : (b : Bool) → MayBack b (Feed ∷ [])
    no_back true = tt
    no_back false = (refl, tt)

pub fed_drives : (stage : Stage) (s t : Story) (left rest : List Input) → IsSoundStory s → s.closed ≡ None → has_begun stage (story_desk s 0).first
    → is_held_back stage s left ≡ false → IsFed s left t rest → Drives (story_desk s 0) (story_desk t 0) left rest None
fed_drives stage s t [] rest sound unclosed began free fed = absurd fed
fed_drives stage s t (input ∷ inputs) rest sound unclosed began free fed =
    one_fed s (story_desk t 0) input inputs rest unclosed (waited stage s input inputs sound unclosed began free) (ap (λ (x : Story). story_desk x 0) fed.0 ∙ (feed_tells s input (so_far s sound unclosed)).1) fed.1

fed_closed : (s t : Story) (left rest : List Input) → s.closed ≡ None → IsFed s left t rest → t.closed ≡ None
fed_closed s t [] rest unclosed fed = absurd fed
fed_closed s t (input ∷ inputs) rest unclosed fed = ap (λ (x : Story). x.closed) fed.0 ∙ unclosed

pub fed_shortens : (s t : Story) (left rest : List Input) → IsFed s left t rest → length rest < length left
fed_shortens s t [] rest fed = absurd fed
fed_shortens s t (input ∷ inputs) rest fed = let same = ap (λ (l : List Input). length l) fed.1 in omega arith

any_push : (inputs : List Input) (input : Input) → is_traffic input ≡ true → list_any is_traffic (inputs ++ input ∷ []) ≡ true
any_push [] input is = ap (λ (b : Bool). b || false) is
any_push (x ∷ xs) input is = ap (λ (b : Bool). is_traffic x || b) (any_push xs input is) ∙ or_true (is_traffic x)

or_front : (a b c : Bool) → (b ≡ true → c ≡ true) → (a || b) ≡ true → (a || c) ≡ true
or_front true b c then is = refl
or_front false b c then is = then is

any_front : (inputs more : List Input) → list_any is_traffic inputs ≡ true → list_any is_traffic (inputs ++ more) ≡ true
any_front [] more is = absurd (true≢false (sym is))
any_front (x ∷ xs) more is = or_front (is_traffic x) (list_any is_traffic xs) (list_any is_traffic (xs ++ more)) (any_front xs more) is

-- with the first packet or tick the traffic has begun
one_begun : (stage : Stage) (s : Story) (input : Input) (traffic : Bool) → is_traffic input ≡ traffic → has_begun stage (story_desk s 0).first
    → has_begun (stage_after stage true traffic) (fed_desk s input).first
one_begun stage s input true is began = any_push s.setting.given.inputs input is
one_begun SetUp s input false is began = tt
one_begun Traffic s input false is began = any_front s.setting.given.inputs (input ∷ []) began

fed_begun : (stage : Stage) (s t : Story) (left rest : List Input) → has_begun stage (story_desk s 0).first → IsFed s left t rest
    → has_begun (stage_after stage true (begins_with_traffic left)) (story_desk t 0).first
fed_begun stage s t [] rest began fed = absurd fed
fed_begun stage s t (input ∷ inputs) rest began fed =
    subst (λ (x : Story). has_begun (stage_after stage true (is_traffic input)) (story_desk x 0).first) (sym fed.0) (one_begun stage s input (is_traffic input) refl began)

-- what was tried: the next input was fed, or nothing changed
module _ (c d : CoreStory) (feeder : Feeder) (rest : List Input) (fits : MayFeed feeder (core_desk c 0)) (free : is_held_back feeder.stage (story c) feeder.unfed ≡ false) where
  abbrev left : List Input
  left = feeder.unfed

  abbrev Does : Bool → Type 0
  Does fed = fed ≡ true → IsFed (story c) left (story d) rest × (IsUnfed (story c) left → ⊥)

  abbrev Skips : Bool → Type 0
  Skips fed = fed ≡ false → (d ≡ c) × (rest ≡ left) × IsUnfed (story c) left

  pub tried_drives : IsSoundStory (story c) → (fed : Bool) → Does fed → Skips fed → Drives (core_desk c 0) (core_desk d 0) left rest None
  tried_drives sound true does skips = fed_drives feeder.stage (story c) (story d) left rest sound fits.0.0 fits.1 free (does refl).0
  tried_drives sound false does skips =
      let k = skips refl in
      subst (λ (x : CoreStory). Drives (core_desk c 0) (core_desk x 0) left rest None) (sym k.0)
      (subst (λ (l : List Input). Drives (core_desk c 0) (core_desk c 0) left l None) (sym k.1) (drives_none (core_desk c 0) left fits.0))

  tried_open : (fed : Bool) → Does fed → Skips fed → IsOpenFor rest (core_desk d 0)
  tried_open true does skips =
      let fed = (does refl).0 in (fed_closed (story c) (story d) left rest fits.0.0 fed, fed_fits (story c) (story d) left rest fed fits.0.1)
  tried_open false does skips =
      let k = skips refl in
      subst (λ (x : CoreStory). IsOpenFor rest (core_desk x 0)) (sym k.0) (subst (λ (l : List Input). IsOpenFor l (core_desk c 0)) (sym k.1) fits.0)

  tried_begun : (stage : Stage) (fed : Bool) → Does fed → Skips fed → stage ≡ stage_after feeder.stage fed (begins_with_traffic left) → has_begun stage (core_desk d 0).first
  tried_begun stage true does skips is =
      subst (λ (x : Stage). has_begun x (core_desk d 0).first) (sym is) (fed_begun feeder.stage (story c) (story d) left rest fits.1 (does refl).0)
  tried_begun stage false does skips is =
      subst (λ (x : Stage). has_begun x (core_desk d 0).first) (sym is) (subst (λ (x : CoreStory). has_begun feeder.stage (core_desk x 0).first) (sym (skips refl).0) fits.1)

  pub tried_fits : (stage : Stage) (fed : Bool) → Does fed → Skips fed → stage ≡ stage_after feeder.stage fed (begins_with_traffic left)
      → IsOpenFor rest (core_desk d 0) × has_begun stage (core_desk d 0).first
  tried_fits stage fed does skips is = (tried_open fed does skips, tried_begun stage fed does skips is)

  pub tried_all : (fed : Bool) → Skips fed → fed ≡ false → IsUnfed (story d) rest
  tried_all fed skips is =
      let k = skips is in
      subst (λ (x : CoreStory). IsUnfed (story x) rest) (sym k.0) (subst (IsUnfed (story c)) (sym k.1) k.2)

-- THE END

second_first : (a b : Bool) (x y : Unclosed) → first_refusal ((a, x) ∷ (b, y) ∷ []) ≡ None → b ≡ false
second_first true b x y none = absurd (true≢false (ap (λ (o : Option Unclosed). is_some o) none))
second_first false true x y none = absurd (true≢false (ap (λ (o : Option Unclosed). is_some o) none))
second_first false false x y none = refl

spent_if : (b : Bool) (pending n : ℕ) → 0 < n → refusal_below b pending n ≡ None → b ≡ true
spent_if true pending n some none = refl
spent_if false pending n some none =
    let le = ltb-false 0 n (second_first (nat_lt 0 pending) (nat_lt 0 n) (Pending pending) (Unfed n) none) in absurd (omega arith)

-- a core with unfed inputs is closed by a Stop
stops_at : (s : Story) (n : ℕ) → 0 < n → close_refusal s n ≡ None → stops s n ≡ true
stops_at s n some none =
    ap (λ (b : Bool). b && (nat_lt 0 (length (world_of s).pending) || nat_lt 0 n)) (spent_if (is_spent s) (length (world_of s).pending) n some none)
    ∙ ap (λ (b : Bool). nat_lt 0 (length (world_of s).pending) || b) (lt-ltb 0 n some)
    ∙ or_true (nat_lt 0 (length (world_of s).pending))

ends_well : (s : Story) (left : List Input) → close_refusal s (length left) ≡ None → IsAtEnd left ((story_desk s 0).own ++ stop_events (stops s (length left)))
ends_well s [] none = inl refl
ends_well s (input ∷ inputs) none = inr ((story_desk s 0).own, ap (λ (b : Bool). (story_desk s 0).own ++ stop_events b) (stops_at s (length (input ∷ inputs)) (omega arith) none))

stop_backs : (b marked : Bool) → MayBack marked (stop_events b)
stop_backs true true = tt
stop_backs true false = (refl, tt)
stop_backs false true = tt
stop_backs false false = tt

stop_feeds : (b : Bool) → times is_feed (stop_events b) ≡ 0
stop_feeds true = refl
stop_feeds false = refl

pub closes_at : (s : Story) (d : SeatDesk) (left : List Input) → close_refusal s (length left) ≡ None → d ≡ closed_desk s (length left) → Closes (story_desk s 0) d left
closes_at s d left none is = subst (λ (x : SeatDesk). Closes (story_desk s 0) x left) (sym is) (record {
  left = left;
  drives = record {
    more = stop_events (stops s (length left));
    gains = record { seats = refl; own = refl; backs = stop_backs (stops s (length left)) (story_desk s 0).gave_up; marks = λ marked. marked };
    fed = [];
    parts = refl;
    feeds = stop_feeds (stops s (length left));
    first = ap (λ (l : List Input). Some (let f : FirstDesk = record { own = s.setting.own; ports = s.setting.ports; stock = s.setting.stock; budget = s.setting.budget; inputs = l; waited = has_waited s.setting s.journal; closed = Some (length left) } in f)) (sym (append-nil s.setting.given.inputs));
  };
  end = ends_well s left none;
})

-- WHAT CAME BEFORE AND AFTER

pub closes_after : (a b c : SeatDesk) (inputs more : List Input) → Drives a b inputs more None → Closes b c more → Closes a c inputs
closes_after a b c inputs more D C = record { left = C.left; drives = drives_then a b c inputs more C.left (Some (length C.left)) D C.drives; end = C.end }

pub gives_up_after : (a b c : SeatDesk) (inputs more : List Input) → Drives a b inputs more None → GivesUp b c more → GivesUp a c inputs
gives_up_after a b c inputs more D G = record { left = G.left; drives = drives_then a b c inputs more G.left None D G.drives; gave_up = G.gave_up }

pub drove_after : (a b c : SeatDesk) (inputs more : List Input) → Drives a b inputs more None → DroveOn b c more → DroveOn a c inputs
drove_after a b c inputs more D (inl C) = inl (closes_after a b c inputs more D C)
drove_after a b c inputs more D (inr G) = inr (gives_up_after a b c inputs more D G)

pub drove_then : {W : Type 0} (next : Next W) (a b c : SeatDesk) (inputs more : List Input) (rest : Feeder) → Drives a b inputs more None → Drove next b c more rest → Drove next a c inputs rest
drove_then (next.Taken work) a b c inputs more rest D then = (drives_then a b c inputs more rest.unfed None D then.0, then.1)
drove_then next.Nothing a b c inputs more rest D then = (drives_then a b c inputs more rest.unfed None D then.0, then.1)
drove_then next.End a b c inputs more rest D then = drove_after a b c inputs more D then

-- the seat gives up after what it fed
pub quits : (a b c : SeatDesk) (inputs left : List Input) → Drives a b inputs left None → Grew b c → c.gave_up ≡ true → DroveOn a c inputs
quits a b c inputs left D G gave_up =
    inr (record { left = left; drives = drives_then a b c inputs left left None D (drives_on b c left (still_unclosed a b inputs left D) G); gave_up = gave_up })

-- a seat that gave up is over
pub drove_quits : {B : Type 0} (state : B → State) (next : Next (Work B)) (a c : SeatDesk) (inputs : List Input) (rest : Feeder) → Takes state next c → c.gave_up ≡ true → DroveOn a c inputs → Drove next a c inputs rest
drove_quits state (next.Taken work) a c inputs rest takes gave_up drove = absurd (true≢false (sym gave_up ∙ takes.0))
drove_quits state next.Nothing a c inputs rest takes gave_up drove = absurd (true≢false (sym gave_up ∙ takes.0))
drove_quits state next.End a c inputs rest takes gave_up drove = drove

-- the work on what was taken comes after it
pub drove_step : {C D : Type 0} (step : Step (Pass C SeatDesk) D) (a b : SeatDesk) (inputs : List Input) (left : Feeder) → Drives a b inputs left.unfed None → MayFeed left b → Grew b (desk (pass_of step))
    → IfEnds step (λ last. (desk last).gave_up ≡ true) → DroveStep a inputs left step
drove_step (Goes pass done) a b inputs left D fits G gave_up = (
  drives_then a b (desk pass) inputs left.unfed left.unfed None D (drives_grew b (desk pass) left.unfed fits.0 G),
  may_grew b (desk pass) left fits G,
)
drove_step (Ends pass) a b inputs left D fits G gave_up = quits a b (desk pass) inputs left.unfed D G gave_up
