-- Each call's event keeps a story sound.
use Rattle.std.proofs.Common.{◌≡◌, ◌⊎◌, inl, inr, ℕ, ◌+◌, ◌<◌, List, [], ◌∷◌, ◌++◌, length, Bool, true, false, ◌&&◌, ◌||◌, slice_get, is_some, refl, sym, ap, ◌∙◌, subst, length-append, arith, true≢false}
use Rattle.std.proofs.lemmas.List.{append-nil, append_assoc, length-replicate, length-set}
use Rattle.std.proofs.lemmas.Bool.{and_parts, eqb-true, or_parts, ltb-true, ltb-false}
use Rattle.std.specs.Prelude.{nat_lt, is_none, Decides}
use Rattle.std.specs.declared.option.Option.{Option}
use Rattle.std.specs.declared.option.Option.TheVariants.{None, Some}
use Rattle.ng_base.specs.declared.event.Event.{Event}
use Rattle.ng_base.specs.declared.event.Event.TheVariants.{Feed, Take, Back, Apply, Stop}
use Rattle.ng_machine.specs.declared.fed.Fed.{Fed}
use Rattle.ng_machine.specs.declared.input.Input.{Input}
use Rattle.ng_machine.specs.declared.item.Item.{Item}
use Rattle.ng_machine.specs.Words.{first_refusal}
use Rattle.ng_machine.specs.World.{World}
use Rattle.ng_machine.specs.Feed.{feed_next, feed_input}
use Rattle.ng_machine.specs.Refusal.{feed_refusal}
use Rattle.ng_machine.specs.Run.{RunState, after, beginning}
use Rattle.ng_machine.specs.Orderly.{MayFeedNext, MayFeedInput, Allowed, AllowedEvent}
use Rattle.ng_machine.specs.Laws.{start, taken_by, IsJournal}
use Rattle.ng_machine.proofs.Kept.{fed_quietly}
use Rattle.ng_machine.proofs.Quieted.{input_quietly}
use Rattle.ng_machine.proofs.Moves.{apply_fed}
use Rattle.ng_machine.proofs.Ordering.{after-append}
use Rattle.ng_machine.proofs.PlainSteps.{orderly_push}
use Rattle.ng_machine.proofs.Feeding.{feeds_unless_refused}
use Rattle.ng_machine.specs.declared.story.unclosed.Unclosed.{Unclosed}
use Rattle.ng_machine.specs.declared.story.unclosed.Unclosed.TheVariants.{Pending, Unfed}
use Rattle.ng_machine.specs.story.Story.{Story, run_state_of, world_of, with_event, with_input, with_more, follow_if, MayFollow}
use Rattle.ng_machine.specs.story.Closing.{is_spent, refusal_below, stops, stopped_if, IsClosedWell}
use Rattle.ng_machine.specs.story.SoundStory.{IsSoundStory}
use Rattle.ng_machine.specs.story.Desks.{IsJobNow}
use Rattle.ng_machine.specs.story.StoryLaws.{BegunIsSound, FeedKeepsSound, TakeKeepsSound, BackKeepsSound, ApplyKeepsSound, CloseKeepsSound, GiveUpKeepsSound}
use Rattle.ng_machine.proofs.story.MoreInputs.{get_next, same_run}
use Rattle.ng_machine.proofs.story.AtWork.{jobs_stand}

pub begun_is_sound : BegunIsSound
begun_is_sound setting none = record {
  orderly = λ more follows. tt;
  fed = sym (ap (λ (l : List Input). length l) none);
  going = λ unended. refl;
  closed = tt;
  marks = length-replicate setting.seats false;
}

-- ORDERLY SO FAR

-- while nothing stopped, any inputs may follow
may_follow : (s : Story) (more : List Input) → (run_state_of s).stopped ≡ false → MayFollow s more
may_follow s more going = subst (λ (b : Bool). follow_if b s.closed more) (sym going) tt

pub so_far : (s : Story) → IsSoundStory s → s.closed ≡ None → IsJournal s.setting s.journal
so_far s S unended =
    subst (λ (l : List Input). IsJournal (record s.setting { given = record s.setting.given { inputs = l } }) s.journal) (append-nil s.setting.given.inputs) (S.orderly [] (may_follow s [] (S.going unended)))

-- an event that is allowed in the run keeps the journal orderly, with these inputs behind
orderly_more : (s : Story) (e : Event) (more : List Input) → IsSoundStory s → s.closed ≡ None → AllowedEvent (with_more s.setting more).given s.setting.budget s.setting.seats (run_state_of s) e
    → IsJournal (with_more s.setting more) (s.journal ++ e ∷ [])
orderly_more s e more S unended allowed =
    orderly_push (with_more s.setting more).given s.setting.budget s.setting.seats (beginning (start s.setting)) s.journal e (S.orderly more (may_follow s more (S.going unended)))
    (subst (λ (at : RunState). Allowed (with_more s.setting more).given s.setting.budget s.setting.seats at e) (sym (same_run s.setting more s.journal (so_far s S unended))) (S.going unended, allowed))

pub at_more : (s : Story) (e : Event) → run_state_of (with_event s e) ≡ after s.setting.given (run_state_of s) e
at_more s e = after-append s.setting.given (beginning (start s.setting)) s.journal (e ∷ [])

-- an event that feeds nothing and stops nothing
event_sound : (s : Story) (e : Event) → IsSoundStory s → s.closed ≡ None
    → ((more : List Input) → AllowedEvent (with_more s.setting more).given s.setting.budget s.setting.seats (run_state_of s) e)
    → (after s.setting.given (run_state_of s) e).world.fed ≡ (world_of s).fed → (after s.setting.given (run_state_of s) e).stopped ≡ (run_state_of s).stopped → IsSoundStory (with_event s e)
event_sound s e S unended allowed fed stopped = record {
  orderly = λ more follows. orderly_more s e more S unended (allowed more);
  fed = ap (λ (at : RunState). at.world.fed) (at_more s e) ∙ fed ∙ S.fed;
  going = λ _. ap (λ (at : RunState). at.stopped) (at_more s e) ∙ stopped ∙ S.going unended;
  closed = subst (IsClosedWell (with_event s e)) (sym unended) tt;
  marks = S.marks;
}

pub take_keeps_sound : TakeKeepsSound
take_keeps_sound s item seat S unended below idle within next =
    let free = subst (IsJobNow (run_state_of s) seat) idle (jobs_stand s seat (so_far s S unended)) in
    event_sound s (Take seat item.id) S unended
    (λ more. record { seat_is = below; seat_free = free; within = within; item = item; item_is = refl; may = next.may; least = next.least })
    refl refl

pub back_keeps_sound : BackKeepsSound
back_keeps_sound s id seat S unended taken = event_sound s (Back id) S unended (λ more. (taken_by id seat, taken, refl)) refl refl

pub apply_keeps_sound : ApplyKeepsSound
apply_keeps_sound s id seat S unended taken = event_sound s (Apply id) S unended (λ more. (taken_by id seat, taken, refl)) (apply_fed (world_of s) id) refl

-- A FEED

-- where nothing refuses an input it may be fed
unrefused : (budget : ℕ) (w : World) (input : Input) → feed_refusal budget w input ≡ None → (w.applies < budget) × MayFeedInput w input
unrefused budget w input none = (subst (λ (o : Option Fed). Decides (is_none o) ((w.applies < budget) × MayFeedInput w input)) none (feeds_unless_refused budget w input)).0 refl

-- the input is the next, whatever follows
next_is : (s : Story) (input : Input) (more : List Input) → IsSoundStory s → slice_get (s.setting.given.inputs ++ input ∷ more) (world_of s).fed ≡ Some input
next_is s input more S = ap (slice_get (s.setting.given.inputs ++ input ∷ more)) S.fed ∙ get_next s.setting.given.inputs more input

-- the run with the input fed
at_fed : (s : Story) (input : Input) → IsSoundStory s → s.closed ≡ None
    → run_state_of (with_event (with_input s input) Feed) ≡ record (run_state_of s) { world = feed_input s.setting.given (record (world_of s) { fed = (world_of s).fed + 1 }) input }
at_fed s input S unended =
    at_more (with_input s input) Feed
    ∙ ap (λ (at : RunState). after (with_more s.setting (input ∷ [])).given at Feed) (same_run s.setting (input ∷ []) s.journal (so_far s S unended))
    ∙ ap (λ (o : Option Input). record (run_state_of s) { world = feed_next s.setting.given (world_of s) o }) (next_is s input [] S)

length_one : (inputs : List Input) (input : Input) → length (inputs ++ input ∷ []) ≡ length inputs + 1
length_one inputs input = length-append inputs (input ∷ [])

pub feed_keeps_sound : FeedKeepsSound
feed_keeps_sound s input S unended none = record {
  orderly = λ more follows.
      let may = unrefused s.setting.budget (world_of s) input none in
      let next : MayFeedNext (world_of s) (slice_get (s.setting.given.inputs ++ input ∷ more) (world_of s).fed) = subst (MayFeedNext (world_of s)) (sym (next_is s input more S)) may.1 in
      subst (λ (l : List Input). IsJournal (record s.setting { given = record s.setting.given { inputs = l } }) (s.journal ++ Feed ∷ []))
      (sym (append_assoc s.setting.given.inputs (input ∷ []) more))
      (orderly_more s Feed (input ∷ more) S unended (may.0, next));
  fed = ap (λ (at : RunState). at.world.fed) (at_fed s input S unended)
      ∙ fed_quietly (input_quietly s.setting.given (record (world_of s) { fed = (world_of s).fed + 1 }) input)
      ∙ ap (λ (n : ℕ). n + 1) S.fed ∙ sym (length_one s.setting.given.inputs input);
  going = λ _. ap (λ (at : RunState). at.stopped) (at_fed s input S unended) ∙ S.going unended;
  closed = subst (IsClosedWell (with_event (with_input s input) Feed)) (sym unended) tt;
  marks = S.marks;
}

-- THE END

-- nothing is pending, and nothing is unfed
abbrev NothingLeft : ℕ → ℕ → Type 0
NothingLeft pending unfed = (nat_lt 0 pending ≡ false) × (nat_lt 0 unfed ≡ false)

none_first : (a b : Bool) (x y : Unclosed) → first_refusal ((a, x) ∷ (b, y) ∷ []) ≡ None → (a ≡ false) × (b ≡ false)
none_first true b x y none = absurd (true≢false (ap (λ (o : Option Unclosed). is_some o) none))
none_first false true x y none = absurd (true≢false (ap (λ (o : Option Unclosed). is_some o) none))
none_first false false x y none = (refl, refl)

-- a core that is closed without a Stop has nothing left
left_nothing : (spent : Bool) (pending unfed : ℕ) → refusal_below spent pending unfed ≡ None → (spent && (nat_lt 0 pending || nat_lt 0 unfed)) ≡ false → NothingLeft pending unfed
left_nothing true pending unfed none goes_on = or_parts (nat_lt 0 pending) (nat_lt 0 unfed) goes_on
left_nothing false pending unfed none goes_on = none_first (nat_lt 0 pending) (nat_lt 0 unfed) (Pending pending) (Unfed unfed) none

not_below : (n : ℕ) → nat_lt 0 n ≡ false → n ≡ 0
not_below n e = let le = ltb-false 0 n e in omega arith

no_items : (items : List Item) → length items ≡ 0 → items ≡ []
no_items [] e = refl
no_items (x ∷ xs) e = absurd (omega arith)

-- what is left is pending, or unfed behind the inputs that were fed
is_left : (pending fed unfed total : ℕ) (a : Bool) → nat_lt 0 pending ≡ a → (a || nat_lt 0 unfed) ≡ true → total ≡ fed + unfed → (0 < pending) ⊎ (fed < total)
is_left pending fed unfed total true e some is = inl (ltb-true 0 pending e)
is_left pending fed unfed total false e some is = inr (let lt = ltb-true 0 unfed some in omega arith)

stop_follows : (s : Story) (unfed : ℕ) (more : List Input) → MayFollow (record (with_event s Stop) { closed = Some unfed }) more → length more ≡ unfed
stop_follows s unfed more follows = subst (λ (b : Bool). follow_if b (Some unfed) more) (ap (λ (at : RunState). at.stopped) (at_more s Stop)) follows

stopped_sound : (s : Story) (unfed : ℕ) → IsSoundStory s → s.closed ≡ None → stops s unfed ≡ true → IsSoundStory (record (with_event s Stop) { closed = Some unfed })
stopped_sound s unfed S unended stop = record {
  orderly = λ more follows.
      let why = and_parts (is_spent s) (nat_lt 0 (length (world_of s).pending) || nat_lt 0 unfed) stop in
      let many = stop_follows s unfed more follows in
      let total : length (s.setting.given.inputs ++ more) ≡ (world_of s).fed + unfed = length-append s.setting.given.inputs more ∙ ap (λ (n : ℕ). length s.setting.given.inputs + n) many ∙ ap (λ (n : ℕ). n + unfed) (sym S.fed) in
      orderly_more s Stop more S unended (
        eqb-true (world_of s).applies s.setting.budget why.0,
        is_left (length (world_of s).pending) (world_of s).fed unfed (length (s.setting.given.inputs ++ more)) (nat_lt 0 (length (world_of s).pending)) refl why.1 total,
      );
  fed = ap (λ (at : RunState). at.world.fed) (at_more s Stop) ∙ S.fed;
  going = λ none. absurd (true≢false (ap (λ (o : Option ℕ). is_some o) none));
  closed = (
    ap (λ (at : RunState). at.world.pending) (at_more s Stop),
    λ going. absurd (true≢false (sym (ap (λ (at : RunState). at.stopped) (at_more s Stop)) ∙ going)),
  );
  marks = S.marks;
}

ended_sound : (s : Story) (unfed : ℕ) → IsSoundStory s → s.closed ≡ None → NothingLeft (length (world_of s).pending) unfed → IsSoundStory (record s { closed = Some unfed })
ended_sound s unfed S unended nothing = record {
  orderly = λ more follows. S.orderly more (may_follow s more (S.going unended));
  fed = S.fed;
  going = λ none. absurd (true≢false (ap (λ (o : Option ℕ). is_some o) none));
  closed = (no_items (world_of s).pending (not_below (length (world_of s).pending) nothing.0), λ going. not_below unfed nothing.1);
  marks = S.marks;
}

pub close_keeps_sound : CloseKeepsSound
close_keeps_sound s unfed S unended none = by (stops s unfed) refl
  where
    by : (b : Bool) → stops s unfed ≡ b → IsSoundStory (record (stopped_if b s) { closed = Some unfed })
    by true stop = stopped_sound s unfed S unended stop
    by false goes_on = ended_sound s unfed S unended (left_nothing (is_spent s) (length (world_of s).pending) unfed none goes_on)

pub give_up_keeps_sound : GiveUpKeepsSound
give_up_keeps_sound s seat S = record { orderly = S.orderly; fed = S.fed; going = S.going; closed = S.closed; marks = length-set s.gave_up seat true ∙ S.marks }
