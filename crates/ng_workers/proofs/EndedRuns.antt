-- What the desks of all seats say of the core at the end, or where memory ran out.
use Rattle.std.proofs.Common.{◌≡◌, ◌+◌, ◌<◌, ℕ, zero, suc, List, [], ◌∷◌, ◌++◌, length, Bool, true, false, inl, inr, refl, sym, ap, ◌∙◌, subst, true≢false, arith}
use Rattle.std.proofs.lemmas.Bool.{or_parts}
use Rattle.std.proofs.lemmas.List.{append-nil}
use Rattle.std.specs.List.{list_any}
use Rattle.std.specs.Prelude.{slice_index_or}
use Rattle.std.specs.declared.option.Option.{Option}
use Rattle.std.specs.declared.option.Option.TheVariants.{None, Some}
use Rattle.ng_base.specs.declared.event.Event.{Event}
use Rattle.ng_machine.proofs.Counted.{times-append}
use Rattle.ng_machine.specs.declared.input.Input.{Input}
use Rattle.ng_machine.specs.Desk.{FirstDesk, SeatDesk, own_events}
use Rattle.ng_machine.specs.SetUp.{has_waited}
use Rattle.ng_machine.specs.Words.{times}
use Rattle.ng_table.specs.reading.Reading.{given}
use Rattle.ng_core.specs.CoreStory.{CoreStory, setting_of, story}
use Rattle.ng_machine.specs.story.Story.{Story, has_ended, has_failed, with_more}
use Rattle.ng_core.proofs.OpenStories.{open_story}
use Rattle.ng_workers.specs.Desks.{Gains, MayBack, core_desk, is_feed}
use Rattle.ng_workers.specs.Driving.{Closes, Drives, DroveOn}
use Rattle.ng_workers.specs.Ending.{KeptAtIt, KeptOwn, MayHaveLeft, RanPartly, RanToEnd}
use Rattle.ng_workers.specs.Passes.{did_part}
use Rattle.ng_workers.proofs.OwnEvents.{own_feeds}

none_marked : (marks : List Bool) (seat : ℕ) → list_any (λ (b : Bool). b) marks ≡ false → slice_index_or marks seat false ≡ false
none_marked [] seat none = refl
none_marked (true ∷ marks) seat none = absurd (true≢false none)
none_marked (false ∷ marks) zero none = refl
none_marked (false ∷ marks) (suc seat) none = none_marked marks seat none

-- where nobody gave up, no desk says so
pub nobody_gave_up : (c : CoreStory) (seat : ℕ) → has_failed (story c) ≡ false → (core_desk c seat).gave_up ≡ false
nobody_gave_up c seat none = none_marked c.gave_up seat none

pub not_failed : (s : Story) → has_ended s ≡ false → has_failed s ≡ false
not_failed s running = (or_parts _ (has_failed s) running).1

abbrev first_in : FirstDesk → Option FirstDesk → FirstDesk
first_in other None = other
first_in other (Some first) = first

abbrev shown_by : CoreStory → FirstDesk
shown_by c = record { own = c.own; ports = c.ports; stock = c.stock; budget = c.budget; inputs = c.inputs; waited = has_waited (setting_of c) c.journal; closed = c.closed }

-- what the first desk shows is what the core was made of and fed
same_setting : (old new : CoreStory) (fed : List Input) (first : FirstDesk) → shown_by new ≡ first
    → first.own ≡ old.own → first.ports ≡ old.ports → first.stock ≡ old.stock → first.budget ≡ old.budget → first.inputs ≡ old.inputs ++ fed → new.seats ≡ old.seats
    → setting_of new ≡ with_more (setting_of old) fed
same_setting old new fed first is own ports stock budget inputs seats =
    let shown = λ (f : FirstDesk). f in
    λ i. record {
      own = (ap (λ (f : FirstDesk). f.own) is ∙ own) i;
      ports = (ap (λ (f : FirstDesk). f.ports) is ∙ ports) i;
      stock = (ap (λ (f : FirstDesk). f.stock) is ∙ stock) i;
      given = given ((ap (λ (f : FirstDesk). f.inputs) is ∙ inputs) i);
      budget = (ap (λ (f : FirstDesk). f.budget) is ∙ budget) i;
      seats = seats i;
    }

-- the seat's own events are those that it had, and more
kept_at_it : (old new : CoreStory) (seat : ℕ) (d : SeatDesk) (more : List Event) → core_desk new seat ≡ d → Gains (core_desk old seat) d more → has_failed (story new) ≡ false → KeptAtIt (story old) (story new) seat
kept_at_it old new seat d more is G stays = record {
  more = more;
  own = ap (λ (x : SeatDesk). x.own) is ∙ G.own;
  goes_on = subst (λ (b : Bool). MayBack b more) (ap (λ (x : SeatDesk). x.gave_up) (sym is) ∙ nobody_gave_up new seat stays) G.backs;
}

kept_own : (old new : CoreStory) (seat : ℕ) (d : SeatDesk) (more : List Event) → core_desk new seat ≡ d → Gains (core_desk old seat) d more → KeptOwn (story old) (story new) seat
kept_own old new seat d more is G = record { more = more; own = ap (λ (x : SeatDesk). x.own) is ∙ G.own }

-- the part of the seat 0, by the desk of the core at the end
module _ (old new : CoreStory) (d : SeatDesk) (is : core_desk new 0 ≡ d) (inputs left : List Input) (closed : Option ℕ) (D : Drives (core_desk old 0) d inputs left closed) where
  first : shown_by new ≡ record { own = old.own; ports = old.ports; stock = old.stock; budget = old.budget; inputs = old.inputs ++ D.fed; waited = has_waited (setting_of old) old.journal; closed = closed }
  first = ap (first_in (record { own = []; ports = []; stock = []; budget = 0; inputs = []; waited = true; closed = None })) (ap (λ (x : SeatDesk). x.first) is ∙ D.first)

  setting_driven : setting_of new ≡ with_more (setting_of old) D.fed
  setting_driven = same_setting old new D.fed _ first refl refl refl refl refl (ap (λ (x : SeatDesk). x.seats) is ∙ D.gains.seats)

  closed_driven : new.closed ≡ closed
  closed_driven = ap (λ (f : FirstDesk). f.closed) first

  waited_driven : has_waited (setting_of new) new.journal ≡ has_waited (setting_of old) old.journal
  waited_driven = ap (λ (f : FirstDesk). f.waited) first

  feeds_driven : times is_feed new.journal ≡ times is_feed old.journal + length D.fed
  feeds_driven =
      sym (own_feeds new.journal) ∙ ap (λ (x : SeatDesk). times is_feed x.own) is ∙ ap (times is_feed) D.gains.own
      ∙ times-append is_feed (own_events old.journal 0) D.more
      ∙ ap (λ (n : ℕ). n + times is_feed D.more) (own_feeds old.journal)
      ∙ ap (λ (n : ℕ). times is_feed old.journal + n) D.feeds

-- each seat's part, by the desks of the core at the end
abbrev pub AllDid : CoreStory → CoreStory → List Input → Type 0
AllDid old new inputs = (seat : ℕ) → seat < old.seats → (d : SeatDesk) × (core_desk new seat ≡ d) × did_part inputs seat (core_desk old seat) d

module _ (old new : CoreStory) (inputs : List Input) (all : AllDid old new inputs) (some : 0 < old.seats) where
  abbrev zeroth : SeatDesk
  zeroth = (all 0 some).0

  is : core_desk new 0 ≡ zeroth
  is = (all 0 some).1

  module _ (stays : has_failed (story new) ≡ false) where
    closes : DroveOn (core_desk old 0) zeroth inputs → Closes (core_desk old 0) zeroth inputs
    closes (inl C) = C
    closes (inr G) = absurd (true≢false (sym G.gave_up ∙ ap (λ (x : SeatDesk). x.gave_up) (sym is) ∙ nobody_gave_up new 0 stays))

    C : Closes (core_desk old 0) zeroth inputs
    C = closes (all 0 some).2

    own_by : (seat : ℕ) → seat < old.seats → KeptAtIt (story old) (story new) seat
    own_by zero below = kept_at_it old new 0 zeroth C.drives.more is C.drives.gains stays
    own_by (suc seat) below =
        let it = all (suc seat) below in kept_at_it old new (suc seat) it.0 it.2.0.more it.1 it.2.0.gains stays

    pub ran_to_end : RanToEnd (story old) inputs (story new)
    ran_to_end = record {
      fed = C.drives.fed;
      left = C.left;
      parts = C.drives.parts;
      setting = setting_driven old new zeroth is inputs C.left (Some (length C.left)) C.drives;
      closed = closed_driven old new zeroth is inputs C.left (Some (length C.left)) C.drives;
      feeds = feeds_driven old new zeroth is inputs C.left (Some (length C.left)) C.drives;
      own = own_by;
      stays = stays;
      waited = waited_driven old new zeroth is inputs C.left (Some (length C.left)) C.drives;
    }

  module _ (left : List Input) (closed : Option ℕ) (D : Drives (core_desk old 0) zeroth inputs left closed) (may : MayHaveLeft closed left) where
    grew_by : (seat : ℕ) → seat < old.seats → KeptOwn (story old) (story new) seat
    grew_by zero below = kept_own old new 0 zeroth D.more is D.gains
    grew_by (suc seat) below = let it = all (suc seat) below in kept_own old new (suc seat) it.0 it.2.0.more it.1 it.2.0.gains

    driven_partly : RanPartly (story old) inputs (story new)
    driven_partly = record {
      fed = D.fed;
      left = left;
      parts = D.parts;
      setting = setting_driven old new zeroth is inputs left closed D;
      closed = subst (λ (c : Option ℕ). MayHaveLeft c left) (sym (closed_driven old new zeroth is inputs left closed D)) may;
      feeds = feeds_driven old new zeroth is inputs left closed D;
      own = grew_by;
    }

  drove_partly : DroveOn (core_desk old 0) zeroth inputs → RanPartly (story old) inputs (story new)
  drove_partly (inl C) = driven_partly C.left (Some (length C.left)) C.drives refl
  drove_partly (inr G) = driven_partly G.left None G.drives tt

  pub ran_partly : RanPartly (story old) inputs (story new)
  ran_partly = drove_partly (all 0 some).2

-- nothing was done
pub ran_not : (c : CoreStory) (inputs : List Input) → has_ended (story c) ≡ false → RanPartly (story c) inputs (story c)
ran_not c inputs running = record {
  fed = [];
  left = inputs;
  parts = refl;
  setting = same_setting c c [] (shown_by c) refl refl refl refl refl (sym (append-nil c.inputs)) refl;
  closed = subst (λ (closed : Option ℕ). MayHaveLeft closed inputs) (sym (open_story (story c) running)) tt;
  feeds = omega arith;
  own = λ seat below. record { more = []; own = sym (append-nil (own_events c.journal seat)) };
}
