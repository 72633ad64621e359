use Rattle.std.proofs.Common.{◌≡◌, ◌∙◌, ℕ, List, [], ◌++◌, length, Bool, true, false, ◌==◌, ◌&&◌, ◌||◌, is_some, sym, ap, subst, true≢false}
use Rattle.std.proofs.lemmas.Bool.{and_parts, eqb-true}
use Rattle.std.specs.Prelude.{nat_lt}
use Rattle.std.specs.declared.option.Option.TheVariants.{None, Some}
use Rattle.ng_base.specs.declared.event.Event.{Event}
use Rattle.ng_machine.specs.LowRun.{IsLow}
use Rattle.ng_machine.proofs.TakenOut.{spent_takes_nothing}
use Rattle.ng_machine.specs.story.Closing.{close_refusal, closed_with, is_spent, refusal_below, stops}
use Rattle.ng_machine.specs.story.DeskLaws.{closed_desk, stop_events}
use Rattle.ng_machine.specs.story.Desks.{Others, story_desk}
use Rattle.ng_machine.specs.story.SoundStory.{IsSoundStory}
use Rattle.ng_machine.specs.story.Story.{Story, has_ended, run_state_of, world_of}
use Rattle.ng_machine.proofs.story.OfDesks.{close_tells}
use Rattle.ng_machine.proofs.story.SoundStories.{close_keeps_sound, so_far}
use Rattle.ng_queue.specs.declared.tally.tally.Tally.{Tally}
use Rattle.ng_core_state.specs.Stands.{Stands}
use Rattle.ng_core.specs.CoreStory.{CoreStory, story}
use Rattle.ng_core.specs.Kept.{IsKept, story_in}
use Rattle.ng_core.specs.Stops.{stopped_run}
use Rattle.ng_core.proofs.OpenStories.{low_story, open_story}
use Rattle.ng_core.proofs.Stopped.{closed_story, low_closed, stands_closed}
use Rattle.ng_core.proofs.Reached.{kept_there, story_there}
use Rattle.ng_core.proofs.machine.Core.close.Goals as goal
use Rattle.ng_core.proofs.machine.Core.close.Goals.{After-deref_mut-parts, After-stop_if, After-stops-stops}

kept : (g : _) (c : After-deref_mut-parts g) → IsKept c.deref_mut-parts.result.now
kept g c = kept_there c.deref_mut-parts.ensures.value c.self.invariant

seen : (g : _) (c : After-deref_mut-parts g) → story_in c.deref_mut-parts.result.now ≡ c.args.self.now
seen g c = story_there c.deref_mut-parts.ensures.value c.self.view_is

is_open : (g : _) (c : After-deref_mut-parts g) → (story (story_in c.deref_mut-parts.result.now)).closed ≡ None
is_open g c = open_story (story (story_in c.deref_mut-parts.result.now)) (subst (λ (x : CoreStory). has_ended (story x) ≡ false) (sym (seen g c)) c.requires)

-- the core stops where the counts say so
stops_are : (g : _) (c : After-stops-stops g) → c.stops-stops.result ≡ stops (story (story_in c.deref_mut-parts.result.now)) c.args.unfed
stops_are g c = c.stops-stops.ensures ∙ ap (λ (t : Tally). (t.applies == c.deref_mut-parts.result.now.budget) && (nat_lt 0 t.pending || nat_lt 0 c.args.unfed)) (kept_there c.deref_mut-parts.ensures.value c.self.invariant).stands.items.tally

-- nothing is taken where it stops
none_taken : (s : Story) (unfed : ℕ) → IsSoundStory s → s.closed ≡ None → stops s unfed ≡ true → (run_state_of s).taken ≡ []
none_taken s unfed sound is_open e =
    spent_takes_nothing s.setting s.journal (so_far s sound is_open) (eqb-true (world_of s).applies s.setting.budget (and_parts (is_spent s) (nat_lt 0 (length (world_of s).pending) || nat_lt 0 unfed) e).0)

pub stop_if-requires-clause-work : goal.stop_if-requires-clause-work
stop_if-requires-clause-work g c κs within = λ e.
    let first = (goal.at.stop_if-requires-clause-work g c).After-deref_mut-parts in
    let K = kept g first in
    let early = is_open g first in
    let x = story_in c.deref_mut-parts.result.now in
    let are = stops_are g (goal.at.stop_if-requires-clause-work g c).After-stops-stops in
    (run_state_of (story x), K.stands, none_taken (story x) c.args.unfed K.sound early (sym are ∙ e), low_story x K.sound K.modest early)

-- the story then
grown : (g : _) (c : After-stop_if g) (are : c.stops-stops.result ≡ stops (story (story_in c.deref_mut-parts.result.now)) c.args.unfed)
    → record (story (story_in c.deref_mut-parts.result.now)) { journal = c.stop_if.new.journal.items; closed = Some c.args.unfed } ≡ closed_with (story (story_in c.deref_mut-parts.result.now)) c.args.unfed
grown g c are =
    let s = story (story_in c.deref_mut-parts.result.now) in
    ap (λ (j : List Event). let x : Story = record s { journal = j; closed = Some c.args.unfed } in x) c.stop_if.ensures.journal
    ∙ ap (λ (b : Bool). let x : Story = record s { journal = s.journal ++ stop_events b; closed = Some c.args.unfed } in x) are
    ∙ closed_story s c.args.unfed (stops s c.args.unfed)

pub invariant_of-self : goal.invariant_of-self
invariant_of-self g c = kept g (goal.at.invariant_of-self g c).After-deref_mut-parts

pub invariant_of-self-2 : goal.invariant_of-self-2
invariant_of-self-2 g c =
    let K = kept_there c.deref_mut-parts.ensures.value c.self.invariant in
    let at = (goal.at.invariant_of-self-2 g c).After-stop_if in
    let early = is_open g (goal.at.invariant_of-self-2 g c).After-deref_mut-parts in
    let are = stops_are g (goal.at.invariant_of-self-2 g c).After-stops-stops in
    let x = story_in c.deref_mut-parts.result.now in
    let s = story x in
    let none : close_refusal s c.args.unfed ≡ None =
    ap (λ (t : Tally). refusal_below (t.applies == c.deref_mut-parts.result.now.budget) t.pending c.args.unfed) (sym K.stands.items.tally) ∙ sym c.refusal_to_close.ensures ∙ c.in_default.is in
    let N = c.stop_if.ensures.stands (run_state_of s) K.stands (λ e. none_taken s c.args.unfed K.sound early (sym are ∙ e)) in
    record {
      sound = subst IsSoundStory (sym (grown g at are)) (close_keeps_sound s c.args.unfed K.sound early none);
      modest = K.modest;
      low = subst (λ (z : Story). IsLow (world_of z)) (sym (grown g at are)) (low_closed s c.args.unfed (stops s c.args.unfed) K.low);
      some = K.some;
      stands = subst (λ (z : Story). Stands c.stop_if.new.state (run_state_of z)) (sym (grown g at are))
          (stands_closed c.stop_if.new.state s c.args.unfed (stops s c.args.unfed) (subst (λ (b : Bool). Stands c.stop_if.new.state (stopped_run b (run_state_of s))) are N));
      room = λ z. absurd (true≢false (ap is_some z));
    }

pub returns-clause-own : goal.returns-clause-own
returns-clause-own g c =
    let at = (goal.at.returns-clause-own g c).After-stop_if in
    let are = stops_are g (goal.at.returns-clause-own g c).After-stops-stops in
    let s = story (story_in c.deref_mut-parts.result.now) in
    ap (λ (z : Story). story_desk z 0) (grown g at are) ∙ (close_tells s c.args.unfed).1 ∙ ap (λ (z : CoreStory). closed_desk (story z) c.args.unfed) (story_there c.deref_mut-parts.ensures.value c.self.view_is)

pub returns-clause-others : goal.returns-clause-others
returns-clause-others g c =
    let at = (goal.at.returns-clause-others g c).After-stop_if in
    let are = stops_are g (goal.at.returns-clause-others g c).After-stops-stops in
    let s = story (story_in c.deref_mut-parts.result.now) in
    subst (λ (x : CoreStory). Others 0 (story x) (record s { journal = c.stop_if.new.journal.items; closed = Some c.args.unfed })) (story_there c.deref_mut-parts.ensures.value c.self.view_is)
    (subst (Others 0 s) (sym (grown g at are)) (close_tells s c.args.unfed).0)
