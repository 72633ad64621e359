use Rattle.std.proofs.Common.{◌≡◌, ◌∙◌, List, [], ◌∷◌, ◌++◌, false, sym, ap, subst, arith}
use Rattle.std.specs.declared.option.Option.TheVariants.{None}
use Rattle.ng_base.specs.declared.event.Event.{Event}
use Rattle.ng_base.specs.declared.event.Event.TheVariants.{Back}
use Rattle.ng_base.specs.declared.ids.ItemId.{ItemId}
use Rattle.ng_machine.specs.Desk.{Idle}
use Rattle.ng_machine.specs.LowRun.{IsLow}
use Rattle.ng_machine.specs.story.DeskLaws.{IsOrderlySoFar}
use Rattle.ng_machine.specs.story.Desks.{Gained, IsAtWork, Others, story_job}
use Rattle.ng_machine.specs.story.SoundStory.{IsSoundStory}
use Rattle.ng_machine.specs.story.Story.{Story, has_ended, run_state_of, with_event, world_of}
use Rattle.ng_machine.proofs.story.OfDesks.{back_tells}
use Rattle.ng_machine.proofs.story.SoundStories.{back_keeps_sound, so_far}
use Rattle.ng_queue.proofs.tie.OnceTaken.{untaken_length}
use Rattle.ng_core_state.specs.Handed.{item_of, job_with}
use Rattle.ng_core_state.specs.Stands.{Stands}
use Rattle.ng_core.specs.Away.{IsAwayWith}
use Rattle.ng_core.specs.CoreStory.{CoreStory, story}
use Rattle.ng_core.specs.Kept.{IsKept, story_in}
use Rattle.ng_core.proofs.OpenStories.{low_sound, open_story, stands_pushed}
use Rattle.ng_core.proofs.PutBack.{at_work_with, is_away}
use Rattle.ng_core.proofs.Working.{taken_out}
use Rattle.ng_core.proofs.Reached.{kept_there, story_there}
use Rattle.ng_core.proofs.machine.Core.back.Goals as goal
use Rattle.ng_core.proofs.machine.Core.back.Goals.{After-push_reserved, After-deref_mut-parts}

kept : (g : _) (c : After-deref_mut-parts g) → IsKept c.deref_mut-parts.result.now
kept g c = kept_there c.deref_mut-parts.ensures.value c.self.invariant

seen : (g : _) (c : After-deref_mut-parts g) → story_in c.deref_mut-parts.result.now ≡ c.args.self.now
seen g c = story_there c.deref_mut-parts.ensures.value c.self.view_is

is_open : (g : _) (c : After-deref_mut-parts g) → (story (story_in c.deref_mut-parts.result.now)).closed ≡ None
is_open g c = open_story (story (story_in c.deref_mut-parts.result.now)) (subst (λ (x : CoreStory). has_ended (story x) ≡ false) (sym (seen g c)) c.requires.running)

so : (g : _) (c : After-deref_mut-parts g) → IsOrderlySoFar (story (story_in c.deref_mut-parts.result.now))
so g c = so_far (story (story_in c.deref_mut-parts.result.now)) (kept g c).sound (is_open g c)

own : (g : _) (c : After-deref_mut-parts g) → job_with g.B.Node.state c.args.work ≡ story_job (story (story_in c.deref_mut-parts.result.now)) c.args.seat
own g c = subst (λ (x : CoreStory). job_with g.B.Node.state c.args.work ≡ story_job (story x) c.args.seat) (sym (seen g c)) c.requires.own

at_work : (g : _) (c : After-deref_mut-parts g) → IsAtWork (run_state_of (story (story_in c.deref_mut-parts.result.now))) c.args.seat (item_of c.args.work) (job_with g.B.Node.state c.args.work)
at_work g c = at_work_with g.B.Node.state (story (story_in c.deref_mut-parts.result.now)) c.args.seat c.args.work (so g c) (own g c)

away : (g : _) (c : After-deref_mut-parts g) → IsAwayWith g.B.Node.state (run_state_of (story (story_in c.deref_mut-parts.result.now))) c.args.work
away g c = is_away g.B.Node.state (story (story_in c.deref_mut-parts.result.now)) c.args.seat c.args.work (so g c) (own g c)

pub put_back-requires-clause-work : goal.put_back-requires-clause-work
put_back-requires-clause-work g c κs within = (run_state_of (story (story_in c.deref_mut-parts.result.now)), (kept_there c.deref_mut-parts.ensures.value c.self.invariant).stands, away g (goal.at.put_back-requires-clause-work g c).After-deref_mut-parts)

grown : (g : _) (c : After-push_reserved g) → record (story (story_in c.deref_mut-parts.result.now)) { journal = c.push_reserved.new.self.items } ≡ with_event (story (story_in c.deref_mut-parts.result.now)) (Back (item_of c.args.work).id)
grown g c =
    ap (λ (j : List Event). let s : Story = record (story (story_in c.deref_mut-parts.result.now)) { journal = j } in s)
    (c.push_reserved.ensures.items ∙ ap (λ (i : ItemId). c.deref_mut-parts.result.now.journal.items ++ Back i ∷ []) c.id-id.ensures)

pub invariant_of-self : goal.invariant_of-self
invariant_of-self g c =
    let early = (goal.at.invariant_of-self g c).After-deref_mut-parts in
    let late = (goal.at.invariant_of-self g c).After-push_reserved in
    let s = story (story_in c.deref_mut-parts.result.now) in
    let item = item_of c.args.work in
    let W = at_work g early in
    let N = c.put_back.ensures (run_state_of s) (kept g early).stands (away g early) in
    let less = untaken_length item.id.0 (run_state_of s).taken (kept g early).stands.items.once (taken_out item c.args.seat (run_state_of s).taken W.taken) in
    record {
      sound = subst IsSoundStory (sym (grown g late)) (back_keeps_sound s item.id c.args.seat (kept g early).sound (is_open g early) W.taken);
      modest = (kept g early).modest;
      low = subst (λ (x : Story). IsLow (world_of x)) (sym (grown g late)) (low_sound (with_event s (Back item.id)) (back_keeps_sound s item.id c.args.seat (kept g early).sound (is_open g early) W.taken) (kept g early).modest (is_open g early));
      some = (kept g early).some;
      stands = subst (λ (x : Story). Stands c.put_back.new.state (run_state_of x)) (sym (grown g late)) (stands_pushed c.put_back.new.state s (Back item.id) N);
      room = λ z. let was = (kept g early).stands.items.out in let is = N.items.out in let room = (kept g early).room z in let left = c.push_reserved.ensures.room in omega arith;
    }

tells : (g : _) (c : After-deref_mut-parts g) → Others c.args.seat (story (story_in c.deref_mut-parts.result.now)) (with_event (story (story_in c.deref_mut-parts.result.now)) (Back (item_of c.args.work).id))
    × Gained c.args.seat (Back (item_of c.args.work).id) Idle (story (story_in c.deref_mut-parts.result.now)) (with_event (story (story_in c.deref_mut-parts.result.now)) (Back (item_of c.args.work).id))
tells g c = back_tells (story (story_in c.deref_mut-parts.result.now)) (item_of c.args.work).id c.args.seat (so g c) (at_work g c).taken

pub returns-clause-own : goal.returns-clause-own
returns-clause-own g c =
    let early = (goal.at.returns-clause-own g c).After-deref_mut-parts in
    let late = (goal.at.returns-clause-own g c).After-push_reserved in
    let e : Event = Back (item_of c.args.work).id in
    subst (λ (x : CoreStory). Gained c.args.seat e Idle (story x) (record (story (story_in c.deref_mut-parts.result.now)) { journal = c.push_reserved.new.self.items })) (seen g early)
    (subst (Gained c.args.seat e Idle (story (story_in c.deref_mut-parts.result.now))) (sym (grown g late)) (tells g early).1)

pub returns-clause-others : goal.returns-clause-others
returns-clause-others g c =
    let early = (goal.at.returns-clause-others g c).After-deref_mut-parts in
    let late = (goal.at.returns-clause-others g c).After-push_reserved in
    subst (λ (x : CoreStory). Others c.args.seat (story x) (record (story (story_in c.deref_mut-parts.result.now)) { journal = c.push_reserved.new.self.items })) (seen g early)
    (subst (Others c.args.seat (story (story_in c.deref_mut-parts.result.now))) (sym (grown g late)) (tells g early).0)
