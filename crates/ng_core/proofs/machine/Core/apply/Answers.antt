use Rattle.std.proofs.Common.{◌≡◌, ◌∙◌, List, [], ◌∷◌, ◌++◌, false, sym, ap, subst, arith}
use Rattle.std.specs.declared.option.Option.{Option}
use Rattle.std.specs.declared.option.Option.TheVariants.{None}
use Rattle.ng_base.specs.declared.event.Event.{Event}
use Rattle.ng_base.specs.declared.event.Event.TheVariants.{Apply}
use Rattle.ng_base.specs.declared.ids.ItemId.{ItemId}
use Rattle.ng_machine.specs.Desk.{Idle}
use Rattle.ng_machine.specs.LowRun.{IsLow}
use Rattle.ng_machine.specs.Run.{RunState}
use Rattle.ng_machine.specs.World.{NodeRecord, node_at}
use Rattle.ng_core_apply.specs.AtHand.{Applies, IsHandedIn}
use Rattle.ng_core_state.specs.step.Applied.{applied_from}
use Rattle.ng_machine.specs.story.DeskLaws.{IsOrderlySoFar}
use Rattle.ng_machine.specs.story.Desks.{Gained, IsAtWork, Others, story_job}
use Rattle.ng_machine.specs.story.SoundStory.{IsSoundStory}
use Rattle.ng_machine.specs.story.Story.{Story, has_ended, run_state_of, with_event, world_of}
use Rattle.ng_machine.specs.story.Work.{IsDone, removed_state}
use Rattle.ng_machine.proofs.story.OfDesks.{apply_tells}
use Rattle.ng_machine.proofs.story.SoundStories.{apply_keeps_sound, at_more, so_far}
use Rattle.ng_queue.proofs.tie.OnceTaken.{untaken_length}
use Rattle.ng_core_state.specs.Handed.{handed_with, item_done}
use Rattle.ng_core_state.specs.Stands.{Stands}
use Rattle.ng_core.specs.CoreStory.{CoreStory, story}
use Rattle.ng_core.specs.Kept.{IsKept, story_in}
use Rattle.ng_core.proofs.HandedIn.{at_work, is_handed_in}
use Rattle.ng_core.proofs.OpenStories.{low_sound, open_story, stands_pushed}
use Rattle.ng_core.proofs.Working.{taken_out}
use Rattle.ng_core.proofs.Reached.{kept_there, story_there}
use Rattle.ng_core.proofs.machine.Core.apply.Goals as goal
use Rattle.ng_core.proofs.machine.Core.apply.Goals.{After-push_reserved, After-deref_mut-parts}

kept : (g : _) (c : After-deref_mut-parts g) → IsKept c.deref_mut-parts.result.now
kept g c = kept_there c.deref_mut-parts.ensures.value c.self.invariant

seen : (g : _) (c : After-deref_mut-parts g) → story_in c.deref_mut-parts.result.now ≡ c.args.self.now
seen g c = story_there c.deref_mut-parts.ensures.value c.self.view_is

is_open : (g : _) (c : After-deref_mut-parts g) → (story (story_in c.deref_mut-parts.result.now)).closed ≡ None
is_open g c = open_story (story (story_in c.deref_mut-parts.result.now)) (subst (λ (x : CoreStory). has_ended (story x) ≡ false) (sym (seen g c)) c.requires.running)

so : (g : _) (c : After-deref_mut-parts g) → IsOrderlySoFar (story (story_in c.deref_mut-parts.result.now))
so g c = so_far (story (story_in c.deref_mut-parts.result.now)) (kept g c).sound (is_open g c)

done : (g : _) (c : After-deref_mut-parts g) → IsDone (story_job (story (story_in c.deref_mut-parts.result.now)) c.args.seat) (handed_with g.B.Node.state c.args.done)
done g c = subst (λ (x : CoreStory). IsDone (story_job (story x) c.args.seat) (handed_with g.B.Node.state c.args.done)) (sym (seen g c)) c.requires.done

working : (g : _) (c : After-deref_mut-parts g) → IsAtWork (run_state_of (story (story_in c.deref_mut-parts.result.now))) c.args.seat (item_done c.args.done) (story_job (story (story_in c.deref_mut-parts.result.now)) c.args.seat)
working g c = at_work g.B.Node.state (story (story_in c.deref_mut-parts.result.now)) c.args.seat c.args.done (so g c) (done g c)

handed : (g : _) (c : After-deref_mut-parts g) → (node : NodeRecord) × IsHandedIn c.deref_mut-parts.result.now.state g.B.Node.state c.args.done (run_state_of (story (story_in c.deref_mut-parts.result.now))) node
handed g c = is_handed_in g.B.Node.state c.deref_mut-parts.result.now.state (story_in c.deref_mut-parts.result.now) c.args.done c.args.seat (kept g c).sound (kept g c).modest (is_open g c) (kept g c).stands (done g c)

pub apply-requires-clause-work : goal.apply-requires-clause-work
apply-requires-clause-work g c κs within = (run_state_of (story (story_in c.deref_mut-parts.result.now)), handed g (goal.at.apply-requires-clause-work g c).After-deref_mut-parts)

-- what the step below says of the run
applied : (g : _) (c : After-push_reserved g) (H : (node : NodeRecord) × IsHandedIn c.deref_mut-parts.result.now.state g.B.Node.state c.args.done (run_state_of (story (story_in c.deref_mut-parts.result.now))) node)
    → Applies g.B.Node.state c.apply.new.state (item_done c.args.done) (run_state_of (story (story_in c.deref_mut-parts.result.now))) H.0 c.in-Ok.out
applied g c H = c.in-Ok.ensures.applied (run_state_of (story (story_in c.deref_mut-parts.result.now))) H.0 H.1

grown : (g : _) (c : After-push_reserved g) → record (story (story_in c.deref_mut-parts.result.now)) { journal = c.push_reserved.new.self.items } ≡ with_event (story (story_in c.deref_mut-parts.result.now)) (Apply (item_done c.args.done).id)
grown g c =
    ap (λ (j : List Event). let s : Story = record (story (story_in c.deref_mut-parts.result.now)) { journal = j } in s)
    (c.push_reserved.ensures.items ∙ ap (λ (i : ItemId). c.deref_mut-parts.result.now.journal.items ++ Apply i ∷ []) c.id-id.ensures)

pub invariant_of-self : goal.invariant_of-self
invariant_of-self g c =
    let K = kept_there c.deref_mut-parts.ensures.value c.self.invariant in
    let N = c.in-Err.ensures.err (run_state_of (story (story_in c.deref_mut-parts.result.now))) K.stands in
    record {
      sound = K.sound;
      modest = K.modest;
      low = K.low;
      some = K.some;
      stands = N;
      room = λ z. let was = K.stands.items.out in let is = N.items.out in let room = K.room z in omega arith;
    }

pub invariant_of-self-2 : goal.invariant_of-self-2
invariant_of-self-2 g c =
    let early = (goal.at.invariant_of-self-2 g c).After-deref_mut-parts in
    let late = (goal.at.invariant_of-self-2 g c).After-push_reserved in
    let s = story (story_in c.deref_mut-parts.result.now) in
    let item = item_done c.args.done in
    let W = working g early in
    let N = (applied g late (handed g early)).0 in
    let less = untaken_length item.id.0 (run_state_of s).taken (kept g early).stands.items.once (taken_out item c.args.seat (run_state_of s).taken W.taken) in
    record {
      sound = subst IsSoundStory (sym (grown g late)) (apply_keeps_sound s item.id c.args.seat (kept g early).sound (is_open g early) W.taken);
      modest = (kept g early).modest;
      low = subst (λ (x : Story). IsLow (world_of x)) (sym (grown g late)) (low_sound (with_event s (Apply item.id)) (apply_keeps_sound s item.id c.args.seat (kept g early).sound (is_open g early) W.taken) (kept g early).modest (is_open g early));
      some = (kept g early).some;
      stands = subst (λ (x : Story). Stands c.apply.new.state (run_state_of x)) (sym (grown g late)) (stands_pushed c.apply.new.state s (Apply item.id) N);
      room = λ z. let was = (kept g early).stands.items.out in let is = N.items.out in let room = (kept g early).room z in let left = c.push_reserved.ensures.room in omega arith;
    }

tells : (g : _) (c : After-deref_mut-parts g) → Others c.args.seat (story (story_in c.deref_mut-parts.result.now)) (with_event (story (story_in c.deref_mut-parts.result.now)) (Apply (item_done c.args.done).id))
    × Gained c.args.seat (Apply (item_done c.args.done).id) Idle (story (story_in c.deref_mut-parts.result.now)) (with_event (story (story_in c.deref_mut-parts.result.now)) (Apply (item_done c.args.done).id))
tells g c = apply_tells (story (story_in c.deref_mut-parts.result.now)) (item_done c.args.done).id c.args.seat (so g c) (working g c).taken

pub returns-clause-own : goal.returns-clause-own
returns-clause-own g c =
    let early = (goal.at.returns-clause-own g c).After-deref_mut-parts in
    let late = (goal.at.returns-clause-own g c).After-push_reserved in
    let e : Event = Apply (item_done c.args.done).id in
    subst (λ (x : CoreStory). Gained c.args.seat e Idle (story x) (record (story (story_in c.deref_mut-parts.result.now)) { journal = c.push_reserved.new.self.items })) (seen g early)
    (subst (Gained c.args.seat e Idle (story (story_in c.deref_mut-parts.result.now))) (sym (grown g late)) (tells g early).1)

pub returns-clause-others : goal.returns-clause-others
returns-clause-others g c =
    let early = (goal.at.returns-clause-others g c).After-deref_mut-parts in
    let late = (goal.at.returns-clause-others g c).After-push_reserved in
    subst (λ (x : CoreStory). Others c.args.seat (story x) (record (story (story_in c.deref_mut-parts.result.now)) { journal = c.push_reserved.new.self.items })) (seen g early)
    (subst (Others c.args.seat (story (story_in c.deref_mut-parts.result.now))) (sym (grown g late)) (tells g early).0)

pub returns-clause-out : goal.returns-clause-out
returns-clause-out g c =
    let early = (goal.at.returns-clause-out g c).After-deref_mut-parts in
    let late = (goal.at.returns-clause-out g c).After-push_reserved in
    let s = story (story_in c.deref_mut-parts.result.now) in
    let item = item_done c.args.done in
    let H = handed g early in
    let after = node_at (applied_from (run_state_of s) item).world item.to in
    (applied g late H).1
    ∙ ap (λ (o : Option NodeRecord). removed_state o after) (sym H.1.0.at.here)
    ∙ ap (λ (x : CoreStory). removed_state (node_at (world_of (story x)) item.to) after) (seen g early)
    ∙ ap (λ (r : RunState). removed_state (node_at (world_of (story c.args.self.now)) item.to) (node_at r.world item.to)) (sym (ap run_state_of (grown g late) ∙ at_more s (Apply item.id)))
