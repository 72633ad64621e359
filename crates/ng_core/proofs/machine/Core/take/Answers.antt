use Rattle.std.proofs.Common.{◌≡◌, inr, ◌∙◌, ◌+◌, ◌<◌, List, [], ◌∷◌, ◌++◌, length, false, sym, ap, subst, arith}
use Rattle.std.proofs.lemmas.Grind.{common_steps}
use Rattle.std.proofs.Common.{length-append}
use Rattle.std.specs.Prelude.{IfSome, IfNone}
use Rattle.std.specs.declared.option.Option.{Option}
use Rattle.std.specs.declared.option.Option.TheVariants.{None}
use Rattle.ng_base.specs.declared.event.Event.{Event}
use Rattle.ng_base.specs.declared.event.Event.TheVariants.{Take}
use Rattle.ng_base.specs.declared.ids.ItemId.{ItemId}
use Rattle.ng_machine.specs.declared.item.Item.{Item}
use Rattle.ng_machine.specs.Desk.{Job, Idle, SeatDesk, job_of}
use Rattle.ng_machine.specs.LowRun.{IsLow}
use Rattle.ng_machine.specs.Orderly.{MayTake}
use Rattle.ng_machine.specs.Run.{RunState, Taken}
use Rattle.ng_queue.specs.pending.Holds.{with_taken}
use Rattle.ng_machine.specs.story.Desks.{Gained, Others, story_job}
use Rattle.ng_machine.specs.story.SoundStory.{IsSoundStory}
use Rattle.ng_machine.specs.story.Story.{Story, IsNext, has_ended, run_state_of, with_event, world_of}
use Rattle.ng_machine.proofs.story.OfDesks.{take_tells}
use Rattle.ng_machine.proofs.story.SoundStories.{so_far, take_keeps_sound}
use Rattle.ng_core_state.specs.declared.handed.Work.{Work}
use Rattle.ng_core_state.specs.Handed.{item_of, job_with}
use Rattle.ng_core_state.specs.Stands.{Stands}
use Rattle.ng_core.specs.CoreStory.{CoreStory, story}
use Rattle.ng_core.specs.Kept.{IsKept, story_in}
use Rattle.ng_core.proofs.OpenStories.{low_sound, open_story, stands_pushed}
use Rattle.ng_core.proofs.Reached.{kept_there, story_there}
use Rattle.ng_core.proofs.machine.Core.take.Goals as goal
use Rattle.ng_core.proofs.machine.Core.take.Goals.{After-push_reserved}

-- the story before
abbrev before : (g : _) (c : After-push_reserved g) → Story
before g c = story (story_in c.deref_mut-parts.result.now)

kept : (g : _) (c : After-push_reserved g) → IsKept c.deref_mut-parts.result.now
kept g c = kept_there c.deref_mut-parts.ensures.value c.self.invariant

seen : (g : _) (c : After-push_reserved g) → story_in c.deref_mut-parts.result.now ≡ c.args.self.now
seen g c = story_there c.deref_mut-parts.ensures.value c.self.view_is

-- what the state's take says of the work
next : (g : _) (c : After-push_reserved g) → IsNext (run_state_of (before g c)) (item_of c.in-Some.work)
next g c = subst (λ (o : Option (Work g.row.B.Denot)). IfSome o (λ w. (a : RunState) → Stands c.deref_mut-parts.result.now.state a → IsNext a (item_of w))) c.in-Some.is c.in_ok-work.ensures.next (run_state_of (before g c)) (kept g c).stands

work : (g : _) (c : After-push_reserved g) → job_with g.B.Node.state c.in-Some.work ≡ job_of (world_of (before g c)) (item_of c.in-Some.work)
work g c = subst (λ (o : Option (Work g.row.B.Denot)). IfSome o (λ w. (a : RunState) → Stands c.deref_mut-parts.result.now.state a → job_with g.B.Node.state w ≡ job_of a.world (item_of w))) c.in-Some.is c.in_ok-work.ensures.work (run_state_of (before g c)) (kept g c).stands

stands : (g : _) (c : After-push_reserved g) → Stands c.take.new.self (with_taken (run_state_of (before g c)) (item_of c.in-Some.work).id.0 c.args.seat)
stands g c = subst (λ (o : Option (Work g.row.B.Denot)). IfSome o (λ w. (a : RunState) → Stands c.deref_mut-parts.result.now.state a → Stands c.take.new.self (with_taken a (item_of w).id.0 c.args.seat))) c.in-Some.is c.in_ok-work.ensures.after (run_state_of (before g c)) (kept g c).stands

-- the story then
grown : (g : _) (c : After-push_reserved g) → record (before g c) { journal = c.push_reserved.new.self.items } ≡ with_event (before g c) (Take c.args.seat (item_of c.in-Some.work).id)
grown g c =
    let items : c.push_reserved.new.self.items ≡ c.deref_mut-parts.result.now.journal.items ++ Take c.args.seat (item_of c.in-Some.work).id ∷ [] =
    c.push_reserved.ensures.items ∙ ap (λ (l : List Event). l ++ Take c.args.seat c.id.result ∷ []) c.reserve.ensures.items ∙ ap (λ (i : ItemId). c.deref_mut-parts.result.now.journal.items ++ Take c.args.seat i ∷ []) c.id.ensures in
    ap (λ (j : List Event). let s : Story = record (before g c) { journal = j } in s) items

open_ : (g : _) (c : After-push_reserved g) → (before g c).closed ≡ None
open_ g c =
    let runs : has_ended (story c.args.self.now) ≡ false = sym c.ended.ensures ∙ c.if-ended.false in
    open_story (before g c) (subst (λ (s : CoreStory). has_ended (story s) ≡ false) (sym (seen g c)) runs)

pub invariant_of-self-2 : goal.invariant_of-self-2
invariant_of-self-2 g c =
    let at = (goal.at.invariant_of-self-2 g c).After-push_reserved in
    let s = before g at in
    let item = item_of c.in-Some.work in
    let same = grown g at in
    let N = stands g at in
    let S = (kept g at).stands in
    let lt : c.args.seat < s.setting.seats = subst (λ (x : CoreStory). c.args.seat < x.seats) (sym (seen g at)) c.requires.seat in
    let idle : story_job s c.args.seat ≡ Idle = subst (λ (x : CoreStory). story_job (story x) c.args.seat ≡ Idle) (sym (seen g at)) c.requires.idle in
    let spent : (world_of (story c.args.self.now)).applies + length (run_state_of (story c.args.self.now)).taken < c.args.self.now.budget = grind (arith, c.is_spent.ensures, c.if-is_spent.false) in
    let within : (world_of s).applies + length (run_state_of s).taken < s.setting.budget = subst (λ (x : CoreStory). (world_of (story x)).applies + length (run_state_of (story x)).taken < x.budget) (sym (seen g at)) spent in
    let was : c.deref_mut-parts.result.now.state.pending.out ≡ length (run_state_of s).taken = S.items.out in
    let is : c.take.new.self.pending.out ≡ length (run_state_of s).taken + 1 = N.items.out ∙ omega (arith, length-append {A = Taken}) in
    record {
      sound = subst IsSoundStory (sym same) (take_keeps_sound s item c.args.seat (kept g at).sound (open_ g at) lt idle within (next g at));
      modest = (kept g at).modest;
      low = subst (λ (x : Story). IsLow (world_of x)) (sym same) (low_sound (with_event s (Take c.args.seat item.id)) (take_keeps_sound s item c.args.seat (kept g at).sound (open_ g at) lt idle within (next g at)) (kept g at).modest (open_ g at));
      some = (kept g at).some;
      stands = subst (λ (x : Story). Stands c.take.new.self (run_state_of x)) (sym same) (stands_pushed c.take.new.self s (Take c.args.seat item.id) N);
      room = λ z. let room = (kept g at).room z in grind (arith, common_steps);
    }

tells : (g : _) (c : After-push_reserved g) → Others c.args.seat (before g c) (with_event (before g c) (Take c.args.seat (item_of c.in-Some.work).id))
    × Gained c.args.seat (Take c.args.seat (item_of c.in-Some.work).id) (job_of (world_of (before g c)) (item_of c.in-Some.work)) (before g c) (with_event (before g c) (Take c.args.seat (item_of c.in-Some.work).id))
tells g c = take_tells (before g c) (item_of c.in-Some.work) c.args.seat (so_far (before g c) (kept g c).sound (open_ g c)) (next g c).may.pending

pub returns-clause-work : goal.returns-clause-work
returns-clause-work g c =
    let at = (goal.at.returns-clause-work g c).After-push_reserved in
    let own = subst (Gained c.args.seat (Take c.args.seat (item_of c.in-Some.work).id) (job_of (world_of (before g at)) (item_of c.in-Some.work)) (before g at)) (sym (grown g at)) (tells g at).1 in
    work g at ∙ sym (ap (λ (d : SeatDesk). d.job) own)

pub returns-clause-own : goal.returns-clause-own
returns-clause-own g c =
    let at = (goal.at.returns-clause-own g c).After-push_reserved in
    subst (λ (x : CoreStory). Gained c.args.seat (Take c.args.seat (item_of c.in-Some.work).id) (job_with g.B.Node.state c.in-Some.work) (story x) (record (before g at) { journal = c.push_reserved.new.self.items })) (seen g at)
    (subst (Gained c.args.seat (Take c.args.seat (item_of c.in-Some.work).id) (job_with g.B.Node.state c.in-Some.work) (before g at)) (sym (grown g at))
    (subst (λ (j : Job). Gained c.args.seat (Take c.args.seat (item_of c.in-Some.work).id) j (before g at) (with_event (before g at) (Take c.args.seat (item_of c.in-Some.work).id))) (sym (work g at)) (tells g at).1))

pub returns-clause-others : goal.returns-clause-others
returns-clause-others g c =
    let at = (goal.at.returns-clause-others g c).After-push_reserved in
    subst (λ (x : CoreStory). Others c.args.seat (story x) (record (before g at) { journal = c.push_reserved.new.self.items })) (seen g at)
    (subst (Others c.args.seat (before g at)) (sym (grown g at)) (tells g at).0)

pub returns-in_default-clause-none : goal.returns-in_default-clause-none
returns-in_default-clause-none g c =
    let view = story_there c.deref_mut-parts.ensures.value c.self.view_is in
    let none = subst (λ (o : Option (Work g.row.B.Denot)). IfNone o ((a : RunState) → Stands c.deref_mut-parts.result.now.state a → (item : Item) → MayTake a item → ⊥)) c.in_default.is c.in_ok-work.ensures.none in (
      ap (λ (j : List Event). let s : CoreStory = record (story_in c.deref_mut-parts.result.now) { journal = j } in s) c.reserve.ensures.items ∙ view,
      inr (inr (subst (λ (s : CoreStory). (item : Item) → MayTake (run_state_of (story s)) item → ⊥) view (none (run_state_of (story (story_in c.deref_mut-parts.result.now))) (kept_there c.deref_mut-parts.ensures.value c.self.invariant).stands))),
    )
