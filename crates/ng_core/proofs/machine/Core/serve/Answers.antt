use Rattle.std.proofs.Common.{◌≡◌, ◌∙◌, ◌+◌, ◌<◌, List, [], ◌∷◌, ◌++◌, length, false, sym, ap, subst, arith}
use Rattle.std.specs.Prelude.{IfSome}
use Rattle.std.specs.declared.option.Option.{Option}
use Rattle.std.specs.declared.option.Option.TheVariants.{None}
use Rattle.ng_core_state.specs.service.Work.{IsServed}
use Rattle.ng_base.specs.declared.event.Event.{Event}
use Rattle.ng_base.specs.declared.event.Event.TheVariants.{Apply, Take}
use Rattle.ng_base.specs.declared.ids.ItemId.{ItemId}
use Rattle.ng_machine.specs.Desk.{Idle}
use Rattle.ng_machine.specs.LowRun.{IsLow}
use Rattle.ng_machine.specs.Run.{RunState}
use Rattle.ng_machine.specs.story.Desks.{Others, story_job}
use Rattle.ng_machine.specs.story.SoundStory.{IsSoundStory}
use Rattle.ng_machine.specs.story.Story.{Story, has_ended, run_state_of, world_of}
use Rattle.ng_core_state.specs.Stands.{Stands}
use Rattle.ng_core.specs.CoreStory.{CoreStory, story}
use Rattle.ng_core.specs.Kept.{IsKept, story_in}
use Rattle.ng_core.specs.Served.{IsServedBy, served_story}
use Rattle.ng_core.proofs.OpenStories.{low_sound, low_story, open_story}
use Rattle.ng_core.proofs.Reached.{kept_there, story_there}
use Rattle.ng_core.proofs.ServedStories.{MayServe, out_served, serve_keeps_sound, serve_tells, stands_served}
use Rattle.ng_core.proofs.machine.Core.serve.Goals as goal
use Rattle.ng_core.proofs.machine.Core.serve.Goals.{After-push_reserved-2}

-- the story before
abbrev before : (g : _) (c : After-push_reserved-2 g) → Story
before g c = story (story_in c.deref_mut-parts.result.now)

kept : (g : _) (c : After-push_reserved-2 g) → IsKept c.deref_mut-parts.result.now
kept g c = kept_there c.deref_mut-parts.ensures.value c.self.invariant

seen : (g : _) (c : After-push_reserved-2 g) → story_in c.deref_mut-parts.result.now ≡ c.args.self.now
seen g c = story_there c.deref_mut-parts.ensures.value c.self.view_is

open_ : (g : _) (c : After-push_reserved-2 g) → (before g c).closed ≡ None
open_ g c =
    let runs : has_ended (story c.args.self.now) ≡ false = sym c.ended.ensures ∙ c.if-ended.false in
    open_story (before g c) (subst (λ (s : CoreStory). has_ended (story s) ≡ false) (sym (seen g c)) runs)

-- what the call below says of the item
served : (g : _) (c : After-push_reserved-2 g) → IsServed (run_state_of (before g c)) c.serve.new.state c.args.seat c.in-Some.id
served g c =
    subst (λ (o : Option ItemId). IfSome o (λ id. (a : RunState) → Stands c.deref_mut-parts.result.now.state a → IsLow a.world → IsServed a c.serve.new.state c.args.seat id)) c.in-Some.is c.in_ok-id.ensures.served
    (run_state_of (before g c)) (kept g c).stands (low_story (story_in c.deref_mut-parts.result.now) (kept g c).sound (kept g c).modest (open_ g c))

may : (g : _) (c : After-push_reserved-2 g) → MayServe (before g c) (served g c).item c.args.seat
may g c =
    let spent : (world_of (story c.args.self.now)).applies + length (run_state_of (story c.args.self.now)).taken < c.args.self.now.budget = grind (arith, c.is_spent.ensures, c.if-is_spent.false) in
    record {
      sound = (kept g c).sound;
      unclosed = open_ g c;
      seat_is = subst (λ (x : CoreStory). c.args.seat < x.seats) (sym (seen g c)) c.requires.seat;
      idle = subst (λ (x : CoreStory). story_job (story x) c.args.seat ≡ Idle) (sym (seen g c)) c.requires.idle;
      within = subst (λ (x : CoreStory). (world_of (story x)).applies + length (run_state_of (story x)).taken < x.budget) (sym (seen g c)) spent;
      next = (served g c).next;
    }

-- the story then
grown : (g : _) (c : After-push_reserved-2 g) → record (before g c) { journal = c.push_reserved-2.new.self.items } ≡ served_story (before g c) c.args.seat (served g c).item.id
grown g c =
    let items : c.push_reserved-2.new.self.items ≡ (c.deref_mut-parts.result.now.journal.items ++ Take c.args.seat c.in-Some.id ∷ []) ++ Apply c.in-Some.id ∷ [] =
    c.push_reserved-2.ensures.items ∙ ap (λ (l : List Event). l ++ Apply c.in-Some.id ∷ []) (c.push_reserved.ensures.items ∙ ap (λ (l : List Event). l ++ Take c.args.seat c.in-Some.id ∷ []) c.reserve.ensures.items) in
    ap (λ (j : List Event). let s : Story = record (before g c) { journal = j } in s) items
    ∙ ap (λ (id : ItemId). served_story (before g c) c.args.seat id) (sym (served g c).number)

pub invariant_of-self-2 : goal.invariant_of-self-2
invariant_of-self-2 g c =
    let at = (goal.at.invariant_of-self-2 g c).After-push_reserved-2 in
    let s = before g at in
    let item = (served g at).item in
    let sound = serve_keeps_sound s item c.args.seat (may g at) in
    let N = (served g at).stands in
    record {
      sound = subst IsSoundStory (sym (grown g at)) sound;
      modest = (kept g at).modest;
      low = subst (λ (x : Story). IsLow (world_of x)) (sym (grown g at)) (low_sound (served_story s c.args.seat item.id) sound (kept g at).modest (open_ g at));
      some = (kept g at).some;
      stands = subst (λ (x : Story). Stands c.serve.new.state (run_state_of x)) (sym (grown g at)) (stands_served c.serve.new.state s item c.args.seat N);
      room = λ z.
          let out = out_served c.deref_mut-parts.result.now.state c.serve.new.state (run_state_of s) item c.args.seat (kept g at).stands (served g at).next N in
          let room = c.in_ok-reserve.ensures.room in
          let first = c.push_reserved.ensures.room in
          let second = c.push_reserved-2.ensures.room in
          omega arith;
    }

pub returns-clause-idle : goal.returns-clause-idle
returns-clause-idle g c =
    let at = (goal.at.returns-clause-idle g c).After-push_reserved-2 in
    ap (λ (x : Story). story_job x c.args.seat) (grown g at) ∙ (serve_tells (before g at) (served g at).item c.args.seat (may g at)).1

pub returns-clause-others : goal.returns-clause-others
returns-clause-others g c =
    let at = (goal.at.returns-clause-others g c).After-push_reserved-2 in
    subst (λ (x : CoreStory). Others c.args.seat (story x) (record (before g at) { journal = c.push_reserved-2.new.self.items })) (seen g at)
    (subst (Others c.args.seat (before g at)) (sym (grown g at)) (serve_tells (before g at) (served g at).item c.args.seat (may g at)).0)

pub returns-clause-served : goal.returns-clause-served
returns-clause-served g c = λ e.
    let at = (goal.at.returns-clause-served g c).After-push_reserved-2 in
    let S = served g at in
    subst (λ (x : CoreStory). IsServedBy c.args.seat (story x) (record (before g at) { journal = c.push_reserved-2.new.self.items })) (seen g at)
    (record { item = S.item; next = S.next; plan = S.plan; job = S.job; story = grown g at })
