use Rattle.std.proofs.Common.{◌≡◌, ◌∙◌, List, [], ◌∷◌, ◌++◌, false, refl, sym, ap, subst, arith}
use Rattle.std.specs.declared.option.Option.TheVariants.{None}
use Rattle.ng_base.specs.declared.event.Event.{Event}
use Rattle.ng_base.specs.declared.event.Event.TheVariants.{Feed}
use Rattle.ng_machine.specs.declared.input.Input.{Input}
use Rattle.ng_machine.specs.Refusal.{feed_refusal}
use Rattle.ng_machine.specs.story.DeskLaws.{fed_desk}
use Rattle.ng_machine.specs.story.Desks.{Others, story_desk}
use Rattle.ng_machine.specs.story.SoundStory.{IsSoundStory}
use Rattle.ng_machine.specs.story.Story.{AreFitFor, has_ended, run_state_of, with_event, with_input, world_of}
use Rattle.ng_machine.proofs.story.OfDesks.{feed_tells}
use Rattle.ng_machine.proofs.story.SoundStories.{feed_keeps_sound, so_far}
use Rattle.ng_core_state.specs.Stands.{Stands}
use Rattle.ng_core.specs.CoreStory.{CoreStory, setting_of, story}
use Rattle.ng_machine.specs.LowRun.{IsLow, IsModest}
use Rattle.ng_core.specs.Kept.{IsKept, story_in}
use Rattle.ng_core.proofs.OpenStories.{low_sound, low_story, open_story}
use Rattle.ng_core.proofs.FedStories.{fed_run, fits_kept, given_with, tags_last}
use Rattle.ng_queue.specs.declared.tally.tally.Tally.{Tally}
use Rattle.ng_core.proofs.KeptPorts.{kept_count}
use Rattle.ng_core.proofs.Reached.{kept_there, story_there}
use Rattle.ng_core.proofs.machine.Core.feed.Goals as goal
use Rattle.ng_core.proofs.machine.Core.feed.Goals.{After-push_reserved-2, After-refusal, After-deref_mut-parts}

kept : (g : _) (c : After-deref_mut-parts g) → IsKept c.deref_mut-parts.result.now
kept g c = kept_there c.deref_mut-parts.ensures.value c.self.invariant

seen : (g : _) (c : After-deref_mut-parts g) → story_in c.deref_mut-parts.result.now ≡ c.args.self.now
seen g c = story_there c.deref_mut-parts.ensures.value c.self.view_is

is_open : (g : _) (c : After-deref_mut-parts g) → (story (story_in c.deref_mut-parts.result.now)).closed ≡ None
is_open g c = open_story (story (story_in c.deref_mut-parts.result.now)) (subst (λ (x : CoreStory). has_ended (story x) ≡ false) (sym (seen g c)) c.requires.running)

-- what the counts refuse the machine refuses
refusal : (g : _) (c : After-refusal g) (early : (story (story_in c.deref_mut-parts.result.now)).closed ≡ None) → c.refusal.result ≡ feed_refusal c.args.self.now.budget (world_of (story c.args.self.now)) c.args.input
refusal g c is_open =
    let K = kept_there c.deref_mut-parts.ensures.value c.self.invariant in
    c.refusal.ensures (run_state_of (story (story_in c.deref_mut-parts.result.now))) K.stands.items (tags_last (story_in c.deref_mut-parts.result.now) K.sound K.modest is_open)
    ∙ ap (λ (x : CoreStory). feed_refusal x.budget (world_of (story x)) c.args.input) (story_there c.deref_mut-parts.ensures.value c.self.view_is)

pub returns-in-Some-clause-cause : goal.returns-in-Some-clause-cause
returns-in-Some-clause-cause g c =
    let at = (goal.at.returns-in-Some-clause-cause g c).After-refusal in
    sym (refusal g at (is_open g (goal.at.returns-in-Some-clause-cause g c).After-deref_mut-parts)) ∙ c.in-Some.is

-- room alone is another
roomy : (x : CoreStory) (inputs : List Input) (journal : List Event) → inputs ≡ x.inputs → journal ≡ x.journal → x ≡ record x { inputs = inputs; journal = journal }
roomy x inputs journal i j = ap (λ (l : List Input). let y : CoreStory = record x { inputs = l } in y) (sym i) ∙ ap (λ (l : List Event). let y : CoreStory = record x { inputs = inputs; journal = l } in y) (sym j)

pub invariant_of-self : goal.invariant_of-self
invariant_of-self g c = kept g (goal.at.invariant_of-self g c).After-deref_mut-parts

pub invariant_of-self-in_default-make_room : goal.invariant_of-self-in_default-make_room
invariant_of-self-in_default-make_room g c =
    let K = kept_there c.deref_mut-parts.ensures.value c.self.invariant in
    let e = roomy (story_in c.deref_mut-parts.result.now) c.make_room.new.inputs.items c.make_room.new.journal.items c.make_room.ensures.inputs c.make_room.ensures.journal in
    let more = c.make_room.ensures.more in
    record {
      sound = subst (λ (x : CoreStory). IsSoundStory (story x)) e K.sound;
      modest = subst (λ (x : CoreStory). IsModest (setting_of x)) e K.modest;
      low = subst (λ (x : CoreStory). IsLow (world_of (story x))) e K.low;
      some = K.some;
      stands = subst (λ (x : CoreStory). Stands c.deref_mut-parts.result.now.state (run_state_of (story x))) e K.stands;
      room = λ z. let room = K.room z in omega arith;
    }

pub feed_input-requires-clause-standing : goal.feed_input-requires-clause-standing
feed_input-requires-clause-standing g c κs within =
    let first = (goal.at.feed_input-requires-clause-standing g c).After-deref_mut-parts in
    let K = kept g first in
    (run_state_of (story (story_in c.deref_mut-parts.result.now)), K.stands, low_story (story_in c.deref_mut-parts.result.now) K.sound K.modest (is_open g first))

pub feed_input-requires-clause-fits : goal.feed_input-requires-clause-fits
feed_input-requires-clause-fits g c κs within =
    fits_kept c.deref_mut-parts.result.now.state (story (story_in c.deref_mut-parts.result.now)) c.args.input (kept_there c.deref_mut-parts.ensures.value c.self.invariant).stands (subst (λ (x : CoreStory). AreFitFor (story x) (c.args.input ∷ [])) (sym (story_there c.deref_mut-parts.ensures.value c.self.view_is)) c.requires.fits)

pub invariant_of-self-in_default-feed_input : goal.invariant_of-self-in_default-feed_input
invariant_of-self-in_default-feed_input g c =
    let K = kept_there c.deref_mut-parts.ensures.value c.self.invariant in
    let e = roomy (story_in c.deref_mut-parts.result.now) c.make_room.new.inputs.items c.make_room.new.journal.items c.make_room.ensures.inputs c.make_room.ensures.journal in
    let more = c.make_room.ensures.more in
    let out = c.feed_input.ensures.out in
    record {
      sound = subst (λ (x : CoreStory). IsSoundStory (story x)) e K.sound;
      modest = subst (λ (x : CoreStory). IsModest (setting_of x)) e K.modest;
      low = subst (λ (x : CoreStory). IsLow (world_of (story x))) e K.low;
      some = K.some;
      stands = subst (λ (x : CoreStory). Stands c.feed_input.new.state (run_state_of (story x))) e (c.in_default-feed_input.ensures.err (run_state_of (story (story_in c.deref_mut-parts.result.now))) K.stands);
      room = λ z. let room = K.room z in omega arith;
    }

-- the story then
grown : (g : _) (c : After-push_reserved-2 g) → record (story_in c.deref_mut-parts.result.now) { inputs = c.push_reserved.new.self.items; journal = c.push_reserved-2.new.self.items }
    ≡ record (story_in c.deref_mut-parts.result.now) { inputs = c.deref_mut-parts.result.now.inputs.items ++ c.args.input ∷ []; journal = c.deref_mut-parts.result.now.journal.items ++ Feed ∷ [] }
grown g c =
    let inputs : c.push_reserved.new.self.items ≡ c.deref_mut-parts.result.now.inputs.items ++ c.args.input ∷ [] = c.push_reserved.ensures.items ∙ ap (λ (l : List Input). l ++ c.args.input ∷ []) c.make_room.ensures.inputs in
    let journal : c.push_reserved-2.new.self.items ≡ c.deref_mut-parts.result.now.journal.items ++ Feed ∷ [] = c.push_reserved-2.ensures.items ∙ ap (λ (l : List Event). l ++ Feed ∷ []) c.make_room.ensures.journal in
    ap (λ (l : List Input). let y : CoreStory = record (story_in c.deref_mut-parts.result.now) { inputs = l; journal = c.push_reserved-2.new.self.items } in y) inputs
    ∙ ap (λ (l : List Event). let y : CoreStory = record (story_in c.deref_mut-parts.result.now) { inputs = c.deref_mut-parts.result.now.inputs.items ++ c.args.input ∷ []; journal = l } in y) journal

pub invariant_of-self-2 : goal.invariant_of-self-2
invariant_of-self-2 g c =
    let view = story_there c.deref_mut-parts.ensures.value c.self.view_is in
    let K = kept_there c.deref_mut-parts.ensures.value c.self.invariant in
    let at = (goal.at.invariant_of-self-2 g c).After-push_reserved-2 in
    let early = is_open g (goal.at.invariant_of-self-2 g c).After-deref_mut-parts in
    let x = story_in c.deref_mut-parts.result.now in
    let s = story x in
    let none : feed_refusal s.setting.budget (world_of s) c.args.input ≡ None =
    ap (λ (z : CoreStory). feed_refusal z.budget (world_of (story z)) c.args.input) view ∙ sym (refusal g (goal.at.invariant_of-self-2 g c).After-refusal early) ∙ c.in_default.is in
    let N = c.in-Ok-feed_input.ensures.fed (run_state_of s) (given_with s c.args.input) refl K.stands in
    let room = c.in-Ok.ensures.room.1 in
    let out = c.feed_input.ensures.out in
    let left = c.push_reserved-2.ensures.room in
    record {
      sound = subst (λ (z : CoreStory). IsSoundStory (story z)) (sym (grown g at)) (feed_keeps_sound s c.args.input K.sound early none);
      modest = subst (λ (z : CoreStory). IsModest (setting_of z)) (sym (grown g at)) (subst (λ (z : CoreStory). AreFitFor (story z) (c.args.input ∷ [])) (sym view) c.requires.fits);
      low = subst (λ (z : CoreStory). IsLow (world_of (story z))) (sym (grown g at)) (low_sound (with_event (with_input s c.args.input) Feed) (feed_keeps_sound s c.args.input K.sound early none) (subst (λ (z : CoreStory). AreFitFor (story z) (c.args.input ∷ [])) (sym view) c.requires.fits) early);
      some = K.some;
      stands = subst (λ (z : CoreStory). Stands c.feed_input.new.state (run_state_of (story z))) (sym (grown g at)) (subst (Stands c.feed_input.new.state) (sym (fed_run s c.args.input K.sound early)) N);
      room = λ z. omega arith;
    }

pub returns-clause-may : goal.returns-clause-may
returns-clause-may g c =
    let at = (goal.at.returns-clause-may g c).After-refusal in
    sym (refusal g at (is_open g (goal.at.returns-clause-may g c).After-deref_mut-parts)) ∙ c.in_default.is

pub returns-clause-own : goal.returns-clause-own
returns-clause-own g c =
    let at = (goal.at.returns-clause-own g c).After-push_reserved-2 in
    let early = is_open g (goal.at.returns-clause-own g c).After-deref_mut-parts in
    let s = story (story_in c.deref_mut-parts.result.now) in
    ap (λ (z : CoreStory). story_desk (story z) 0) (grown g at) ∙ (feed_tells s c.args.input (so_far s (kept_there c.deref_mut-parts.ensures.value c.self.invariant).sound early)).1 ∙ ap (λ (z : CoreStory). fed_desk (story z) c.args.input) (story_there c.deref_mut-parts.ensures.value c.self.view_is)

pub returns-clause-others : goal.returns-clause-others
returns-clause-others g c =
    let at = (goal.at.returns-clause-others g c).After-push_reserved-2 in
    let early = is_open g (goal.at.returns-clause-others g c).After-deref_mut-parts in
    let s = story (story_in c.deref_mut-parts.result.now) in
    subst (λ (x : CoreStory). Others 0 (story x) (story (record (story_in c.deref_mut-parts.result.now) { inputs = c.push_reserved.new.self.items; journal = c.push_reserved-2.new.self.items }))) (story_there c.deref_mut-parts.ensures.value c.self.view_is)
    (subst (λ (z : CoreStory). Others 0 s (story z)) (sym (grown g at)) (feed_tells s c.args.input (so_far s (kept_there c.deref_mut-parts.ensures.value c.self.invariant).sound early)).0)

pub feed_input-requires-clause-few : goal.feed_input-requires-clause-few
feed_input-requires-clause-few g c κs within =
    let K = kept_there c.deref_mut-parts.ensures.value c.self.invariant in
    let count = kept_count c.deref_mut-parts.result.now.state (story (story_in c.deref_mut-parts.result.now)) K.stands in
    let few = K.modest.ports in
    omega arith

pub feed_input-requires-clause-fed : goal.feed_input-requires-clause-fed
feed_input-requires-clause-fed g c κs within =
    let K = kept_there c.deref_mut-parts.ensures.value c.self.invariant in
    let few = c.make_room.ensures.few in
    let fed = K.sound.fed in
    let tally : c.deref_mut-parts.result.now.state.pending.tally.fed ≡ (world_of (story (story_in c.deref_mut-parts.result.now))).fed = ap (λ (t : Tally). t.fed) K.stands.items.tally in
    omega arith
