use Rattle.std.proofs.Common.{◌≡◌, ◌∙◌, ℕ, ◌+◌, Bool, List, map, refl, sym, ap, subst, arith}
use Rattle.ng_base.specs.declared.event.Event.{Event}
use Rattle.ng_machine.specs.declared.input.Input.{Input}
use Rattle.ng_machine.specs.LowRun.{IsLow, IsModest}
use Rattle.ng_machine.specs.Run.{beginning}
use Rattle.ng_machine.specs.World.{start_of}
use Rattle.ng_base.specs.declared.kind.Kind.{Kind}
use Rattle.ng_machine.specs.State.{kind_of}
use Rattle.ng_machine.specs.story.SoundStory.{IsSoundStory}
use Rattle.ng_machine.specs.story.Story.{run_state_of, world_of}
use Rattle.ng_machine.proofs.story.SoundStories.{begun_is_sound}
use Rattle.ng_core_state.specs.Stands.{Stands}
use Rattle.ng_core.specs.Beginning.{begun_core}
use Rattle.ng_core.specs.CoreStory.{CoreStory, setting_of, story}
use Rattle.ng_core.specs.Kept.{story_in}
use Rattle.ng_core.proofs.OpenStories.{low_sound}
use Rattle.ng_core.proofs.Reached.{kept_there}
use Rattle.ng_core.proofs.machine.Core.new.Goals as goal
use Rattle.ng_core.proofs.machine.Core.new.Goals.{In_ok-new}

-- the parts of a core that was just made
made : (x : CoreStory) (stock : List Kind) (inputs : List Input) (journal : List Event) (gave_up : List Bool) → stock ≡ x.stock → inputs ≡ x.inputs → journal ≡ x.journal → gave_up ≡ x.gave_up
    → x ≡ record x { stock = stock; inputs = inputs; journal = journal; gave_up = gave_up }
made x stock inputs journal gave_up s i j m =
    ap (λ (l : List Kind). let y : CoreStory = record x { stock = l } in y) (sym s)
    ∙ ap (λ (l : List Input). let y : CoreStory = record x { stock = stock; inputs = l } in y) (sym i)
    ∙ ap (λ (l : List Event). let y : CoreStory = record x { stock = stock; inputs = inputs; journal = l } in y) (sym j)
    ∙ ap (λ (l : List Bool). let y : CoreStory = record x { stock = stock; inputs = inputs; journal = journal; gave_up = l } in y) (sym m)

-- the story that it begins with
abbrev story_begun : (g : _) (c : In_ok-new g) → CoreStory
story_begun g c = begun_core c.args.own c.args.ports.items (map (λ b. kind_of (g.B.Node.state b)) c.args.stock.items) c.args.budget c.args.seats

is_begun : (g : _) (c : In_ok-new g) → story_begun g c ≡ record (story_begun g c) { stock = c.in_ok-kinds.kinds.items; inputs = c.new.result.items; journal = c.reserve.new.self.items; gave_up = c.in_ok-gave_up.gave_up.items }
is_begun g c =
    let same : c.in_ok-kinds.kinds.items ≡ (story_begun g c).stock = c.in_ok-kinds.ensures ∙ ap (map (λ b. kind_of (g.B.Node.state b))) c.deref.ensures.value in
    made (story_begun g c) c.in_ok-kinds.kinds.items c.new.result.items c.reserve.new.self.items c.in_ok-gave_up.gave_up.items same c.new.ensures.items (c.in_ok-reserve.ensures.items ∙ c.new-journal.ensures)
    (c.in_ok-gave_up.ensures.items_if_clones_equal (λ y e. e))

pub invariant_of-result : goal.invariant_of-result
invariant_of-result g c =
    let kinds = map (λ b. kind_of (g.B.Node.state b)) c.args.stock.items in
    let begun : CoreStory = story_begun g c in
    let is = is_begun g c in
    let stands : Stands c.in_ok-state.state (run_state_of (story begun)) =
    subst (λ (l : List (List ℕ)). Stands c.in_ok-state.state (beginning (start_of c.args.own l kinds))) c.deref-2.ensures.value c.in_ok-state.ensures in
    let modest : IsModest (setting_of begun) = record { budget = c.requires.budget; ports = c.requires.ports; commands = omega arith; fits = tt } in
    kept_there c.in_ok-new.ensures.ok
    (record {
      sound = subst (λ (z : CoreStory). IsSoundStory (story z)) is (begun_is_sound (setting_of begun) refl);
      modest = subst (λ (z : CoreStory). IsModest (setting_of z)) is modest;
      low = subst (λ (z : CoreStory). IsLow (world_of (story z))) is (low_sound (story begun) (begun_is_sound (setting_of begun) refl) modest refl);
      some = c.requires.seats;
      stands = subst (λ (z : CoreStory). Stands c.in_ok-state.state (run_state_of (story z))) is stands;
      room = λ z. let out = stands.items.out in let room = c.in_ok-reserve.ensures.room in omega arith;
    })

pub returns : goal.returns
returns g c = ap story_in c.in_ok-new.ensures.ok ∙ sym (is_begun g c)
