-- Why an input isn't fed, by the numbers of the world.
use Rattle.std.specs.Prelude.{◌≡◌, ℕ, ◌&&◌, nat_lt, nat_le, [], ◌∷◌, Option, Some}
use Rattle.ng_machine.specs.declared.fed.Fed.{Fed}
use Rattle.ng_machine.specs.declared.fed.Fed.TheVariants.{Spent, Unsettled, NotQuiet, Window, Ticking}
use Rattle.ng_machine.specs.declared.input.Input.{Input}
use Rattle.ng_machine.specs.declared.item.Item.{Item}
use Rattle.ng_machine.specs.Words.{Has, first_refusal}
use Rattle.ng_machine.specs.World.{World}
use Rattle.ng_machine.specs.Orderly.{feeding_frames}
use Rattle.ng_machine.specs.Refusal.{feed_refusal, is_command, is_late, wants_window, is_tick_input}
use Rattle.ng_queue.specs.declared.tally.tally.Tally.{Tally}
use Rattle.ng_queue.specs.tally.Tally.{tally_of}

-- the first of these that holds
abbrev pub count_refusal : ℕ → Tally → Input → Option Fed
count_refusal budget t input = first_refusal (
    (nat_le budget t.applies, Spent t.applies)
    ∷ (is_command input && nat_lt 0 t.tagged, Unsettled t.command)
    ∷ (is_late input && nat_lt 0 t.pending, NotQuiet t.pending)
    ∷ (wants_window input && nat_le feeding_frames t.frames, Window t.frames)
    ∷ (is_tick_input input && nat_lt 0 t.ticks, Ticking t.ticks)
    ∷ [])

-- what commands wait for is the last command's
abbrev pub TagsAreLast : World → Type 0
TagsAreLast w = (item : Item) (tag : ℕ) → Has item w.pending → item.tag ≡ Some tag → tag ≡ w.command

-- the numbers say why
abbrev pub CountsRefuse : Type 0
CountsRefuse = (budget : ℕ) (w : World) (input : Input) → TagsAreLast w → count_refusal budget (tally_of w) input ≡ feed_refusal budget w input
