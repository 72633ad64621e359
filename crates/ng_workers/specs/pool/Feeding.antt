-- What feeding the next input does, or why it isn't fed.
use Rattle.std.specs.Prelude.{◌≡◌, Bool, false, List, [], ◌∷◌, Some}
use Rattle.ng_base.specs.declared.event.Event.TheVariants.{Feed}
use Rattle.ng_machine.specs.declared.fed.Fed.{Fed}
use Rattle.ng_machine.specs.declared.input.Input.{Input}
use Rattle.ng_machine.specs.Refusal.{feed_refusal}
use Rattle.ng_machine.specs.SetUp.{is_traffic}
use Rattle.ng_machine.specs.story.Story.{Story, with_event, with_input, world_of}

-- no input is left, or the machine doesn't feed the next one now
abbrev pub IsUnfed : Story → List Input → Type 0
IsUnfed s [] = Unit {0}
IsUnfed s (input ∷ inputs) = (why : Fed) × (feed_refusal s.setting.budget (world_of s) input ≡ Some why)

-- the story with the next input fed, and the inputs that are left then
abbrev pub IsFed : Story → List Input → Story → List Input → Type 0
IsFed s [] t left = ⊥
IsFed s (input ∷ inputs) t left = (t ≡ with_event (with_input s input) Feed) × (left ≡ inputs)

abbrev pub begins_with_traffic : List Input → Bool
begins_with_traffic [] = false
begins_with_traffic (input ∷ inputs) = is_traffic input
