-- The laws that hold of a core's journal, by its type: over every list of inputs that begins with those fed.
use Rattle.std.specs.Prelude.{List}
use Rattle.ng_machine.specs.declared.input.Input.{Input}
use Rattle.ng_machine.specs.Lawful.{KeepsLaws}
use Rattle.ng_machine.specs.story.Story.{Story, MayFollow, with_more}

abbrev pub IsLawful : Story → Type 0
IsLawful s = (more : List Input) → MayFollow s more → KeepsLaws (with_more s.setting more) s.journal
