-- What is known of the inputs of a script and captures: the commands are the script's, the inputs fit a run, and times are
-- those of the captures.
use Rattle.std.specs.Prelude.{◌≡◌, ℕ, ◌≤◌, List, length, map}
use Rattle.ng_machine.specs.Bounds.{Fits}
use Rattle.ng_machine.specs.KnownRun.{FitsInput}
use Rattle.ng_machine.specs.LowRun.{most_commands}
use Rattle.ng_machine.specs.Refusal.{is_command}
use Rattle.ng_machine.specs.Words.{Every, times}
use Rattle.ngctl_script.specs.Held.{AreCommands}
use Rattle.ngctl_script.specs.feed.Early.{IsEarly}
use Rattle.ngctl_script.specs.feed.Inputs.{Timed, inputs_of}
use Rattle.ngctl_script.specs.feed.Merge.{Packets}
use Rattle.ngctl_print.specs.whole.Commands.{commands_in}
use Rattle.ng_laws.specs.printable.Printable.{AscendFrom, IsBefore, end_of_time}

-- SCRIPT: whatever captures there are, the commands among the inputs are those of the script, in order, and their
-- numbers ascend.
pub record AreOfScript (script : Timed) (captures : List Packets) : Type 0 where
  pub commands : commands_in (inputs_of script captures) ≡ map (λ timed. timed.1) script
  pub ascend : AscendFrom 0 (commands_in (inputs_of script captures))

abbrev pub InputsAreOfScript : Type 0
InputsAreOfScript = (script : Timed) (captures : List Packets) → AreCommands script → AreOfScript script captures

-- FIT: where no packet of the captures is too long, and there is a port for each capture, the inputs fit a run, and no more
-- commands are among them than may be.
pub record AreFitFor (script : Timed) (captures : List Packets) (ports : ℕ) : Type 0 where
  pub fit : Every (FitsInput ports) (inputs_of script captures)
  pub commands : times is_command (inputs_of script captures) ≤ most_commands

abbrev pub InputsAreFit : Type 0
InputsAreFit =
    (script : Timed) (captures : List Packets) (ports : ℕ) → AreCommands script → length captures ≤ ports
    → Every (λ (packets : Packets). Every (λ x. Fits x.1) packets) captures → AreFitFor script captures ports

-- TIMED: where each packet of the captures came before 2^32 seconds, so did each among the inputs.
abbrev pub InputsAreTimed : Type 0
InputsAreTimed =
    (script : Timed) (captures : List Packets) → Every (λ (packets : Packets). Every IsEarly packets) captures
    → Every (IsBefore end_of_time) (inputs_of script captures)
