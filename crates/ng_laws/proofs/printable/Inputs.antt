-- Inputs of a script and captures: their times, and that they fit.
use Rattle.std.proofs.Common.{◌≡◌, ℕ, ◌+◌, List, [], ◌∷◌, length, refl, sym, ap, subst, arith}
use Rattle.std.proofs.lemmas.List.{length-map}
use Rattle.ng_machine.specs.declared.input.Input.{Input}
use Rattle.ng_machine.specs.declared.input.Input.TheVariants.{Command as Fed, Late as FedLate, Packet, Tick}
use Rattle.ng_machine.specs.Bounds.{Fits}
use Rattle.ng_machine.specs.Feed.{request_of}
use Rattle.ng_machine.specs.KnownRun.{FitsInput, FitsRequest}
use Rattle.ng_machine.specs.Refusal.{is_command}
use Rattle.ng_machine.specs.Words.{Every, times}
use Rattle.ng_machine.proofs.Every.{every_imply}
use Rattle.ngctl_script.specs.Held.{AreFrom}
use Rattle.ngctl_script.specs.declared.feed.arrival.Arrival.{Arrival}
use Rattle.ngctl_script.specs.feed.Inputs.{Timed, packet_input, inputs_of}
use Rattle.ngctl_script.specs.feed.Merge.{merged}
use Rattle.ngctl_script.specs.feed.Early.{IsEarly}
use Rattle.ngctl_print.specs.whole.Commands.{commands_in}
use Rattle.ng_laws.specs.printable.Printable.{IsBefore, end_of_time}
use Rattle.ng_laws.specs.printable.Scripts.{InputsAreFit, InputsAreTimed}
use Rattle.ng_laws.proofs.printable.Captured.{Meets, arrivals_meet, inputs_are, IsFit}
use Rattle.ng_laws.proofs.printable.FitLines.{line_asks_fit}
use Rattle.ng_laws.proofs.printable.OfScript.{inputs_are_of_script}

-- Times

no_times : (script : Timed) → Every (IsFit (IsBefore end_of_time)) script
no_times [] = tt
no_times (timed ∷ script) = ((tt, tt), no_times script)

pub inputs_are_timed : InputsAreTimed
inputs_are_timed script captures early =
    let ports = length captures in
    inputs_are (IsBefore end_of_time) (λ n. tt) script (no_times script) (merged captures)
    (every_imply (Meets IsEarly ports) (λ (a : Arrival). IsBefore end_of_time (packet_input a)) (λ a meets. meets.0) (merged captures)
    (arrivals_meet IsEarly ports captures (omega arith) early))

-- Fit

lines_fit : (ports n : ℕ) (script : Timed) → AreFrom n script → Every (IsFit (FitsInput ports)) script
lines_fit ports n [] from = tt
lines_fit ports n (timed ∷ script) from =
    let one : FitsRequest (request_of timed.1.what) =
    subst (λ what. FitsRequest (request_of what)) (sym from.1.asked) (line_asks_fit timed.1.line from.1.short) in
    ((one, one), lines_fit ports (n + 1) script from.2)

commands_count : (inputs : List Input) → times is_command inputs ≡ length (commands_in inputs)
commands_count [] = refl
commands_count (Fed command ∷ inputs) = omega (arith, commands_count inputs)
commands_count (FedLate command ∷ inputs) = omega (arith, commands_count inputs)
commands_count (Packet port stamp packet ∷ inputs) = omega (arith, commands_count inputs)
commands_count (Tick seconds ∷ inputs) = omega (arith, commands_count inputs)

pub inputs_are_fit : InputsAreFit
inputs_are_fit script captures ports are within short = record {
  fit = inputs_are (FitsInput ports) (λ n. tt) script (lines_fit ports 1 script are.each) (merged captures)
      (every_imply (Meets (λ x. Fits x.1) ports) (λ (a : Arrival). FitsInput ports (packet_input a)) (λ a meets. (meets.1, meets.0)) (merged captures)
      (arrivals_meet (λ x. Fits x.1) ports captures within short));
  commands = let same = (inputs_are_of_script script captures are).commands in
      let few = are.few in
      omega (arith, commands_count (inputs_of script captures), ap length same, length-map script (λ timed. timed.1));
}
