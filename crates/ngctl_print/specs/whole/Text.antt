-- The whole text of a run: all that is told, the summary, and a line for each port.
use Rattle.std.specs.Prelude.{ℕ, Bool, List, [], ◌∷◌, ◌++◌, Option}
use Rattle.std.specs.List.{flat_map}
use Rattle.ng_machine.specs.declared.command.Command.{Command}
use Rattle.ng_machine.specs.declared.told.Told.{Told}
use Rattle.ng_machine.specs.Totals.{totals_of, port_totals_of}
use Rattle.ng_machine.specs.World.{World, Port}
use Rattle.ngctl_print.specs.Text.{summary_text}
use Rattle.ngctl_print.specs.Ports.{port_line}
use Rattle.ngctl_print.specs.declared.whole.report.Summary.{Summary}
use Rattle.ngctl_print.specs.declared.whole.report.PortReport.{PortReport}
use Rattle.ngctl_print.specs.whole.Told.{told_text}

abbrev pub summary_of : Summary → List ℕ
summary_of summary = summary_text summary.totals summary.fed summary.of summary.stopped

abbrev pub report_line : PortReport → List ℕ
report_line port = port_line port.name port.totals port.cut

abbrev pub text_of : List Command → List Told → Summary → List PortReport → List ℕ
text_of commands told summary ports = flat_map (told_text commands) told ++ (summary_of summary ++ flat_map report_line ports)

-- The same of a world

-- a port as it was asked for: its name, and where its capture was cut
pub record PortShown : Type 0 where
  pub name : List ℕ
  pub cut : Option ℕ

-- the ports in order
abbrev pub reports : List PortShown → List Port → List PortReport
reports [] ports = []
reports (shown ∷ others) [] = []
reports (shown ∷ others) (port ∷ ports) = record { name = shown.name; totals = port_totals_of port; cut = shown.cut } ∷ reports others ports

-- `of` is the number of inputs
abbrev pub summary_in : World → ℕ → Bool → Summary
summary_in w of stopped = record { totals = totals_of w; fed = w.fed; of = of; stopped = stopped }

abbrev pub world_text : List Command → List PortShown → ℕ → World → Bool → List ℕ
world_text commands shown of w stopped = text_of commands w.told (summary_in w of stopped) (reports shown w.ports)
