use Rattle.std.proofs.Common.{◌∙◌, sym, ap}
use Rattle.ng_call.specs.Parts.{of_files}
use Rattle.ng_forecast.specs.Moving.{moving}
use Rattle.ng_forecast.proofs.Reading.{script_stops, moves, ports_stop, is_read_in}
use Rattle.ng_forecast.proofs.read.read_in.Goals as goal

pub returns-in-Err-clause-err : goal.returns-in-Err-clause-err
returns-in-Err-clause-err g c =
    rw c.fault_of.ensures
    (script_stops (of_files (g.F.Files.contents c.args.files.now) (g.F.Files.contents c.read_script_file.new.files) (g.F.Files.faults c.args.files.now) (g.F.Files.faults c.read_script_file.new.files))
    c.args.words.now c.in-Err.fault (rw (sym c.as_str.ensures) c.in-Err.ensures.err))

pub returns-in-Some-clause-err : goal.returns-in-Some-clause-err
returns-in-Some-clause-err g c =
    moves (g.F.Files.contents c.args.files.now) (g.F.Files.contents c.read_script_file.new.files) (g.F.Files.contents c.read_script_file.new.files)
    (g.F.Files.faults c.args.files.now) (g.F.Files.faults c.read_script_file.new.files) (g.F.Files.faults c.read_script_file.new.files)
    c.args.words.now c.in-Ok.read.script c.in-Ok.read.commands.items c.in-Ok.ensures.same c.in-Ok.ensures.counts
    (rw (sym c.as_str.ensures) c.in-Ok.ensures.ok) c.in-Some.command
    (ap moving (sym c.commands.ensures.commands) ∙ (sym c.moving.ensures ∙ c.in-Some.is))

pub returns-in-Ok-read_ports-clause-ok : goal.returns-in-Ok-read_ports-clause-ok
returns-in-Ok-read_ports-clause-ok g c =
    is_read_in (g.F.Files.contents c.args.files.now) (g.F.Files.contents c.read_script_file.new.files) (g.F.Files.contents c.read_ports.new.files)
    (g.F.Files.faults c.args.files.now) (g.F.Files.faults c.read_script_file.new.files) (g.F.Files.faults c.read_ports.new.files)
    c.args.words.now c.in-Ok.read.script c.in-Ok.read.commands.items c.in-Ok.ensures.same c.in-Ok.ensures.counts
    (rw (sym c.as_str.ensures) c.in-Ok.ensures.ok) c.new-captures.result.items c.read_ports.new.captures.items c.new-captures.ensures.items
    (ap moving (sym c.commands.ensures.commands) ∙ (sym c.moving.ensures ∙ c.in_default.is))
    (rw (sym c.as_slice.ensures) c.in-Ok-read_ports.ensures.ok)

pub returns-in-Err-read_ports-clause-err : goal.returns-in-Err-read_ports-clause-err
returns-in-Err-read_ports-clause-err g c =
    rw c.fault_of-in-Err-read_ports.ensures
    (ports_stop (g.F.Files.contents c.args.files.now) (g.F.Files.contents c.read_script_file.new.files) (g.F.Files.contents c.read_ports.new.files)
    (g.F.Files.faults c.args.files.now) (g.F.Files.faults c.read_script_file.new.files) (g.F.Files.faults c.read_ports.new.files)
    c.args.words.now c.in-Ok.read.script c.in-Ok.read.commands.items c.in-Ok.ensures.same c.in-Ok.ensures.counts
    (rw (sym c.as_str.ensures) c.in-Ok.ensures.ok) c.in-Err-read_ports.fault
    (ap moving (sym c.commands.ensures.commands) ∙ (sym c.moving.ensures ∙ c.in_default.is))
    (rw (sym c.as_slice.ensures) c.in-Err-read_ports.ensures.err))
