use Rattle.std.proofs.Common.{sym}
use Rattle.ng_call.specs.Parts.{of_files}
use Rattle.ng_call.proofs.Reading.{script_all, ports_all, passes_all}
use Rattle.ng_call.proofs.read.read_files.Goals as goal

pub returns-in-Err-clause-err : goal.returns-in-Err-clause-err
returns-in-Err-clause-err g c =
    script_all (of_files (g.F.Files.contents c.args.files.now) (g.F.Files.contents c.read_script_file.new.files) (g.F.Files.faults c.args.files.now) (g.F.Files.faults c.read_script_file.new.files))
    c.args.script.now c.args.ports.now c.in-Err.fault (rw (sym c.as_str.ensures) c.in-Err.ensures.err)

pub returns-in-Ok-read_ports-clause-ok : goal.returns-in-Ok-read_ports-clause-ok
returns-in-Ok-read_ports-clause-ok g c =
    passes_all (g.F.Files.contents c.args.files.now) (g.F.Files.contents c.read_script_file.new.files) (g.F.Files.contents c.read_ports.new.files)
    (g.F.Files.faults c.args.files.now) (g.F.Files.faults c.read_script_file.new.files) (g.F.Files.faults c.read_ports.new.files)
    c.args.script.now c.args.ports.now c.in-Ok.script.script c.in-Ok.script.commands.items c.in-Ok.ensures.same c.in-Ok.ensures.counts
    (rw (sym c.as_str.ensures) c.in-Ok.ensures.ok) c.new-captures.result.items c.read_ports.new.captures.items c.new-captures.ensures.items
    c.in-Ok-read_ports.ensures.ok

pub returns-in-Err-read_ports-clause-err : goal.returns-in-Err-read_ports-clause-err
returns-in-Err-read_ports-clause-err g c =
    ports_all (g.F.Files.contents c.args.files.now) (g.F.Files.contents c.read_script_file.new.files) (g.F.Files.contents c.read_ports.new.files)
    (g.F.Files.faults c.args.files.now) (g.F.Files.faults c.read_script_file.new.files) (g.F.Files.faults c.read_ports.new.files)
    c.args.script.now c.args.ports.now c.in-Ok.script.script c.in-Ok.script.commands.items c.in-Ok.ensures.same c.in-Ok.ensures.counts
    (rw (sym c.as_str.ensures) c.in-Ok.ensures.ok) c.in-Err-read_ports.fault c.in-Err-read_ports.ensures.err
