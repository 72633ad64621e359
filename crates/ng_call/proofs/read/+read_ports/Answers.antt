use Rattle.std.proofs.Common.{sym, ap, length}
use Rattle.ng_call.specs.Parts.{of_files}
use Rattle.ng_call.proofs.Ports.{memory_stops, none_stops, own_stops, later_stops, none_passes, later_passes, empty_is, some_is}
use Rattle.ng_call.proofs.read.+read_ports.Goals as goal

pub returns-in_default-push-clause-err : goal.returns-in_default-push-clause-err
returns-in_default-push-clause-err g t c =
    memory_stops (of_files (g.F.Files.contents c.args.files.now) (g.F.Files.contents c.args.files.now) (g.F.Files.faults c.args.files.now) (g.F.Files.faults c.args.files.now))
    c.args.port c.args.bytes c.args.packets c.args.ports.now

pub returns-in-Ok-read_ports-clause-ok : goal.returns-in-Ok-read_ports-clause-ok
returns-in-Ok-read_ports-clause-ok g t c =
    rw (c.in-Some.ensures.cases.0)
    (none_passes (g.F.Files.contents c.args.files.now) c.args.port c.args.bytes c.args.packets c.in-Some.word.now c.in-Some.others.now
    c.args.captures.now.items _ _ c.no_capture.result c.no_capture.ensures.kept c.no_capture.ensures.cut c.in-Ok.ensures.items
    (empty_is c.as_str-name.result.now _ c.as_str-name.ensures c.if-is_empty.ensures) c.in-Ok-read_ports.ensures.ok)

pub returns-in-Err-clause-err : goal.returns-in-Err-clause-err
returns-in-Err-clause-err g t c =
    rw (c.in-Some.ensures.cases.0)
    (none_stops (of_files (g.F.Files.contents c.args.files.now) (g.F.Files.contents c.read_ports.new.files) (g.F.Files.faults c.args.files.now) (g.F.Files.faults c.read_ports.new.files))
    c.args.port c.args.bytes c.args.packets c.in-Some.word.now c.in-Some.others.now c.in-Err.fault
    (empty_is c.as_str-name.result.now _ c.as_str-name.ensures c.if-is_empty.ensures) c.in-Err.ensures.err)

pub returns-in-Err-read_port_file-clause-err : goal.returns-in-Err-read_port_file-clause-err
returns-in-Err-read_port_file-clause-err g t c =
    rw (c.in-Some.ensures.cases.0)
    (own_stops (of_files (g.F.Files.contents c.args.files.now) (g.F.Files.contents c.read_port_file.new.files) (g.F.Files.faults c.args.files.now) (g.F.Files.faults c.read_port_file.new.files))
    c.args.port c.args.bytes c.args.packets c.in-Some.word.now c.in-Some.others.now c.in-Err-read_port_file.fault
    (some_is c.as_str-name.result.now _ c.as_str-name.ensures c.if-is_empty.ensures)
    (rw (sym c.as_str-name.ensures) c.in-Err-read_port_file.ensures.err))

pub returns-in_default-push-2-clause-err : goal.returns-in_default-push-2-clause-err
returns-in_default-push-2-clause-err g t c =
    memory_stops (of_files (g.F.Files.contents c.args.files.now) (g.F.Files.contents c.read_port_file.new.files) (g.F.Files.faults c.args.files.now) (g.F.Files.faults c.read_port_file.new.files))
    c.args.port c.args.bytes c.args.packets c.args.ports.now

pub returns-in-Ok-read_ports-2-clause-ok : goal.returns-in-Ok-read_ports-2-clause-ok
returns-in-Ok-read_ports-2-clause-ok g t c =
    rw (c.in-Some.ensures.cases.0)
    (later_passes (g.F.Files.contents c.args.files.now) (g.F.Files.contents c.read_port_file.new.files) (g.F.Files.contents c.read_ports-2.new.files)
    (g.F.Files.faults c.args.files.now) (g.F.Files.faults c.read_port_file.new.files) (g.F.Files.faults c.read_ports-2.new.files)
    c.in-Some.word.now c.in-Some.others.now c.args.port c.args.bytes c.args.packets c.in-Ok-read_port_file.read.1 _
    c.in-Ok-read_port_file.ensures.ok.0 c.in-Ok-read_port_file.read.0
    (some_is c.as_str-name.result.now _ c.as_str-name.ensures c.if-is_empty.ensures)
    c.in-Ok-read_port_file.ensures.same c.in-Ok-read_port_file.ensures.counts
    (rw (sym c.as_str-name.ensures) c.in-Ok-read_port_file.ensures.ok.1)
    (rw (sym c.as_str-name.ensures) c.in-Ok-read_port_file.ensures.ok.2)
    c.in-Ok-read_port_file.ensures.ok.3 (ap length c.as_slice.ensures) c.in-Ok-read_port_file.ensures.ok.4
    c.args.captures.now.items _ _ c.in-Ok-read_port_file.ensures.writable c.in-Ok-push.ensures.items c.in-Ok-read_ports-2.ensures.ok)

pub returns-in-Err-read_ports-clause-err : goal.returns-in-Err-read_ports-clause-err
returns-in-Err-read_ports-clause-err g t c =
    rw (c.in-Some.ensures.cases.0)
    (later_stops (g.F.Files.contents c.args.files.now) (g.F.Files.contents c.read_port_file.new.files) (g.F.Files.contents c.read_ports-2.new.files)
    (g.F.Files.faults c.args.files.now) (g.F.Files.faults c.read_port_file.new.files) (g.F.Files.faults c.read_ports-2.new.files)
    c.in-Some.word.now c.in-Some.others.now c.args.port c.args.bytes c.args.packets c.in-Ok-read_port_file.read.1 _
    c.in-Ok-read_port_file.ensures.ok.0 c.in-Ok-read_port_file.read.0
    (some_is c.as_str-name.result.now _ c.as_str-name.ensures c.if-is_empty.ensures)
    c.in-Ok-read_port_file.ensures.same c.in-Ok-read_port_file.ensures.counts
    (rw (sym c.as_str-name.ensures) c.in-Ok-read_port_file.ensures.ok.1)
    (rw (sym c.as_str-name.ensures) c.in-Ok-read_port_file.ensures.ok.2)
    c.in-Ok-read_port_file.ensures.ok.3 (ap length c.as_slice.ensures) c.in-Ok-read_port_file.ensures.ok.4
    c.in-Err-read_ports.fault c.in-Err-read_ports.ensures.err)
