use Rattle.std.proofs.Common.{◌∙◌, ℕ, ◌<◌, sym, ap, subst, length, arith}
use Rattle.ng_machine.specs.World.{Port}
use Rattle.ngctl_print.specs.whole.Captures.{capture_of}
use Rattle.ng_core.specs.CoreStory.{setting_of, story}
use Rattle.ng_core.proofs.PortCounts.{ports_stay}
use Rattle.ng_machine.specs.story.Story.{world_of}
use Rattle.ng_call.proofs.Ports.{empty_is, some_is}
use Rattle.ng_run.proofs.Writing.{port_is, skips, fails, whole, later}
use Rattle.ng_run.proofs.write.+write_outs.Goals as goal

pub returns-in-Ok-clause-ok : goal.returns-in-Ok-clause-ok
returns-in-Ok-clause-ok g t c = λ sink.
    let ports = (world_of (story c.args.core.now)).ports in
    let within : c.args.port < length ports = omega (arith, c.requires.there, c.in-Some.ensures.cases.1) in
    rw (c.in-Some.ensures.cases.0, skips c.args.port c.in-Some.word.now c.in-Some.others.now ports within (empty_is c.as_str-name.result.now _ c.as_str-name.ensures c.if-is_empty.ensures))
    (c.in-Ok.ensures.ok sink)

pub returns-in-Err-clause-err : goal.returns-in-Err-clause-err
returns-in-Err-clause-err g t c = λ sink.
    let ports = (world_of (story c.args.core.now)).ports in
    let within : c.args.port < length ports = omega (arith, c.requires.there, c.in-Some.ensures.cases.1) in
    rw (c.in-Some.ensures.cases.0, skips c.args.port c.in-Some.word.now c.in-Some.others.now ports within (empty_is c.as_str-name.result.now _ c.as_str-name.ensures c.if-is_empty.ensures))
    (c.in-Err.ensures.err sink)

pub returns-in-Err-write_file-clause-err : goal.returns-in-Err-write_file-clause-err
returns-in-Err-write_file-clause-err g t c = λ sink.
    let ports = (world_of (story c.args.core.now)).ports in
    let within : c.args.port < length ports = omega (arith, c.requires.there, c.in-Some.ensures.cases.1) in
    rw (c.in-Some.ensures.cases.0)
    (fails c.args.port c.in-Some.word.now c.in-Some.others.now ports within sink (g.F.Files.contents c.args.files.now) (g.F.Files.contents c.write_file.new.files)
    (rw (sym c.as_str-name.ensures) c.in-Err-write_file.ensures.others)
    (some_is c.as_str-name.result.now _ c.as_str-name.ensures c.if-is_empty.ensures)
    (g.F.Files.faults c.args.files.now) (g.F.Files.faults c.write_file.new.files) c.deref.result.now
    (c.deref.ensures.value ∙ c.in-Ok-capture_text.ensures ∙ ap capture_of (c.leaving.ensures ∙ ap (λ (p : Port). p.leaving) (port_is c.args.port ports within)))
    (rw (sym c.as_str-name.ensures) c.in-Err-write_file.ensures.stopped)
    (rw (sym c.as_str-name.ensures) c.in-Err-write_file.ensures.cause))

pub returns-in-Ok-write_outs-clause-ok : goal.returns-in-Ok-write_outs-clause-ok
returns-in-Ok-write_outs-clause-ok g t c = λ sink.
    let ports = (world_of (story c.args.core.now)).ports in
    let within : c.args.port < length ports = omega (arith, c.requires.there, c.in-Some.ensures.cases.1) in
    rw (c.in-Some.ensures.cases.0)
    (whole c.args.port c.in-Some.word.now c.in-Some.others.now ports within sink (g.F.Files.contents c.args.files.now) (g.F.Files.contents c.write_file.new.files)
    (rw (sym c.as_str-name.ensures) c.in_default-write_file.ensures.others)
    (some_is c.as_str-name.result.now _ c.as_str-name.ensures c.if-is_empty.ensures)
    (g.F.Files.contents c.write_outs-2.new.files) c.deref.result.now
    (c.deref.ensures.value ∙ c.in-Ok-capture_text.ensures ∙ ap capture_of (c.leaving.ensures ∙ ap (λ (p : Port). p.leaving) (port_is c.args.port ports within)))
    (rw (sym c.as_str-name.ensures) c.in_default-write_file.ensures.whole)
    (c.in-Ok-write_outs.ensures.ok sink))

pub returns-clause-err : goal.returns-clause-err
returns-clause-err g t c = λ sink.
    let ports = (world_of (story c.args.core.now)).ports in
    let within : c.args.port < length ports = omega (arith, c.requires.there, c.in-Some.ensures.cases.1) in
    rw (c.in-Some.ensures.cases.0)
    (later c.args.port c.in-Some.word.now c.in-Some.others.now ports within sink (g.F.Files.contents c.args.files.now) (g.F.Files.contents c.write_file.new.files)
    (rw (sym c.as_str-name.ensures) c.in_default-write_file.ensures.others)
    (some_is c.as_str-name.result.now _ c.as_str-name.ensures c.if-is_empty.ensures)
    (g.F.Files.contents c.write_outs-2.new.files) c.deref.result.now
    (c.deref.ensures.value ∙ c.in-Ok-capture_text.ensures ∙ ap capture_of (c.leaving.ensures ∙ ap (λ (p : Port). p.leaving) (port_is c.args.port ports within)))
    (rw (sym c.as_str-name.ensures) c.in_default-write_file.ensures.whole)
    (g.F.Files.faults c.args.files.now) (g.F.Files.faults c.write_file.new.files) (g.F.Files.faults c.write_outs-2.new.files) c.in-Err-write_outs.fault
    c.in_default-write_file.ensures.counts
    (c.in-Err-write_outs.ensures.err sink))

pub leaving-requires-after_bounds : goal.leaving-requires-after_bounds
leaving-requires-after_bounds g t c κs within =
    let within : c.args.port < length (world_of (story c.args.core.now)).ports = omega (arith, c.requires.there, c.in-Some.ensures.cases.1) in
    subst (λ (n : ℕ). c.args.port < n) (ports_stay (setting_of c.args.core.now) c.args.core.now.journal) within
