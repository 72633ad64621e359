use Rattle.std.proofs.Common.{List, subst}
use Rattle.ng_args.specs.declared.port.PortWord.{PortWord}
use Rattle.ng_args.specs.declared.words.Source.TheVariants.{FromFiles}
use Rattle.ng_call.specs.Parts.{AllStop, of_files}
use Rattle.ng_trace_call.proofs.PlainTracing.{plain_stops}
use Rattle.ng_trace_call.proofs.reading.read_in.Goals as goal

pub returns-in-Err-clause-err : goal.returns-in-Err-clause-err
returns-in-Err-clause-err g c =
    rw c.replay_fault.ensures
    (plain_stops (of_files (g.F.Files.contents c.args.files.now) (g.F.Files.contents c.read_files.new.files) (g.F.Files.faults c.args.files.now) (g.F.Files.faults c.read_files.new.files))
    c.args.words.now c.in-Err.fault
    (subst (λ (ports : List PortWord). AllStop (of_files (g.F.Files.contents c.args.files.now) (g.F.Files.contents c.read_files.new.files) (g.F.Files.faults c.args.files.now) (g.F.Files.faults c.read_files.new.files))
    (FromFiles c.args.words.now.script ports) c.in-Err.fault)
    c.as_slice.ensures c.in-Err.ensures.err))
