use Rattle.ng_call.specs.Called.{kinds_of}
use Rattle.ng_call.specs.Parts.{of_files}
use Rattle.ng_forecast.proofs.Reading.{as_many}
use Rattle.ng_forecast.proofs.Ending.{foretold, not_foretold, unread}
use Rattle.ng_forecast.proofs.top.foretell.Goals as goal

pub foretell_read-requires-clause-captures : goal.foretell_read-requires-clause-captures
foretell_read-requires-clause-captures g c κs within =
    as_many (g.F.Files.contents c.args.files.now) c.args.words.now c.in-Ok.read.script c.in-Ok.read.captures.items c.in-Ok.ensures.ok

pub returns-in-Ok-foretell_read-clause-ok : goal.returns-in-Ok-foretell_read-clause-ok
returns-in-Ok-foretell_read-clause-ok g c =
    foretold (kinds_of g.B.Node.state c.args.stock.items) (g.F.Files.contents c.args.files.now) c.args.words.now c.in-Ok.read.script c.in-Ok.read.captures.items
    c.in-Ok.ensures.ok c.in-Ok-foretell_read.bag c.in-Ok-foretell_read.ensures.ok

pub returns-in-Err-foretell_read-clause-err : goal.returns-in-Err-foretell_read-clause-err
returns-in-Err-foretell_read-clause-err g c =
    not_foretold (kinds_of g.B.Node.state c.args.stock.items) (g.F.Files.contents c.args.files.now) c.args.words.now c.in-Ok.read.script c.in-Ok.read.captures.items
    c.in-Ok.ensures.ok (g.F.Files.contents c.read_in.new.files) (g.F.Files.faults c.args.files.now) (g.F.Files.faults c.read_in.new.files)
    c.in-Err-foretell_read.fault c.in-Err-foretell_read.ensures.err

pub returns-in-Err-clause-err : goal.returns-in-Err-clause-err
returns-in-Err-clause-err g c =
    unread (kinds_of g.B.Node.state c.args.stock.items)
    (of_files (g.F.Files.contents c.args.files.now) (g.F.Files.contents c.read_in.new.files) (g.F.Files.faults c.args.files.now) (g.F.Files.faults c.read_in.new.files))
    c.args.words.now c.in-Err.fault c.in-Err.ensures.err
