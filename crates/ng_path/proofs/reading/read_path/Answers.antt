-- What the bytes are is one thing alone, so the answer that is so is the only one.
use Rattle.ng_path.proofs.Whole.{first_long, only_path, only_fault}
use Rattle.ng_path.proofs.reading.read_path.Goals as goal

pub returns-then-bytes-gt-MAX_PATH-clause-fault : goal.returns-then-bytes-gt-MAX_PATH-clause-fault
returns-then-bytes-gt-MAX_PATH-clause-fault c = only_fault c.args.bytes.now _ (first_long c.args.bytes.now c.if-bytes-gt-MAX_PATH.true)

pub returns-in-None-clause-path : goal.returns-in-None-clause-path
returns-in-None-clause-path c = only_path c.args.bytes.now c.read_local.result c.read_local.ensures

pub returns-in-None-clause-fault : goal.returns-in-None-clause-fault
returns-in-None-clause-fault c = only_fault c.args.bytes.now c.read_local.result c.read_local.ensures

pub returns-in-Some-clause-path : goal.returns-in-Some-clause-path
returns-in-Some-clause-path c =
    let whole = rw c.in-Some.is at c.cut.ensures.whole in
    rw whole (only_path _ c.read_absolute.result c.read_absolute.ensures)

pub returns-in-Some-clause-fault : goal.returns-in-Some-clause-fault
returns-in-Some-clause-fault c =
    let whole = rw c.in-Some.is at c.cut.ensures.whole in
    rw whole (only_fault _ c.read_absolute.result c.read_absolute.ensures)
