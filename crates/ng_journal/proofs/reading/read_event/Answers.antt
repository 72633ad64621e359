-- Four words or more say no event.
use Rattle.std.proofs.Common.{◌==◌, refl}
use Rattle.ng_journal.specs.Journal.{blank}
use Rattle.ng_journal.proofs.Splits.{some_part}
use Rattle.ng_journal.proofs.reading.read_event.Goals as goal

pub returns-in-Some-split_first-2 : goal.returns-in-Some-split_first-2
returns-in-Some-split_first-2 c =
    let last = some_part (λ b. b == blank) c.in-Some-split_first-2.field-0.1.now in
    rw (c.in-Some.ensures.parts, c.in-Some-split_first.ensures.parts, c.in-Some-split_first-2.ensures.parts, last.2) refl
