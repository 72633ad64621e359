-- A line as it is written is read at once, and another one is cut off and read word by word.
use Rattle.ng_journal.proofs.Fronts.{written_first, cut_first}
use Rattle.ng_journal.proofs.reading.first_event.Goals as goal

pub returns-in-Some : goal.returns-in-Some
returns-in-Some c = written_first c.args.text.now c.in-Some.event c.in-Some.rest.now c.in-Some.ensures

pub returns : goal.returns
returns c = cut_first c.args.text.now c.in_ok-line.line.now c.in_ok-line.rest.now c.read_event.result c.in_ok-line.ensures.parts c.read_event.ensures c.in_ok-line.ensures.shorter
