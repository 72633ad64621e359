use Rattle.ng_journal.proofs.Written.{written_is_read as proved}
use Rattle.ng_journal.proofs.laws.written_is_read.Goals as goal

pub returns : goal.returns
returns c = proved
