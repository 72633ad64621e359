use Rattle.ng_journal.proofs.ReadBack.{read_was_written as proved}
use Rattle.ng_journal.proofs.laws.read_was_written.Goals as goal

pub returns : goal.returns
returns c = proved
