-- It is the header that is read of them.
use Rattle.ng_message.proofs.Headers.{header_at, IsHeader-header_at, header_bytes-header_at}
use Rattle.ng_message.proofs.laws.some_header.Goals as goal

pub returns : goal.returns
returns c = λ bytes long fits. (
  header_at bytes,
  IsHeader-header_at bytes long fits,
  header_bytes-header_at bytes long fits,
)
