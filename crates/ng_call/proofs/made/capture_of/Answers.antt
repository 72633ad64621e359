use Rattle.ng_call.proofs.Captures.{kept_writable}
use Rattle.ng_call.proofs.made.capture_of.Goals as goal

pub returns-in-Ok-clause-writable : goal.returns-in-Ok-clause-writable
returns-in-Ok-clause-writable c = kept_writable c.args.bytes.items c.in-Ok.capture c.in-Ok.ensures.bytes c.in-Ok.ensures.read
