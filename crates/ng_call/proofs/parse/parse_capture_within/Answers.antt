use Rattle.ng_call.proofs.Captures.{kept_writable}
use Rattle.ng_call.proofs.parse.parse_capture_within.Goals as goal

pub returns-clause-writable : goal.returns-clause-writable
returns-clause-writable c =
    kept_writable c.args.bytes.items c.in_ok-capture.capture c.in_ok-capture.ensures.bytes c.in_ok-capture.ensures.read
