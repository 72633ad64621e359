use Rattle.ng_trace_call.proofs.PlainTracing.{read_stops}
use Rattle.ng_trace_call.proofs.top.plain_words.Goals as goal

pub returns-in-Err : goal.returns-in-Err
returns-in-Err g c = read_stops _ _ _ _ _ _ _ _ c.in-Err.fault c.in-Err.ensures.same c.in-Err.ensures.err
