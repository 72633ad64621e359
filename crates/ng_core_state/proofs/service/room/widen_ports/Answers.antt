use Rattle.std.proofs.Common.{◌<◌, length, arith}
use Rattle.ng_core_state.proofs.service.Ports.{ports_widened}
use Rattle.ng_core_state.proofs.service.room.widen_ports.Goals as goal

pub returns-clause-same : goal.returns-clause-same
returns-clause-same c =
    let lt : c.args.at < length c.args.ports.now.items = grind arith in
    ports_widened c.args.ports.now.items c.args.at c.index_mut.result.now c.widen_leaving.new.port lt c.index_mut.ensures.value c.widen_leaving.ensures.same
