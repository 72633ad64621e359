use Rattle.std.proofs.Common.{◌<◌, length, arith}
use Rattle.ng_core_state.specs.service.Ports.{with_packet}
use Rattle.ng_core_state.proofs.service.Ports.{ports_changed, takes_less}
use Rattle.ng_core_state.proofs.service.leaving.send_out.Goals as goal

pub returns-then-at-len-clause-ports : goal.returns-then-at-len-clause-ports
returns-then-at-len-clause-ports c =
    let lt : c.args.at < length c.args.ports.now.items = grind arith in
    ports_changed c.args.ports.now.items c.args.at c.index_mut.result.now c.push_leaving.new.port (with_packet c.args.stamp c.args.packet) lt c.index_mut.ensures.value c.push_leaving.ensures.port

pub returns-then-at-len-clause-room : goal.returns-then-at-len-clause-room
returns-then-at-len-clause-room c =
    let lt : c.args.at < length c.args.ports.now.items = grind arith in
    takes_less c.args.ports.now.items c.args.at c.index_mut.result.now c.push_leaving.new.port lt c.index_mut.ensures.value c.push_leaving.ensures.room
