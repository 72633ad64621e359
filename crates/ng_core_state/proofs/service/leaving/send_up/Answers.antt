use Rattle.std.proofs.Common.{◌<◌, length, arith}
use Rattle.ng_core_state.specs.service.Ports.{with_one_up}
use Rattle.ng_core_state.proofs.service.Ports.{ports_changed, takes_less}
use Rattle.ng_core_state.proofs.service.leaving.send_up.Goals as goal

pub returns-then-at-len-clause-ports : goal.returns-then-at-len-clause-ports
returns-then-at-len-clause-ports c =
    let lt : c.args.at < length c.args.ports.now.items = grind arith in
    ports_changed c.args.ports.now.items c.args.at c.index_mut.result.now c.count_up.new.port with_one_up lt c.index_mut.ensures.value c.count_up.ensures.port

pub returns-then-at-len-clause-room : goal.returns-then-at-len-clause-room
returns-then-at-len-clause-room c =
    let lt : c.args.at < length c.args.ports.now.items = grind arith in
    takes_less c.args.ports.now.items c.args.at c.index_mut.result.now c.count_up.new.port lt c.index_mut.ensures.value c.count_up.ensures.room
