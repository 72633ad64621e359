use Rattle.std.proofs.Common.{List, length, ap, arith}
use Rattle.ng_queue.specs.declared.pending.pending.Pending.{Pending}
use Rattle.ng_queue.specs.declared.entry.Entry.{Entry}
use Rattle.ng_queue.specs.Queues.{list_at, spare_at}
use Rattle.ng_core_apply.proofs.removal.Following.{on_any, on_ok}
use Rattle.ng_core_apply.proofs.removal.Rooms.{fewer_wait, undoes_waiting}
use Rattle.ng_core_apply.proofs.removal.room.widen_for_drops.Goals as goal

pub returns-clause-room : goal.returns-clause-room
returns-clause-room g c = on_any c.widen_told.result (λ m lt.
    let room = c.in_ok-widen_entries.ensures.room m lt in
    let same = undoes_waiting (list_at c.args.state.now.pending.queues.lists c.args.at.0) m in
    let kept = ap (λ (p : Pending). spare_at p.queues.spares m) c.widen_told.ensures.pending in
    omega arith)

pub returns-clause-told : goal.returns-clause-told
returns-clause-told g c = on_ok c.widen_told.result (λ room.
    let all = c.len-count.ensures in
    let same = ap (λ (l : List Entry). length l) c.entries.ensures in
    let less = fewer_wait (list_at c.args.state.now.pending.queues.lists c.args.at.0) in
    omega arith) c.widen_told.ensures.room
