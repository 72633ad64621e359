use Rattle.std.proofs.Common.{◌≡◌, ◌+◌, length, map, arith}
use Rattle.std.proofs.lemmas.Grind.{common_steps}
use Rattle.ng_machine.specs.State.{kind_of}
use Rattle.ng_core_state.specs.declared.state.State.{State}
use Rattle.ng_core.proofs.Mapped.{map_length}
use Rattle.ng_core.proofs.Starting.{stands_begun}
use Rattle.ng_core.proofs.making.begin_state.Goals as goal

pub returns : goal.returns
returns g c =
    let kinds = map (λ b. kind_of (g.B.Node.state b)) c.args.stock.items in
    let state : State g.row.B.Denot = record { graph = c.in_ok-graph.graph; pending = c.in_ok-pending.pending; told = c.new-2.result; ports = c.in_ok-kept.kept } in
    let long = map_length (λ b. kind_of (g.B.Node.state b)) c.args.stock.items in
    let lists : length c.in_ok-pending.pending.queues.lists ≡ length kinds + 1 = let a = c.in_ok-pending.ensures.lists in let b = c.len.ensures in grind (arith, common_steps) in
    let holds = c.in_ok-pending.ensures.holds c.args.own c.args.ports.now kinds in
    stands_begun state c.args.own c.args.ports.now kinds c.requires.boxes c.in_ok-graph.ensures holds lists c.new-2.ensures.items c.in_ok-kept.ensures
