use Rattle.std.proofs.Common.{Some, sym, ◌∙◌}
use Rattle.ng_machine.specs.Connect.{connect, connect_to}
use Rattle.ng_machine.specs.Retire.{refuse}
use Rattle.ng_path.specs.Address.{read_address}
use Rattle.ng_core_state.specs.step.Steps.{world_at}
use Rattle.ng_core_apply.proofs.orders.Unless.{connect_found, connect_refused}
use Rattle.ng_core_state.proofs.step.Stepping.{may_as, on_ok, steps_as}
use Rattle.ng_core_apply.proofs.orders.connecting.apply_connect.Goals as goal

pub apply_refusal-requires-clause-work : goal.apply_refusal-requires-clause-work
apply_refusal-requires-clause-work g c κs within = may_as c.args.state.now c.args.item (λ a node. connect (world_at a c.args.item) c.args.item node (read_address c.args.address.now) c.args.ours.now c.args.theirs.now) (λ a node. refuse c.args.item.tag c.in-Err.errno) (λ a node I. connect_refused (world_at a c.args.item) c.args.item node (read_address c.args.address.now) c.args.ours.now c.args.theirs.now c.in-Err.errno (sym (c.find.ensures (world_at a c.args.item) (sym I.stands.graph.nodes)) ∙ c.in-Err.is)) c.requires.work

pub returns-in-Err-clause-applied : goal.returns-in-Err-clause-applied
returns-in-Err-clause-applied g c = on_ok c.apply_refusal.result (steps_as c.args.state.now c.apply_refusal.new.state c.args.item (λ a node. connect (world_at a c.args.item) c.args.item node (read_address c.args.address.now) c.args.ours.now c.args.theirs.now) (λ a node. refuse c.args.item.tag c.in-Err.errno) (λ a node I. connect_refused (world_at a c.args.item) c.args.item node (read_address c.args.address.now) c.args.ours.now c.args.theirs.now c.in-Err.errno (sym (c.find.ensures (world_at a c.args.item) (sym I.stands.graph.nodes)) ∙ c.in-Err.is))) c.apply_refusal.ensures.applied

pub begin_unless-requires-clause-work : goal.begin_unless-requires-clause-work
begin_unless-requires-clause-work g c κs within = may_as c.args.state.now c.args.item (λ a node. connect (world_at a c.args.item) c.args.item node (read_address c.args.address.now) c.args.ours.now c.args.theirs.now) (λ a node. connect_to (world_at a c.args.item) c.args.item node (Some c.in-Ok.peer) c.args.ours.now c.args.theirs.now) (λ a node I. connect_found (world_at a c.args.item) c.args.item node (read_address c.args.address.now) c.args.ours.now c.args.theirs.now c.in-Ok.peer (sym (c.find.ensures (world_at a c.args.item) (sym I.stands.graph.nodes)) ∙ c.in-Ok.is)) c.requires.work

pub returns-in-Ok-clause-applied : goal.returns-in-Ok-clause-applied
returns-in-Ok-clause-applied g c = on_ok c.begin_unless.result (steps_as c.args.state.now c.begin_unless.new.state c.args.item (λ a node. connect (world_at a c.args.item) c.args.item node (read_address c.args.address.now) c.args.ours.now c.args.theirs.now) (λ a node. connect_to (world_at a c.args.item) c.args.item node (Some c.in-Ok.peer) c.args.ours.now c.args.theirs.now) (λ a node I. connect_found (world_at a c.args.item) c.args.item node (read_address c.args.address.now) c.args.ours.now c.args.theirs.now c.in-Ok.peer (sym (c.find.ensures (world_at a c.args.item) (sym I.stands.graph.nodes)) ∙ c.in-Ok.is))) c.begin_unless.ensures.applied
