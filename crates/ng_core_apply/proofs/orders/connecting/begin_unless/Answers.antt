use Rattle.std.proofs.Common.{Some}
use Rattle.ng_machine.specs.Connect.{connect_changes, connect_to, hook_refusal}
use Rattle.ng_machine.specs.Retire.{refuse}
use Rattle.ng_topology.proofs.NodeLemmas.{may_gets}
use Rattle.ng_core_state.specs.step.Steps.{world_at}
use Rattle.ng_core_apply.proofs.orders.Unless.{unless_free, unless_refused}
use Rattle.ng_core_apply.proofs.orders.Tables.{hook_answer, is_refused, no_refusal}
use Rattle.ng_core_state.proofs.step.Stepping.{may_as, node_here, on_ok, steps_as}
use Rattle.ng_core_apply.proofs.orders.connecting.begin_unless.Goals as goal

pub apply_refusal-requires-clause-work : goal.apply_refusal-requires-clause-work
apply_refusal-requires-clause-work g c κs within = may_as c.args.state.now c.args.item (λ a node. connect_to (world_at a c.args.item) c.args.item node (Some c.args.to.now.node) c.args.hook.now c.args.to.now.hook) (λ a node. refuse c.args.item.tag c.in-Err.errno) (λ a node I. unless_refused (hook_refusal node c.args.hook.now) c.in-Err.errno c.args.item.tag (connect_changes (world_at a c.args.item) c.args.item node c.args.to.now.node c.args.hook.now c.args.to.now.hook) (is_refused c.may.result c.in-Err.errno (hook_refusal node c.args.hook.now) c.in-Err.is (hook_answer node c.args.hook.now c.may.result (c.may.ensures node (node_here c.args.state.now c.args.item a node (connect_to (world_at a c.args.item) c.args.item node (Some c.args.to.now.node) c.args.hook.now c.args.to.now.hook) I))))) c.requires.work

pub returns-in-Err-clause-applied : goal.returns-in-Err-clause-applied
returns-in-Err-clause-applied g c = on_ok c.apply_refusal.result (steps_as c.args.state.now c.apply_refusal.new.state c.args.item (λ a node. connect_to (world_at a c.args.item) c.args.item node (Some c.args.to.now.node) c.args.hook.now c.args.to.now.hook) (λ a node. refuse c.args.item.tag c.in-Err.errno) (λ a node I. unless_refused (hook_refusal node c.args.hook.now) c.in-Err.errno c.args.item.tag (connect_changes (world_at a c.args.item) c.args.item node c.args.to.now.node c.args.hook.now c.args.to.now.hook) (is_refused c.may.result c.in-Err.errno (hook_refusal node c.args.hook.now) c.in-Err.is (hook_answer node c.args.hook.now c.may.result (c.may.ensures node (node_here c.args.state.now c.args.item a node (connect_to (world_at a c.args.item) c.args.item node (Some c.args.to.now.node) c.args.hook.now c.args.to.now.hook) I)))))) c.apply_refusal.ensures.applied

pub begin-requires-clause-work : goal.begin-requires-clause-work
begin-requires-clause-work g c κs within = may_as c.args.state.now c.args.item (λ a node. connect_to (world_at a c.args.item) c.args.item node (Some c.args.to.now.node) c.args.hook.now c.args.to.now.hook) (λ a node. connect_changes (world_at a c.args.item) c.args.item node c.args.to.now.node c.args.hook.now c.args.to.now.hook) (λ a node I. unless_free (hook_refusal node c.args.hook.now) c.args.item.tag (connect_changes (world_at a c.args.item) c.args.item node c.args.to.now.node c.args.hook.now c.args.to.now.hook) (no_refusal c.may.result (hook_refusal node c.args.hook.now) c.in-Ok.is (hook_answer node c.args.hook.now c.may.result (c.may.ensures node (node_here c.args.state.now c.args.item a node (connect_to (world_at a c.args.item) c.args.item node (Some c.args.to.now.node) c.args.hook.now c.args.to.now.hook) I))))) c.requires.work

pub begin-requires-clause-may : goal.begin-requires-clause-may
begin-requires-clause-may g c κs within = may_gets c.args.state.now.graph (record { node = c.args.item.to; hook = c.args.hook.now }) c.may.result c.in-Ok.is c.may.ensures

pub returns-in-Ok-clause-applied : goal.returns-in-Ok-clause-applied
returns-in-Ok-clause-applied g c = on_ok c.begin.result (steps_as c.args.state.now c.begin.new.state c.args.item (λ a node. connect_to (world_at a c.args.item) c.args.item node (Some c.args.to.now.node) c.args.hook.now c.args.to.now.hook) (λ a node. connect_changes (world_at a c.args.item) c.args.item node c.args.to.now.node c.args.hook.now c.args.to.now.hook) (λ a node I. unless_free (hook_refusal node c.args.hook.now) c.args.item.tag (connect_changes (world_at a c.args.item) c.args.item node c.args.to.now.node c.args.hook.now c.args.to.now.hook) (no_refusal c.may.result (hook_refusal node c.args.hook.now) c.in-Ok.is (hook_answer node c.args.hook.now c.may.result (c.may.ensures node (node_here c.args.state.now c.args.item a node (connect_to (world_at a c.args.item) c.args.item node (Some c.args.to.now.node) c.args.hook.now c.args.to.now.hook) I)))))) c.begin.ensures.applied
