use Rattle.std.proofs.Common.{[], ◌∷◌, Some, sym}
use Rattle.ng_machine.specs.Change.{Sets}
use Rattle.ng_machine.specs.Generic.{rename, rename_refusal}
use Rattle.ng_machine.specs.Retire.{refuse}
use Rattle.ng_machine.specs.World.{NodeRecord}
use Rattle.ng_core_state.specs.step.Steps.{world_at}
use Rattle.ng_core_apply.proofs.orders.Unless.{unless_free, unless_refused}
use Rattle.ng_core_apply.proofs.orders.Tables.{is_refused, no_refusal}
use Rattle.ng_core_state.proofs.step.Stepping.{may_as, node_here, on_ok, steps_as}
use Rattle.ng_core_apply.proofs.orders.making.apply_rename.Goals as goal

pub apply_refusal-requires-clause-work : goal.apply_refusal-requires-clause-work
apply_refusal-requires-clause-work g c κs within = may_as c.args.state.now c.args.item (λ a node. rename (world_at a c.args.item) c.args.item node c.args.name) (λ a node. refuse c.args.item.tag c.in-Err.errno) (λ a node I. unless_refused (rename_refusal (world_at a c.args.item) node c.args.name) c.in-Err.errno c.args.item.tag (Sets (record node { name = Some c.args.name }) ∷ []) (is_refused c.may_rename.result c.in-Err.errno (rename_refusal (world_at a c.args.item) node c.args.name) c.in-Err.is (c.may_rename.ensures.answer (world_at a c.args.item) node (sym I.stands.graph.nodes) (node_here c.args.state.now c.args.item a node (rename (world_at a c.args.item) c.args.item node c.args.name) I)))) c.requires.work

pub returns-in-Err-clause-applied : goal.returns-in-Err-clause-applied
returns-in-Err-clause-applied g c = on_ok c.apply_refusal.result (steps_as c.args.state.now c.apply_refusal.new.state c.args.item (λ a node. rename (world_at a c.args.item) c.args.item node c.args.name) (λ a node. refuse c.args.item.tag c.in-Err.errno) (λ a node I. unless_refused (rename_refusal (world_at a c.args.item) node c.args.name) c.in-Err.errno c.args.item.tag (Sets (record node { name = Some c.args.name }) ∷ []) (is_refused c.may_rename.result c.in-Err.errno (rename_refusal (world_at a c.args.item) node c.args.name) c.in-Err.is (c.may_rename.ensures.answer (world_at a c.args.item) node (sym I.stands.graph.nodes) (node_here c.args.state.now c.args.item a node (rename (world_at a c.args.item) c.args.item node c.args.name) I))))) c.apply_refusal.ensures.applied

pub rename-requires-clause-work : goal.rename-requires-clause-work
rename-requires-clause-work g c κs within = may_as c.args.state.now c.args.item (λ a node. rename (world_at a c.args.item) c.args.item node c.args.name) (λ a (node : NodeRecord). Sets (record node { name = Some c.args.name }) ∷ []) (λ a node I. unless_free (rename_refusal (world_at a c.args.item) node c.args.name) c.args.item.tag (Sets (record node { name = Some c.args.name }) ∷ []) (no_refusal c.may_rename.result (rename_refusal (world_at a c.args.item) node c.args.name) c.in-Ok.is (c.may_rename.ensures.answer (world_at a c.args.item) node (sym I.stands.graph.nodes) (node_here c.args.state.now c.args.item a node (rename (world_at a c.args.item) c.args.item node c.args.name) I)))) c.requires.work

pub returns-in-Ok-clause-applied : goal.returns-in-Ok-clause-applied
returns-in-Ok-clause-applied g c = on_ok c.rename.result (steps_as c.args.state.now c.rename.new.state c.args.item (λ a node. rename (world_at a c.args.item) c.args.item node c.args.name) (λ a (node : NodeRecord). Sets (record node { name = Some c.args.name }) ∷ []) (λ a node I. unless_free (rename_refusal (world_at a c.args.item) node c.args.name) c.args.item.tag (Sets (record node { name = Some c.args.name }) ∷ []) (no_refusal c.may_rename.result (rename_refusal (world_at a c.args.item) node c.args.name) c.in-Ok.is (c.may_rename.ensures.answer (world_at a c.args.item) node (sym I.stands.graph.nodes) (node_here c.args.state.now c.args.item a node (rename (world_at a c.args.item) c.args.item node c.args.name) I))))) c.rename.ensures.applied
