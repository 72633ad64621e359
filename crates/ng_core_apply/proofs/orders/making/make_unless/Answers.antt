use Rattle.std.proofs.Common.{Some, List, sym, ap, ◌∙◌}
use Rattle.ng_base.specs.declared.kind.Kind.{Kind}
use Rattle.ng_machine.specs.Generic.{makes, mkpeer, mkpeer_refusal}
use Rattle.ng_machine.specs.Retire.{refuse}
use Rattle.ng_machine.specs.Rules.{accepts_hook, is_fixed}
use Rattle.ng_machine.specs.Stock.{has_kind}
use Rattle.ng_machine.specs.World.{has_hook, kind_at}
use Rattle.ng_core_state.specs.step.Steps.{world_at}
use Rattle.ng_core_apply.proofs.orders.Unless.{unless_free, unless_refused}
use Rattle.ng_core_apply.proofs.orders.Tables.{is_refused, made_may, no_refusal}
use Rattle.ng_core_state.proofs.step.Stepping.{may_as, node_here, on_ok, steps_as}
use Rattle.ng_core_apply.proofs.orders.making.make_unless.Goals as goal

pub apply_refusal-requires-clause-work : goal.apply_refusal-requires-clause-work
apply_refusal-requires-clause-work g c κs within = may_as c.args.state.now c.args.item (λ a node. mkpeer (world_at a c.args.item) c.args.item node (Some c.args.kind) c.args.ours.now c.args.theirs.now) (λ a node. refuse c.args.item.tag c.in-Err.errno) (λ a node I. unless_refused (mkpeer_refusal (world_at a c.args.item) node c.args.kind c.args.ours.now c.args.theirs.now) c.in-Err.errno c.args.item.tag (makes (world_at a c.args.item) c.args.item node c.args.kind c.args.ours.now c.args.theirs.now) (is_refused c.may_make.result c.in-Err.errno (mkpeer_refusal (world_at a c.args.item) node c.args.kind c.args.ours.now c.args.theirs.now) c.in-Err.is (c.may_make.ensures (world_at a c.args.item) node (sym I.stands.graph.stock) (node_here c.args.state.now c.args.item a node (mkpeer (world_at a c.args.item) c.args.item node (Some c.args.kind) c.args.ours.now c.args.theirs.now) I)))) c.requires.work

pub returns-in-Err-clause-applied : goal.returns-in-Err-clause-applied
returns-in-Err-clause-applied g c = on_ok c.apply_refusal.result (steps_as c.args.state.now c.apply_refusal.new.state c.args.item (λ a node. mkpeer (world_at a c.args.item) c.args.item node (Some c.args.kind) c.args.ours.now c.args.theirs.now) (λ a node. refuse c.args.item.tag c.in-Err.errno) (λ a node I. unless_refused (mkpeer_refusal (world_at a c.args.item) node c.args.kind c.args.ours.now c.args.theirs.now) c.in-Err.errno c.args.item.tag (makes (world_at a c.args.item) c.args.item node c.args.kind c.args.ours.now c.args.theirs.now) (is_refused c.may_make.result c.in-Err.errno (mkpeer_refusal (world_at a c.args.item) node c.args.kind c.args.ours.now c.args.theirs.now) c.in-Err.is (c.may_make.ensures (world_at a c.args.item) node (sym I.stands.graph.stock) (node_here c.args.state.now c.args.item a node (mkpeer (world_at a c.args.item) c.args.item node (Some c.args.kind) c.args.ours.now c.args.theirs.now) I))))) c.apply_refusal.ensures.applied

pub make-requires-clause-work : goal.make-requires-clause-work
make-requires-clause-work g c κs within = may_as c.args.state.now c.args.item (λ a node. mkpeer (world_at a c.args.item) c.args.item node (Some c.args.kind) c.args.ours.now c.args.theirs.now) (λ a node. makes (world_at a c.args.item) c.args.item node c.args.kind c.args.ours.now c.args.theirs.now) (λ a node I. unless_free (mkpeer_refusal (world_at a c.args.item) node c.args.kind c.args.ours.now c.args.theirs.now) c.args.item.tag (makes (world_at a c.args.item) c.args.item node c.args.kind c.args.ours.now c.args.theirs.now) (no_refusal c.may_make.result (mkpeer_refusal (world_at a c.args.item) node c.args.kind c.args.ours.now c.args.theirs.now) c.in-Ok.is (c.may_make.ensures (world_at a c.args.item) node (sym I.stands.graph.stock) (node_here c.args.state.now c.args.item a node (mkpeer (world_at a c.args.item) c.args.item node (Some c.args.kind) c.args.ours.now c.args.theirs.now) I)))) c.requires.work

pub make-requires-clause-may : goal.make-requires-clause-may
make-requires-clause-may g c κs within = λ node here.
    let M = let W = c.requires.work in made_may (is_fixed c.args.kind) (has_kind W.0.world.stock c.args.kind) (has_hook node c.args.ours.now) (accepts_hook c.args.kind c.args.theirs.now) (accepts_hook (kind_at node) c.args.ours.now) (no_refusal c.may_make.result (mkpeer_refusal W.0.world node c.args.kind c.args.ours.now c.args.theirs.now) c.in-Ok.is (c.may_make.ensures W.0.world node (sym W.1.1.stands.graph.stock) here)) in
    record { allowed = M.3; fresh = M.1 }

pub make-requires-clause-left : goal.make-requires-clause-left
make-requires-clause-left g c κs within =
    let W = c.requires.work in
    ap (λ (l : List Kind). has_kind l c.args.kind) W.1.1.stands.graph.stock ∙ (let W = c.requires.work in made_may (is_fixed c.args.kind) (has_kind W.0.world.stock c.args.kind) (has_hook W.1.0 c.args.ours.now) (accepts_hook c.args.kind c.args.theirs.now) (accepts_hook (kind_at W.1.0) c.args.ours.now) (no_refusal c.may_make.result (mkpeer_refusal W.0.world W.1.0 c.args.kind c.args.ours.now c.args.theirs.now) c.in-Ok.is (c.may_make.ensures W.0.world W.1.0 (sym W.1.1.stands.graph.stock) (node_here c.args.state.now c.args.item W.0 W.1.0 (mkpeer (world_at W.0 c.args.item) c.args.item W.1.0 (Some c.args.kind) c.args.ours.now c.args.theirs.now) W.1.1)))).0

pub make-requires-clause-takes : goal.make-requires-clause-takes
make-requires-clause-takes g c κs within =
    let W = c.requires.work in (let W = c.requires.work in made_may (is_fixed c.args.kind) (has_kind W.0.world.stock c.args.kind) (has_hook W.1.0 c.args.ours.now) (accepts_hook c.args.kind c.args.theirs.now) (accepts_hook (kind_at W.1.0) c.args.ours.now) (no_refusal c.may_make.result (mkpeer_refusal W.0.world W.1.0 c.args.kind c.args.ours.now c.args.theirs.now) c.in-Ok.is (c.may_make.ensures W.0.world W.1.0 (sym W.1.1.stands.graph.stock) (node_here c.args.state.now c.args.item W.0 W.1.0 (mkpeer (world_at W.0 c.args.item) c.args.item W.1.0 (Some c.args.kind) c.args.ours.now c.args.theirs.now) W.1.1)))).2

pub returns-in-Ok-clause-applied : goal.returns-in-Ok-clause-applied
returns-in-Ok-clause-applied g c = on_ok c.make.result (steps_as c.args.state.now c.make.new.state c.args.item (λ a node. mkpeer (world_at a c.args.item) c.args.item node (Some c.args.kind) c.args.ours.now c.args.theirs.now) (λ a node. makes (world_at a c.args.item) c.args.item node c.args.kind c.args.ours.now c.args.theirs.now) (λ a node I. unless_free (mkpeer_refusal (world_at a c.args.item) node c.args.kind c.args.ours.now c.args.theirs.now) c.args.item.tag (makes (world_at a c.args.item) c.args.item node c.args.kind c.args.ours.now c.args.theirs.now) (no_refusal c.may_make.result (mkpeer_refusal (world_at a c.args.item) node c.args.kind c.args.ours.now c.args.theirs.now) c.in-Ok.is (c.may_make.ensures (world_at a c.args.item) node (sym I.stands.graph.stock) (node_here c.args.state.now c.args.item a node (mkpeer (world_at a c.args.item) c.args.item node (Some c.args.kind) c.args.ours.now c.args.theirs.now) I))))) c.make.ensures.applied
