use Rattle.std.proofs.Common.{Option, Some, sym, ap, ◌∙◌}
use Rattle.ng_base.specs.declared.kind.Kind.{Kind}
use Rattle.ng_base.specs.Kind.{kind_named}
use Rattle.ng_machine.specs.Errors.{enxio}
use Rattle.ng_machine.specs.Generic.{mkpeer}
use Rattle.ng_machine.specs.Retire.{refuse}
use Rattle.ng_core_state.specs.step.Steps.{world_at}
use Rattle.ng_core_state.proofs.step.Stepping.{may_as, on_ok, steps_as}
use Rattle.ng_core_apply.proofs.orders.making.apply_mkpeer.Goals as goal

pub apply_refusal-requires-clause-work : goal.apply_refusal-requires-clause-work
apply_refusal-requires-clause-work g c κs within = may_as c.args.state.now c.args.item (λ a node. mkpeer (world_at a c.args.item) c.args.item node (kind_named c.args.kind_name.now) c.args.ours.now c.args.theirs.now) (λ a node. refuse c.args.item.tag enxio) (λ a node I. ap (λ (o : Option Kind). mkpeer (world_at a c.args.item) c.args.item node o c.args.ours.now c.args.theirs.now) (sym c.read.ensures ∙ c.in-None.is)) c.requires.work

pub returns-in-None-clause-applied : goal.returns-in-None-clause-applied
returns-in-None-clause-applied g c = on_ok c.apply_refusal.result (steps_as c.args.state.now c.apply_refusal.new.state c.args.item (λ a node. mkpeer (world_at a c.args.item) c.args.item node (kind_named c.args.kind_name.now) c.args.ours.now c.args.theirs.now) (λ a node. refuse c.args.item.tag enxio) (λ a node I. ap (λ (o : Option Kind). mkpeer (world_at a c.args.item) c.args.item node o c.args.ours.now c.args.theirs.now) (sym c.read.ensures ∙ c.in-None.is))) c.apply_refusal.ensures.applied

pub make_unless-requires-clause-work : goal.make_unless-requires-clause-work
make_unless-requires-clause-work g c κs within = may_as c.args.state.now c.args.item (λ a node. mkpeer (world_at a c.args.item) c.args.item node (kind_named c.args.kind_name.now) c.args.ours.now c.args.theirs.now) (λ a node. mkpeer (world_at a c.args.item) c.args.item node (Some c.in-Some.kind) c.args.ours.now c.args.theirs.now) (λ a node I. ap (λ (o : Option Kind). mkpeer (world_at a c.args.item) c.args.item node o c.args.ours.now c.args.theirs.now) (sym c.read.ensures ∙ c.in-Some.is)) c.requires.work

pub returns-in-Some-clause-applied : goal.returns-in-Some-clause-applied
returns-in-Some-clause-applied g c = on_ok c.make_unless.result (steps_as c.args.state.now c.make_unless.new.state c.args.item (λ a node. mkpeer (world_at a c.args.item) c.args.item node (kind_named c.args.kind_name.now) c.args.ours.now c.args.theirs.now) (λ a node. mkpeer (world_at a c.args.item) c.args.item node (Some c.in-Some.kind) c.args.ours.now c.args.theirs.now) (λ a node I. ap (λ (o : Option Kind). mkpeer (world_at a c.args.item) c.args.item node o c.args.ours.now c.args.theirs.now) (sym c.read.ensures ∙ c.in-Some.is))) c.make_unless.ensures.applied
