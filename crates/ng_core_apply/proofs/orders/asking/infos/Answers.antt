use Rattle.std.proofs.Common.{sym, ap, ◌∙◌, ◌++◌, [], ◌∷◌, List, ℕ, Some, arith}
use Rattle.ng_machine.specs.Generic.{infos_from}
use Rattle.ng_machine.specs.World.{node_id, node_in}
use Rattle.ng_core_apply.specs.orders.Asked.{is_listed}
use Rattle.ng_core_apply.proofs.orders.Lists.{infos_more}
use Rattle.ng_core_apply.proofs.orders.asking.infos.Goals as goal

pub loop-n-preserved : goal.loop-n-preserved
loop-n-preserved g c = record {
  list = c.in_ok-add_info.ensures.list ∙ ap (λ (l : List (List ℕ)). l ++ infos_from c.loop-n.n (λ r. is_listed c.args.named (Some r)) (node_in c.args.graph.now.nodes (node_id c.loop-n.n) ∷ [])) c.loop-n.invariant.list
      ∙ sym (infos_more (λ r. is_listed c.args.named (Some r)) c.args.graph.now.nodes c.loop-n.n);
  few = let one = c.in_ok-add_info.ensures.few in let few = c.loop-n.invariant.few in omega arith;
}
