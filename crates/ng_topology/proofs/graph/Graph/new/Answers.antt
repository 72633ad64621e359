-- No node has a name yet.
use Rattle.std.proofs.Common.{◌≡◌, ◌≤◌, List, length, ap, ◌∙◌, arith}
use Rattle.std.proofs.lemmas.List.{length-map}
use Rattle.std.proofs.lemmas.Grind.{common_steps}
use Rattle.ng_base.specs.declared.kind.Kind.{Kind}
use Rattle.ng_machine.specs.State.{kind_of}
use Rattle.ng_topology.proofs.NameLemmas.{no_names}
use Rattle.ng_topology.proofs.graph.Graph.new.Goals as goal

pub invariant_of-result : goal.invariant_of-result
invariant_of-result g c =
    let boxes = c.args.stock.items in
    let as_many : length c.new-2.result ≡ length boxes = ap (λ (kinds : List Kind). length kinds) c.new-2.ensures ∙ length-map boxes (λ b. kind_of (g.B.Node.state b)) in
    let len : c.len.result ≡ length boxes = grind (arith, common_steps) in
    let few : length boxes ≤ 4000000000 = c.requires.few in
    rw c.in_ok-places.ensures (no_names c.new-3.result c.new-2.result c.len.result c.new-3.ensures.empty (omega arith) (omega arith))
