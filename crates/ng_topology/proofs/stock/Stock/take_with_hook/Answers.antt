-- A box that couldn't be hooked is as it was, in its place; one that was is the one that comes out.
use Rattle.std.proofs.Common.{◌≡◌, ◌<◌, length, get_or, map, remove, arith, ap, ◌∙◌}
use Rattle.std.proofs.lemmas.Grind.{common_steps}
use Rattle.ng_machine.specs.State.{kind_of}
use Rattle.ng_topology.proofs.StockLemmas.{kinds_kept, remove_set}
use Rattle.ng_topology.proofs.stock.Stock.take_with_hook.Goals as goal

pub returns-in_err-newhook-clause-err : goal.returns-in_err-newhook-clause-err
returns-in_err-newhook-clause-err g c =
    let boxes = c.self.inside.boxes.items in
    let old = c.index_mut.result.now in
    let same : g.B.Node.state c.newhook.new.self ≡ g.B.Node.state (get_or boxes c.in-Some.place old) = grind (arith, common_steps) in
    let below : c.in-Some.place < length boxes = grind (arith, common_steps, c.in-Some.ensures.some.inside) in
    let consistent = kinds_kept g.B.Node.state boxes c.in-Some.place c.newhook.new.self old same below in
    grind (arith, common_steps, consistent)

pub returns-clause-rest : goal.returns-clause-rest
returns-clause-rest g c =
    let boxes = c.self.inside.boxes.items in
    let same : c.remove.new.self.items ≡ remove boxes c.in-Some.place = grind (arith, common_steps, remove_set) in
    ap (map (λ b. kind_of (g.B.Node.state b))) same ∙ grind (arith, common_steps, c.in-Some.ensures.some.rest)
