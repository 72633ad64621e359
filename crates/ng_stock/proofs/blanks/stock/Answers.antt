-- One more kind, and so all of them.
use Rattle.std.proofs.Common.{◌≡◌, map, replicate, [], ◌∷◌, ap, sym, ◌∙◌}
use Rattle.std.proofs.lemmas.List.{append-nil}
use Rattle.ng_base.specs.declared.kind.Kind.TheVariants.{Hub, Socket, Ether}
use Rattle.ng_machine.specs.State.{blank_of}
use Rattle.ng_stock.specs.Any.{any_state}
use Rattle.ng_stock.specs.Stocked.{stocked, inner_kinds}
use Rattle.ng_stock.proofs.Lists.{many_more, each_more, all_taken, are_blank, are_kinds}
use Rattle.ng_stock.proofs.blanks.stock.Goals as goal

pub loop-kind-init : goal.loop-kind-init
loop-kind-init c =
    let none : map any_state c.new-nodes.result.items ≡ map blank_of [] = ap (map any_state) c.new-nodes.ensures.items in
    let one = many_more any_state c.new-nodes.result.items c.add.new.nodes.items [] 1 Socket none c.in_ok-add.ensures in
    many_more any_state c.add.new.nodes.items c.add-2.new.nodes.items (Socket ∷ []) 64 Ether one c.in_ok-add-2.ensures
    ∙ ap (map blank_of) (sym (append-nil (Socket ∷ replicate 64 Ether)))

pub loop-kind-preserved : goal.loop-kind-preserved
loop-kind-preserved c =
    each_more any_state c.loop-kind.nodes.items c.add-in-loop-kind.new.nodes.items (Socket ∷ replicate 64 Ether) 256 inner_kinds
    c.loop-kind.kind-index Hub c.loop-kind-test.true c.loop-kind.invariant c.in_ok-add-3.ensures

pub returns-clause-blank : goal.returns-clause-blank
returns-clause-blank c = are_blank any_state c.loop-kind.nodes.items stocked
    (all_taken any_state c.loop-kind.nodes.items (Socket ∷ replicate 64 Ether) 256 inner_kinds c.loop-kind.kind-index c.loop-kind-test.false c.loop-kind.invariant)

pub returns-clause-kinds : goal.returns-clause-kinds
returns-clause-kinds c = are_kinds any_state c.loop-kind.nodes.items stocked
    (all_taken any_state c.loop-kind.nodes.items (Socket ∷ replicate 64 Ether) 256 inner_kinds c.loop-kind.kind-index c.loop-kind-test.false c.loop-kind.invariant)
