-- The kinds so far are stocked.
use Rattle.std.proofs.Common.{◌≡◌, ◌∷◌, ◌++◌, map, replicate, take}
use Rattle.ng_base.specs.declared.kind.Kind.TheVariants.{Socket, Ether}
use Rattle.ng_machine.specs.State.{blank_of}
use Rattle.ng_stock.specs.Any.{any_state}
use Rattle.ng_stock.proofs.Lists.{each}
use Rattle.ng_stock.proofs.blanks.stock.Given as goal

abbrev pub invariant-loop-kind : goal.invariant-loop-kind
invariant-loop-kind l = map any_state l.nodes.items ≡ map blank_of ((Socket ∷ replicate 64 Ether) ++ each 256 (take l.kind-index l.kind-items))
