use Rattle.std.proofs.Common.{◌≡◌, map, drop}
use Rattle.ng_base.specs.Names.{are_different}
use Rattle.ng_args.proofs.lists.are_different.Given as goal

abbrev pub invariant-loop-place : goal.invariant-loop-place
invariant-loop-place l = are_different (map (λ word. word.now) l.words) ≡ are_different (map (λ word. word.now) (drop l.place l.words))
