use Rattle.std.proofs.Common.{◌≡◌, map, drop}
use Rattle.ng_base.specs.Names.{are_different}
use Rattle.ng_args.proofs.together.are_names_different.Given as goal

abbrev pub invariant-loop-place : goal.invariant-loop-place
invariant-loop-place l = are_different (map (λ port. port.name) l.ports) ≡ are_different (map (λ port. port.name) (drop l.place l.ports))
