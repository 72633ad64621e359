use Rattle.std.proofs.Common.{◌≡◌, ◌++◌, map, drop}
use Rattle.ng_args.specs.Together.{ins}
use Rattle.ng_args.proofs.together.add_ins.Given as goal

abbrev pub invariant-loop-port : goal.invariant-loop-port
invariant-loop-port l = map (λ file. file.now) l.files.items ++ ins (drop l.port-index l.ports) ≡ map (λ file. file.now) l.initial.files.items ++ ins l.ports
