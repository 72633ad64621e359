use Rattle.std.proofs.Common.{◌≡◌, List, ℕ, [], map, take}
use Rattle.ng_args.specs.declared.port.PortWord.{PortWord}
use Rattle.ng_call.proofs.made.ports_of.Given as goal

abbrev pub invariant-loop-name : goal.invariant-loop-name
invariant-loop-name l =
    l.ports.items ≡ map (λ (name : List ℕ). let port : PortWord = record { name = name; in_file = []; out_file = [] } in port) (take l.name-index l.names)
