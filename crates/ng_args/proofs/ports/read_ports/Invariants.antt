use Rattle.std.proofs.Common.{◌≡◌, map, string_bytes}
use Rattle.ng_args.specs.Ports.{ports_of}
use Rattle.ng_args.proofs.PortLists.{onto, from_place}
use Rattle.ng_args.proofs.ports.read_ports.Given as goal

abbrev pub invariant-loop-word : goal.invariant-loop-word
invariant-loop-word l = ports_of l.form (map (λ word. string_bytes word) l.words) ≡ onto l.ports (from_place (λ word. string_bytes word) l.form l.word-index l.words)
