use Rattle.std.proofs.Common.{◌≡◌, ◌++◌, map}
use Rattle.std.specs.Prelude.{take}
use Rattle.ng_call.specs.Called.{texts}
use Rattle.ng_trace_call.specs.Words.{with_comma}
use Rattle.ng_trace_call.proofs.words.put_ports.Given as goal

abbrev pub invariant-loop-word : goal.invariant-loop-word
invariant-loop-word l = texts l.made.items ≡ texts l.initial.made.items ++ map with_comma (texts (take l.word-index l.words))
