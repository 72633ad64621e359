use Rattle.std.proofs.Common.{◌≡◌, ◌++◌, drop, take}
use Rattle.ng_shape.specs.Decoding.{before_nul}
use Rattle.ng_shape.proofs.decoding.before_nul.Given as goal

abbrev pub invariant-loop-byte : goal.invariant-loop-byte
invariant-loop-byte l = record { at : l.len ≡ l.byte-index; rest : take l.byte-index l.text ++ before_nul (drop l.byte-index l.text) ≡ before_nul l.text }
