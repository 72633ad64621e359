use Rattle.std.proofs.Common.{◌≡◌, List, ℕ, map, Some}
use Rattle.ng_call.specs.Found.{capture_in}
use Rattle.ng_call.specs.Parts.{AreAllWritable}
use Rattle.ng_call.proofs.made.captures_of.Given as goal

abbrev pub invariant-loop-bytes : goal.invariant-loop-bytes
invariant-loop-bytes l = record {
  read : l.captures.items ≡ map (λ (bytes : List ℕ). capture_in (Some bytes)) l.yielded;
  writable : AreAllWritable l.captures.items;
}
