use Rattle.std.proofs.Common.{◌≡◌, ◌≢◌, ℕ, ◌≤◌, List, length}
use Rattle.ng_outside.proofs.Anew.{HoldsBut}
use Rattle.ng_outside.proofs.written.write_file.Given as goal

abbrev pub invariant-loop-rest : goal.invariant-loop-rest
invariant-loop-rest g l = record {
  holds : HoldsBut (g.F.Files.contents l.fn.files l.name) (g.F.Files.contents l.files l.name) l.bytes l.rest;
  others : (other : List ℕ) → other ≢ l.name → g.F.Files.contents l.files other ≡ g.F.Files.contents l.fn.files other;
  counts : (other : List ℕ) → g.F.Files.faults l.fn.files other ≤ g.F.Files.faults l.files other;
}

abbrev pub decreases-loop-rest : goal.decreases-loop-rest
decreases-loop-rest g l = length l.rest
