-- The fault of what is left is that of the whole, and its places fit.
use Rattle.std.proofs.Common.{◌≡◌, ◌+◌, ◌<◌, ◌^◌, length}
use Rattle.ng_path.specs.Segments.{cut_at}
use Rattle.ng_path.proofs.Walks.{first_fault}
use Rattle.ng_path.proofs.reading.hook_fault.Given as goal

abbrev pub invariant-parts : goal.invariant-parts
invariant-parts l = (first_fault l.at (cut_at 0x2e l.rest) ≡ first_fault l.fn.place (cut_at 0x2e l.fn.text)) × (l.at + length l.rest < 2 ^ 64)

abbrev pub decreases-parts : goal.decreases-parts
decreases-parts l = length l.rest
