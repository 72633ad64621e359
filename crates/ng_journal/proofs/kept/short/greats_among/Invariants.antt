use Rattle.std.proofs.Common.{◌≡◌, ◌≤◌}
use Rattle.std.specs.Prelude.{take}
use Rattle.ng_journal.specs.kept.Shorts.{greats_in}
use Rattle.ng_journal.proofs.kept.short.greats_among.Given as goal

abbrev pub invariant-loop-short : goal.invariant-loop-short
invariant-loop-short l = (l.count ≡ greats_in (take l.short-index l.shorts)) × (l.count ≤ l.short-index)
