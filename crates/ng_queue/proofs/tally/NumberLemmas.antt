-- Counts that stay below a number stay below a greater one.
use Rattle.std.proofs.Common.{ℕ, ◌≤◌, arith}
use Rattle.ng_queue.specs.declared.tally.tally.Tally.{Tally}
use Rattle.ng_queue.specs.tally.Tally.{HasNumbers}

pub fewer_numbers : (j k : ℕ) (t : Tally) → j ≤ k → HasNumbers k t → HasNumbers j t
fewer_numbers j k t le H = record {
  made = let m = H.made in omega arith;
  settled = let m = H.settled in omega arith;
  applies = let m = H.applies in omega arith;
  frames = let m = H.frames in omega arith;
  ticks = let m = H.ticks in omega arith;
  tagged = let m = H.tagged in omega arith;
  spool = H.spool;
}
