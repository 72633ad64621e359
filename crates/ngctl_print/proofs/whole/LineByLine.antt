-- Lines into a sink, each by itself, until nothing is left.
use Rattle.std.proofs.Common.{◌≡◌, ℕ, ◌≤◌, List, [], ◌++◌, Option, Ok, Err, arith}
use Rattle.ng_outside.specs.Count.{Rose}
use Rattle.ng_outside.specs.Write.{Written, more_written, prefix_written, all_written}
use Rattle.ngctl_print.specs.Prints.{Prints}
use Rattle.ngctl_print.specs.declared.stop.PrintStop.{PrintStop}

-- the sink grew by all of a text but what is left of it
pub record Going (old now : Option (List ℕ)) (before after : ℕ) (text left : List ℕ) : Type 0 where
  pub written : Written old now text left
  pub counts : before ≤ after

-- a line more
pub line_printed : (old now next : Option (List ℕ)) (f0 f1 f2 : ℕ) (text left line rest : List ℕ)
    → Going old now f0 f1 text left → left ≡ line ++ rest
    → Prints now next f1 f2 (Ok tt) line → Going old next f0 f2 text rest
line_printed old now next f0 f1 f2 text left line rest so_far is printed = record {
  written = more_written old now next text left line rest so_far.written is printed.whole;
  counts = let a : f0 ≤ f1 = so_far.counts in let b : f1 ≤ f2 = printed.counts in omega arith;
}

-- a part of a line more, and then no more
pub line_stopped : (old now next : Option (List ℕ)) (f0 f1 f2 : ℕ) (text left line rest : List ℕ) (stop : PrintStop)
    → Going old now f0 f1 text left → left ≡ line ++ rest
    → Prints now next f1 f2 (Err stop) line → Prints old next f0 f2 (Err stop) text
line_stopped old now next f0 f1 f2 text left line rest stop so_far is printed = record {
  whole = tt;
  front = prefix_written old now next text left line rest so_far.written is printed.front;
  counts = let a : f0 ≤ f1 = so_far.counts in let b : f1 ≤ f2 = printed.counts in omega arith;
  cause = λ e. let a : f0 ≤ f1 = so_far.counts in let rose : Rose f1 f2 = printed.cause e in omega (arith, rose);
}

-- nothing is left
pub lines_printed : (old now : Option (List ℕ)) (f0 f1 : ℕ) (text left : List ℕ) → Going old now f0 f1 text left
    → left ≡ [] → Prints old now f0 f1 (Ok tt) text
lines_printed old now f0 f1 text left so_far none = record {
  whole = all_written old now text left so_far.written none;
  front = tt;
  counts = so_far.counts;
  cause = λ e. absurd (cc e);
}
