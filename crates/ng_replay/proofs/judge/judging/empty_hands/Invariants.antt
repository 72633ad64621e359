-- The seats so far hold nothing.
use Rattle.std.proofs.Common.{◌≡◌, ℕ, length}
use Rattle.std.specs.declared.option.Option.TheVariants.{None}
use Rattle.ng_workers.specs.pool.Held.{held_at}
use Rattle.ng_replay.proofs.judge.judging.empty_hands.Given as goal

abbrev pub invariant-loop : goal.invariant-loop
invariant-loop g l = ((seat : ℕ) → held_at l.held.items seat ≡ None) × (length l.held.items ≡ l.counter)
