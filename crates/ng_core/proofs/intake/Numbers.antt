-- No number comes near the end of its type.
use Rattle.std.proofs.Common.{ℕ, ◌≤◌, ◌^◌, sym, subst, arith}
use Rattle.ng_machine.specs.LowRun.{IsLow}
use Rattle.ng_machine.specs.Run.{RunState}
use Rattle.ng_queue.specs.declared.tally.tally.Tally.{Tally}
use Rattle.ng_queue.specs.tally.Tally.{HasNumbers}
use Rattle.ng_queue.proofs.tally.LowCounts.{counts_are_low}
use Rattle.ng_queue.proofs.tally.NumberLemmas.{fewer_numbers}
use Rattle.ng_core_state.specs.declared.state.State.{State}
use Rattle.ng_core_state.specs.Stands.{Stands}

pub low_numbers : {B : Type 0} (s : State B) (a : RunState) (k : ℕ) → Stands s a → IsLow a.world → k ≤ 2 ^ 62 → HasNumbers k s.pending.tally
low_numbers s a k S L le = fewer_numbers k (2 ^ 62) s.pending.tally le (subst (λ (t : Tally). HasNumbers (2 ^ 62) t) (sym S.items.tally) (counts_are_low.low a.world L))
