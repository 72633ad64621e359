-- Numbers of a run's world, which are far below the ends of their types.
use Rattle.std.proofs.Common.{◌≡◌, ℕ, zero, suc, ◌+◌, ◌<◌, ◌≤◌, ◌^◌, List, [], ◌∷◌, map, slice_get, is_some, ap, sym, subst, arith, true≢false}
use Rattle.std.specs.declared.option.Option.TheVariants.{Some}
use Rattle.ng_machine.specs.LowRun.{IsLow, port_sum}
use Rattle.ng_machine.specs.Run.{RunState}
use Rattle.ng_machine.specs.World.{Port}
use Rattle.ng_queue.specs.declared.tally.tally.Tally.{Tally}
use Rattle.ng_queue.specs.tally.Tally.{HasNumbers}
use Rattle.ng_queue.proofs.tally.LowCounts.{counts_are_low}
use Rattle.ng_core_state.specs.declared.state.Port.{Port as KeptPort}
use Rattle.ng_core_state.specs.declared.state.State.{State}
use Rattle.ng_core_state.specs.Stands.{Stands, port_of}

pub has_numbers : {B : Type 0} (s : State B) (a : RunState) → Stands s a → IsLow a.world → HasNumbers (2 ^ 62) s.pending.tally
has_numbers s a S L = subst (λ (t : Tally). HasNumbers (2 ^ 62) t) (sym S.items.tally) (counts_are_low.low a.world L)

among : (ps : List KeptPort) (n : ℕ) (port : KeptPort) → slice_get ps n ≡ Some port → port.up ≤ port_sum (λ (p : Port). p.fed + p.up) (map port_of ps)
among [] n port e = absurd (true≢false (sym (ap is_some e)))
among (p ∷ ps) zero port e = let same : p ≡ port = cc in let up = ap (λ (x : KeptPort). x.up) same in omega arith
among (p ∷ ps) (suc n) port e = let rest = among ps n port e in omega arith

-- a port's count of packets for its host
pub low_up : {B : Type 0} (s : State B) (a : RunState) (n : ℕ) (port : KeptPort) → Stands s a → IsLow a.world → slice_get s.ports.items n ≡ Some port → port.up < 2 ^ 50
low_up s a n port S L e =
    let le = among s.ports.items n port e in
    let same = ap (λ (ps : List Port). port_sum (λ (p : Port). p.fed + p.up) ps) S.ports in
    let low = L.outside in
    omega arith
