-- Packets that were fed at a port are few.
use Rattle.std.proofs.Common.{◌≡◌, ℕ, zero, suc, ◌+◌, ◌<◌, ◌≤◌, ◌^◌, List, [], ◌∷◌, map, slice_get, is_some, ap, sym, arith, true≢false}
use Rattle.std.specs.declared.option.Option.TheVariants.{Some}
use Rattle.ng_machine.specs.LowRun.{IsLow, port_sum}
use Rattle.ng_machine.specs.Run.{RunState}
use Rattle.ng_machine.specs.World.{Port}
use Rattle.ng_core_state.specs.declared.state.Port.{Port as KeptPort}
use Rattle.ng_core_state.specs.declared.state.State.{State}
use Rattle.ng_core_state.specs.Stands.{Stands, port_of}

among : (ps : List KeptPort) (n : ℕ) (port : KeptPort) → slice_get ps n ≡ Some port → port.fed ≤ port_sum (λ (p : Port). p.fed + p.up) (map port_of ps)
among [] n port e = absurd (true≢false (sym (ap is_some e)))
among (p ∷ ps) zero port e = let same : p ≡ port = cc in let fed = ap (λ (x : KeptPort). x.fed) same in omega arith
among (p ∷ ps) (suc n) port e = let rest = among ps n port e in omega arith

pub few_fed : {B : Type 0} (s : State B) (a : RunState) (n : ℕ) (port : KeptPort) → Stands s a → IsLow a.world → slice_get s.ports.items n ≡ Some port → port.fed < 2 ^ 63
few_fed s a n port S L e =
    let one = among s.ports.items n port e in
    let all : port_sum (λ (p : Port). p.fed + p.up) (map port_of s.ports.items) ≡ port_sum (λ (p : Port). p.fed + p.up) a.world.ports = ap (λ (l : List Port). port_sum (λ (p : Port). p.fed + p.up) l) S.ports in
    let low = L.outside in
    omega arith
