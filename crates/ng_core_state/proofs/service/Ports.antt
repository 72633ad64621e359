-- A port of which a packet leaves.
use Rattle.std.proofs.Common.{◌≡◌, ℕ, zero, suc, ◌+◌, ◌<◌, List, [], ◌∷◌, length, map, set, get_or, slice_get, refl, sym, ap, ◌∙◌, subst, arith}
use Rattle.std.proofs.lemmas.List.{map-set}
use Rattle.std.specs.declared.option.Option.TheVariants.{Some}
use Rattle.ng_machine.specs.World.{Port, blank_port}
use Rattle.ng_core_state.specs.declared.state.Port.{Port as KeptPort}
use Rattle.ng_core_state.specs.Stands.{port_of}
use Rattle.ng_core_state.specs.service.Room.{PortTakes, TakesPackets}

got_some : (ps : List KeptPort) (n : ℕ) (old : KeptPort) → n < length ps → old ≡ get_or ps n old → slice_get ps n ≡ Some old
got_some [] n old lt e = absurd (omega arith)
got_some (p ∷ ps) zero old lt e = ap Some (sym e)
got_some (p ∷ ps) (suc n) old lt e = got_some ps n old (omega arith) e

got_port : (ps : List KeptPort) (n : ℕ) (old : KeptPort) → n < length ps → old ≡ get_or ps n old → get_or (map port_of ps) n blank_port ≡ port_of old
got_port [] n old lt e = absurd (omega arith)
got_port (p ∷ ps) zero old lt e = ap port_of (sym e)
got_port (p ∷ ps) (suc n) old lt e = got_port ps n old (omega arith) e

set_some : (ps : List KeptPort) (n : ℕ) (new : KeptPort) → n < length ps → slice_get (set ps n new) n ≡ Some new
set_some [] n new lt = absurd (omega arith)
set_some (p ∷ ps) zero new lt = refl
set_some (p ∷ ps) (suc n) new lt = set_some ps n new (omega arith)

-- the ports after the change of one
pub ports_changed : (ps : List KeptPort) (n : ℕ) (old new : KeptPort) (f : Port → Port) → n < length ps → old ≡ get_or ps n old → port_of new ≡ f (port_of old)
    → map port_of (set ps n new) ≡ set (map port_of ps) n (f (get_or (map port_of ps) n blank_port))
ports_changed ps n old new f lt e is =
    map-set port_of ps n new ∙ ap (λ (p : Port). set (map port_of ps) n p) (is ∙ ap f (sym (got_port ps n old lt e)))

-- and what they take then
pub takes_less : (ps : List KeptPort) (n : ℕ) (old new : KeptPort) → n < length ps → old ≡ get_or ps n old → ((k : ℕ) → TakesPackets (k + 1) old → TakesPackets k new) → (k : ℕ) → PortTakes n (k + 1) ps → PortTakes n k (set ps n new)
takes_less ps n old new lt e less k takes port at =
    let both : Some new ≡ Some port = sym (set_some ps n new lt) ∙ at in
    let same : new ≡ port = cc in
    subst (TakesPackets k) same (less k (takes old (got_some ps n old lt e)))

-- a port that only got room
pub ports_widened : (ps : List KeptPort) (n : ℕ) (old new : KeptPort) → n < length ps → old ≡ get_or ps n old → port_of new ≡ port_of old → map port_of (set ps n new) ≡ map port_of ps
ports_widened ps n old new lt e is = map-set port_of ps n new ∙ ap (λ (p : Port). set (map port_of ps) n p) is ∙ same ps n old lt e
  where
    same : (ps : List KeptPort) (n : ℕ) (old : KeptPort) → n < length ps → old ≡ get_or ps n old → set (map port_of ps) n (port_of old) ≡ map port_of ps
    same [] n old lt e = refl
    same (p ∷ ps) zero old lt e = ap (λ (x : KeptPort). port_of x ∷ map port_of ps) e
    same (p ∷ ps) (suc n) old lt e = ap (λ (l : List Port). port_of p ∷ l) (same ps n old (omega arith) e)
