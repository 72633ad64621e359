-- Packets are followed one after another.
use Rattle.std.proofs.Common.{◌≡◌, ◌∙◌, ℕ, ◌+◌, ◌<◌, ◌≤◌, Bool, true, false, nat_lt, if◌then◌else◌, List, [], ◌∷◌, ◌++◌, length, drop, refl, sym, ap, subst, arith, append_assoc, append-nil}
use Rattle.std.proofs.lemmas.Bool.Decides.{nat_tests}
use Rattle.std.specs.declared.option.Option.{Option}
use Rattle.std.specs.declared.option.Option.TheVariants.{None, Some}
use Rattle.ng_machine.specs.World.{NodeRecord}
use Rattle.ng_machine.specs.Spread.{Spread, Flight, beside, spread_all, spread_in}
use Rattle.ng_forecast.specs.spread.Met.{met_in}
use Rattle.ng_forecast.specs.spread.Weight.{weight}
use Rattle.ng_forecast.specs.declared.ended.ForecastFault.{ForecastFault}
use Rattle.ng_forecast.specs.declared.ended.ForecastFault.TheVariants.{Wide, Undefined, Big}
use Rattle.ng_forecast.specs.Packets.{Fails, Passes, Tally, fault_at, fault_from, fault_if, most_met, most_weight, packet_fault, tally}

-- what leaves of one packet stands behind what left before
record Splits (old new : Spread) (spread : Option Spread) : Type 0 where
  own : Spread
  own_is : spread ≡ Some own
  behind : drop (length old) new ≡ own

drop_front : (a b : Spread) → drop (length a) (a ++ b) ≡ b
drop_front [] b = refl
drop_front (x ∷ a) b = drop_front a b

split : (old new : Spread) (spread : Option Spread) → Some new ≡ beside (Some old) spread → Splits old new spread
split old new None e = absurd (cc e)
split old new (Some s) e =
    let same : new ≡ old ++ s = cc e in
    record { own = s; own_is = refl; behind = ap (λ (x : Spread). drop (length old) x) same ∙ drop_front old s }

not_over : (most n : ℕ) → nat_lt most n ≡ false → n ≤ most
not_over most n e = grind (arith, nat_tests)

is_over : (most n : ℕ) → most < n → nat_lt most n ≡ true
is_over most n e = grind (arith, nat_tests)

is_under : (most n : ℕ) → n ≤ most → nat_lt most n ≡ false
is_under most n e = grind (arith, nat_tests)

weighed_if : (test : Bool) (n more : ℕ) → (if test then None else Some n) ≡ Some more → (test ≡ false) × (n ≡ more)
weighed_if true n more e = absurd (cc e)
weighed_if false n more e = (refl, (let same : n ≡ more = cc e in same))

heavy_if : (test : Bool) (n : ℕ) → ◌≡◌ {A = Option ℕ} (if test then None else Some n) None → test ≡ true
heavy_if true n e = refl
heavy_if false n e = absurd (cc e)

-- where it isn't too wide it goes by its spread
by_spread : (t : Tally) (met : ℕ) (spread : Option Spread) (others : Tally → Option ForecastFault) → t.met + met ≤ most_met → fault_at t met spread others ≡ fault_if t met spread others
by_spread t met spread others le = ap (λ (b : Bool). if b then Some (Wide t.packet) else fault_if t met spread others) (is_under most_met (t.met + met) le)

pub wide : (packet weighed room met : ℕ) (spread : Option Spread) → room ≤ most_met → room < met → Fails packet weighed room met spread (Wide packet)
wide packet weighed room met spread le more before others sum =
    ap (λ (b : Bool). if b then Some (Wide packet) else fault_if (tally packet before weighed) met spread others) (is_over most_met (before + met) (omega arith))

pub undefined : (packet weighed room met left : ℕ) (spread : Option Spread) → left + met ≡ room → spread ≡ None → Fails packet weighed room met spread (Undefined packet)
undefined packet weighed room met left spread counts none before others sum =
    by_spread (tally packet before weighed) met spread others (let c = counts in omega arith)
    ∙ ap (λ (s : Option Spread). fault_if (tally packet before weighed) met s others) none

abbrev weighed_by : ℕ → Spread → Option ℕ
weighed_by weighed left = if nat_lt most_weight (weighed + weight left) then None else Some (weighed + weight left)

pub big : (packet weighed room met left : ℕ) (spread : Option Spread) (old new : Spread) → left + met ≡ room → Some new ≡ beside (Some old) spread
    → weighed_by weighed (drop (length old) new) ≡ None → Fails packet weighed room met spread (Big packet)
big packet weighed room met left spread old new counts bag none before others sum =
    let s = split old new spread bag in
    by_spread (tally packet before weighed) met spread others (let c = counts in omega arith)
    ∙ ap (λ (x : Option Spread). fault_if (tally packet before weighed) met x others) s.own_is
    ∙ ap (λ (b : Bool). if b then Some (Big packet) else others (tally (packet + 1) (before + met) (weighed + weight s.own)))
    (heavy_if (nat_lt most_weight (weighed + weight s.own)) (weighed + weight s.own) (subst (λ (x : Spread). weighed_by weighed x ≡ None) s.behind none))

pub passes : (packet weighed room met left : ℕ) (spread : Option Spread) (old new : Spread) (more : ℕ) → left + met ≡ room → Some new ≡ beside (Some old) spread
    → weighed_by weighed (drop (length old) new) ≡ Some more → Passes packet weighed room met spread more left
passes packet weighed room met left spread old new more counts bag some =
    let s = split old new spread bag in
    let w = weighed_if (nat_lt most_weight (weighed + weight s.own)) (weighed + weight s.own) more (subst (λ (x : Spread). weighed_by weighed x ≡ Some more) s.behind some) in
    let light = not_over most_weight (weighed + weight s.own) w.0 in
    let more_is = w.1 in
    record {
      counts = counts;
      light = omega arith;
      others = λ before others sum.
          by_spread (tally packet before weighed) met spread others (let c = counts in omega arith)
          ∙ ap (λ (x : Option Spread). fault_if (tally packet before weighed) met x others) s.own_is
          ∙ ap (λ (b : Bool). if b then Some (Big packet) else others (tally (packet + 1) (before + met) (weighed + weight s.own))) w.0
          ∙ ap (λ (n : ℕ). others (tally (packet + 1) (before + met) n)) w.1;
    }

-- All packets: so many are followed, and these are left.

pub record Gathers (nodes : List (Option NodeRecord)) (hops : ℕ) (all rest : List Flight) (packet weighed room : ℕ) (bag : Spread) : Type 0 where
  pub met : ℕ
  pub counts : met + room ≡ most_met
  pub light : weighed ≤ most_weight
  pub fault : fault_from nodes hops rest (tally packet met weighed) ≡ packet_fault nodes hops all
  pub spread : beside (Some bag) (spread_all (λ f. spread_in nodes hops f) rest) ≡ spread_all (λ f. spread_in nodes hops f) all

beside_assoc : (a : Spread) (b c : Option Spread) → beside (beside (Some a) b) c ≡ beside (Some a) (beside b c)
beside_assoc a None c = refl
beside_assoc a (Some b) None = refl
beside_assoc a (Some b) (Some c) = ap Some (append_assoc a b c)

beside_nothing : (s : Option Spread) → beside (Some []) s ≡ s
beside_nothing None = refl
beside_nothing (Some s) = refl

pub begins : (nodes : List (Option NodeRecord)) (hops : ℕ) (all : List Flight) → Gathers nodes hops all all 1 0 most_met []
begins nodes hops all = record { met = 0; counts = refl; light = omega arith; fault = refl; spread = beside_nothing (spread_all (λ f. spread_in nodes hops f) all) }

pub goes_on : (nodes : List (Option NodeRecord)) (hops : ℕ) (all : List Flight) (f : Flight) (rest : List Flight) (packet weighed room : ℕ) (old new : Spread) (more left : ℕ)
    → Gathers nodes hops all (f ∷ rest) packet weighed room old → Passes packet weighed room (met_in nodes hops f) (spread_in nodes hops f) more left
    → Some new ≡ beside (Some old) (spread_in nodes hops f) → Gathers nodes hops all rest (packet + 1) more left new
goes_on nodes hops all f rest packet weighed room old new more left g p bag =
    let sum = g.counts in let counts = p.counts in
    record {
      met = g.met + met_in nodes hops f;
      counts = omega arith;
      light = p.light;
      fault = sym (p.others g.met (λ u. fault_from nodes hops rest u) g.counts) ∙ g.fault;
      spread =
          ap (λ (x : Option Spread). beside x (spread_all (λ f. spread_in nodes hops f) rest)) bag
          ∙ beside_assoc old (spread_in nodes hops f) (spread_all (λ f. spread_in nodes hops f) rest) ∙ g.spread;
    }

pub stops : (nodes : List (Option NodeRecord)) (hops : ℕ) (all : List Flight) (f : Flight) (rest : List Flight) (packet weighed room : ℕ) (bag : Spread) (fault : ForecastFault)
    → Gathers nodes hops all (f ∷ rest) packet weighed room bag → Fails packet weighed room (met_in nodes hops f) (spread_in nodes hops f) fault
    → packet_fault nodes hops all ≡ Some fault
stops nodes hops all f rest packet weighed room bag fault g x = sym g.fault ∙ x g.met (λ u. fault_from nodes hops rest u) g.counts

pub ends : (nodes : List (Option NodeRecord)) (hops : ℕ) (all : List Flight) (packet weighed room : ℕ) (bag : Spread) → Gathers nodes hops all [] packet weighed room bag
    → (spread_all (λ f. spread_in nodes hops f) all ≡ Some bag) × (packet_fault nodes hops all ≡ None)
ends nodes hops all packet weighed room bag g = (sym g.spread ∙ ap Some (append-nil bag), sym g.fault)
