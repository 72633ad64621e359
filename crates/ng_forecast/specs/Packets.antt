-- The packets of a forecast, one after another: the first that isn't foretold, and why. The limits are this project's own.
use Rattle.std.specs.Prelude.{◌≡◌, ℕ, ◌+◌, ◌≤◌, nat_lt, if◌then◌else◌, List, [], ◌∷◌, Option, Some, None}
use Rattle.ng_machine.specs.World.{NodeRecord}
use Rattle.ng_machine.specs.Spread.{Spread, Flight, fed_flight, spread_in}
use Rattle.ngctl_script.specs.declared.feed.arrival.Arrival.{Arrival}
use Rattle.ng_forecast.specs.spread.Met.{met_in}
use Rattle.ng_forecast.specs.spread.Weight.{weight}
use Rattle.ng_forecast.specs.declared.ended.ForecastFault.{ForecastFault}
use Rattle.ng_forecast.specs.declared.ended.ForecastFault.TheVariants.{Wide, Undefined, Big}

-- all packets together meet at most so many, each copy by itself, and what leaves of them takes at most so many bytes
abbrev pub most_met : ℕ
most_met = 1000000

abbrev pub most_weight : ℕ
most_weight = 536870912

-- the number of the next packet, from 1; and how many packets were met and how many bytes left of those before it
pub record Tally : Type 0 where
  pub packet : ℕ
  pub met : ℕ
  pub weight : ℕ

abbrev pub tally : ℕ → ℕ → ℕ → Tally
tally packet met weight = record { packet = packet; met = met; weight = weight }

abbrev pub no_tally : Tally
no_tally = tally 1 0 0

-- a packet meets so many, and has this spread or none; it is too wide, or has no spread, or is too big, or the others follow
abbrev pub fault_if : Tally → ℕ → Option Spread → (Tally → Option ForecastFault) → Option ForecastFault
fault_if t met None others = Some (Undefined t.packet)
fault_if t met (Some spread) others =
    if nat_lt most_weight (t.weight + weight spread) then Some (Big t.packet)
    else others (tally (t.packet + 1) (t.met + met) (t.weight + weight spread))

abbrev pub fault_at : Tally → ℕ → Option Spread → (Tally → Option ForecastFault) → Option ForecastFault
fault_at t met spread others = if nat_lt most_met (t.met + met) then Some (Wide t.packet) else fault_if t met spread others

abbrev pub fault_from : List (Option NodeRecord) → ℕ → List Flight → Tally → Option ForecastFault
fault_from nodes hops [] t = None
fault_from nodes hops (f ∷ fs) t = fault_at t (met_in nodes hops f) (spread_in nodes hops f) (λ u. fault_from nodes hops fs u)

abbrev pub packet_fault : List (Option NodeRecord) → ℕ → List Flight → Option ForecastFault
packet_fault nodes hops flights = fault_from nodes hops flights no_tally

-- a packet as it comes by its port's wire
abbrev pub flight_of : Arrival → Flight
flight_of arrival = fed_flight arrival.port arrival.packet

-- One packet more is followed: so much was taken before it, and so many may be met from it on. It has a fault, whatever the others
-- have; or it has a spread, and the others follow.

abbrev pub Fails : ℕ → ℕ → ℕ → ℕ → Option Spread → ForecastFault → Type 0
Fails packet weighed room met spread fault =
    (before : ℕ) (others : Tally → Option ForecastFault) → before + room ≡ most_met
    → fault_at (tally packet before weighed) met spread others ≡ Some fault

pub record Passes (packet weighed room met : ℕ) (spread : Option Spread) (more left : ℕ) : Type 0 where
  pub counts : left + met ≡ room
  pub light : more ≤ most_weight
  pub others : (before : ℕ) (others : Tally → Option ForecastFault) → before + room ≡ most_met
      → fault_at (tally packet before weighed) met spread others ≡ others (tally (packet + 1) (before + met) more)
