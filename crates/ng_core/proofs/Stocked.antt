-- What a core of a run's blank nodes needs.
use Rattle.std.specs.List.{list_any}
use Rattle.std.specs.Prelude.{◌||◌}
use Rattle.std.proofs.Common.{◌≡◌, ◌≤◌, ℕ, zero, suc, replicate, false, List, [], ◌∷◌, length, map, Bool, not, ◌&&◌, refl, ap, arith}
use Rattle.ng_machine.specs.LowRun.{most_ports}
use Rattle.ng_machine.specs.State.{State, kind_of}
use Rattle.std.proofs.lemmas.List.{length-map}
use Rattle.ng_core.specs.Calls.{HasBoxes}
use Rattle.ng_core.specs.Stocked.{IsStocked}

pub has_boxes : {B : Type 0} (state : B → State) (stock : List B) (ports : List (List ℕ)) → IsStocked state stock → length ports ≤ most_ports → HasBoxes ports (map (λ b. kind_of (state b)) stock)
has_boxes state stock ports S few = record {
  socket = S.socket;
  ethers = let ethers = S.ethers in omega arith;
  few = let few = S.few in let long = length-map stock (λ b. kind_of (state b)) in omega arith;
}

none_gave_up : (n : ℕ) → list_any (λ (b : Bool). b) (replicate n false) ≡ false
none_gave_up zero = refl
none_gave_up (suc n) = none_gave_up n

-- a core that was just made runs
pub begun_runs : (seats : ℕ) → (false || list_any (λ (b : Bool). b) (replicate seats false)) ≡ false
begun_runs seats = none_gave_up seats
