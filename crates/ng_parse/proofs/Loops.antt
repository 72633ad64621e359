-- A turn of a loop that repeats a step.
use Rattle.std.proofs.Common.{◌≡◌, ℕ, suc, ◌+◌, ◌-◌, ◌<◌, ◌≤◌, List, [], ◌∷◌, ◌++◌, Option, Some, None, Result, Ok, Err, refl, sym, ◌∙◌, arith}
use Rattle.ng_parse.specs.declared.fault.Why.TheVariants.{Unexpected}
use Rattle.ng_parse.specs.declared.fault.Fault.{Fault}
use Rattle.ng_base.specs.declared.memory.Stop.{Stop}
use Rattle.ng_base.specs.declared.memory.Stop.TheVariants.{Fault as At, NoMemory}
use Rattle.ng_shape.specs.Decoding.{◌>>=◌}
use Rattle.ng_parse.specs.Faults.{fault_at, StopsAt}
use Rattle.ng_parse.specs.Reading.{Read, repeat}

pub stops_on : {A B : Type 0} (stop : Stop Fault) (r : Result A Fault) (f : A → Result B Fault) → StopsAt stop r → StopsAt stop (r >>= f)
stops_on (At fault) r f e = rw e refl
stops_on NoMemory r f e = tt

-- a step that gave one more
pub goes_on : {A : Type 0} (step : List A → List ℕ → Read (Option A)) (count i : ℕ) (so_far : List A) (text : List ℕ) (a : A) (rest : List ℕ) (total : Read (List A)) → i < count → step so_far text ≡ Ok (Some a, rest)
    → repeat step (count - i) so_far text ≡ total → repeat step (count - (i + 1)) (so_far ++ a ∷ []) rest ≡ total
unfolding repeat
goes_on step count i so_far text a rest total lt h now =
    let k : count - i ≡ suc (count - (i + 1)) = omega arith in
    let one : repeat step (count - i) so_far text ≡ repeat step (count - (i + 1)) (so_far ++ a ∷ []) rest = rw (k, h) refl in
    sym one ∙ now

-- the step that ends the list
pub is_last : {A : Type 0} (step : List A → List ℕ → Read (Option A)) (count i : ℕ) (so_far : List A) (text rest : List ℕ) (total : Read (List A)) → i < count → step so_far text ≡ Ok (None, rest)
    → repeat step (count - i) so_far text ≡ total → total ≡ Ok (so_far, rest)
unfolding repeat
is_last step count i so_far text rest total lt h now =
    let k : count - i ≡ suc (count - (i + 1)) = omega arith in
    let one : repeat step (count - i) so_far text ≡ Ok (so_far, rest) = rw (k, h) refl in
    sym now ∙ one

-- a step that failed
pub stops : {A : Type 0} (step : List A → List ℕ → Read (Option A)) (stop : Stop Fault) (count i : ℕ) (so_far : List A) (text : List ℕ) (total : Read (List A)) → i < count → StopsAt stop (step so_far text)
    → repeat step (count - i) so_far text ≡ total → StopsAt stop total
unfolding repeat
stops step NoMemory count i so_far text total lt h now = tt
stops step (At fault) count i so_far text total lt h now =
    let k : count - i ≡ suc (count - (i + 1)) = omega arith in
    let one : repeat step (count - i) so_far text ≡ Err fault = rw (k, h) refl in
    sym now ∙ one

-- no turn is left
pub runs_out : {A : Type 0} (step : List A → List ℕ → Read (Option A)) (count i : ℕ) (so_far : List A) (text : List ℕ) (total : Read (List A)) → count ≤ i
    → repeat step (count - i) so_far text ≡ total → total ≡ Err (fault_at Unexpected text)
unfolding repeat
runs_out step count i so_far text total le now =
    let k : count - i ≡ 0 = omega arith in
    let one : repeat step (count - i) so_far text ≡ Err (fault_at Unexpected text) = rw k refl in
    sym now ∙ one
