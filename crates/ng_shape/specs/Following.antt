-- What the functions that read return.
use Rattle.std.specs.Prelude.{◌≡◌, List, ℕ, Result, Ok, Err}
use Rattle.ng_base.specs.declared.memory.Stop.{Stop}
use Rattle.ng_base.specs.declared.memory.Stop.TheVariants.{Fault, NoMemory}
use Rattle.ng_shape.specs.declared.decoding.Missing.{Missing}
use Rattle.ng_shape.specs.Decoding.{Read}

-- what a function returned, seen by view, is what the reader gives, unless memory ran out
abbrev pub StopsAt : {A : Type 0} → Stop Missing → Read A → Type 0
StopsAt (Fault missing) read = read ≡ Err missing.0
StopsAt NoMemory read = Unit {0}

abbrev pub Follows : {X A : Type 0} → (X → A × List ℕ) → Result X (Stop Missing) → Read A → Type 0
Follows view (Ok x) read = read ≡ Ok (view x)
Follows view (Err stop) read = StopsAt stop read
