-- Faults of texts. A fault is known by the number of bytes from it to the end of the text, until the whole text is known.
use Rattle.std.specs.Prelude.{◌≡◌, ℕ, ◌-◌, List, length, Option, Some, None, Result, Ok, Err, nat_lt, ◌==◌, ◌&&◌, if◌then◌else◌}
use Rattle.ng_parse.specs.declared.fault.TextFault.{TextFault}
use Rattle.ng_parse.specs.declared.fault.TextFault.TheVariants as faults
use Rattle.ng_parse.specs.declared.fault.Why.{Why}
use Rattle.ng_parse.specs.declared.fault.Why.TheVariants.{Unexpected, UnknownField, Twice, Range, TooMany}
use Rattle.ng_parse.specs.declared.fault.Fault.{Fault}
use Rattle.ng_base.specs.declared.memory.Stop.{Stop}
use Rattle.ng_base.specs.declared.memory.Stop.TheVariants.{Fault as At, NoMemory}

-- a fault where this rest of a text begins
abbrev pub fault_at : Why → List ℕ → Fault
fault_at why text = record { why = why; left = length text }

abbrev pub fails : {A : Type 0} → Why → List ℕ → Result A Fault
fails why text = Err (fault_at why text)

-- the order of faults at one place
abbrev pub rank : Why → ℕ
rank Unexpected = 0
rank UnknownField = 1
rank Twice = 2
rank Range = 3
rank TooMany = 4

-- of two faults, the second at the place of the first or behind it, the one that comes first
abbrev pub first_of : Fault → Fault → Fault
first_of fault later = if (later.left == fault.left) && nat_lt (rank later.why) (rank fault.why) then later else fault

abbrev pub text_fault : Why → ℕ → TextFault
text_fault Unexpected place = faults.Unexpected place
text_fault UnknownField place = faults.UnknownField place
text_fault Twice place = faults.Twice place
text_fault Range place = faults.Range place
text_fault TooMany place = faults.TooMany place

-- a fault in a text of so many bytes
abbrev pub place_fault : ℕ → Fault → TextFault
place_fault n fault = text_fault fault.why (n - fault.left)

abbrev pub with_place : {A : Type 0} → ℕ → Result A Fault → Result A TextFault
with_place n (Ok x) = Ok x
with_place n (Err fault) = Err (place_fault n fault)

-- where a text's fault is, counted from 0
abbrev pub place_of : TextFault → Option ℕ
place_of (faults.Unexpected place) = Some place
place_of (faults.UnknownField place) = Some place
place_of (faults.Twice place) = Some place
place_of (faults.Range place) = Some place
place_of (faults.TooMany place) = Some place
place_of faults.NoMemory = None

-- what a function returned, seen by view, is what a definition gives, unless memory ran out
abbrev pub StopsAt : {A : Type 0} → Stop Fault → Result A Fault → Type 0
StopsAt (At fault) read = read ≡ Err fault
StopsAt NoMemory read = Unit {0}

abbrev pub Follows : {X A : Type 0} → (X → A) → Result X (Stop Fault) → Result A Fault → Type 0
Follows view (Ok x) read = read ≡ Ok (view x)
Follows view (Err stop) read = StopsAt stop read

abbrev pub IsUnlessNoMemory : {X A : Type 0} → (X → A) → Result X TextFault → Result A TextFault → Type 0
IsUnlessNoMemory view (Ok x) read = read ≡ Ok (view x)
IsUnlessNoMemory view (Err faults.NoMemory) read = Unit {0}
IsUnlessNoMemory view (Err fault) read = read ≡ Err fault
