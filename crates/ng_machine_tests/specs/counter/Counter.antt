-- What a contract says of a counter.
use Rattle.std.specs.Prelude.{◌≡◌, ◌+◌, ◌<◌, ℕ, List, length, slice_index, sum}
use Rattle.ng_machine_tests.specs.declared.counter.counter.Counter.{Counter}
use Rattle.ng_machine_tests.specs.declared.counter.counter.Desk.{Desk}

-- what the counter began with
abbrev pub start_of : Counter → ℕ
start_of counter = counter.start

-- how often each seat has added
abbrev pub additions_of : Counter → List ℕ
additions_of counter = counter.additions.items

abbrev pub total_of : Counter → ℕ
total_of counter = start_of counter + sum (additions_of counter)

-- the desk of a seat
abbrev pub desk_at : Counter → ℕ → Desk
desk_at counter seat =
    record { start = start_of counter; seats = length (additions_of counter); additions = slice_index (additions_of counter) seat }

-- a desk of no counter
abbrev pub blank_desk : Desk
blank_desk = record { start = 0; seats = 0; additions = 0 }

-- a counter of so many seats that began with 0, and to which each seat added once more often than its number says
abbrev pub IsCounted : ℕ → Counter → Type 0
IsCounted seats counter =
    (start_of counter ≡ 0) × (length (additions_of counter) ≡ seats) ×
    ((seat : ℕ) → seat < seats → slice_index (additions_of counter) seat ≡ seat + 1)
