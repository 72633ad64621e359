-- What the passes of a counter's seats know.
use Rattle.std.specs.Prelude.{◌≡◌, ◌+◌, ◌<◌, ℕ, List}
use Rattle.ng_turn.specs.declared.pass.Pass.{Pass}
use Rattle.ng_turn.specs.declared.turn.Turn.{Turn}
use Rattle.ng_turn.specs.Words.{EachPass, IsPass, desk_of, seat_of, seats_of}
use Rattle.ng_machine_tests.specs.declared.counter.counter.Counter.{Counter}
use Rattle.ng_machine_tests.specs.declared.counter.counter.Desk.{Desk}
use Rattle.ng_machine_tests.specs.counter.Counter.{blank_desk}

-- a pass of this turn
abbrev pub IsOf : Turn Counter Desk → Pass Counter Desk → Type 0
IsOf turn pass = IsPass blank_desk turn pass

-- the pass of the same seat, when that seat has added so many times more
abbrev pub Added : Pass Counter Desk → ℕ → Pass Counter Desk → Type 0
Added old times new =
    (seat_of new ≡ seat_of old) ×
    (desk_of blank_desk new ≡ record (desk_of blank_desk old) { additions = (desk_of blank_desk old).additions + times })

-- the pass of this seat of a counter that began with 0; `times` says how often each seat has added
abbrev pub HasAdded : Turn Counter Desk → (ℕ → ℕ) → ℕ → Pass Counter Desk → Type 0
HasAdded turn times seat pass =
    IsOf turn pass × (seat_of pass ≡ seat) × (seat < seats_of turn) ×
    (desk_of blank_desk pass ≡ record { start = 0; seats = seats_of turn; additions = times seat })

-- so is each pass, in the order of the seats
abbrev pub HaveAdded : Turn Counter Desk → (ℕ → ℕ) → List (Pass Counter Desk) → Type 0
HaveAdded turn times passes = EachPass (HasAdded turn times) passes

-- no seat has added
abbrev pub AreIdle : Turn Counter Desk → List (Pass Counter Desk) → Type 0
AreIdle turn passes = HaveAdded turn (λ seat. 0) passes

-- each seat has added once more often than its number says
abbrev pub AreDone : Turn Counter Desk → List (Pass Counter Desk) → Type 0
AreDone turn passes = HaveAdded turn (λ seat. seat + 1) passes
