-- Counters: numbers of 64 bits that stop at the greatest. The statistics of a type's manual page are a row of them, in the
-- order of its structure.
use Rattle.std.specs.Prelude.{ℕ, ◌+◌, ◌-◌, ◌^◌, min, not, if◌then◌else◌, List, [], ◌∷◌, map, filter, slice_index, slice_set, replicate, Option, Some, None}
use Rattle.std.specs.List.{fold, flat_map}
use Rattle.std.specs.Str.{bytes_eq}
use Rattle.byteorder.specs.Endian.{little_bytes}

-- what is to be added: the hook, the number of the counter, and the amount
abbrev pub Count : Type 0
Count = List ℕ × ℕ × ℕ

abbrev pub raise : ℕ → ℕ → ℕ
raise counter amount = min (counter + amount) (2 ^ 64 - 1)

-- a row of counters with one of them raised
abbrev pub raise_at : List ℕ → ℕ → ℕ → List ℕ
raise_at row number amount = slice_set row number (raise (slice_index row number) amount)

abbrev pub zeros : ℕ → List ℕ
zeros n = replicate n 0

-- numbers of 64 bits, one after another
abbrev pub row_bytes : List ℕ → List ℕ
row_bytes row = flat_map (little_bytes 8) row

-- a state after each count, by what one count does to it
abbrev pub after_counts : {S : Type 0} → (S → Count → S) → S → List Count → S
after_counts count s counts = fold count s counts

-- Rows of counters, one for each name

abbrev pub Rows : Type 0
Rows = List (List ℕ × List ℕ)

abbrev pub row_named : List ℕ → Rows → Option (List ℕ)
row_named name [] = None
row_named name (row ∷ rows) = if bytes_eq row.0 name then Some row.1 else row_named name rows

-- the rows with something done to the one of that name
abbrev pub at_row : List ℕ → (List ℕ → List ℕ) → Rows → Rows
at_row name change rows = map (λ row. if bytes_eq row.0 name then (row.0, change row.1) else row) rows

abbrev pub without_row : List ℕ → Rows → Rows
without_row name rows = filter (λ row. not (bytes_eq row.0 name)) rows

abbrev pub count_row : Rows → Count → Rows
count_row rows c = at_row c.0 (λ row. raise_at row c.1 c.2) rows

-- a packet comes by a hook, or goes out of it: packets and octets
abbrev pub counts_packet : ℕ → ℕ → List ℕ → ℕ → List Count
counts_packet packets octets hook len = (hook, packets, 1) ∷ (hook, octets, len) ∷ []

-- and out of each of some hooks
abbrev pub counts_packets : ℕ → ℕ → List (List ℕ) → ℕ → List Count
counts_packets packets octets hooks len = flat_map (λ hook. counts_packet packets octets hook len) hooks
