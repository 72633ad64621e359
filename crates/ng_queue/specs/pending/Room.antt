-- Room for items that are to be accepted.
use Rattle.std.specs.Prelude.{◌≡◌, ℕ, ◌+◌, ◌-◌, ◌<◌, ◌≤◌, length}
use Rattle.ng_queue.specs.Queues.{spare_at}
use Rattle.ng_queue.specs.declared.pending.pending.Pending.{Pending}

-- each queue has room for so many
abbrev pub HasRoom : (ℕ → ℕ) → Pending → Type 0
HasRoom wanted p = (n : ℕ) → n < length p.queues.lists → wanted n ≤ spare_at p.queues.spares n

-- each queue has lost so many places, or all where there were fewer
abbrev pub Uses : (ℕ → ℕ) → Pending → Pending → Type 0
Uses used old new = (n : ℕ) → n < length old.queues.lists → spare_at new.queues.spares n ≡ spare_at old.queues.spares n - used n

-- each queue has lost at most so many places
abbrev pub Spends : (ℕ → ℕ) → Pending → Pending → Type 0
Spends spent old new = (n : ℕ) → spare_at old.queues.spares n ≤ spare_at new.queues.spares n + spent n
