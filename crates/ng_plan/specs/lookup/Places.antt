-- Places under names: a name leads to a number, and the number to its place among those that stand there.
use Rattle.std.specs.Prelude.{◌≡◌, ℕ, ◌<◌, List, Some, map}
use Rattle.ng_plan.specs.lookup.NameMap.{Map, under}
use Rattle.ng_plan.specs.lookup.Order.{place_in}

-- the place of the number under each name
abbrev pub placed : Map ℕ → List ℕ → Map ℕ
placed numbers standing = record { names = numbers.names; values = map (place_in standing) numbers.values; room = numbers.room }

-- each number that stands under a name was given
abbrev pub AreGiven : Map ℕ → ℕ → Type 0
AreGiven numbers next = (name : List ℕ) (number : ℕ) → under numbers name ≡ Some number → number < next
