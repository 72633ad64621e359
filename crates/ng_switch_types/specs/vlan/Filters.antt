-- Filters in order of their numbers, each of its own hook.
use Rattle.std.specs.Prelude.{◌≡◌, ◌≤◌, ℕ, suc, Bool, not, ◌||◌, nat_lt, List, [], ◌∷◌, insert, length, None}
use Rattle.ng_base.specs.Name.{is_name}
use Rattle.ng_base.specs.Names.{has_name}
use Rattle.ng_plan.specs.lookup.Filters.{AreApart, AreNumbersOf}
use Rattle.ng_plan.specs.lookup.NameMap.{Map}
use Rattle.ng_machine.specs.Names.{downstream, nomatch}
use Rattle.ng_machine.specs.declared.plan.VlanWay.{VlanWay}
use Rattle.ng_machine.specs.kinds.Vlan.{filter_of_number, put_filter}

-- each filter has a greater number than the one before it; the first has at least this one, and the last at most 4,095
abbrev pub IsInOrder : ℕ → List VlanWay → Type 0
IsInOrder low [] = Unit {0}
IsInOrder low (f ∷ filters) = (low ≤ f.vlan) × (f.vlan ≤ 4095) × IsInOrder (suc f.vlan) filters

-- filters as a node keeps them, with the number of each hook's filter
pub record AreKept (filters : List VlanWay) (numbers : Map ℕ) : Type 0 where
  pub in_order : IsInOrder 0 filters
  pub apart : AreApart filters
  pub numbered : AreNumbersOf filters numbers

-- no filter has this one's number, and it goes to this place
pub record IsFree (f : VlanWay) (filters : List VlanWay) (place : ℕ) : Type 0 where
  pub none : filter_of_number f.vlan filters ≡ None
  pub bound : place ≤ length filters
  pub put : put_filter f filters ≡ insert filters place f

-- values that addfilter takes of no filter
abbrev pub is_invalid : VlanWay → Bool
is_invalid f = nat_lt 4095 f.vlan || (nat_lt 7 f.pcp || (nat_lt 1 f.cfi || (not (is_name f.hook) || has_name (downstream ∷ nomatch ∷ []) f.hook)))
