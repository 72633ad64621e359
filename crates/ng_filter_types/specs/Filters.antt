-- The filters of an etf node: in order of their ethertypes, and at most 4,096.
use Rattle.std.specs.Prelude.{◌≡◌, ◌≤◌, ℕ, Bool, not, ◌||◌, nat_lt, false, List, [], ◌∷◌, length, is_some}
use Rattle.ng_base.specs.Name.{is_name}
use Rattle.ng_base.specs.Names.{has_name}
use Rattle.ng_machine.specs.declared.plan.EtfWay.{EtfWay}
use Rattle.ng_machine.specs.kinds.Etf.{etf_filter_of, most_filters}
use Rattle.ng_machine.specs.Names.{downstream, nomatch}
use Rattle.ng_sorted.specs.Order.{IsInOrder, IsGap}

-- by what filters are in order
abbrev pub number_of : EtfWay → ℕ
number_of f = f.ethertype

pub record AreFilters (filters : List EtfWay) : Type 0 where
  pub ordered : IsInOrder number_of filters
  pub few : length filters ≤ most_filters

-- no filter has this ethertype, and one would stand at this place
pub record IsFree (filters : List EtfWay) (ethertype place : ℕ) : Type 0 where
  pub none : is_some (etf_filter_of ethertype filters) ≡ false
  pub gap : IsGap number_of filters ethertype place

-- values that setfilter takes of no filter
abbrev pub is_invalid : EtfWay → Bool
is_invalid f = not (is_name f.hook) || (has_name (downstream ∷ nomatch ∷ []) f.hook || nat_lt f.ethertype 1536)
