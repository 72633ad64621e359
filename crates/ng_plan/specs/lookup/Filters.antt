-- The filters of a vlan node, found by their hooks.
use Rattle.std.specs.Prelude.{◌≡◌, ◌==◌, ℕ, not, List, [], ◌∷◌, filter, None}
use Rattle.std.specs.Option.{option_map}
use Rattle.ng_machine.specs.declared.plan.VlanWay.{VlanWay}
use Rattle.ng_machine.specs.kinds.Vlan.{filter_of_hook}
use Rattle.ng_plan.specs.lookup.ByName.{IsIndexed}
use Rattle.ng_plan.specs.lookup.NameMap.{Map, under}
use Rattle.ng_plan.specs.lookup.Table.{IsAscending}
use Rattle.ng_plan.specs.declared.lookup.filters.ByHook.{ByHook}
use Rattle.ng_plan.specs.declared.lookup.filters.ByHook.TheVariants.{Numbers, Places}

-- each filter has a greater number than the one before it
abbrev pub IsByNumber : List VlanWay → Type 0
IsByNumber filters = IsAscending (λ (f : VlanWay). f.vlan) filters

-- under each hook stands the number of its first filter
abbrev pub AreNumbersOf : List VlanWay → Map ℕ → Type 0
AreNumbersOf filters numbers = (hook : List ℕ) → under numbers hook ≡ option_map (λ (f : VlanWay). f.vlan) (filter_of_hook hook filters)

-- no two filters are of one hook
abbrev pub AreApart : List VlanWay → Type 0
AreApart [] = Unit {0}
AreApart (f ∷ filters) = (filter_of_hook f.hook filters ≡ None) × AreApart filters

-- the filters without that of a number
abbrev pub without_number : ℕ → List VlanWay → List VlanWay
without_number number filters = filter (λ (f : VlanWay). not (f.vlan == number)) filters

-- a hook leads to its first filter: by the filter's number, or by its place
abbrev pub LeadsTo : List VlanWay → ByHook → Type 0
LeadsTo filters (Numbers numbers) = IsByNumber filters × AreNumbersOf filters numbers × AreApart filters
LeadsTo filters (Places places) = IsIndexed (λ (f : VlanWay). f.hook) filters places
