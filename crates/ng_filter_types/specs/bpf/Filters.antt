-- What a bpf node keeps of its hooks: what stands at each, in the order in which they were made, and its place.
use Rattle.std.specs.Prelude.{ℕ, List, map}
use Rattle.ng_plan.specs.lookup.ByName.{IsIndexed}
use Rattle.ng_plan.specs.lookup.NameMap.{AreDistinct, Map}
use Rattle.ng_machine.specs.kinds.Bpf.{Filter}

-- the names of the hooks, in the order in which they were made
abbrev pub hooks_of : List Filter → List (List ℕ)
hooks_of s = map (λ f. f.way.hook) s

-- no two hooks have the same name, and each name leads to the place of its hook
pub record ArePlaced (filters : List Filter) (places : Map ℕ) : Type 0 where
  pub distinct : AreDistinct (hooks_of filters)
  pub indexed : IsIndexed (λ (f : Filter). f.way.hook) filters places
