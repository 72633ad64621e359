-- How many packets of a bag are at each place, as they are counted.
use Rattle.std.specs.Prelude.{◌≡◌, ℕ, ◌+◌, ◌<◌, ◌^◌, List, if◌then◌else◌, slice_index}
use Rattle.std.specs.BTreeMap.{keys}
use Rattle.ng_machine.specs.declared.place.Place.{Place}
use Rattle.ng_machine.specs.declared.place.Place.TheVariants.{Wire, Host, Reader}
use Rattle.ng_forecast.specs.declared.text.Counts.{Counts}
use Rattle.ng_forecast.specs.Hooks.{AreKept, hook_count}
use Rattle.ng_machine.specs.Spread.{Spread, same_place}
use Rattle.ng_forecast.specs.Text.{count_at, reader_hooks, with_place}

-- each count is that of the bag, and the hooks are its hooks, in order
pub record AreCounts (counts : Counts) (bag : Spread) : Type 0 where
  pub left : (port : ℕ) → port < 64 → slice_index counts.left port ≡ count_at (Wire port) bag
  pub up : (port : ℕ) → port < 64 → slice_index counts.up port ≡ count_at (Host port) bag
  pub hooks : (name : List ℕ) → hook_count counts.hooks name ≡ count_at (Reader name) bag
  pub names : keys counts.hooks.places ≡ reader_hooks bag
  pub kept : AreKept counts.hooks

-- another packet is counted, at a place
pub record CountsOne (place : Place) (old new : Counts) : Type 0 where
  pub left : (port : ℕ) → port < 64
      → slice_index new.left port ≡ (if same_place (Wire port) place then 1 else 0) + slice_index old.left port
  pub up : (port : ℕ) → port < 64
      → slice_index new.up port ≡ (if same_place (Host port) place then 1 else 0) + slice_index old.up port
  pub hooks : (name : List ℕ)
      → hook_count new.hooks name ≡ (if same_place (Reader name) place then 1 else 0) + hook_count old.hooks name
  pub names : keys new.hooks.places ≡ with_place place (keys old.hooks.places)
  pub kept : AreKept new.hooks

-- there is room for another packet
pub record HaveRoom (counts : Counts) : Type 0 where
  pub left : (port : ℕ) → port < 64 → slice_index counts.left port + 1 < 2 ^ 64
  pub up : (port : ℕ) → port < 64 → slice_index counts.up port + 1 < 2 ^ 64
  pub hooks : (name : List ℕ) → hook_count counts.hooks name + 1 < 2 ^ 64
  pub kept : AreKept counts.hooks
