use Rattle.std.proofs.Common.{◌≡◌, ◌++◌, slice_index}
use Rattle.std.specs.List.{flat_map}
use Rattle.ng_forecast.specs.Text.{hook_line}
use Rattle.ng_forecast.proofs.text.put_hooks.Given as goal

abbrev pub invariant-loop-name : goal.invariant-loop-name
invariant-loop-name l =
    l.text.items ++ flat_map (λ e. hook_line e.0 (slice_index l.hooks.counts.items e.1)) l.name-iterator
    ≡ l.fn.text.items ++ flat_map (λ e. hook_line e.0 (slice_index l.hooks.counts.items e.1)) l.hooks.places.entries
