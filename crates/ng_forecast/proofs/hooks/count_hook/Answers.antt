use Rattle.std.proofs.Common.{◌∙◌, ◌+◌, ℕ, if◌then◌else◌, ap, refl}
use Rattle.std.specs.Str.{bytes_eq}
use Rattle.ng_forecast.proofs.ByHook.{is_within, one_more}
use Rattle.ng_forecast.proofs.hooks.count_hook.Goals as goal

pub count_at-requires-clause-in_bounds : goal.count_at-requires-clause-in_bounds
count_at-requires-clause-in_bounds c = is_within c.place_of.new.hooks c.args.hook.now c.in_ok-place.place c.in_ok-place.ensures.kept c.in_ok-place.ensures.place

pub returns-clause-count : goal.returns-clause-count
returns-clause-count c = λ name.
    one_more c.place_of.new.hooks (record { names = c.place_of.new.hooks.names; counts = c.count_at.new.counts; places = c.place_of.new.hooks.places; next = c.in_ok-place.place + 1 })
    c.args.hook.now c.in_ok-place.place c.in_ok-place.ensures.kept refl c.in_ok-place.ensures.place c.count_at.ensures.counts name
    ∙ ap (λ (n : ℕ). (if bytes_eq name c.args.hook.now then 1 else 0) + n) (c.in_ok-place.ensures.counts name)
