use Rattle.std.proofs.Common.{◌∙◌, ap, subst}
use Rattle.std.specs.Map.{keys_of}
use Rattle.std.specs.BTreeMap.{Updates}
use Rattle.std.specs.Cmp.Lexicographic.{slice_cmp}
use Rattle.std.specs.Ordering.{nat_cmp}
use Rattle.std.specs.declared.option.Option.TheVariants.{Some}
use Rattle.ng_forecast.proofs.ByHook.{counts_more, kept_more, names_more}
use Rattle.ng_forecast.proofs.hooks.enter.Goals as goal

pub returns-clause-kept : goal.returns-clause-kept
returns-clause-kept c =
    kept_more c.args.hooks.now (record { names = c.push.new.self; counts = c.push-2.new.self; places = c.insert.new.self; next = c.args.hooks.now.next })
    c.args.hook.now c.requires.kept c.requires.new c.in_ok-push.ensures.items c.in_ok-push-2.ensures.items
    (subst (λ n. Updates (slice_cmp nat_cmp) c.args.hooks.now.places c.insert.new.self c.args.hook.now (Some n)) (c.len-place.ensures ∙ c.args.hooks.now.names.ok.0) c.in_ok-insert.ensures.updates)
    c.in_ok-insert.ensures.ordered

pub returns-clause-counts : goal.returns-clause-counts
returns-clause-counts c =
    counts_more c.args.hooks.now (record { names = c.push.new.self; counts = c.push-2.new.self; places = c.insert.new.self; next = c.args.hooks.now.next })
    c.args.hook.now c.requires.kept c.requires.new c.in_ok-push-2.ensures.items
    (subst (λ n. Updates (slice_cmp nat_cmp) c.args.hooks.now.places c.insert.new.self c.args.hook.now (Some n)) (c.len-place.ensures ∙ c.args.hooks.now.names.ok.0) c.in_ok-insert.ensures.updates)

pub returns-clause-names : goal.returns-clause-names
returns-clause-names c = ap keys_of c.in_ok-insert.ensures.entries ∙ names_more c.args.hook.now c.len-place.result c.args.hooks.now.places.entries
