use Rattle.std.proofs.Common.{◌≡◌, ◌∙◌, ◌<◌, length, sym, ap, refl, slice_get}
use Rattle.std.specs.declared.option.Option.TheVariants.{Some}
use Rattle.std.proofs.lemmas.Bool.{ltb-true}
use Rattle.std.proofs.lemmas.Option.{slice_get_read}
use Rattle.std.proofs.lemmas.Slice.Eq.{bytes_eq-Decides}
use Rattle.ng_forecast.proofs.hooks.find.Goals as goal

pub returns-then-eq : goal.returns-then-eq
returns-then-eq c =
    let names = c.deref.result.now in
    let name = c.in-Some.name.now in
    let place = c.args.hooks.now.next in
    let same : name ≡ c.args.hook.now = (bytes_eq-Decides name c.args.hook.now).0 (sym c.if-eq.ensures) in
    let low : place < length names = ltb-true place (length names) (sym c.in-Some.ensures.lookup.0) in
    let there : slice_get names place ≡ Some name = slice_get_read names (length names) place name refl low c.in-Some.ensures.lookup.1 in
    sym (c.requires.placed c.args.hook.now place
    (ap (λ xs. slice_get xs place) (sym c.deref.ensures.value) ∙ there ∙ ap Some same))
