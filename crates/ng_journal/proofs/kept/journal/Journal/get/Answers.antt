-- The event of a short one, or where its numbers are great the one that stands elsewhere.
use Rattle.std.proofs.Common.{◌≡◌, ◌<◌, ◌≤◌, length, take, Some, None, refl, sym, ap, ◌∙◌, arith}
use Rattle.std.specs.Prelude.{slice_get}
use Rattle.std.proofs.lemmas.Bool.Decides.{nat_tests}
use Rattle.std.proofs.lemmas.Option.{slice_get_past, slice_get_read}
use Rattle.ng_journal.specs.kept.Journal.{Log}
use Rattle.ng_journal.specs.kept.Shorts.{greats_in}
use Rattle.ng_journal.proofs.kept.Getting.{event_at, event_of, or_else}
use Rattle.ng_journal.proofs.kept.journal.Journal.get.Goals as goal

pub returns-in-Some : goal.returns-in-Some
returns-in-Some c =
    let shorts = c.self.inside.shorts.items in
    let great = c.self.inside.great.items in
    let elsewhere = slice_get great (greats_in (take c.args.at shorts)) in
    let within : c.args.at < length c.deref.result.now = grind (arith, nat_tests) in
    let found = slice_get_read c.deref.result.now _ c.args.at c.in_ok-short.short.now refl within c.in_ok-short.ensures.lookup.1 in
    let short : slice_get shorts c.args.at ≡ Some c.in_ok-short.short.now = ap (λ l. slice_get l c.args.at) (sym c.deref.ensures.value) ∙ found in
    sym (ap (λ (l : Log). slice_get l.items c.args.at) (sym c.self.view_is)
    ∙ event_at shorts great c.args.at c.self.invariant.count
    ∙ ap (λ o. event_of o elsewhere) short
    ∙ ap (λ o. or_else o elsewhere) (sym c.lengthen.ensures ∙ c.in-Some.is))

pub returns-in_err-event : goal.returns-in_err-event
returns-in_err-event c =
    let shorts = c.self.inside.shorts.items in
    let great = c.self.inside.great.items in
    let elsewhere = slice_get great (greats_in (take c.args.at shorts)) in
    let within : c.args.at < length c.deref.result.now = grind (arith, nat_tests) in
    let found = slice_get_read c.deref.result.now _ c.args.at c.in_ok-short.short.now refl within c.in_ok-short.ensures.lookup.1 in
    let short : slice_get shorts c.args.at ≡ Some c.in_ok-short.short.now = ap (λ l. slice_get l c.args.at) (sym c.deref.ensures.value) ∙ found in
    let place : c.greats_among.result ≡ greats_in (take c.args.at shorts) = c.greats_among.ensures ∙ ap (λ l. greats_in (take c.args.at l)) c.deref-3.ensures.value in
    let past : length c.deref-2.result.now ≤ c.greats_among.result = let none = c.in_err-event.ensures.lookup.0 in grind (arith, nat_tests) in
    let none : elsewhere ≡ None =
    ap (λ l. slice_get l (greats_in (take c.args.at shorts))) (sym c.deref-2.ensures.value)
    ∙ ap (slice_get c.deref-2.result.now) (sym place)
    ∙ slice_get_past c.deref-2.result.now c.greats_among.result past in
    c.from_residual-in_err-event.ensures
    ∙ sym (ap (λ (l : Log). slice_get l.items c.args.at) (sym c.self.view_is)
    ∙ event_at shorts great c.args.at c.self.invariant.count
    ∙ ap (λ o. event_of o elsewhere) short
    ∙ ap (λ o. or_else o elsewhere) (sym c.lengthen.ensures ∙ c.in_default.is)
    ∙ none)

pub returns : goal.returns
returns c =
    let shorts = c.self.inside.shorts.items in
    let great = c.self.inside.great.items in
    let elsewhere = slice_get great (greats_in (take c.args.at shorts)) in
    let within : c.args.at < length c.deref.result.now = grind (arith, nat_tests) in
    let found = slice_get_read c.deref.result.now _ c.args.at c.in_ok-short.short.now refl within c.in_ok-short.ensures.lookup.1 in
    let short : slice_get shorts c.args.at ≡ Some c.in_ok-short.short.now = ap (λ l. slice_get l c.args.at) (sym c.deref.ensures.value) ∙ found in
    let place : c.greats_among.result ≡ greats_in (take c.args.at shorts) = c.greats_among.ensures ∙ ap (λ l. greats_in (take c.args.at l)) c.deref-3.ensures.value in
    let there : c.greats_among.result < length c.deref-2.result.now = let some = c.in_ok-event.ensures.lookup.0 in grind (arith, nat_tests) in
    let some : elsewhere ≡ Some c.in_ok-event.event.now =
    ap (λ l. slice_get l (greats_in (take c.args.at shorts))) (sym c.deref-2.ensures.value)
    ∙ ap (slice_get c.deref-2.result.now) (sym place)
    ∙ slice_get_read c.deref-2.result.now _ c.greats_among.result c.in_ok-event.event.now refl there c.in_ok-event.ensures.lookup.1 in
    sym (ap (λ (l : Log). slice_get l.items c.args.at) (sym c.self.view_is)
    ∙ event_at shorts great c.args.at c.self.invariant.count
    ∙ ap (λ o. event_of o elsewhere) short
    ∙ ap (λ o. or_else o elsewhere) (sym c.lengthen.ensures ∙ c.in_default.is)
    ∙ some)
