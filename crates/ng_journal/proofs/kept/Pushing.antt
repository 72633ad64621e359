-- An event behind others.
use Rattle.std.proofs.Common.{◌≡◌, ◌+◌, List, [], ◌∷◌, ◌++◌, length, Some, sym, ap, ◌∙◌, append_assoc, unwrap_or}
use Rattle.std.proofs.lemmas.List.{append-nil, length-append}
use Rattle.std.proofs.lemmas.Option.{none-some}
use Rattle.ng_base.specs.declared.event.Event.{Event}
use Rattle.ng_journal.specs.declared.kept.short.Short.{Short}
use Rattle.ng_journal.specs.declared.kept.short.Short.TheVariants.{Feed, Take, Back, Apply, Stop, Great}
use Rattle.ng_journal.specs.kept.Shorts.{of_short, events_in}

-- whatever comes behind stands behind all events
abbrev Behind : List Short → List Event → Type 0
Behind shorts great = (more : List Short) (others : List Event) → events_in (shorts ++ more) (great ++ others) ≡ events_in shorts great ++ events_in more others

first_short : (short : Short) (event : Event) (shorts : List Short) (great : List Event) → of_short short ≡ Some event
    → events_in (short ∷ shorts) great ≡ event ∷ events_in shorts great
first_short Feed event shorts great e = ap (λ o. unwrap_or o event ∷ events_in shorts great) e
first_short (Take seat id) event shorts great e = ap (λ o. unwrap_or o event ∷ events_in shorts great) e
first_short (Back id) event shorts great e = ap (λ o. unwrap_or o event ∷ events_in shorts great) e
first_short (Apply id) event shorts great e = ap (λ o. unwrap_or o event ∷ events_in shorts great) e
first_short Stop event shorts great e = ap (λ o. unwrap_or o event ∷ events_in shorts great) e
first_short Great event shorts great e = absurd (none-some event e)

pub pushed : (shorts : List Short) (great : List Event) (short : Short) (event : Event) → Behind shorts great → of_short short ≡ Some event
    → events_in (shorts ++ short ∷ []) great ≡ events_in shorts great ++ event ∷ []
pushed shorts great short event behind e =
    ap (λ g. events_in (shorts ++ short ∷ []) g) (sym (append-nil great))
    ∙ behind (short ∷ []) []
    ∙ ap (λ l. events_in shorts great ++ l) (first_short short event [] [] e)

pub behind_pushed : (shorts : List Short) (great : List Event) (short : Short) (event : Event) → Behind shorts great → of_short short ≡ Some event
    → Behind (shorts ++ short ∷ []) great
behind_pushed shorts great short event behind e more others =
    ap (λ l. events_in l (great ++ others)) (append_assoc shorts (short ∷ []) more)
    ∙ behind (short ∷ more) others
    ∙ ap (λ l. events_in shorts great ++ l) (first_short short event more others e)
    ∙ sym (append_assoc (events_in shorts great) (event ∷ []) (events_in more others))
    ∙ sym (ap (λ l. l ++ events_in more others) (pushed shorts great short event behind e))

pub count_pushed : (shorts : List Short) (great : List Event) (short : Short) (event : Event) → Behind shorts great → of_short short ≡ Some event
    → length (events_in shorts great) ≡ length shorts → length (events_in (shorts ++ short ∷ []) great) ≡ length (shorts ++ short ∷ [])
count_pushed shorts great short event behind e count =
    ap length (pushed shorts great short event behind e)
    ∙ length-append (events_in shorts great) (event ∷ [])
    ∙ ap (λ n. n + 1) count
    ∙ sym (length-append shorts (short ∷ []))
