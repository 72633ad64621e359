-- A place more of a packet.
use Rattle.std.proofs.Common.{◌≡◌, ℕ, ◌+◌, Bool, true, false, List, [], ◌∷◌, ◌++◌, length, sym, ap, ◌∙◌}
use Rattle.std.specs.Prelude.{nat_lt}
use Rattle.ng_trace.specs.declared.ending.Place.{Place}
use Rattle.ng_trace.specs.Watched.{Journey, add_place, add_unless, most_places}

abbrev pub journey : Bool → List Place → ℕ → Journey
journey reached places more = record { reached = reached; places = places; more = more }

pub placed : (reached : Bool) (places now : List Place) (more : ℕ) (place : Place) → reached ≡ false → nat_lt (length places) most_places ≡ true → now ≡ places ++ place ∷ []
    → journey reached now more ≡ add_place place (journey reached places more)
placed reached places now more place kept room is =
    ap (λ (l : List Place). journey reached l more) is
    ∙ sym (ap (λ (b : Bool). add_unless b (nat_lt (length places) most_places) place (journey reached places more)) kept
    ∙ ap (λ (b : Bool). add_unless false b place (journey reached places more)) room)

pub counted : (reached : Bool) (places : List Place) (more now : ℕ) (place : Place) → reached ≡ false → nat_lt (length places) most_places ≡ false → now ≡ more + 1
    → journey reached places now ≡ add_place place (journey reached places more)
counted reached places more now place kept full is =
    ap (journey reached places) is
    ∙ sym (ap (λ (b : Bool). add_unless b (nat_lt (length places) most_places) place (journey reached places more)) kept
    ∙ ap (λ (b : Bool). add_unless false b place (journey reached places more)) full)
