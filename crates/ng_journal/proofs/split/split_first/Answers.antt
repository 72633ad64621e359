-- What is found is where the first part ends.
use Rattle.std.proofs.Common.{ℕ, Bool, ◌+◌, ◌==◌, List, ◌∷◌, take, sym, ap, ◌∙◌}
use Rattle.std.specs.List.{slice_split}
use Rattle.ng_journal.proofs.Splits.{unsplit, split_at_place, rest_is}
use Rattle.ng_journal.proofs.split.split_first.Goals as goal

pub returns-in-None-clause-parts : goal.returns-in-None-clause-parts
returns-in-None-clause-parts c = unsplit (λ b. b == c.args.byte) c.args.text.now (sym c.place_of.ensures ∙ c.in-None.is)

pub returns-in-Some-clause-parts : goal.returns-in-Some-clause-parts
returns-in-Some-clause-parts c =
    let text = c.args.text.now in
    let place = c.in-Some.place in
    let p : ℕ → Bool = λ b. b == c.args.byte in
    (split_at_place p text place (sym c.place_of.ensures ∙ c.in-Some.is)).parts
    ∙ ap (λ (rest : List ℕ). take place text ∷ slice_split p rest) (sym (rest_is (place + 1) text))
