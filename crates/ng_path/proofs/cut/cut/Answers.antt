use Rattle.std.proofs.Common.{add-one, sym, ◌∙◌}
use Rattle.ng_path.proofs.Cuts.{cut_at_place, cut_nowhere, rest_is}
use Rattle.ng_path.proofs.cut.cut.Goals as goal

pub returns-in-None-clause-parts : goal.returns-in-None-clause-parts
returns-in-None-clause-parts c = cut_nowhere c.args.mark c.args.bytes.now (sym c.first_place.ensures ∙ c.in-None.is)

pub returns-in-Some-clause-parts : goal.returns-in-Some-clause-parts
returns-in-Some-clause-parts c =
    rw (rest_is, add-one) (cut_at_place c.args.mark c.args.bytes.now c.in-Some.place (sym c.first_place.ensures ∙ c.in-Some.is)).parts

pub returns-in-Some-clause-whole : goal.returns-in-Some-clause-whole
returns-in-Some-clause-whole c =
    rw (rest_is, add-one) (cut_at_place c.args.mark c.args.bytes.now c.in-Some.place (sym c.first_place.ensures ∙ c.in-Some.is)).whole
