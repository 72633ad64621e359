-- At the end the name is not there, and a list without a name that it lacks is the same list.
use Rattle.std.proofs.Common.{◌≡◌, false, sym, ◌∙◌}
use Rattle.ng_base.proofs.NumberedNames.{without_none}
use Rattle.ng_base.specs.Names.{has_name}
use Rattle.ng_base.proofs.name_list.NameList.remove.Goals as goal

pub returns : goal.returns
returns c =
    let lacks : has_name c.loop.self.names c.args.name.now ≡ false = sym c.remove_once.ensures.found ∙ c.loop-test.false in
    c.remove_once.ensures.same c.loop-test.false ∙ sym (without_none c.loop.self.names c.args.name.now lacks) ∙ c.loop.invariant
