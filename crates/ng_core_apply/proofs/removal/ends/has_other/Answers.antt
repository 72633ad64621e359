use Rattle.std.proofs.Common.{◌∙◌, sym, arith}
use Rattle.std.proofs.lemmas.Bool.{not-true}
use Rattle.std.proofs.lemmas.Grind.{common_steps}
use Rattle.ng_machine.specs.World.{is_named}
use Rattle.ng_core_apply.proofs.removal.Others.{another_here}
use Rattle.ng_core_apply.proofs.removal.ends.has_other.Goals as goal

pub returns-then-ne : goal.returns-then-ne
returns-then-ne c = sym (another_here c.args.hooks.now c.loop-hook.hook-index c.hook-item.result c.args.name.now (grind (arith, common_steps)) c.hook-item.is
    (not-true (is_named c.args.name.now c.hook-item.result) (sym c.ne.ensures ∙ c.if-ne.true)))
