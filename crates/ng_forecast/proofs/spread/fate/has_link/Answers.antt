use Rattle.std.proofs.Common.{◌≡◌, ◌∙◌, sym, ap}
use Rattle.std.specs.List.{find}
use Rattle.std.specs.Option.{option_copied}
use Rattle.std.specs.declared.option.Option.{Option}
use Rattle.std.specs.declared.option.Option.TheVariants.{Some}
use Rattle.ng_machine.specs.World.{NodeRecord, hook_at, is_named}
use Rattle.ng_forecast.proofs.spread.Linked.{found_linked}
use Rattle.ng_forecast.proofs.spread.fate.has_link.Goals as goal

pub returns-then-hook-link : goal.returns-then-hook-link
returns-then-hook-link g c = λ node here.
    let found : find (is_named c.args.name.now) node.hooks ≡ Some c.in-Some.hook.now =
    sym (ap (λ (o : Option NodeRecord). hook_at o c.args.name.now) here) ∙ sym c.hook_near.ensures ∙ ap option_copied c.in-Some.is in
    sym (found_linked c.args.name.now c.args.link node.hooks c.in-Some.hook.now found c.if-hook-link.true)
