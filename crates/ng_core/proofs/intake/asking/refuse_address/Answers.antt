use Rattle.std.proofs.Common.{◌≡◌, ℕ, codes, sym, ap, ◌∙◌}
use Rattle.ng_machine.specs.Errors.{einval}
use Rattle.ng_machine.specs.Feed.{refuse_line}
use Rattle.ng_machine.specs.World.{World}
use Rattle.ng_core.specs.declared.intake.decided.Decided.{Decided}
use Rattle.ng_core.specs.declared.intake.leading.Astray.{Astray}
use Rattle.ng_core.specs.intake.Decided.{does, refuse_astray}
use Rattle.ng_core.proofs.intake.Results.{if_ok}
use Rattle.ng_core.proofs.intake.asking.refuse_address.Goals as goal

pub returns-in-BadPath : goal.returns-in-BadPath
returns-in-BadPath c = if_ok
    (λ (d : Decided). (w : World) (command : ℕ) → does d w command ≡ refuse_line w command einval (codes "bad path"))
    (λ (d : Decided). (w : World) (command : ℕ) → does d w command ≡ refuse_astray c.args.why w command)
    c.refuse.result
    (λ d refuses w command. refuses w command ∙ ap (λ (why : Astray). refuse_astray why w command) (sym c.in-BadPath.is))
    c.refuse.ensures
