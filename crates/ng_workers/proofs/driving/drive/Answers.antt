use Rattle.std.proofs.Common.{List, None, subst, sym}
use Rattle.ng_machine.specs.declared.input.Input.{Input}
use Rattle.ng_workers.specs.Driving.{Drives, IsOpenFor}
use Rattle.ng_workers.specs.Passes.{desk}
use Rattle.ng_workers.proofs.Driven.{drives_none, drives_then, drove_after}
use Rattle.ng_workers.proofs.driving.drive.Goals as goal

pub loop-init : goal.loop-init
loop-init g c =
    let d = desk c.args.pass in (
      tt,
      tt,
      c.requires.turn,
      c.requires.seat,
      c.requires.ready.stays,
      c.requires.ready.idle,
      subst (λ (l : List Input). Drives d d c.args.inputs.items l None) (sym c.new-unfed.ensures) (drives_none d c.args.inputs.items c.requires.fits),
      (subst (λ (l : List Input). IsOpenFor l d) (sym c.new-unfed.ensures) c.requires.fits, tt),
    )

pub loop-preserved : goal.loop-preserved
loop-preserved g c = (
  tt,
  tt,
  c.in-Goes.ensures.turn,
  c.in-Goes.ensures.seat,
  c.in-Goes.ensures.leaves.0,
  c.in-Goes.ensures.leaves.1,
  drives_then (desk c.args.pass) (desk c.loop.pass) (desk c.in-Goes.next) c.args.inputs.items c.loop.feeder.unfed c.step.new.feeder.unfed None c.loop.invariant.6 c.in-Goes.ensures.drove.0,
  c.in-Goes.ensures.drove.1,
)

pub returns-in-Ends-clause-drove : goal.returns-in-Ends-clause-drove
returns-in-Ends-clause-drove g c =
    drove_after (desk c.args.pass) (desk c.loop.pass) (desk c.in-Ends.last) c.args.inputs.items c.loop.feeder.unfed c.loop.invariant.6 c.in-Ends.ensures.drove
