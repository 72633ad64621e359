-- What is asked of a run before it is made: few applied items, ports and commands, inputs that fit, names, and commands
-- that are numbered. Every call meets it; no promise names it.
use Rattle.std.specs.Prelude.{◌≡◌, ◌≤◌, true, ◌∷◌}
use Rattle.ng_machine.specs.Laws.{Setting}
use Rattle.ng_machine.specs.LowRun.{IsModest}
use Rattle.ng_laws.specs.answers.Answers.{HasNames}
use Rattle.ng_laws.specs.printable.Printable.{AreNumbered, AreTimed}
use Rattle.ng_base.specs.Names.{are_different}

pub record MayRun (s : Setting) : Type 0 where
  pub modest : IsModest s
  pub some : 1 ≤ s.budget
  pub names : HasNames s
  pub differ : are_different (s.own ∷ s.ports) ≡ true
  pub numbered : AreNumbered s
  pub timed : AreTimed s
