use Rattle.std.proofs.Common.{◌≡◌, ◌≤◌, ℕ, List, ◌∙◌, arith, length, map, true, false, sym, ap, subst}
use Rattle.std.proofs.lemmas.Grind.{common_steps}
use Rattle.std.specs.List.{list_all}
use Rattle.ng_machine.specs.declared.input.Input.{Input}
use Rattle.ng_machine.specs.State.{kind_of}
use Rattle.ng_core.specs.CoreStory.{CoreStory, story}
use Rattle.ng_machine.specs.story.Story.{AreFitFor, has_ended}
use Rattle.ng_call_tests.specs.chosen.Fit.{fits_input}
use Rattle.ng_call_tests.proofs.chosen.Begins.{begun_fits, begun_runs}
use Rattle.ng_call_tests.proofs.chosen.begin.play.Goals as goal
use Rattle.ng_call_tests.proofs.chosen.begin.play.Goals.{In_ok-core}

runs : (g : _) (c : In_ok-core g) → has_ended (story c.in_ok-core.core) ≡ false
runs g c = ap (λ (x : CoreStory). has_ended (story x)) c.in_ok-core.ensures ∙ begun_runs c.in_ok-own.own c.args.ports.items (map (λ b. kind_of (g.B.Node.state b)) c.args.stock.items) c.args.seats

pub chosen-requires-clause-fits : goal.chosen-requires-clause-fits
chosen-requires-clause-fits g c κs within =
    let few : length c.args.ports.items ≤ 2 = grind (arith, common_steps, c.may_begin.ensures.few, c.if-not-may_begin.false, c.deref.ensures.value) in
    let short : length c.args.inputs.items ≤ 4096 = grind (arith, common_steps, c.may_run.ensures.few, c.if-not-may_run.false, c.deref-2.ensures.value) in
    let count : c.len.result ≡ length c.args.ports.items = let b = c.len.ensures in grind (arith, common_steps) in
    let fit : list_all (fits_input (length c.args.ports.items)) c.args.inputs.items ≡ true =
    subst (λ (n : ℕ). list_all (fits_input n) c.args.inputs.items ≡ true) count
    (subst (λ (l : List Input). list_all (fits_input c.len.result) l ≡ true) c.deref-2.ensures.value (c.may_run.ensures.fits c.if-not-may_run.false)) in
    subst (λ (x : CoreStory). AreFitFor (story x) c.args.inputs.items) (sym c.in_ok-core.ensures)
    (begun_fits c.in_ok-own.own c.args.ports.items (map (λ b. kind_of (g.B.Node.state b)) c.args.stock.items) 1000 c.args.seats c.args.inputs.items (omega arith) few short fit)

pub plain-requires-clause-running : goal.plain-requires-clause-running
plain-requires-clause-running g c κs within = c.in_ok-chosen.ensures.ends ∙ runs g (goal.at.plain-requires-clause-running g c).In_ok-core

pub plain-requires-clause-idle : goal.plain-requires-clause-idle
plain-requires-clause-idle g c κs within = c.in_ok-chosen.ensures.idle (runs g (goal.at.plain-requires-clause-idle g c).In_ok-core)
