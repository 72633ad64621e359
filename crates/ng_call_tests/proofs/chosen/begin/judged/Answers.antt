use Rattle.std.proofs.Common.{◌≡◌, ◌≤◌, ℕ, List, arith, length, map, refl, true, sym, subst}
use Rattle.std.proofs.lemmas.Grind.{common_steps}
use Rattle.std.specs.List.{list_all}
use Rattle.ng_machine.specs.declared.input.Input.{Input}
use Rattle.ng_machine.specs.State.{kind_of}
use Rattle.ng_core.specs.CoreStory.{CoreStory, setting_of, story}
use Rattle.ng_machine.specs.story.Story.{AreFitFor, begun}
use Rattle.ng_call_tests.specs.chosen.Fit.{fits_input}
use Rattle.ng_call_tests.proofs.chosen.Begins.{begun_fits}
use Rattle.ng_call_tests.proofs.chosen.begin.judged.Goals as goal

pub judge-requires-clause-begun : goal.judge-requires-clause-begun
judge-requires-clause-begun g c κs within = subst (λ (x : CoreStory). story x ≡ begun (setting_of x)) (sym c.in_ok-core.ensures) refl

pub judge-requires-clause-fits : goal.judge-requires-clause-fits
judge-requires-clause-fits g c κs within =
    let few : length c.args.ports.items ≤ 2 = grind (arith, common_steps, c.may_begin.ensures.few, c.if-not-may_begin.false, c.deref.ensures.value) in
    let short : length c.args.inputs.items ≤ 4096 = grind (arith, common_steps, c.may_run.ensures.few, c.if-not-may_run.false, c.deref-2.ensures.value) in
    let count : c.len.result ≡ length c.args.ports.items = let b = c.len.ensures in grind (arith, common_steps) in
    let fit : list_all (fits_input (length c.args.ports.items)) c.args.inputs.items ≡ true =
    subst (λ (n : ℕ). list_all (fits_input n) c.args.inputs.items ≡ true) count
    (subst (λ (l : List Input). list_all (fits_input c.len.result) l ≡ true) c.deref-2.ensures.value (c.may_run.ensures.fits c.if-not-may_run.false)) in
    subst (λ (x : CoreStory). AreFitFor (story x) c.args.inputs.items) (sym c.in_ok-core.ensures)
    (begun_fits c.in_ok-own.own c.args.ports.items (map (λ b. kind_of (g.B.Node.state b)) c.args.stock.items) c.args.limits.0 c.args.limits.1 c.args.inputs.items c.requires.budget few short fit)
