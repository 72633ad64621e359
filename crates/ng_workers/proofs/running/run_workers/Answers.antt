use Rattle.std.proofs.Common.{◌≡◌, ◌∙◌, length, rules, refl, sym, subst}
use Rattle.ng_core.specs.CoreStory.{CoreStory, story}
use Rattle.ng_workers.specs.Desks.{core_desk}
use Rattle.ng_workers.specs.Ending.{RanPartly}
use Rattle.ng_workers.proofs.EndedRuns.{AllDid, ran_not, ran_partly, ran_to_end}
use Rattle.ng_workers.proofs.Rows.{all_did, begun_desks, begun_ready}
use Rattle.ng_workers.proofs.running.run_workers.Goals as goal
use Rattle.ng_workers.proofs.running.run_workers.Goals.{After-failed}

pub spread-passes-requires-clause-ready : goal.spread-passes-requires-clause-ready
spread-passes-requires-clause-ready g c κs within =
    begun_ready c.args.core c.args.inputs.items c.requires.running c.requires.idle c.requires.fits c.in-Ok.turn c.args.core core_desk c.in-Ok.passes.items c.args.seats c.requires.seats
    (λ seat. refl) c.in-Ok.ensures.made

pub end-core-requires : goal.end-core-requires
end-core-requires g c =
    let made = c.in-Ok.ensures.made in
    let back = c.spread-passes.ensures.back c.args.core (begun_desks c.args.core c.in-Ok.turn c.args.core core_desk c.in-Ok.passes.items c.args.seats (λ seat. refl) made) in
    ((search rules), λ k p at. let is = back k p at in (is.0, is.1))

-- each seat did its part
did : (g : _) (c : After-failed g) → AllDid c.args.core c.end-core.result c.args.inputs.items
did g c =
    let made = c.in-Ok.ensures.made in
    let back = c.spread-passes.ensures.back c.args.core (begun_desks c.args.core c.in-Ok.turn c.args.core core_desk c.in-Ok.passes.items c.args.seats (λ seat. refl) made) in
    let len : length c.spread-passes.result.items ≡ c.args.core.seats = search rules in
    all_did c.in-Ok.turn c.args.core c.end-core.result c.end-core.result core_desk c.args.inputs.items c.spread-passes.result.items len (λ seat. refl) back c.end-core.ensures

pub returns-else-failed-clause-ran : goal.returns-else-failed-clause-ran
returns-else-failed-clause-ran g c =
    ran_to_end c.args.core c.end-core.result c.args.inputs.items (did g (goal.at.returns-else-failed-clause-ran g c).After-failed) c.journal.ensures.seats (sym c.failed.ensures ∙ c.if-failed.false)

pub returns-then-failed-clause-partly : goal.returns-then-failed-clause-partly
returns-then-failed-clause-partly g c =
    ran_partly c.args.core c.end-core.result c.args.inputs.items (did g (goal.at.returns-then-failed-clause-partly g c).After-failed) c.journal.ensures.seats

pub returns-in-Err-clause-partly : goal.returns-in-Err-clause-partly
returns-in-Err-clause-partly g c =
    subst (λ (x : CoreStory). RanPartly (story c.args.core) c.args.inputs.items (story x)) (sym c.in-Err.ensures.refused) (ran_not c.args.core c.args.inputs.items c.requires.running)
