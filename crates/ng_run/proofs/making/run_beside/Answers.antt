use Rattle.std.proofs.Common.{◌≡◌, ℕ, ◌<◌, List, map, true, sym, ap, subst, arith}
use Rattle.ng_base.specs.declared.kind.Kind.{Kind}
use Rattle.ng_machine.specs.LowRun.{IsModest}
use Rattle.ng_machine.specs.SetUp.{has_waited}
use Rattle.ng_machine.specs.State.{kind_of}
use Rattle.ng_core.specs.CoreStory.{CoreStory, setting_of, story}
use Rattle.ng_machine.specs.story.Story.{AreFitFor, run_state_of, with_more}
use Rattle.ng_workers.specs.Ending.{RanPartly, RanToEnd}
use Rattle.ng_run.specs.Begun.{begun_by}
use Rattle.ng_run.proofs.Runs.{IsWholeRun, has_ports, is_part, is_run, is_world, runs}
use Rattle.ng_run.proofs.making.run_beside.Goals as goal
use Rattle.ng_run.proofs.making.run_beside.Goals.{After-journal-journal}

pub run_workers-requires-clause-seats : goal.run_workers-requires-clause-seats
run_workers-requires-clause-seats g c κs within = sym (ap (λ (x : CoreStory). x.seats) c.in-Ok.ensures.made)

pub run_workers-requires-clause-running : goal.run_workers-requires-clause-running
run_workers-requires-clause-running g c κs within =
    runs (map (λ b. kind_of (g.B.Node.state b)) c.args.stock.items) c.args.words.now c.args.seats c.in-Ok.begun c.in-Ok.ensures.made

pub run_workers-requires-clause-idle : goal.run_workers-requires-clause-idle
run_workers-requires-clause-idle g c κs within =
    ap (λ (x : CoreStory). (run_state_of (story x)).taken) c.in-Ok.ensures.made

pub run_workers-requires-clause-fits : goal.run_workers-requires-clause-fits
run_workers-requires-clause-fits g c κs within =
    let kinds : List Kind = map (λ b. kind_of (g.B.Node.state b)) c.args.stock.items in
    subst (λ (x : CoreStory). AreFitFor (story x) c.args.inputs.items) (sym c.in-Ok.ensures.made)
    (subst (λ (n : ℕ). IsModest (with_more (setting_of (begun_by kinds c.args.words.now n)) c.args.inputs.items)) (sym c.requires.seats) c.requires.may.modest)

abbrev kinds_of : (g : _) (c : After-journal-journal g) → List Kind
kinds_of g c = map (λ b. kind_of (g.B.Node.state b)) c.args.stock.items

ran : (g : _) (c : After-journal-journal g) → RanToEnd (story (begun_by (kinds_of g c) c.args.words.now c.args.seats)) c.args.inputs.items (story c.in-Ok-run_workers.core)
ran g c = subst (λ (x : CoreStory). RanToEnd (story x) c.args.inputs.items (story c.in-Ok-run_workers.core)) c.in-Ok.ensures.made c.in-Ok-run_workers.ensures.ran

whole : (g : _) (c : After-journal-journal g) → IsWholeRun (kinds_of g c) c.args.words.now c.args.seats c.args.inputs.items c.in-Ok-run_workers.core
whole g c =
    let it = c.ran_is_whole.ensures (setting_of (begun_by (kinds_of g c) c.args.words.now c.args.seats)) c.args.inputs.items (story c.in-Ok-run_workers.core)
    c.journal-journal.ensures.sound (ran g c) in (it.0, it.1, it.2)

waited : (g : _) (c : After-journal-journal g)
    → has_waited (with_more (setting_of (begun_by (kinds_of g c) c.args.words.now c.args.seats)) c.args.inputs.items) c.in-Ok-run_workers.core.journal ≡ true
waited g c =
    (c.ran_is_whole.ensures (setting_of (begun_by (kinds_of g c) c.args.words.now c.args.seats)) c.args.inputs.items (story c.in-Ok-run_workers.core)
    c.journal-journal.ensures.sound (ran g c)).3

no_worker : (n : ℕ) → 0 < n → n ≡ 0 → ⊥
no_worker n some none = omega arith

pub returns-in-Ok-run_workers-clause-run : goal.returns-in-Ok-run_workers-clause-run
returns-in-Ok-run_workers-clause-run g c =
    let late = (goal.at.returns-in-Ok-run_workers-clause-run g c).After-journal-journal in
    is_run (kinds_of g late) c.args.words.now c.args.seats c.args.inputs.items c.in-Ok-run_workers.core c.requires.seats (whole g late)
    (λ none. absurd (no_worker c.args.words.now.workers c.requires.some none))
    (λ some. waited g late)

pub returns-in-Ok-run_workers-clause-world : goal.returns-in-Ok-run_workers-clause-world
returns-in-Ok-run_workers-clause-world g c =
    let late = (goal.at.returns-in-Ok-run_workers-clause-world g c).After-journal-journal in
    is_world (kinds_of g late) c.args.words.now c.args.seats c.args.inputs.items c.in-Ok-run_workers.core c.requires.seats (whole g late)

pub returns-in-Ok-run_workers-clause-ports : goal.returns-in-Ok-run_workers-clause-ports
returns-in-Ok-run_workers-clause-ports g c =
    let late = (goal.at.returns-in-Ok-run_workers-clause-ports g c).After-journal-journal in
    has_ports (kinds_of g late) c.args.words.now c.args.seats c.args.inputs.items c.in-Ok-run_workers.core c.requires.seats (whole g late)

pub returns-in-Err-clause-part : goal.returns-in-Err-clause-part
returns-in-Err-clause-part g c =
    let kinds : List Kind = map (λ b. kind_of (g.B.Node.state b)) c.args.stock.items in
    is_part kinds c.args.words.now c.args.seats c.args.inputs.items c.in-Err.core c.requires.seats c.into_journal.result.items c.into_journal.ensures
    (c.ran_is_orderly.ensures (story (begun_by kinds c.args.words.now c.args.seats)) c.args.inputs.items (story c.in-Err.core) c.journal-journal-in-Err.ensures.sound
    (subst (λ (x : CoreStory). RanPartly (story x) c.args.inputs.items (story c.in-Err.core)) c.in-Ok.ensures.made c.in-Err.ensures.partly))
