use Rattle.std.proofs.Common.{◌≡◌, ◌≤◌, ◌∙◌, ℕ, ◌+◌, List, map, sym, ap, subst, arith}
use Rattle.ng_base.specs.declared.kind.Kind.{Kind}
use Rattle.ng_machine.specs.LowRun.{IsModest}
use Rattle.ng_machine.specs.State.{kind_of}
use Rattle.ng_workers.specs.pool.Plainly.{WentPartly, WentPlainly}
use Rattle.ng_core.specs.CoreStory.{CoreStory, setting_of, story}
use Rattle.ng_machine.specs.story.Story.{with_more}
use Rattle.ng_run.specs.Begun.{begun_by}
use Rattle.ng_run.proofs.Runs.{IsWholeRun, has_ports, is_part, is_run, is_world, runs}
use Rattle.ng_run.proofs.making.run_plainly.Goals as goal
use Rattle.ng_run.proofs.making.run_plainly.Goals.{After-journal-journal}

pub plain-requires-clause-running : goal.plain-requires-clause-running
plain-requires-clause-running g c κs within =
    runs (map (λ b. kind_of (g.B.Node.state b)) c.args.stock.items) c.args.words.now c.args.seats c.in-Ok.core c.in-Ok.ensures.made

pub plain-requires-clause-fits : goal.plain-requires-clause-fits
plain-requires-clause-fits g c κs within =
    let kinds : List Kind = map (λ b. kind_of (g.B.Node.state b)) c.args.stock.items in
    subst (λ (x : CoreStory). IsModest (with_more (setting_of x) c.args.inputs.items)) (sym c.in-Ok.ensures.made)
    (subst (λ (n : ℕ). IsModest (with_more (setting_of (begun_by kinds c.args.words.now n)) c.args.inputs.items)) (sym c.requires.seats) c.requires.may.modest)

abbrev kinds_of : (g : _) (c : After-journal-journal g) → List Kind
kinds_of g c = map (λ b. kind_of (g.B.Node.state b)) c.args.stock.items

went : (g : _) (c : After-journal-journal g) → WentPlainly (story (begun_by (kinds_of g c) c.args.words.now c.args.seats)) c.args.inputs.items (story c.plain.new.core)
went g c = subst (λ (x : CoreStory). WentPlainly (story x) c.args.inputs.items (story c.plain.new.core)) c.in-Ok.ensures.made c.in-Ok-plain.ensures.plain

whole : (g : _) (c : After-journal-journal g) → IsWholeRun (kinds_of g c) c.args.words.now c.args.seats c.args.inputs.items c.plain.new.core
whole g c =
    c.plainly_is_whole.ensures (setting_of (begun_by (kinds_of g c) c.args.words.now c.args.seats)) c.args.inputs.items (story c.plain.new.core)
    c.journal-journal.ensures.sound (went g c)

a_worker : (n : ℕ) → n ≡ 0 → 1 ≤ n → ⊥
a_worker n none some = omega arith

pub returns-in-Ok-plain-clause-run : goal.returns-in-Ok-plain-clause-run
returns-in-Ok-plain-clause-run g c =
    let late = (goal.at.returns-in-Ok-plain-clause-run g c).After-journal-journal in
    is_run (kinds_of g late) c.args.words.now c.args.seats c.args.inputs.items c.plain.new.core c.requires.seats (whole g late)
    (λ none. c.plainly_is_plain.ensures (setting_of (begun_by (kinds_of g late) c.args.words.now c.args.seats)) c.args.inputs.items (story c.plain.new.core)
    (c.requires.seats ∙ ap (λ (n : ℕ). n + 1) none) c.journal-journal.ensures.sound (went g late))
    (λ some. absurd (a_worker c.args.words.now.workers c.requires.none some))

pub returns-in-Ok-plain-clause-world : goal.returns-in-Ok-plain-clause-world
returns-in-Ok-plain-clause-world g c =
    let late = (goal.at.returns-in-Ok-plain-clause-world g c).After-journal-journal in
    is_world (kinds_of g late) c.args.words.now c.args.seats c.args.inputs.items c.plain.new.core c.requires.seats (whole g late)

pub returns-in-Ok-plain-clause-ports : goal.returns-in-Ok-plain-clause-ports
returns-in-Ok-plain-clause-ports g c =
    let late = (goal.at.returns-in-Ok-plain-clause-ports g c).After-journal-journal in
    has_ports (kinds_of g late) c.args.words.now c.args.seats c.args.inputs.items c.plain.new.core c.requires.seats (whole g late)

pub returns-in-Err-clause-part : goal.returns-in-Err-clause-part
returns-in-Err-clause-part g c =
    let kinds : List Kind = map (λ b. kind_of (g.B.Node.state b)) c.args.stock.items in
    is_part kinds c.args.words.now c.args.seats c.args.inputs.items c.plain.new.core c.requires.seats c.into_journal.result.items c.into_journal.ensures
    (c.partly_is_orderly.ensures (story (begun_by kinds c.args.words.now c.args.seats)) c.args.inputs.items (story c.plain.new.core) c.journal-journal-in-Err.ensures.sound
    (subst (λ (x : CoreStory). WentPartly (story x) c.args.inputs.items (story c.plain.new.core)) c.in-Ok.ensures.made c.in-Err.ensures.partly))
