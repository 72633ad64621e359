use Rattle.std.proofs.Common.{◌≡◌, ◌≤◌, ◌∙◌, ℕ, ◌+◌, List, refl, sym, ap, subst, arith}
use Rattle.ng_base.specs.declared.event.Event.{Event}
use Rattle.ng_base.specs.declared.kind.Kind.{Kind}
use Rattle.ng_machine.specs.LowRun.{IsModest}
use Rattle.ng_machine.specs.story.Story.{with_more}
use Rattle.ng_workers.specs.pool.Plainly.{WentPlainly}
use Rattle.ng_args.specs.declared.words.Words.{Words}
use Rattle.ng_call.specs.Called.{kinds_of}
use Rattle.ng_call.specs.Run as run
use Rattle.ng_call.specs.Run.{IsRun}
use Rattle.ng_core.specs.CoreStory.{CoreStory, setting_of, story}
use Rattle.ng_replay.specs.Call.{run_of}
use Rattle.ng_run.specs.Begun.{begun_by}
use Rattle.ng_run.proofs.Runs.{IsWholeRun, is_run, runs}
use Rattle.ng_trace_plain.proofs.making.run_plainly.Goals as goal

-- one seat, where there are no workers
seats_are : (words : Words) → words.workers ≡ 0 → 1 ≡ words.workers + 1
seats_are words none = omega (arith, none)

a_worker : (n : ℕ) → n ≡ 0 → 1 ≤ n → ⊥
a_worker n none some = omega arith

pub plain-requires-clause-running : goal.plain-requires-clause-running
plain-requires-clause-running g c κs within =
    runs (kinds_of g.B.Node.state c.args.stock.items) (run_of c.args.words.now) 1 c.in_ok-core.core c.in_ok-core.ensures

pub plain-requires-clause-fits : goal.plain-requires-clause-fits
plain-requires-clause-fits g c κs within =
    let kinds : List Kind = kinds_of g.B.Node.state c.args.stock.items in
    let words : Words = run_of c.args.words.now in
    subst (λ (x : CoreStory). IsModest (with_more (setting_of x) c.args.inputs.items)) (sym c.in_ok-core.ensures)
    (subst (λ (n : ℕ). IsModest (with_more (setting_of (begun_by kinds words n)) c.args.inputs.items)) (sym (seats_are words c.requires.none)) c.requires.may.modest)

pub returns : goal.returns
returns g c =
    let kinds : List Kind = kinds_of g.B.Node.state c.args.stock.items in
    let words : Words = run_of c.args.words.now in
    let went : WentPlainly (story (begun_by kinds words 1)) c.args.inputs.items (story c.plain.new.core) =
    subst (λ (x : CoreStory). WentPlainly (story x) c.args.inputs.items (story c.plain.new.core)) c.in_ok-core.ensures c.in_ok-plain.ensures.plain in
    let whole : IsWholeRun kinds words 1 c.args.inputs.items c.plain.new.core =
    c.plainly_is_whole.ensures (setting_of (begun_by kinds words 1)) c.args.inputs.items (story c.plain.new.core) c.journal-journal.ensures.sound went in
    subst (λ (l : List Event). IsRun (run.setting_of kinds words c.args.inputs.items) words.workers l) (sym c.into_journal.ensures)
    (is_run kinds words 1 c.args.inputs.items c.plain.new.core (seats_are words c.requires.none) whole
    (λ none. c.plainly_is_plain.ensures (setting_of (begun_by kinds words 1)) c.args.inputs.items (story c.plain.new.core) refl c.journal-journal.ensures.sound went)
    (λ some. absurd (a_worker words.workers c.requires.none some)))
