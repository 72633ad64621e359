use Rattle.std.proofs.Common.{◌≡◌, ◌∙◌, List, map, sym, ap, subst}
use Rattle.ng_base.specs.declared.kind.Kind.{Kind}
use Rattle.ng_machine.specs.declared.input.Input.{Input}
use Rattle.ng_args.specs.declared.port.PortWord.{PortWord}
use Rattle.ng_call.specs.Called.{kinds_of}
use Rattle.ng_call.specs.MayRun.{MayRun}
use Rattle.ng_call.specs.Run.{setting_of}
use Rattle.ng_replay.specs.Call.{run_of}
use Rattle.ng_replay.specs.judge.Verdict.{IsVerdict}
use Rattle.ng_replay.specs.declared.judge.verdict.Verdict.TheVariants as says
use Rattle.ng_trace.specs.Trace.{trace_of}
use Rattle.ng_trace_plain.proofs.plainly.trace_plainly.Goals as goal

pub trace_run-requires-clause-may : goal.trace_run-requires-clause-may
trace_run-requires-clause-may g c κs within =
    let copies : c.in_ok-copies.copies.items ≡ c.args.inputs.items = c.in_ok-copies.ensures ∙ c.deref.ensures.value in
    subst (λ (kinds : List Kind). MayRun (setting_of kinds (run_of c.args.words.now) c.in_ok-copies.copies.items)) (sym c.requires.same)
    (subst (λ (l : List Input). MayRun (setting_of (kinds_of g.B.Node.state c.args.stock.items) (run_of c.args.words.now) l)) (sym copies) c.requires.may)

pub returns : goal.returns
returns g c =
    let copies : c.in_ok-copies.copies.items ≡ c.args.inputs.items = c.in_ok-copies.ensures ∙ c.deref.ensures.value in
    let kinds : List Kind = kinds_of g.B.Node.state c.args.stock.items in
    let one = c.in_ok-journal.ensures in
    let verdict : IsVerdict (setting_of kinds (run_of c.args.words.now) c.args.inputs.items) c.in_ok-journal.journal.items c.in_ok-_verdict._verdict =
    subst (λ (l : List Input). IsVerdict (setting_of kinds (run_of c.args.words.now) l) c.in_ok-journal.journal.items c.in_ok-_verdict._verdict) copies
    (subst (λ (k : List Kind). IsVerdict (setting_of k (run_of c.args.words.now) c.in_ok-copies.copies.items) c.in_ok-journal.journal.items c.in_ok-_verdict._verdict) c.requires.same c.in_ok-_verdict.ensures.verdict) in
    let yes : c.in_ok-_verdict._verdict ≡ says.Yes =
    c.one_verdict.ensures (setting_of kinds (run_of c.args.words.now) c.args.inputs.items) c.in_ok-journal.journal.items _ says.Yes verdict (one.orderly, one.whole) in
    record {
      journal = c.in_ok-journal.journal.items;
      run = one;
      text_is =
          c.in_ok-_verdict.ensures.text yes
          ∙ ap (λ (k : List Kind). trace_of (map (λ (port : PortWord). port.name) c.args.words.now.ports) (setting_of k (run_of c.args.words.now) c.in_ok-copies.copies.items) c.in_ok-journal.journal.items) c.requires.same
          ∙ ap (λ (l : List Input). trace_of (map (λ (port : PortWord). port.name) c.args.words.now.ports) (setting_of kinds (run_of c.args.words.now) l) c.in_ok-journal.journal.items) copies;
    }
