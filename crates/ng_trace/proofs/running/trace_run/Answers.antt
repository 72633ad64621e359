use Rattle.std.proofs.Common.{◌≡◌, ◌∙◌, ℕ, List, map, sym, ap}
use Rattle.ng_core.specs.CoreStory.{story}
use Rattle.ng_replay.specs.judge.Following.{all_with}
use Rattle.ng_call.specs.Called.{kinds_of}
use Rattle.ng_replay.proofs.Judged.{inputs_fit, names_differ, setting_is, verdict_is}
use Rattle.ng_args.specs.declared.port.PortWord.{PortWord}
use Rattle.ng_trace.specs.Trace.{trace_of}
use Rattle.ng_machine.specs.Laws.{Setting}
use Rattle.ng_trace.proofs.running.trace_run.Goals as goal

-- the ports' names are those of the words
pub new-requires-clause-names : goal.new-requires-clause-names
new-requires-clause-names g c κs within =
    names_differ (kinds_of g.B.Node.state c.args.stock.items) c.args.words.now c.args.inputs.items
    c.in_ok-ports.ports.items (rw (sym c.as_slice.ensures) c.in_ok-ports.ensures) c.requires.may

pub trace-requires-clause-fits : goal.trace-requires-clause-fits
trace-requires-clause-fits g c κs within =
    inputs_fit (kinds_of g.B.Node.state c.args.stock.items) c.args.words.now c.args.inputs.items
    c.in_ok-core.core c.in_ok-ports.ports.items c.in_ok-core.ensures (rw (sym c.as_slice.ensures) c.in_ok-ports.ensures) c.requires.may

pub returns-clause-text : goal.returns-clause-text
returns-clause-text g c = λ yes.
    let names : c.in_ok-names.names.items ≡ map (λ (port : PortWord). port.name) c.args.words.now.ports =
    rw (sym c.as_slice-2.ensures) c.in_ok-names.ensures in
    let all = setting_is (kinds_of g.B.Node.state c.args.stock.items) c.args.words.now c.args.inputs.items
    c.in_ok-core.core c.in_ok-ports.ports.items c.in_ok-core.ensures (rw (sym c.as_slice.ensures) c.in_ok-ports.ensures) in
    c.in_ok-traced.ensures.text yes
    ∙ ap (λ (l : List (List ℕ)). trace_of l (all_with (story c.in_ok-core.core) c.args.inputs.items) c.args.journal.now.items) (c.deref.ensures.value ∙ names)
    ∙ ap (λ (s : Setting). trace_of (map (λ (port : PortWord). port.name) c.args.words.now.ports) s c.args.journal.now.items) all

pub returns-clause-verdict : goal.returns-clause-verdict
returns-clause-verdict g c =
    verdict_is (kinds_of g.B.Node.state c.args.stock.items) c.args.words.now c.args.inputs.items
    c.in_ok-core.core c.in_ok-ports.ports.items c.in_ok-core.ensures (rw (sym c.as_slice.ensures) c.in_ok-ports.ensures)
    c.args.journal.now.items c.in_ok-traced.traced.0 c.in_ok-traced.ensures.verdict
