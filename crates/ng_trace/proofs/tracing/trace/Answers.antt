use Rattle.std.proofs.Common.{◌∙◌, ap, map}
use Rattle.ng_core.specs.CoreStory.{setting_of, story}
use Rattle.ng_trace.specs.Arrivals.{arrived_of}
use Rattle.ng_trace.proofs.Traced.{text_is}
use Rattle.ng_trace.proofs.tracing.trace.Goals as goal

pub returns-clause-text : goal.returns-clause-text
returns-clause-text g c = λ accepted.
    let stands = c.in_ok-verdict.ensures.stands accepted in
    text_is (story c.args.core.now) (story c.watch.new.core) (setting_of c.args.core.now) c.args.names.now c.args.inputs.items stands.0 c.args.journal.now.items
    c.deref-2.result.now c.in_ok-verdict.watched c.fed.result c.in_ok-text.text.items
    c.requires.begun c.know_story.ensures.sound stands.1 c.fed.ensures (c.deref-2.ensures.value ∙ c.in_ok-arrived.ensures ∙ ap (map arrived_of) c.deref.ensures.value) (c.in_ok-verdict.ensures.watched accepted) c.in_ok-text.ensures
