use Rattle.std.proofs.Common.{◌≡◌, ◌∙◌, sym, ap}
use Rattle.ng_args.specs.Run.{words_of}
use Rattle.ng_call.specs.Called.{texts}
use Rattle.ng_trace_call.specs.Words.{if_said}
use Rattle.ng_trace_call.proofs.words.read_trace_words.Goals as goal

pub returns-in-Some : goal.returns-in-Some
returns-in-Some c =
    c.said_of.ensures
    ∙ ap if_said (sym c.in-Some.is ∙ c.in_ok-said.ensures ∙ ap (λ words. words_of (texts words)) c.deref.ensures.value ∙ ap words_of c.in_ok-words.ensures)

pub returns : goal.returns
returns c =
    ap if_said (sym c.in-None.is ∙ c.in_ok-said.ensures ∙ ap (λ words. words_of (texts words)) c.deref.ensures.value ∙ ap words_of c.in_ok-words.ensures)
