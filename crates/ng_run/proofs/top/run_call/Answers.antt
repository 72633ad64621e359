use Rattle.std.proofs.Common.{◌∙◌, refl, sym, map, string_bytes}
use Rattle.ng_args.specs.Run.{words_of}
use Rattle.ng_machine.specs.State.{kind_of}
use Rattle.ng_call.specs.Parts.{storing, outside, counting}
use Rattle.ng_call.proofs.Said.{in_form}
use Rattle.ng_run.proofs.Ending.{memory_ends}
use Rattle.ng_run.proofs.top.run_call.Goals as goal

pub run_words-requires-clause-form : goal.run_words-requires-clause-form
run_words-requires-clause-form g c κs within = in_form (map (λ word. string_bytes word) c.args.words.now) _ (sym c.in-Ok-Some.ensures ∙ c.in-Ok-Some.field-0-is)

pub returns-in-Err : goal.returns-in-Err
returns-in-Err g c =
    rw (c.refused-in-Err.ensures.status, c.refused-in-Err.ensures.journal, c.refused-in-Err.ensures.fault)
    (memory_ends (map (λ b. kind_of (g.B.Node.state b)) c.args.stock.items) (words_of (map (λ word. string_bytes word) c.args.words.now))
    (outside (storing (g.O.Sink.contents c.args.out.now) (g.F.Files.contents c.args.files.now)) (storing (g.O.Sink.contents c.args.out.now) (g.F.Files.contents c.args.files.now))
    (counting (g.O.Sink.faults c.args.out.now) (g.F.Files.faults c.args.files.now)) (counting (g.O.Sink.faults c.args.out.now) (g.F.Files.faults c.args.files.now)))
    (record { sink = refl; files = refl }))
