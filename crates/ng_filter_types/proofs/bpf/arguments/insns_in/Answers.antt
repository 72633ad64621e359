-- The instructions that were read, and one more.
use Rattle.std.proofs.Common.{◌++◌, ◌∷◌, [], ap, sym, ◌∙◌}
use Rattle.ng_machine.specs.kinds.Bpf.{insn_in, insns_in}
use Rattle.ng_filter_types.proofs.bpf.Reading.{one_more}
use Rattle.ng_filter_types.proofs.bpf.arguments.insns_in.Goals as goal

pub loop-place-preserved : goal.loop-place-preserved
loop-place-preserved c =
    c.in_ok-push.ensures.items
    ∙ ap (λ insns. insns ++ c.insn_in.result ∷ []) c.loop-place.invariant
    ∙ ap (λ insn. insns_in c.loop-place.place c.args.fields.now ++ insn ∷ []) (c.insn_in.ensures ∙ ap insn_in c.bytes_from.ensures)
    ∙ sym (one_more c.loop-place.place c.args.fields.now)
