-- The operations that were read, and one more.
use Rattle.std.proofs.Common.{◌++◌, ◌∷◌, [], ap, sym, ◌∙◌}
use Rattle.ng_machine.specs.kinds.Patch.{op_in, ops_in}
use Rattle.ng_filter_types.proofs.patch.Reading.{one_more}
use Rattle.ng_filter_types.proofs.patch.operations.ops_in.Goals as goal

pub loop-place-preserved : goal.loop-place-preserved
loop-place-preserved c =
    c.in_ok-push.ensures.items
    ∙ ap (λ ops. ops ++ c.op_in.result ∷ []) c.loop-place.invariant
    ∙ ap (λ op. ops_in c.loop-place.place c.args.fields.now ++ op ∷ []) (c.op_in.ensures ∙ ap op_in c.bytes_from.ensures)
    ∙ sym (one_more c.loop-place.place c.args.fields.now)
