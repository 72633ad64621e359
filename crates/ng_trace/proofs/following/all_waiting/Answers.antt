use Rattle.std.proofs.Common.{◌∙◌, arith}
use Rattle.ng_trace.proofs.Numbers.{all_numbers, number_more}
use Rattle.ng_trace.proofs.following.all_waiting.Goals as goal

pub loop-node-preserved : goal.loop-node-preserved
loop-node-preserved g c = λ a S.
    number_more c.args.state.now a c.loop-node.node c.loop-node.all.items c.push_waiting.new.out.items S (c.loop-node.invariant a S) c.in_ok-push_waiting.ensures

pub returns : goal.returns
returns g c = λ a S. c.loop-node.invariant a S ∙ all_numbers a c.loop-node.node (omega (arith, S.places, c.len-node-end.ensures, c.loop-node-test.false))
