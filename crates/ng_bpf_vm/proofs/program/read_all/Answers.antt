use Rattle.std.proofs.Common.{sym, ◌∙◌}
use Rattle.ng_bpf_vm.proofs.Runs.{read_within, read_on}
use Rattle.ng_bpf_vm.proofs.program.read_all.Goals as goal

pub unwrap-requires : goal.unwrap-requires
unwrap-requires c = rw c.read.ensures (read_within c.args.insns.now c.loop-insn.insn-index _ c.requires c.loop-insn-test.true)

pub loop-insn-preserved : goal.loop-insn-preserved
loop-insn-preserved c =
    rw c.in_ok-push.ensures.items (read_on c.args.insns.now c.loop-insn.insn-index _ c.loop-insn.operations.items c.unwrap.result c.loop-insn-test.true c.loop-insn.invariant (sym c.read.ensures ∙ c.unwrap.ensures))
