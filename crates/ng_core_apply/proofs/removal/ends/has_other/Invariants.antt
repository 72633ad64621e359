use Rattle.std.proofs.Common.{◌≡◌, false, take}
use Rattle.ng_machine.specs.Retire.{has_hooks}
use Rattle.ng_core_apply.proofs.removal.Others.{others}
use Rattle.ng_core_apply.proofs.removal.ends.has_other.Given as goal

abbrev pub invariant-loop-hook : goal.invariant-loop-hook
invariant-loop-hook l = has_hooks (others l.name (take l.hook-index l.hooks)) ≡ false
