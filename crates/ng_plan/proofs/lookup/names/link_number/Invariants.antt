use Rattle.std.proofs.Common.{◌≡◌, ℕ, ◌<◌, false}
use Rattle.std.specs.Str.{bytes_eq}
use Rattle.ng_machine.specs.kinds.Bridge.{link_hook}
use Rattle.ng_plan.proofs.lookup.names.link_number.Given as goal

abbrev pub invariant-loop-number : goal.invariant-loop-number
invariant-loop-number l = (k : ℕ) → k < l.number → bytes_eq (link_hook k) l.hook ≡ false
