use Rattle.std.proofs.Common.{◌≡◌, ℕ, ◌<◌, false}
use Rattle.std.specs.Str.{bytes_eq}
use Rattle.ng_machine.specs.kinds.One2many.{many}
use Rattle.ng_switch_types.proofs.one2many.node.is_of_type.Given as goal

abbrev pub invariant-loop-link : goal.invariant-loop-link
invariant-loop-link l = (k : ℕ) → k < l.link → bytes_eq (many k) l.hook ≡ false
