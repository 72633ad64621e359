-- The text isn't empty, so its first part is a name.
use Rattle.std.proofs.Common.{◌≡◌, length, ◌∙◌, ap, sym, eqb, false}
use Rattle.std.proofs.lemmas.Bool.{eqb-false}
use Rattle.ng_path.proofs.Steps.{front_named}
use Rattle.ng_path.proofs.hooks.HooksIterator.next.Goals as goal

pub unreachable-requires : goal.unreachable-requires
unreachable-requires c =
    let some : eqb (length c.self.inside.text.now) 0 ≡ false = sym c.is_empty.ensures ∙ c.if-is_empty.false in
    let named = front_named c.self.inside.text.now c.cut.result.0.now c.cut.result.1 c.cut.ensures.parts c.cut.ensures.whole c.self.invariant
    (λ e. eqb-false (length c.self.inside.text.now) 0 some (ap length e)) in
    let told = sym named ∙ c.in_default.ensures in
    cc told
