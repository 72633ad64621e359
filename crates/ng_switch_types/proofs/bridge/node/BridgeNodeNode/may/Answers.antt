-- The hooks that a bridge takes are those whose numbers are below 32.
use Rattle.std.proofs.Common.{refl, ◌≡◌, nat_lt, true, false, ◌∙◌, ap, sym, arith}
use Rattle.std.proofs.lemmas.Bool.Decides.{nat_tests}
use Rattle.ng_base.specs.declared.kind.Kind.TheVariants.{Bridge as OfBridge}
use Rattle.ng_machine.specs.Rules.{accepts_hook}
use Rattle.ng_switch_types.proofs.bridge.Sound.{accepts_test}
use Rattle.ng_switch_types.proofs.bridge.node.BridgeNodeNode.may.Goals as goal

pub returns-then-link_number-lt-MAX_LINKS : goal.returns-then-link_number-lt-MAX_LINKS
returns-then-link_number-lt-MAX_LINKS c =
    let less : nat_lt c.link_number.result 32 ≡ true = grind (arith, nat_tests) in
    let takes : accepts_hook OfBridge c.args.hook.now ≡ true = accepts_test c.args.hook.now ∙ ap (λ n. nat_lt n 32) (sym c.link_number.ensures.number) ∙ less in
    rw takes refl

pub returns-else-link_number-lt-MAX_LINKS : goal.returns-else-link_number-lt-MAX_LINKS
returns-else-link_number-lt-MAX_LINKS c =
    let more : nat_lt c.link_number.result 32 ≡ false = grind (arith, nat_tests) in
    let refuses : accepts_hook OfBridge c.args.hook.now ≡ false = accepts_test c.args.hook.now ∙ ap (λ n. nat_lt n 32) (sym c.link_number.ensures.number) ∙ more in
    rw refuses refl
