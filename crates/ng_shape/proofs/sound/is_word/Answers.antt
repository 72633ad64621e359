use Rattle.std.proofs.Common.{◌≡◌, true, nat_lt, length, refl, arith, rules, tests}
use Rattle.std.proofs.lemmas.Iterator.{YieldsList-from_slice}
use Rattle.std.proofs.lemmas.Iterator.Search.{all_from_yields_List}
use Rattle.std.proofs.lemmas.Bool.Decides.{nat_tests}
use Rattle.std.specs.List.{list_all}
use Rattle.ng_shape.specs.Sound.{is_word_byte}
use Rattle.ng_shape.proofs.sound.is_word.Goals as goal

pub returns-then-not-is_empty : goal.returns-then-not-is_empty
returns-then-not-is_empty c =
    let e : c.all.result ≡ list_all is_word_byte c.args.name.now = all_from_yields_List is_word_byte _ _ c.all.result c.all.ensures.ran (YieldsList-from_slice c.args.name.now cc) (λ x b q k. search (rules, tests)) in
    let long : nat_lt 0 (length c.args.name.now) ≡ true = grind (arith, nat_tests) in
    rw (long, e) refl
