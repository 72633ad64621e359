-- Lists in which each text occurs equally often are equally long.
use Rattle.std.proofs.Common.{◌≡◌, ◌∙◌, ℕ, suc, ◌+◌, ◌<◌, Bool, true, false, if◌then◌else◌, List, [], ◌∷◌, ◌++◌, length, length-append, refl, sym, ap, arith}
use Rattle.std.specs.Str.{bytes_eq}
use Rattle.std.proofs.lemmas.Slice.Eq.{bytes_eq-Decides}
use Rattle.ng_machine.specs.Words.{times}
use Rattle.ng_machine.proofs.Counted.{times-append}

same_text : (a b : List ℕ) → bytes_eq a b ≡ true → a ≡ b
same_text a b is = (bytes_eq-Decides a b).0 is

own_text : (a : List ℕ) → bytes_eq a a ≡ true
own_text a = (bytes_eq-Decides a a).1 refl

-- 1 if the texts are the same
abbrev one_if : Bool → ℕ
one_if same = if same then 1 else 0

-- a list without the first that is this text
without_one : List ℕ → List (List ℕ) → List (List ℕ)
without_one text [] = []
without_one text (x ∷ xs) = if bytes_eq text x then xs else x ∷ without_one text xs

-- such a list has one text less
record HasOneLess (text : List ℕ) (xs less : List (List ℕ)) : Type 0 where
  pub shorter : suc (length less) ≡ length xs
  pub counts : (other : List ℕ) → times (bytes_eq other) xs ≡ one_if (bytes_eq other text) + times (bytes_eq other) less

one_less : (text : List ℕ) (xs : List (List ℕ)) → 0 < times (bytes_eq text) xs → HasOneLess text xs (without_one text xs)
unfolding without_one
one_less text [] there = absurd (omega arith)
one_less text (x ∷ xs) there = by (bytes_eq text x) refl (λ more. one_less text xs more) there
  where
    by : (same : Bool) → bytes_eq text x ≡ same → (0 < times (bytes_eq text) xs → HasOneLess text xs (without_one text xs))
        → 0 < one_if same + times (bytes_eq text) xs → HasOneLess text (x ∷ xs) (if same then xs else x ∷ without_one text xs)
    by true is rest there = record {
      shorter = refl;
      counts = λ other. ap (λ (t : List ℕ). one_if (bytes_eq other t) + times (bytes_eq other) xs) (sym (same_text text x is));
    }
    by false is rest there =
        let less = rest (omega arith) in
        record {
          shorter = ap suc less.shorter;
          counts = λ other. let more = less.counts other in omega arith;
        }

-- the first text of one list occurs in the other
occurs : (x : List ℕ) (xs ys : List (List ℕ)) → ((text : List ℕ) → times (bytes_eq text) (x ∷ xs) ≡ times (bytes_eq text) ys)
    → 0 < times (bytes_eq x) ys
occurs x xs ys same =
    let one : one_if (bytes_eq x x) ≡ 1 = ap one_if (own_text x) in
    let all = same x in
    omega arith

pub same_length : (xs ys : List (List ℕ)) → ((text : List ℕ) → times (bytes_eq text) xs ≡ times (bytes_eq text) ys) → length xs ≡ length ys
same_length [] [] same = refl
same_length [] (y ∷ ys) same = let some = occurs y ys [] (λ text. sym (same text)) in absurd (omega arith)
same_length (x ∷ xs) ys same =
    let less = one_less x ys (occurs x xs ys same) in
    let rest = same_length xs (without_one x ys) (λ text. let all = same text in let more = less.counts text in omega arith) in
    ap suc rest ∙ less.shorter

-- a list in which each text occurs as often as in two others has as many texts as both
pub length_grows : (xs ys zs : List (List ℕ)) → ((text : List ℕ) → times (bytes_eq text) xs ≡ times (bytes_eq text) ys + times (bytes_eq text) zs)
    → length xs ≡ length ys + length zs
length_grows xs ys zs same =
    same_length xs (ys ++ zs) (λ text. same text ∙ sym (times-append (bytes_eq text) ys zs)) ∙ length-append ys zs
