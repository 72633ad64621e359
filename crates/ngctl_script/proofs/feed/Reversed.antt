-- What holds of each element of a list holds of each of it turned round.
use Rattle.std.proofs.Common.{suc, List, [], ◌∷◌, reverse, subst, sym, arith}
use Rattle.std.specs.List.{All}
use Rattle.std.proofs.lemmas.List.Elements.{All-push}
use Rattle.std.proofs.lemmas.Grind.{reverse_onto}

rest_of : {X : Type 0} (P : X → Type 0) (x : X) (xs : List X) → All P (x ∷ xs) → All P xs
rest_of P x xs all = λ k d low. all (suc k) d (omega arith)

pub all_reversed : {X : Type 0} (P : X → Type 0) (xs : List X) → All P xs → All P (reverse xs)
all_reversed P [] all = all
all_reversed {X} P (x ∷ xs) all = let Q : List X → Type 0 = λ ys. All P ys in
    subst Q (sym (reverse_onto xs x [])) (All-push P (reverse xs) x (all_reversed P xs (rest_of P x xs all)) (all 0 x (omega arith)))
