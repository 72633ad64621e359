-- What the stock is enough for.
use Rattle.std.proofs.Common.{◌≡◌, ℕ, zero, suc, ◌+◌, ◌*◌, ◌≤◌, Bool, true, List, [], ◌∷◌, ◌++◌, replicate, length, refl, arith}
use Rattle.std.specs.List.{flat_map}
use Rattle.std.proofs.lemmas.List.{length-append, length-replicate}
use Rattle.ng_base.specs.declared.kind.Kind.{Kind}
use Rattle.ng_base.specs.declared.kind.Kind.TheVariants.{Ether, Socket}
use Rattle.ng_base.specs.Kind.{same_kind}
use Rattle.ng_machine.specs.Stock.{has_kind}
use Rattle.ng_machine.specs.Words.{times}
use Rattle.ng_stock.specs.Stocked.{stocked, inner_kinds}

times_append : {A : Type 0} (test : A → Bool) (xs ys : List A) → times test (xs ++ ys) ≡ times test xs + times test ys
times_append test [] ys = omega arith
times_append test (x ∷ xs) ys = let more = times_append test xs ys in omega arith

times_replicate : {A : Type 0} (test : A → Bool) (n : ℕ) (x : A) → test x ≡ true → times test (replicate n x) ≡ n
times_replicate test zero x e = refl
times_replicate test (suc n) x e = let more = times_replicate test n x e in rw e (omega arith)

length_of_each : {A : Type 0} (n : ℕ) (xs : List A) → length (flat_map (λ x. replicate n x) xs) ≡ n * length xs
length_of_each n [] = omega arith
length_of_each n (x ∷ xs) =
    let here = length-replicate n x in
    let both = length-append (replicate n x) (flat_map (λ x. replicate n x) xs) in
    let more = length_of_each n xs in
    omega arith

-- in a list of one element, many of another, and more

enough : {A : Type 0} (test : A → Bool) (x : A) (n : ℕ) (y : A) (rest : List A) → test y ≡ true → n ≤ times test (x ∷ replicate n y ++ rest)
enough test x n y rest e =
    let here = times_replicate test n y e in
    let both = times_append test (replicate n y) rest in
    omega arith

length_of : {A : Type 0} (x : A) (n : ℕ) (y : A) (rest : List A) → length (x ∷ replicate n y ++ rest) ≡ 1 + n + length rest
length_of x n y rest =
    let here = length-replicate n y in
    let both = length-append (replicate n y) rest in
    omega arith

few : (k n m rest most : ℕ) → k ≡ 1 + n + rest → rest ≡ m → 1 + n + m ≤ most → k ≤ most
few k n m rest most all each low = omega arith

pub has_socket : has_kind stocked Socket ≡ true
has_socket = refl

pub has_ethers : 64 ≤ times (λ (kind : Kind). same_kind kind Ether) stocked
has_ethers = enough (λ (kind : Kind). same_kind kind Ether) Socket 64 Ether (flat_map (λ kind. replicate 256 kind) inner_kinds) refl

pub are_few : length stocked ≤ 4000000000
are_few =
    let others = flat_map (λ kind. replicate 256 kind) inner_kinds in
    few (length stocked) 64 (256 * length inner_kinds) (length others) 4000000000
    (length_of Socket 64 Ether others) (length_of_each 256 inner_kinds) (omega arith)
