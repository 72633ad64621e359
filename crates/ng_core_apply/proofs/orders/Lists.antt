-- Lists of what answers tell.
use Rattle.std.proofs.Common.{◌≡◌, ℕ, zero, suc, ◌+◌, ◌<◌, ◌≤◌, Bool, true, false, cond, List, [], ◌∷◌, ◌++◌, length, map, take, get_or, flat_map, refl, sym, ap, ◌∙◌, ⊎_elim, arith, append-nil, length-take}
use Rattle.std.proofs.lemmas.Bool.{cases_lt}
use Rattle.std.proofs.lemmas.List.{take_more, take_all, length-map}
use Rattle.std.specs.declared.option.Option.{Option}
use Rattle.std.specs.declared.option.Option.TheVariants.{None, Some}
use Rattle.byteorder.specs.Endian.{little_bytes}
use Rattle.ng_machine.specs.Words.{times}
use Rattle.ng_machine.specs.Generic.{infos_from, infos_if, info_of, with_count}
use Rattle.ng_machine.specs.World.{NodeRecord, node_id}
use Rattle.ng_message.specs.Layout.{node_info_bytes}

get_past : {A : Type 0} (xs : List A) (n : ℕ) (d : A) → length xs ≤ n → get_or xs n d ≡ d
get_past [] n d le = refl
get_past (x ∷ xs) zero d le = absurd (omega arith)
get_past (x ∷ xs) (suc n) d le = get_past xs n d (omega arith)

abbrev pub one_if : Bool → ℕ
one_if b = cond b 1 0

times_push : {A : Type 0} (test : A → Bool) (xs : List A) (x : A) → times test (xs ++ x ∷ []) ≡ times test xs + one_if (test x)
times_push test [] x = by (test x)
  where
    by : (b : Bool) → one_if b + 0 ≡ 0 + one_if b
    by true = refl
    by false = refl
times_push test (y ∷ ys) x = let more = times_push test ys x in omega arith

-- one place more, or none behind the end
pub times_more : {A : Type 0} (test : Option A → Bool) (xs : List (Option A)) (n : ℕ) → test None ≡ false → times test (take (n + 1) xs) ≡ times test (take n xs) + one_if (test (get_or xs n None))
times_more {A} test xs n none = ⊎_elim
    (λ (lt : n < length xs). ap (times test) (take_more xs n None lt) ∙ times_push test (take n xs) (get_or xs n None))
    (λ (le : length xs ≤ n). let past : one_if (test (get_or xs n None)) ≡ 0 = ap (λ (o : Option A). one_if (test o)) (get_past xs n None le) ∙ ap one_if none in
    let one : times test (take (n + 1) xs) ≡ times test xs = ap (times test) (take_all (n + 1) xs (omega arith)) in let two : times test (take n xs) ≡ times test xs = ap (times test) (take_all n xs le) in omega arith)
    (cases_lt n (length xs))

pub joined : {A : Type 0} (f : A → List ℕ) (xs : List A) → flat_map (λ entry. entry) (map f xs) ≡ flat_map f xs
joined f [] = refl
joined f (x ∷ xs) = ap (λ (rest : List ℕ). f x ++ rest) (joined f xs)

-- the nodes that are listed, and one place more
pub infos_push : (n : ℕ) (test : NodeRecord → Bool) (xs : List (Option NodeRecord)) (o : Option NodeRecord) → infos_from n test (xs ++ o ∷ []) ≡ infos_from n test xs ++ infos_from (n + length xs) test (o ∷ [])
infos_push n test [] o = ap (λ (k : ℕ). infos_from k test (o ∷ [])) (let e : n ≡ n + 0 = omega arith in e)
infos_push n test (None ∷ xs) o = infos_push (n + 1) test xs o ∙ ap (λ (k : ℕ). infos_from (n + 1) test xs ++ infos_from k test (o ∷ [])) (let e : n + 1 + length xs ≡ n + suc (length xs) = omega arith in e)
infos_push n test (Some node ∷ xs) o = by (test node) (infos_push (n + 1) test xs o ∙ ap (λ (k : ℕ). infos_from (n + 1) test xs ++ infos_from k test (o ∷ [])) (let e : n + 1 + length xs ≡ n + suc (length xs) = omega arith in e))
  where
    by : (b : Bool) → infos_from (n + 1) test (xs ++ o ∷ []) ≡ infos_from (n + 1) test xs ++ infos_from (n + suc (length xs)) test (o ∷ [])
        → infos_if b (node_id n) node (infos_from (n + 1) test (xs ++ o ∷ [])) ≡ infos_if b (node_id n) node (infos_from (n + 1) test xs) ++ infos_from (n + suc (length xs)) test (o ∷ [])
    by true e = ap (λ (l : List (List ℕ)). node_info_bytes (info_of (node_id n) (Some node)) ∷ l) e
    by false e = e

-- past the end nothing is listed
pub infos_more : (test : NodeRecord → Bool) (xs : List (Option NodeRecord)) (n : ℕ) → infos_from 0 test (take (n + 1) xs) ≡ infos_from 0 test (take n xs) ++ infos_from n test (get_or xs n None ∷ [])
infos_more test xs n = ⊎_elim
    (λ (lt : n < length xs). ap (infos_from 0 test) (take_more xs n None lt) ∙ infos_push 0 test (take n xs) (get_or xs n None)
    ∙ ap (λ (k : ℕ). infos_from 0 test (take n xs) ++ infos_from k test (get_or xs n None ∷ [])) (let e : 0 + length (take n xs) ≡ n = omega (arith, length-take {A = Option NodeRecord}) in e))
    (λ (le : length xs ≤ n).
    ap (infos_from 0 test) (take_all (n + 1) xs (omega arith)) ∙ sym (append-nil (infos_from 0 test xs))
    ∙ ap (λ (l : List (List ℕ)). infos_from 0 test xs ++ l) (sym (ap (λ (o : Option NodeRecord). infos_from n test (o ∷ [])) (get_past xs n None le)))
    ∙ ap (λ (l : List (Option NodeRecord)). infos_from 0 test l ++ infos_from n test (get_or xs n None ∷ [])) (sym (take_all n xs le)))
    (cases_lt n (length xs))

pub counted : {A : Type 0} (f : A → List ℕ) (xs : List A) → with_count (map f xs) ≡ little_bytes 4 (length xs) ++ flat_map f xs
counted f xs =
    ap (λ (n : ℕ). little_bytes 4 n ++ flat_map (λ entry. entry) (map f xs)) (length-map xs f)
    ∙ ap (λ (rest : List ℕ). little_bytes 4 (length xs) ++ rest) (joined f xs)

pub one_le : (b : Bool) → one_if b ≤ 1
one_le true = omega arith
one_le false = omega arith

pub flat_same : {A : Type 0} (f h : A → List ℕ) (xs : List A) → ((x : A) → f x ≡ h x) → flat_map f xs ≡ flat_map h xs
flat_same f h [] same = refl
flat_same f h (x ∷ xs) same = ap (λ (l : List ℕ). l ++ flat_map f xs) (same x) ∙ ap (λ (l : List ℕ). h x ++ l) (flat_same f h xs same)

-- one place more of a count
pub counts_more : {A : Type 0} (test : Option A → Bool) (xs : List (Option A)) (n was now : ℕ) → test None ≡ false → was ≡ times test (take n xs) → was ≤ n → now ≡ was + one_if (test (get_or xs n None)) → (now ≡ times test (take (n + 1) xs)) × (now ≤ n + 1)
counts_more test xs n was now none so_far few is =
    let more = times_more test xs n none in let le = one_le (test (get_or xs n None)) in (omega arith, omega arith)
