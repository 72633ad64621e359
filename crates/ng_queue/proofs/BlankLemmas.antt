-- Queues and a tree with nothing in them.
use Rattle.std.proofs.Common.{◌≡◌, ℕ, zero, suc, ◌+◌, List, [], ◌∷◌, ◌++◌, map, replicate, get_or, refl, ap, subst, arith}
use Rattle.std.specs.declared.option.Option.{Option}
use Rattle.std.specs.declared.option.Option.TheVariants.{None}
use Rattle.ng_machine.specs.World.{item_id}
use Rattle.ng_queue.specs.declared.entry.Entry.{Entry}
use Rattle.ng_queue.specs.Queue.{empty_queue, IsBelow}
use Rattle.ng_queue.specs.Queues.{list_of, spare_of, list_at, ready_of}
use Rattle.ng_queue.specs.Ready.{id_at, count}

replicate_suc : {A : Type 0} (n : ℕ) (x : A) → replicate n x ++ x ∷ [] ≡ replicate (suc n) x
replicate_suc zero x = refl
replicate_suc {A = A} (suc n) x = ap (λ (l : List A). x ∷ l) (replicate_suc n x)

pub replicate_more : {A : Type 0} (n : ℕ) (x : A) → replicate n x ++ x ∷ [] ≡ replicate (n + 1) x
replicate_more {A = A} n x = subst (λ (k : ℕ). replicate n x ++ x ∷ [] ≡ replicate k x) (let e : suc n ≡ n + 1 = omega arith in e) (replicate_suc n x)

pub blank_lists : (n : ℕ) → map list_of (replicate n empty_queue) ≡ replicate n []
blank_lists zero = refl
blank_lists (suc n) = ap (λ (l : List (List Entry)). [] ∷ l) (blank_lists n)

pub blank_spares : (n : ℕ) → map spare_of (replicate n empty_queue) ≡ replicate n 0
blank_spares zero = refl
blank_spares (suc n) = ap (λ (l : List ℕ). 0 ∷ l) (blank_spares n)

pub blank_ready : (n : ℕ) → replicate n None ≡ map ready_of (map list_of (replicate n empty_queue))
blank_ready zero = refl
blank_ready (suc n) = ap (λ (l : List (Option ℕ)). None ∷ l) (blank_ready n)

pub blank_below : (n k m : ℕ) → IsBelow (item_id m) (list_at (map list_of (replicate n empty_queue)) k)
blank_below zero k m = tt
blank_below (suc n) zero m = tt
blank_below (suc n) (suc k) m = blank_below n k m

-- THE NUMBERS

pub none_all : (n : ℕ) → map id_at (replicate n 18446744073709551615) ≡ replicate n None
none_all zero = refl
none_all (suc n) = ap (λ (l : List (Option ℕ)). None ∷ l) (none_all n)

abbrev pub nones : ℕ → List (Option ℕ)
nones n = replicate n None

pub none_in : (n k : ℕ) → get_or (nones n) k None ≡ None
none_in zero k = refl
none_in (suc n) zero = refl
none_in (suc n) (suc k) = none_in n k

pub none_counted : (n : ℕ) → count (nones n) ≡ 0
none_counted zero = refl
none_counted (suc n) = none_counted n
