-- One structure's line more.
use Rattle.std.proofs.Common.{◌≡◌, ℕ, ◌+◌, ◌*◌, List, [], ◌∷◌, ◌++◌, map, drop, ap, sym, ◌∙◌, arith, append-nil, append_assoc}
use Rattle.std.proofs.lemmas.List.Concat.{flat_map-append}
use Rattle.std.proofs.lemmas.List.Folds.{flat_map-map}
use Rattle.std.proofs.lemmas.List.FromFn.{map-range_with_len_more}
use Rattle.std.specs.List.{flat_map, range_with_len}
use Rattle.ngctl_print.specs.listing.Lists.{lines_of}

as_map : (f : ℕ → List ℕ) (n : ℕ) → flat_map f (range_with_len 0 n) ≡ flat_map (λ (l : List ℕ). l) (map f (range_with_len 0 n))
as_map f n = sym (flat_map-map (λ (l : List ℕ). l) f (range_with_len 0 n))

flat_map-range_more : (f : ℕ → List ℕ) (n : ℕ) → flat_map f (range_with_len 0 (n + 1)) ≡ flat_map f (range_with_len 0 n) ++ f n
flat_map-range_more f n =
    as_map f (n + 1)
    ∙ ap (flat_map (λ (l : List ℕ). l)) (map-range_with_len_more f 0 n n (omega arith))
    ∙ flat_map-append (λ (l : List ℕ). l) (map f (range_with_len 0 n)) (f n ∷ [])
    ∙ ap (λ (l : List ℕ). flat_map (λ (l : List ℕ). l) (map f (range_with_len 0 n)) ++ l) (append-nil (f n))
    ∙ ap (λ (l : List ℕ). l ++ f n) (sym (as_map f n))

lines_more : (line : List ℕ → List ℕ) (size n : ℕ) (bytes : List ℕ) → lines_of line size (n + 1) bytes ≡ lines_of line size n bytes ++ line (drop (size * n) bytes)
lines_more line size n bytes = flat_map-range_more (λ number. line (drop (size * number) bytes)) n

-- `rest` are the bytes from the next structure's first on
pub one_more : (line : List ℕ → List ℕ) (size n : ℕ) (bytes rest old now next : List ℕ) → rest ≡ drop (size * n) bytes
    → now ≡ old ++ lines_of line size n bytes → next ≡ now ++ line rest → next ≡ old ++ lines_of line size (n + 1) bytes
one_more line size n bytes rest old now next is so_far more =
    more ∙ ap (λ (l : List ℕ). now ++ line l) is
    ∙ ap (λ (l : List ℕ). l ++ line (drop (size * n) bytes)) so_far
    ∙ append_assoc old (lines_of line size n bytes) (line (drop (size * n) bytes))
    ∙ ap (λ (l : List ℕ). old ++ l) (sym (lines_more line size n bytes))
