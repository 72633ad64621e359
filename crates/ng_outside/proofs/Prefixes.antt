-- How far the read of a whole file has come.
use Rattle.std.proofs.Common.{◌≡◌, ℕ, ◌-◌, ◌<◌, ◌≤◌, List, [], ◌∷◌, ◌++◌, length, take, drop, Option, IfSome, Some, None, refl, sym, ap, ◌∙◌, subst, arith, length-append, append_assoc, append-nil, take-append-drop}
use Rattle.std.proofs.lemmas.List.{drop_at}
use Rattle.ng_outside.specs.Read.{ReadsAt}

-- `whole` is a prefix of a file's bytes
pub record PrefixOf (bytes whole : List ℕ) : Type 0 where
  pub rest : List ℕ
  pub split : whole ++ rest ≡ bytes

-- so it is, where the bytes are told
abbrev pub IsPrefix : Option (List ℕ) → List ℕ → Type 0
IsPrefix told whole = IfSome told (λ bytes. PrefixOf bytes whole)

-- what a read gave at the end of `whole`, where the bytes are told
abbrev pub ReadsOn : Option (List ℕ) → List ℕ → List ℕ → ℕ → Type 0
ReadsOn told whole into count = IfSome told (λ bytes. ReadsAt bytes (length whole) into count)

pub empty_prefix : (told : Option (List ℕ)) → IsPrefix told []
empty_prefix None = tt
empty_prefix (Some bytes) = record { rest = bytes; split = refl }

longer_prefix : (bytes whole into : List ℕ) (count : ℕ) → PrefixOf bytes whole
    → ReadsAt bytes (length whole) into count → PrefixOf bytes (whole ++ take count into)
longer_prefix bytes whole into count so_far read =
    let left : drop (length whole) bytes ≡ so_far.rest =
    ap (λ (l : List ℕ). drop (length whole) l) (sym so_far.split)
    ∙ drop_at whole so_far.rest (length whole) refl in
    let new : take count into ≡ take count so_far.rest = read.prefix ∙ ap (λ (l : List ℕ). take count l) left in
    record {
      rest = drop count so_far.rest;
      split = append_assoc whole (take count into) (drop count so_far.rest)
          ∙ ap (λ (l : List ℕ). whole ++ (l ++ drop count so_far.rest)) new
          ∙ ap (λ (l : List ℕ). whole ++ l) (take-append-drop count so_far.rest)
          ∙ so_far.split;
    }

pub more_read : (told : Option (List ℕ)) (whole into : List ℕ) (count : ℕ) → IsPrefix told whole
    → ReadsOn told whole into count → IsPrefix told (whole ++ take count into)
more_read None whole into count so_far read = tt
more_read (Some bytes) whole into count so_far read = longer_prefix bytes whole into count so_far read

none_left : (xs : List ℕ) → length xs ≡ 0 → xs ≡ []
none_left [] none = refl
none_left (x ∷ xs) none = absurd (omega arith)

whole_prefix : (bytes whole into : List ℕ) → PrefixOf bytes whole → ReadsAt bytes (length whole) into 0 → whole ≡ bytes
whole_prefix bytes whole into so_far read =
    let long : length bytes ≤ length whole = read.at_end refl in
    let none : length so_far.rest ≡ 0 = omega (arith, length-append whole so_far.rest, ap length so_far.split) in
    sym (append-nil whole) ∙ ap (λ (l : List ℕ). whole ++ l) (sym (none_left so_far.rest none)) ∙ so_far.split

-- a read that gives nothing comes at the end
pub all_read : (told : Option (List ℕ)) (whole into : List ℕ) (count : ℕ) → count ≡ 0 → IsPrefix told whole
    → ReadsOn told whole into count → IfSome told (λ bytes. whole ≡ bytes)
all_read None whole into count none so_far read = tt
all_read (Some bytes) whole into count none so_far read =
    whole_prefix bytes whole into so_far (subst (λ (n : ℕ). ReadsAt bytes (length whole) into n) none read)

-- more bytes than there may be
pub too_long : (told : Option (List ℕ)) (whole into : List ℕ) (count most : ℕ) → most - length whole < count
    → length whole ≤ most → ReadsOn told whole into count
    → IfSome told (λ bytes. most < length bytes)
too_long None whole into count most long within read = tt
too_long (Some bytes) whole into count most long within read =
    let inside : count ≤ length bytes - length whole = read.inside in
    omega arith

-- no more bytes than there may be
pub not_too_long : (told : Option (List ℕ)) (whole : List ℕ) (most : ℕ) → length whole ≤ most
    → IfSome told (λ bytes. whole ≡ bytes) → IfSome told (λ bytes. length bytes ≤ most)
not_too_long None whole most within is = tt
not_too_long (Some bytes) whole most within is = subst (λ (l : List ℕ). length l ≤ most) is within

-- what a read gave, of the same files at another time and at an equal place
pub reads_on : (told told' : Option (List ℕ)) (whole into : List ℕ) (at count : ℕ) → told' ≡ told → at ≡ length whole
    → IfSome told' (λ bytes. ReadsAt bytes at into count) → ReadsOn told whole into count
reads_on told told' whole into at count same here read =
    subst (λ (t : Option (List ℕ)). ReadsOn t whole into count) same (subst (λ (n : ℕ). IfSome told' (λ bytes. ReadsAt bytes n into count)) here read)
