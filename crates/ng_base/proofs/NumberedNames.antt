-- Names with numbers: how often one stands there, and what an edit keeps.
use Rattle.std.proofs.Common.{◌≡◌, ℕ, zero, suc, ◌+◌, ◌<◌, ◌≤◌, ◌==◌, true, false, ◌&&◌, List, [], ◌∷◌, ◌++◌, length, get_or, Ok, Err, Equal, nat_cmp, is_eq, HoldsAt, All, AllPairs, insert, remove, bytes_eq, refl, sym, ap, ◌∙◌, inl, inr, arith, true≢false, length-append}
use Rattle.std.specs.Cmp.Lexicographic.{slice_cmp, texts_ties}
use Rattle.std.specs.List.Sorted.{IsBinarySearchResult}
use Rattle.std.proofs.lemmas.Bool.{cases_Bool, cases_lt, cases_order, eqb-true, eq-eqb}
use Rattle.std.proofs.lemmas.List.Elements.{All-append}
use Rattle.std.proofs.lemmas.List.Edits.{length-remove, get_or-remove_below, get_or-remove_above}
use Rattle.std.proofs.lemmas.List.Quantifiers.{all_pairs_push, all_pairs_remove}
use Rattle.std.proofs.lemmas.List.Sorted.{searched}
use Rattle.ng_base.proofs.NameLemmas.{is_same, same_name}
use Rattle.ng_base.specs.NameIndex.{HasOneMore, Index, IsNumbered, one_if, times}
use Rattle.ng_base.specs.NameList.{IsIndexed}
use Rattle.ng_base.specs.Names.{has_name, without_name}

-- ---- how often a name stands there with a number

one_same : (name : List ℕ) (number : ℕ) → one_if name number name number ≡ 1
one_same name number = rw (same_name name, eq-eqb number number refl) refl

pub times_inserted : (names : List (List ℕ)) (numbers : List ℕ) (at : ℕ) (name : List ℕ) (number : ℕ) (other : List ℕ) (n : ℕ)
    → length names ≡ length numbers → at ≤ length names
    → times (insert names at name) (insert numbers at number) other n ≡ one_if name number other n + times names numbers other n
times_inserted names numbers zero name number other n long within = refl
times_inserted [] numbers (suc at) name number other n long within = absurd (omega arith)
times_inserted (first ∷ names) [] (suc at) name number other n long within = absurd (omega arith)
times_inserted (first ∷ names) (k ∷ numbers) (suc at) name number other n long within =
    omega (arith, times_inserted names numbers at name number other n (omega arith) (omega arith))

times_removed : (names : List (List ℕ)) (numbers : List ℕ) (at : ℕ) (name : List ℕ) (number : ℕ) (other : List ℕ) (n : ℕ)
    → length names ≡ length numbers → at < length names → get_or names at [] ≡ name → get_or numbers at 0 ≡ number
    → times names numbers other n ≡ one_if name number other n + times (remove names at) (remove numbers at) other n
times_removed [] numbers at name number other n long within is has = absurd (omega arith)
times_removed (first ∷ names) [] at name number other n long within is has = absurd (omega arith)
times_removed (first ∷ names) (k ∷ numbers) zero name number other n long within is has = rw (← is, ← has) refl
times_removed (first ∷ names) (k ∷ numbers) (suc at) name number other n long within is has =
    omega (arith, times_removed names numbers at name number other n (omega arith) (omega arith) is has)

times_added : (names : List (List ℕ)) (numbers : List ℕ) (name : List ℕ) (number : ℕ) (other : List ℕ) (n : ℕ) → length names ≡ length numbers
    → times (names ++ name ∷ []) (numbers ++ number ∷ []) other n ≡ one_if name number other n + times names numbers other n
times_added [] [] name number other n long = refl
times_added [] (k ∷ numbers) name number other n long = absurd (omega arith)
times_added (first ∷ names) [] name number other n long = absurd (omega arith)
times_added (first ∷ names) (k ∷ numbers) name number other n long = omega (arith, times_added names numbers name number other n (omega arith))

-- a place of what stands there
place_of : (names : List (List ℕ)) (numbers : List ℕ) (name : List ℕ) (number : ℕ) → 0 < times names numbers name number
    → (p : ℕ) × (p < length names) × (p < length numbers) × (get_or names p [] ≡ name) × (get_or numbers p 0 ≡ number)
place_of [] numbers name number there = absurd (omega arith)
place_of (first ∷ names) [] name number there = absurd (omega arith)
place_of (first ∷ names) (k ∷ numbers) name number there = elim (cases_Bool (bytes_eq first name && k == number)) [
  | inl is ↦ elim (cases_Bool (bytes_eq first name)) [
    | inl same ↦ let equal : (k == number) ≡ true = rw same at is in (0, omega arith, omega arith, is_same first name same, eqb-true k number equal)
    | inr differs ↦ let contrary : false ≡ true = rw differs at is in absurd (true≢false (sym contrary))
  ]
  | inr differs ↦
      let more = rw differs at there in
      let rest = place_of names numbers name number (omega (arith, more)) in
      let below : rest.0 < length names = rest.1 in
      let also : rest.0 < length numbers = rest.2 in
      (suc (rest.0), omega arith, omega arith, rest.3, rest.4)
]

-- ---- the names alone

named : (names : List (List ℕ)) (numbers : List ℕ) (name : List ℕ) (number : ℕ) → 0 < times names numbers name number → has_name names name ≡ true
named [] numbers name number there = absurd (omega arith)
named (first ∷ names) [] name number there = absurd (omega arith)
named (first ∷ names) (k ∷ numbers) name number there = elim (cases_Bool (bytes_eq first name)) [
  | inl same ↦ rw same refl
  | inr differs ↦ let more = rw differs at there in rw differs (named names numbers name number (omega (arith, more)))
]

number_of : (names : List (List ℕ)) (numbers : List ℕ) (name : List ℕ) → length names ≡ length numbers → has_name names name ≡ true
    → (number : ℕ) × (0 < times names numbers name number)
number_of [] numbers name long has = absurd (true≢false (sym has))
number_of (first ∷ names) [] name long has = absurd (omega arith)
number_of (first ∷ names) (k ∷ numbers) name long has = elim (cases_Bool (bytes_eq first name)) [
  | inl same ↦ (k, rw (same, eq-eqb k k refl) (omega arith))
  | inr differs ↦
      let rest = number_of names numbers name (omega arith) (rw differs at has) in
      let more : 0 < times names numbers name (rest.0) = rest.1 in
      (rest.0, omega arith)
]

pub has_in_index : (names : List (List ℕ)) (numbers : List ℕ) (next : ℕ) (index : Index) (name : List ℕ) → IsIndexed names numbers next index
    → has_name index.names name ≡ has_name names name
has_in_index names numbers next index name list = elim (cases_Bool (has_name names name)) [
  | inl has ↦
      let found = number_of names numbers name list.long has in
      let there : 0 < times names numbers name (found.0) = found.1 in
      named index.names index.numbers name (found.0) (omega (arith, list.same name (found.0), there)) ∙ sym has
  | inr lacks ↦ elim (cases_Bool (has_name index.names name)) [
    | inl has ↦
        let found = number_of index.names index.numbers name list.numbered has in
        let there : 0 < times index.names index.numbers name (found.0) = found.1 in
        absurd (true≢false (sym (named names numbers name (found.0) (omega (arith, list.same name (found.0), there))) ∙ lacks))
    | inr also ↦ also ∙ sym lacks
  ]
]

pub without_none : (names : List (List ℕ)) (name : List ℕ) → has_name names name ≡ false → without_name names name ≡ names
without_none [] name lacks = refl
without_none (first ∷ names) name lacks = elim (cases_Bool (bytes_eq first name)) [
  | inl same ↦ let contrary : true ≡ false = rw same at lacks in absurd (true≢false contrary)
  | inr differs ↦ rw differs (ap (λ (l : List (List ℕ)). first ∷ l) (without_none names name (rw differs at lacks)))
]

without_removed : (names : List (List ℕ)) (at : ℕ) (name : List ℕ) → at < length names → get_or names at [] ≡ name
    → without_name (remove names at) name ≡ without_name names name
without_removed [] at name within is = absurd (omega arith)
without_removed (first ∷ names) zero name within is =
    let same : bytes_eq first name ≡ true = ap (λ (n : List ℕ). bytes_eq first n) (sym is) ∙ same_name first in
    rw same refl
without_removed (first ∷ names) (suc at) name within is = elim (cases_Bool (bytes_eq first name)) [
  | inl same ↦ rw same (without_removed names at name (omega arith) is)
  | inr differs ↦ rw differs (ap (λ (l : List (List ℕ)). first ∷ l) (without_removed names at name (omega arith) is))
]

-- ---- a name that is taken out of the index

-- where the search finds the name, the index without it has it once less
pub found_removed : (names : List (List ℕ)) (numbers : List ℕ) (at : ℕ) (name : List ℕ) (number : ℕ) (other : List ℕ) (n : ℕ) → length names ≡ length numbers
    → at < length names → HoldsAt (λ one. slice_cmp nat_cmp one name ≡ Equal) names at → number ≡ get_or numbers at number
    → times names numbers other n ≡ one_if name number other n + times (remove names at) (remove numbers at) other n
found_removed names numbers at name number other n long within equal is =
    let same : get_or names at [] ≡ name = is_same (get_or names at []) name (texts_ties (get_or names at []) name ∙ ap is_eq (equal [])) in
    times_removed names numbers at name number other n long within same (numbered numbers at number (omega (arith, long, within)) is)
  where
    numbered : (numbers : List ℕ) (at number : ℕ) → at < length numbers → number ≡ get_or numbers at number → get_or numbers at 0 ≡ number
    numbered [] at number within is = absurd (omega arith)
    numbered (k ∷ numbers) zero number within is = sym is
    numbered (k ∷ numbers) (suc at) number within is = numbered numbers at number (omega arith) is

-- ---- a list with an index

below_removed : (numbers : List ℕ) (at next : ℕ) → at < length numbers → All (λ n. n < next) numbers → All (λ n. n < next) (remove numbers at)
below_removed numbers at next within below k d less =
    let long = length-remove numbers at within in
    elim (cases_lt k at) [
      | inl before ↦ rw (get_or-remove_below numbers at d k before within) (below k d (omega arith))
      | inr behind ↦ rw (get_or-remove_above numbers at d k behind within) (below (k + 1) d (omega (arith, long, less)))
    ]

pub indexed_added : (names : List (List ℕ)) (numbers : List ℕ) (next : ℕ) (index more : Index) (name : List ℕ) → IsIndexed names numbers next index
    → HasOneMore index name next more → IsNumbered more → IsIndexed (names ++ name ∷ []) (numbers ++ next ∷ []) (next + 1) more
indexed_added names numbers next index more name list added numbered = record {
  long = omega (arith, list.long, length-append names (name ∷ []), length-append numbers (next ∷ []));
  rising = all_pairs_push (λ a b. a < b) numbers next list.rising list.below;
  below = All-append (λ n. n < next + 1) numbers (next ∷ []) (λ k d less. omega (arith, list.below k d less)) at_end;
  numbered = numbered;
  same = λ other n.
      added other n
      ∙ ap (λ k. one_if name next other n + k) (list.same other n)
      ∙ sym (times_added names numbers name next other n list.long);
}
  where
    at_end : All (λ n. n < next + 1) (next ∷ [])
    at_end zero d less = omega arith
    at_end (suc k) d less = absurd (omega arith)

-- of numbers that rise the earlier is the lesser
rises : (numbers : List ℕ) → AllPairs (λ a b. a < b) numbers → (i j : ℕ) → i ≤ j → j < length numbers
    → get_or numbers i 0 ≤ get_or numbers j 0
rises numbers rising i j within below = elim (cases_lt i j) [
  | inl before ↦ omega (arith, rising i j 0 before below)
  | inr behind ↦
      let same : i ≡ j = omega arith in
      let equal : get_or numbers i 0 ≡ get_or numbers j 0 = ap (λ (k : ℕ). get_or numbers k 0) same in
      omega (arith, equal)
]

-- the number that the index had for a name stands at a place of the name
stands_in_list : (names : List (List ℕ)) (numbers : List ℕ) (next : ℕ) (index fewer : Index) (name : List ℕ) (number : ℕ)
    → IsIndexed names numbers next index → HasOneMore fewer name number index → 0 < times names numbers name number
stands_in_list names numbers next index fewer name number list taken =
    omega (arith, list.same name number, taken name number, one_same name number)

-- the search for it finds this place
place_found : (names : List (List ℕ)) (numbers : List ℕ) (next : ℕ) (index fewer : Index) (name : List ℕ) (number at : ℕ)
    → IsIndexed names numbers next index → HasOneMore fewer name number index → IsBinarySearchResult (λ n. nat_cmp n number) numbers (Ok at)
    → (at < length names) × (get_or names at [] ≡ name) × (get_or numbers at 0 ≡ number)
place_found names numbers next index fewer name number at list taken result =
    let found = searched numbers number (Ok at) result (rises numbers list.rising) in
    let below : at < length numbers = found.0 in
    let is : get_or numbers at 0 ≡ number = found.1 in
    let place = place_of names numbers name number (stands_in_list names numbers next index fewer name number list taken) in
    let within : place.0 < length numbers = place.2 in
    let stands : get_or numbers (place.0) 0 ≡ number = place.4 in
    let same : at ≡ place.0 = elim (cases_order at (place.0)) [
      | inl equal ↦ equal
      | inr (inl less) ↦ absurd (omega (arith, list.rising at (place.0) 0 less within, is, stands))
      | inr (inr more) ↦ absurd (omega (arith, list.rising (place.0) at 0 more below, is, stands))
    ] in
    (omega (arith, below, list.long), ap (λ (k : ℕ). get_or names k []) same ∙ place.3, is)

pub place_missed : (names : List (List ℕ)) (numbers : List ℕ) (next : ℕ) (index fewer : Index) (name : List ℕ) (number at : ℕ)
    → IsIndexed names numbers next index → HasOneMore fewer name number index → IsBinarySearchResult (λ n. nat_cmp n number) numbers (Err at) → ⊥
place_missed names numbers next index fewer name number at list taken result =
    let parted = searched numbers number (Err at) result (rises numbers list.rising) in
    let place = place_of names numbers name number (stands_in_list names numbers next index fewer name number list taken) in
    let within : place.0 < length numbers = place.2 in
    let stands : get_or numbers (place.0) 0 ≡ number = place.4 in
    elim (cases_lt (place.0) at) [
      | inl before ↦ omega (arith, parted.1 (place.0) before, stands)
      | inr behind ↦ omega (arith, parted.2 (place.0) behind within, stands)
    ]

indexed_removed : (names : List (List ℕ)) (numbers : List ℕ) (next : ℕ) (index fewer : Index) (name : List ℕ) (number at : ℕ)
    → IsIndexed names numbers next index → HasOneMore fewer name number index → IsNumbered fewer
    → at < length names → get_or names at [] ≡ name → get_or numbers at 0 ≡ number
    → IsIndexed (remove names at) (remove numbers at) next fewer
indexed_removed names numbers next index fewer name number at list taken numbered within is has =
    let also : at < length numbers = omega (arith, list.long, within) in
    record {
      long = omega (arith, list.long, length-remove names at within, length-remove numbers at also);
      rising = all_pairs_remove (λ a b. a < b) numbers at also list.rising;
      below = below_removed numbers at next also list.below;
      numbered = numbered;
      same = λ other n. omega (arith, taken other n, list.same other n, times_removed names numbers at name number other n list.long within is has);
    }

-- what is left of a list from which the place was taken out that the search found
pub record IsLeft (names : List (List ℕ)) (numbers : List ℕ) (next : ℕ) (fewer : Index) (name : List ℕ) (at : ℕ) : Type 0 where
  pub indexed : IsIndexed (remove names at) (remove numbers at) next fewer
  pub was_there : true ≡ has_name names name
  pub others : without_name (remove names at) name ≡ without_name names name

pub once_removed : (names : List (List ℕ)) (numbers : List ℕ) (next : ℕ) (index fewer : Index) (name : List ℕ) (number at : ℕ)
    → IsIndexed names numbers next index → HasOneMore fewer name number index → IsNumbered fewer
    → IsBinarySearchResult (λ n. nat_cmp n number) numbers (Ok at) → IsLeft names numbers next fewer name at
once_removed names numbers next index fewer name number at list taken numbered result =
    let found = place_found names numbers next index fewer name number at list taken result in
    record {
      indexed = indexed_removed names numbers next index fewer name number at list taken numbered found.0 found.1 found.2;
      was_there = sym (named names numbers name number (stands_in_list names numbers next index fewer name number list taken));
      others = without_removed names at name found.0 found.1;
    }
