-- How the bytes of one file in memory change, and no other's.
use Rattle.std.proofs.Common.{◌≡◌, ◌≢◌, ℕ, ◌<◌, ◌≤◌, Bool, true, false, List, [], ◌∷◌, ◌++◌, length, map, find, set, get_or, zero, suc, Option, Some, None, IsSome, IsTrue, ◌↔◌, refl, sym, ap, ◌∙◌, subst, inl, inr, arith, position, cond, append-nil, take, string_bytes}
use Rattle.std.proofs.lemmas.Bool.{cases_Bool, cases_lt, false_from_ne_true, lt-ltb}
use Rattle.std.proofs.lemmas.Option.{slice_get_past}
use Rattle.std.proofs.lemmas.List.Quantifiers.{position-Some}
use Rattle.std.proofs.lemmas.List.Folds.{find_at}
use Rattle.std.specs.List.{position_or_len}
use Rattle.std.specs.Option.{option_map}
use Rattle.std.specs.Str.{bytes_eq}
use Rattle.std.proofs.lemmas.Slice.Eq.{bytes_eq-Decides}
use Rattle.ng_outside.specs.declared.memory_files.MemFile.{MemFile}
use Rattle.ng_outside.specs.Contents.{HoldsNow, Grows}
use Rattle.ng_outside.specs.Memory.{FileState, file_state, file_named, with_file, contents_of, room_left, taken_count}
use Rattle.ng_outside.proofs.Moves.{file_named_map, map-set_same, moved_some}

abbrev is_named : List ℕ → MemFile → Bool
is_named name file = bytes_eq (string_bytes file.name) name

abbrev pub changed : (List ℕ → List ℕ) → FileState → FileState
changed change file = record file { bytes = change file.bytes }

-- the first file of a name stands at this place
record IsFirst (files : List MemFile) (name : List ℕ) (place : ℕ) : Type 0 where
  in_list : place < length files
  named : (d : MemFile) → is_named name (get_or files place d) ≡ true
  before : (k : ℕ) (d : MemFile) → k < place → is_named name (get_or files k d) ≡ false

is_first : (files : List MemFile) (name : List ℕ) (place : ℕ) (e : MemFile) → position (is_named name) files ≡ Some place → IsFirst files name place
is_first files name place e is = record {
  in_list = (position-Some (is_named name) files place e is).0;
  named = λ d. (position-Some (is_named name) files place d is).1;
  before = λ k d less. (position-Some (is_named name) files place d is).2 k less;
}

file_at : (files : List MemFile) (name : List ℕ) (place : ℕ) (d : MemFile) → IsFirst files name place
    → file_named (map file_state files) name ≡ Some (file_state (get_or files place d))
file_at [] name place d first = let less : place < 0 = first.in_list in absurd (omega arith)
file_at (f ∷ fs) name zero d first = rw (first.named d) refl
file_at (f ∷ fs) name (suc i) d first =
    let other : is_named name f ≡ false = first.before 0 d (omega arith) in
    let next : IsFirst fs name i = record {
      in_list = let less : suc i < length (f ∷ fs) = first.in_list in omega arith;
      named = first.named;
      before = λ k e less. first.before (suc k) e (omega (arith, less));
    } in
    rw other (file_at fs name i d next)

set_at : (files : List MemFile) (name : List ℕ) (change : List ℕ → List ℕ) (place : ℕ) (x d : MemFile) → IsFirst files name place
    → file_state x ≡ changed change (file_state (get_or files place d))
    → map file_state (set files place x) ≡ with_file (map file_state files) name change
set_at [] name change place x d first is = let less : place < 0 = first.in_list in absurd (omega arith)
set_at (f ∷ fs) name change zero x d first is = rw (first.named d) (ap (λ (one : FileState). one ∷ map file_state fs) is)
set_at (f ∷ fs) name change (suc i) x d first is =
    let other : is_named name f ≡ false = first.before 0 d (omega arith) in
    let next : IsFirst fs name i = record {
      in_list = let less : suc i < length (f ∷ fs) = first.in_list in omega arith;
      named = first.named;
      before = λ k e less. first.before (suc k) e (omega (arith, less));
    } in
    rw other (ap (λ (l : List FileState). file_state f ∷ l) (set_at fs name change i x d next is))

-- the file of a name stands at its place
pub place_is : (files : List MemFile) (name : List ℕ) (place : ℕ) (d : MemFile)
    → position (λ file. bytes_eq (string_bytes file.name) name) files ≡ Some place
    → file_named (map file_state files) name ≡ Some (file_state (get_or files place d))
place_is files name place d is = file_at files name place d (is_first files name place d is)

pub place_inside : (files : List MemFile) (name : List ℕ) (place : ℕ) (d : MemFile)
    → position (λ file. bytes_eq (string_bytes file.name) name) files ≡ Some place → place < length files
place_inside files name place d is = (is_first files name place d is).in_list

-- a file that is written at that place with other bytes is the change of one file
pub changed_at : (files : List MemFile) (name : List ℕ) (change : List ℕ → List ℕ) (place : ℕ) (x d : MemFile)
    → position (λ file. bytes_eq (string_bytes file.name) name) files ≡ Some place
    → file_state x ≡ changed change (file_state (get_or files place d))
    → map file_state (set files place x) ≡ with_file (map file_state files) name change
changed_at files name change place x d at is = set_at files name change place x d (is_first files name place d at) is

some_is_none : (place : ℕ) → Some place ≡ None → ⊥
some_is_none place is = cc is

-- where there is no place there is no file
past : (files : List MemFile) (name : List ℕ) → length files ≤ position_or_len (is_named name) files → find (is_named name) files ≡ None
past files name far = find_at (is_named name) files ∙ slice_get_past files (position_or_len (is_named name) files) far

pub no_place : (files : List MemFile) (name : List ℕ)
    → position (λ file. bytes_eq (string_bytes file.name) name) files ≡ None → file_named (map file_state files) name ≡ None
no_place files name none = elim (cases_lt (position_or_len (is_named name) files) (length files)) [
  | inl less ↦ absurd (some_is_none _ (subst (λ (b : Bool). cond b (Some (position_or_len (is_named name) files)) None ≡ None)
      (lt-ltb _ _ less) none))
  | inr far ↦ file_named_map files name ∙ ap (option_map file_state) (past files name far)
]

-- the file of the name has changed
pub named_changed : (files : List FileState) (name : List ℕ) (change : List ℕ → List ℕ)
    → file_named (with_file files name change) name ≡ option_map (changed change) (file_named files name)
named_changed [] name change = refl
named_changed (f ∷ fs) name change = elim (cases_Bool (bytes_eq f.name name)) [
  | inl is ↦ rw (is, is) refl
  | inr not ↦ rw (not, not) (named_changed fs name change)
]

-- and none of another name
pub named_other : (files : List FileState) (name other : List ℕ) (change : List ℕ → List ℕ) → other ≢ name
    → file_named (with_file files name change) other ≡ file_named files other
named_other [] name other change differ = refl
named_other (f ∷ fs) name other change differ = elim (cases_Bool (bytes_eq f.name name)) [
  | inl is ↦
      let here : f.name ≡ name = (bytes_eq-Decides f.name name).0 is in
      let not : bytes_eq f.name other ≡ false =
      false_from_ne_true _ (λ same. differ (sym ((bytes_eq-Decides f.name other).0 same) ∙ here)) in
      rw (is, not) refl
  | inr not ↦ elim (cases_Bool (bytes_eq f.name other)) [
    | inl same ↦ rw (not, same) refl
    | inr apart ↦ rw (not, apart) (named_other fs name other change differ)
  ]
]

-- What every implementation is to promise of it.

empty_holds : (found : Option FileState) → IsSome found
    → HoldsNow (contents_of found) (contents_of (option_map (changed (λ _. [])) found)) []
empty_holds None there = absurd (cc there)
empty_holds (Some file) there = refl

pub emptied : (files after : List FileState) (name : List ℕ) → IsSome (file_named files name) → after ≡ with_file files name (λ _. [])
    → HoldsNow (contents_of (file_named files name)) (contents_of (file_named after name)) []
emptied files after name there is = rw (is, named_changed files name (λ _. [])) (empty_holds (file_named files name) there)

grown_holds : (found : Option FileState) (len : ℕ) (piece : List ℕ) → 0 < taken_count found len
    → Grows (contents_of found) (contents_of (option_map (changed (λ now. now ++ piece)) found)) piece
grown_holds None len piece some = absurd (omega (arith, some))
grown_holds (Some file) len piece some = refl

pub appended : (files after : List FileState) (name : List ℕ) (len : ℕ) (piece : List ℕ) → 0 < taken_count (file_named files name) len
    → after ≡ with_file files name (λ now. now ++ piece)
    → Grows (contents_of (file_named files name)) (contents_of (file_named after name)) piece
appended files after name len piece some is =
    rw (is, named_changed files name (λ now. now ++ piece)) (grown_holds (file_named files name) len piece some)

pub others_hold : (files after : List FileState) (name : List ℕ) (change : List ℕ → List ℕ) → after ≡ with_file files name change
    → (other : List ℕ) → other ≢ name → contents_of (file_named after other) ≡ contents_of (file_named files other)
others_hold files after name change is other differ = ap contents_of (ap (λ (l : List FileState). file_named l other) is ∙ named_other files name other change differ)

-- no byte is taken only where no room is left
pub none_taken : (found : Option FileState) (len : ℕ) → 0 < len → taken_count found len ≡ 0 → room_left found ≤ 0
none_taken None len some none = omega arith
none_taken (Some file) len some none = let full : room_left (Some file) ≡ 0 = moved_some file.slow len (room_left (Some file)) some none in omega arith

-- a piece of no bytes changes nothing
pub none_changed : (file after : FileState) (piece : List ℕ) (count : ℕ) → count ≡ 0 → after ≡ changed (λ now. now ++ take count piece) file
    → after ≡ file
none_changed file after piece count none is =
    is ∙ ap (λ (n : ℕ). changed (λ now. now ++ take n piece) file) none ∙ ap (λ (l : List ℕ). record file { bytes = l }) (append-nil file.bytes)

pub same_at : (files : List MemFile) (place : ℕ) (x d : MemFile) → place < length files
    → file_state x ≡ file_state (get_or files place d) → map file_state (set files place x) ≡ map file_state files
same_at files place x d inside is = map-set_same file_state files place x d is inside

pub none_is_no : (found : Option FileState) → found ≡ None → IsTrue false ↔ IsSome found
none_is_no None is = (λ no. absurd (cc no), λ some. absurd (cc some))
none_is_no (Some file) is = absurd (cc is)

pub some_is_yes : (found : Option FileState) (file : FileState) → found ≡ Some file → IsTrue true ↔ IsSome found
some_is_yes None file is = absurd (cc is)
some_is_yes (Some found) file is = (λ _. refl, λ _. refl)
