-- What calls on memory move.
use Rattle.std.proofs.Common.{◌≡◌, ℕ, ◌+◌, ◌-◌, ◌<◌, ◌≤◌, All, Bool, true, false, List, [], ◌∷◌, ◌++◌, length, map, find, take, drop, Option, Some, None, IfSome, refl, sym, ap, ◌∙◌, inl, inr, arith, string_bytes, set, get_or, zero, suc, length-drop}
use Rattle.std.proofs.lemmas.List.{length-take-le, get_or-set_other}
use Rattle.std.proofs.Math.Seq.{take-append_seam}
use Rattle.std.proofs.lemmas.Bool.{cases_Bool, cases_lt, false_from_ne_true}
use Rattle.std.proofs.lemmas.Grind.{get_or-set_at}
use Rattle.std.specs.Option.{option_map}
use Rattle.std.specs.Str.{bytes_eq}
use Rattle.ng_outside.specs.declared.memory_files.MemFile.{MemFile}
use Rattle.ng_outside.specs.Read.{ReadsAt}
use Rattle.std.proofs.lemmas.Slice.Eq.{bytes_eq-Decides}
use Rattle.ng_outside.specs.Contents.{IfHolds}
use Rattle.ng_outside.specs.Memory.{FileState, file_state, file_named, contents_of, moved_count, Gives, NamesDiffer}

find-map : {A B : Type 0} (f : A → B) (test : B → Bool) (xs : List A)
    → find test (map f xs) ≡ option_map f (find (λ x. test (f x)) xs)
find-map f test [] = refl
find-map f test (x ∷ xs) = elim (cases_Bool (test (f x))) [ inl is ↦ rw is refl | inr not ↦ rw not (find-map f test xs) ]

-- the file of a name, among those handed in and among what is seen of them
pub file_named_map : (files : List MemFile) (name : List ℕ)
    → file_named (map file_state files) name ≡ option_map file_state (find (λ file. bytes_eq (string_bytes file.name) name) files)
file_named_map files name = find-map file_state (λ file. bytes_eq file.name name) files

pub moved_some : (slow : Bool) (len most : ℕ) → 0 < len → moved_count slow len most ≡ 0 → most ≡ 0
moved_some true len most some none = omega arith
moved_some false len most some none = omega arith

gives_reads : (file : FileState) (at : ℕ) (old new : List ℕ) (count : ℕ) → 0 < length old
    → Gives file at old new count → ReadsAt file.bytes at new count
gives_reads file at old new count some gives =
    let inside : count ≤ length file.bytes - at = let e = gives.number in omega arith in
    let given : List ℕ = take count (drop at file.bytes) in
    let long : length given ≡ count = length-take-le count (drop at file.bytes) (omega (arith, length-drop at file.bytes)) in
    record {
      prefix =
          ap (λ (l : List ℕ). take count l) gives.piece
          ∙ ap (λ (n : ℕ). take n (given ++ drop count old)) (sym long)
          ∙ take-append_seam given (drop count old);
      inside = inside;
      at_end =
          λ none. let nothing : length file.bytes - at ≡ 0 =
          moved_some file.slow (length old) (length file.bytes - at) some (sym gives.number ∙ none) in omega arith;
    }

-- so a read that gives what a file in memory has gives what every file is to give
pub named_reads : (found : Option FileState) (at : ℕ) (old new : List ℕ) (count : ℕ) → 0 < length old
    → IfSome found (λ file. Gives file at old new count)
    → IfHolds (contents_of found) (λ bytes. ReadsAt bytes at new count)
named_reads None at old new count some gives = tt
named_reads (Some file) at old new count some gives = gives_reads file at old new count some gives

-- a list whose element is written with one that looks the same looks the same
pub map-set_same : {A B : Type 0} (f : A → B) (xs : List A) (i : ℕ) (x d : A) → f x ≡ f (get_or xs i d)
    → i < length xs → map f (set xs i x) ≡ map f xs
map-set_same f [] i x d same in_list = refl
map-set_same f (y ∷ ys) zero x d same in_list = ap (λ z. z ∷ map f ys) same
map-set_same f (y ∷ ys) (suc i) x d same in_list = ap (λ l. f y ∷ l) (map-set_same f ys i x d same (omega arith))

-- what holds below a place holds there too, once an element of which it holds is written there
pub below_more_set : {A : Type 0} (P : A → Type 0) (xs : List A) (i : ℕ) (x : A) → i < length xs → P x
    → ((k : ℕ) (d : A) → k < i → P (get_or xs k d))
    → (k : ℕ) (d : A) → k < i + 1 → P (get_or (set xs i x) k d)
below_more_set P xs i x in_list here below k d under = elim (cases_lt k i) [
  | inl less ↦ rw (get_or-set_other xs i k x d (omega arith)) (below k d less)
  | inr least ↦ rw (get_or-set_at xs i k x d (omega arith) in_list) here
]

named_here : (files : List MemFile) → NamesDiffer files → (k : ℕ) (d : MemFile) → k < length files
    → file_named (map file_state files) (string_bytes (get_or files k d).name) ≡ Some (file_state (get_or files k d))
named_here [] differ k d in_list = absurd (omega arith)
named_here (f ∷ fs) differ zero d in_list =
    let is : bytes_eq (string_bytes f.name) (string_bytes f.name) ≡ true =
    (bytes_eq-Decides (string_bytes f.name) (string_bytes f.name)).1 refl in
    rw is refl
named_here (f ∷ fs) differ (suc k) d in_list =
    let name = string_bytes (get_or fs k d).name in
    let other : bytes_eq (string_bytes f.name) name ≡ false =
    false_from_ne_true _ (λ is. differ 0 (suc k) d (omega arith) in_list ((bytes_eq-Decides (string_bytes f.name) name).0 is)) in
    rw other (named_here fs (λ i j e less under. differ (suc i) (suc j) e (omega arith) (omega arith)) k d (omega arith))

-- where the names differ, each name holds its file's bytes
pub names_hold : (files : List MemFile) → NamesDiffer files → (states : List FileState) → states ≡ map file_state files
    → All (λ file. option_map (λ one. one.bytes) (file_named states (string_bytes file.name)) ≡ Some file.bytes.items) files
names_hold files differ states is k d in_list =
    ap (λ (l : List FileState). option_map (λ one. one.bytes) (file_named l (string_bytes (get_or files k d).name))) is
    ∙ ap (option_map (λ (one : FileState). one.bytes)) (named_here files differ k d in_list)
