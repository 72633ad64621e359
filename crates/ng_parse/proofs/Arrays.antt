-- Arrays and structures that were printed are read again.
use Rattle.std.proofs.Common.{◌≡◌, ◌≢◌, ◌<◌, ◌≤◌, ◌+◌, ◌-◌, ◌^◌, ℕ, zero, suc, Bool, true, false, eqb, ◌||◌, List, [], ◌∷◌, ◌++◌, length, Option}
use Rattle.std.proofs.Common.{Some, None, Ok, refl, sym, ap, ◌∙◌, subst, append_assoc, eq-eqb, inl, inr, arith, length-append}
use Rattle.std.specs.Fmt.{decimal}
use Rattle.std.proofs.lemmas.Bool.{cases_lt, cond_both, lt-ltb, ne_eqb, eqb-true, eqb-false}
use Rattle.ng_shape.specs.Shape.{Shape, CountField}
use Rattle.ng_shape.specs.Values.{Value, Absent, is_absent, number, find}
use Rattle.ng_shape.proofs.Lookups.{bool_cases}
use Rattle.ng_parse.specs.declared.fault.Fault.{Fault}
use Rattle.ng_parse.specs.Tokens.{skip_blanks, word, starts, number_in}
use Rattle.ng_parse.specs.Counts.{reach, first_fault, wrong_count}
use Rattle.ng_parse.specs.Reading.{Reader, repeat, has, member_at, next_number, has_index, after_index, element_at, between, read_at}
use Rattle.ng_parse.specs.Printing.{print, print_index, print_elements, print_array}
use Rattle.ng_parse.proofs.Fitting.{or_none}
use Rattle.ng_parse.proofs.Again.{Ends, Front, skip_front, word_is, behind_word, front_word, is_index, decimal_says, decimal_word}
use Rattle.ng_parse.proofs.Like.{Like, like_same}
use Rattle.ng_parse.proofs.Proper.{Proper, Ordered}

-- what was printed of v is read as a value with the same bytes and right counts
pub record Again (f : Shape) (c : CountField → ℕ) (v : Value) (rest : List ℕ) : Type 0 where
  pub value : Value
  pub read : read_at f (print f v ++ rest) ≡ Ok (value, rest)
  pub like : Like f v value
  pub right : (cv : CountField → Value) → ((by : CountField) → number (cv by) ≡ c by) → wrong_count f cv value ≡ None

-- ---- members that were given

-- no member has a number from i on
abbrev pub IsBelow : ℕ → List (ℕ × Value) → Type 0
IsBelow i ms = (j : ℕ) → i ≤ j → has j ms ≡ false

or_no : (a b : Bool) → (a || b) ≡ false → (a ≡ false) × (b ≡ false)
or_no true b e = cc
or_no false b e = (refl, e)

pub find_absent : (j : ℕ) (ms : List (ℕ × Value)) → has j ms ≡ false → find j ms ≡ Absent
find_absent j [] e = refl
find_absent j (m ∷ ms) e = let p = or_no (eqb m.0 j) (has j ms) e in rw p.0 (find_absent j ms p.1)

pub find_pushed : (i : ℕ) (v : Value) (ms : List (ℕ × Value)) → has i ms ≡ false → find i (ms ++ (i, v) ∷ []) ≡ v
find_pushed i v [] e = rw (eq-eqb i i refl) refl
find_pushed i v (m ∷ ms) e = let p = or_no (eqb m.0 i) (has i ms) e in rw p.0 (find_pushed i v ms p.1)

pub find_pushed_other : (j i : ℕ) (v : Value) (ms : List (ℕ × Value)) → i ≢ j → find j (ms ++ (i, v) ∷ []) ≡ find j ms
find_pushed_other j i v [] ne = let e : eqb i j ≡ false = ne_eqb i j ne in rw e refl
find_pushed_other j i v (m ∷ ms) ne = rw (find_pushed_other j i v ms ne) refl

has_pushed_other : (j i : ℕ) (v : Value) (ms : List (ℕ × Value)) → i < j → has j ms ≡ false → has j (ms ++ (i, v) ∷ []) ≡ false
has_pushed_other j i v [] lt e = let other : eqb i j ≡ false = ne_eqb i j (λ h. omega (arith, h)) in rw other refl
has_pushed_other j i v (m ∷ ms) lt e = let p = or_no (eqb m.0 j) (has j ms) e in rw p.0 (has_pushed_other j i v ms lt p.1)

pub below_pushed : (i k : ℕ) (v : Value) (ms : List (ℕ × Value)) → k ≤ i → IsBelow k ms → IsBelow (i + 1) (ms ++ (i, v) ∷ [])
below_pushed i k v ms le none j lt = has_pushed_other j i v ms (omega arith) (none j (omega arith))

next_pushed : (i : ℕ) (v : Value) (ms : List (ℕ × Value)) → next_number (ms ++ (i, v) ∷ []) ≡ i + 1
next_pushed i v [] = refl
next_pushed i v (m ∷ []) = refl
next_pushed i v (m ∷ k ∷ ms) = next_pushed i v (k ∷ ms)

reach_pushed : (i high : ℕ) (v : Value) (ms : List (ℕ × Value)) → i < high → reach ms ≤ high → reach (ms ++ (i, v) ∷ []) ≤ high
reach_pushed i high v [] lt le = omega arith
reach_pushed i high v (m ∷ ms) lt le = omega (arith, reach_pushed i high v ms lt (omega arith))

fault_pushed : (p : Value → Option Fault) (i : ℕ) (v : Value) (ms : List (ℕ × Value)) → first_fault p ms ≡ None → p v ≡ None → first_fault p (ms ++ (i, v) ∷ []) ≡ None
fault_pushed p i v [] all one = rw one refl
fault_pushed p i v (m ∷ ms) all one = let both = or_none (p m.1) (first_fault p ms) all in rw (both.0, fault_pushed p i v ms both.1 one) refl

-- ---- an element

-- what follows an element
abbrev pub Follows : List ℕ → Type 0
Follows rest = Ends rest × (starts 61 (skip_blanks rest) ≡ false)

no_bracket : (text : List ℕ) → Front text → starts 93 text ≡ false
no_bracket [] front = absurd front
no_bracket (b ∷ bs) front = front.2

longer : (text rest w : List ℕ) → Front (w ++ rest) → Ends rest → (w ≡ [] → ⊥) → eqb (length rest) (length (w ++ rest)) ≡ false
longer text rest [] front e some = absurd (some refl)
longer text rest (b ∷ w) front e some = ne_eqb (length rest) (length (b ∷ w ++ rest)) (λ h. omega (arith, h, length-append w rest))

-- without an index
next_reads : (n : ℕ) (reader : Reader) (given : List (ℕ × Value)) (w rest : List ℕ) (v : Value) → next_number given < n → has (next_number given) given ≡ false → (w ≡ [] → ⊥) → Front (w ++ rest) → Ends rest → has_index (w ++ rest) ≡ false → reader (w ++ rest) ≡ Ok (v, rest)
    → member_at 93 (element_at n reader) given (32 ∷ (w ++ rest)) ≡ Ok (Some (next_number given, v), rest)
unfolding element_at
next_reads n reader given w rest v lt new some front e plain read =
    let text = w ++ rest in
    let long : eqb (length rest) (length text) ≡ false = longer text rest w front e some in
    let item : element_at n reader given text ≡ Ok ((next_number given, v), rest) = rw (plain, lt-ltb (next_number given) n lt, new, read, long) refl in
    rw (skip_front text front, no_bracket text front, item) refl

-- with an index
indexed_reads : (n i : ℕ) (reader : Reader) (given : List (ℕ × Value)) (text rest : List ℕ) (v : Value) → i < n → i < 2 ^ 64 → has i given ≡ false → Front text → reader text ≡ Ok (v, rest)
    → member_at 93 (element_at n reader) given (32 ∷ decimal i ++ 61 ∷ text) ≡ Ok (Some (i, v), rest)
unfolding element_at
indexed_reads n i reader given text rest v lt low new front read =
    let w = decimal i in
    let all = decimal_word i low in
    let whole = w ++ 61 ∷ text in
    let front' : Front whole = front_word w (61 ∷ text) all.0 all.1 in
    let index : has_index whole ≡ true = is_index w text all.0 all.1 in
    let says : number_in (word whole) ≡ Some i = ap number_in (word_is w (61 ∷ text) all.1 refl) ∙ decimal_says i low in
    let behind : after_index whole ≡ text = rw (behind_word w (61 ∷ text) all.1 refl) (skip_front text front) in
    let item : element_at n reader given whole ≡ Ok ((i, v), rest) = rw (index, says, lt-ltb i n lt, new, behind, read) refl in
    rw (skip_front whole front', no_bracket whole front', item) refl

-- ---- the elements of an array

no_equals : (text : List ℕ) → Front text → starts 61 text ≡ false
no_equals [] front = absurd front
no_equals (b ∷ bs) front = front.1

-- all that is said of the text of a value before what follows it
pub record Printed (f : Shape) (c : CountField → ℕ) (v : Value) (rest : List ℕ) : Type 0 where
  pub again : Again f c v rest
  pub front : Front (print f v ++ rest)
  pub plain : has_index (print f v ++ rest) ≡ false
  pub some : print f v ≡ [] → ⊥

abbrev pub Prints : Shape → (CountField → ℕ) → Type 0
Prints f c = (v : Value) (rest : List ℕ) → is_absent v ≡ false → Proper f c v → Follows rest → Printed f c v rest

abbrev tail_of : Shape → ℕ → List (ℕ × Value) → List ℕ → List ℕ
tail_of f next ms rest = print_elements (print f) next ms ++ 32 ∷ 93 ∷ rest

elements_split : (f : Shape) (next : ℕ) (m : ℕ × Value) (ms : List (ℕ × Value)) (rest : List ℕ) → tail_of f next (m ∷ ms) rest ≡ print_index next m.0 ++ (print f m.1 ++ tail_of f (m.0 + 1) ms rest)
elements_split f next m ms rest = simp append_assoc

follows_index : (next i : ℕ) (text : List ℕ) → i < 2 ^ 64 → Front text → Follows (print_index next i ++ text)
follows_index next i text low front =
    elim (bool_cases (eqb i next)) [
      | inl hit ↦ rw hit (refl, ap (starts 61) (skip_front text front) ∙ no_equals text front)
      | inr miss ↦
          let w = decimal i in
          let all = decimal_word i low in
          let front' : Front (w ++ 61 ∷ text) = front_word w (61 ∷ text) all.0 all.1 in
          let grouped : (32 ∷ w ++ 61 ∷ []) ++ text ≡ 32 ∷ (w ++ 61 ∷ text) = append_assoc (32 ∷ w) (61 ∷ []) text in
          rw miss (subst Follows (sym grouped) (refl, ap (starts 61) (skip_front (w ++ 61 ∷ text) front') ∙ no_equals (w ++ 61 ∷ text) front'))
    ]

follows_elements : (f : Shape) (c : CountField → ℕ) (next low high : ℕ) (ms : List (ℕ × Value)) (rest : List ℕ) → high < 2 ^ 64 → Prints f c → Ordered (Proper f c) low high ms → Follows (tail_of f next ms rest)
follows_elements f c next low high [] rest fits each o = (refl, refl)
follows_elements f c next low high (m ∷ ms) rest fits each o =
    let t = tail_of f (m.0 + 1) ms rest in
    let one = each m.1 t o.2 o.3 (follows_elements f c (m.0 + 1) (m.0 + 1) high ms rest fits each o.4) in
    subst Follows (sym (elements_split f next m ms rest)) (follows_index next m.0 (print f m.1 ++ t) (omega (arith, o.1)) one.front)

-- one element, as it was printed
element_reads : (f : Shape) (c : CountField → ℕ) (n next i : ℕ) (given : List (ℕ × Value)) (v : Value) (rest : List ℕ) → next_number given ≡ next → has i given ≡ false → i < n → i < 2 ^ 64 → Ends rest → (p : Printed f c v rest)
    → member_at 93 (element_at n (read_at f)) given (print_index next i ++ (print f v ++ rest)) ≡ Ok (Some (i, p.again.value), rest)
element_reads f c n next i given v rest is_next new lt low e p =
    let text = print f v ++ rest in
    let step = member_at 93 (element_at n (read_at f)) in
    elim (bool_cases (eqb i next)) [
      | inl hit ↦
          let here : next_number given ≡ i = is_next ∙ sym (eqb-true i next hit) in
          let lt' : next_number given < n = omega (arith, here) in
          let new' : has (next_number given) given ≡ false = rw here new in
          let one : step given (32 ∷ text) ≡ Ok (Some (next_number given, p.again.value), rest) = next_reads n (read_at f) given (print f v) rest p.again.value lt' new' p.some p.front e p.plain p.again.read in
          rw hit (one ∙ ap (λ (j : ℕ). Ok (Some (j, p.again.value), rest)) here)
      | inr miss ↦
          let grouped : (32 ∷ decimal i ++ 61 ∷ []) ++ text ≡ 32 ∷ decimal i ++ 61 ∷ text = append_assoc (32 ∷ decimal i) (61 ∷ []) text in
          rw miss (ap (step given) grouped ∙ indexed_reads n i (read_at f) given text rest p.again.value lt low new p.front p.again.read)
    ]

ordered_absent : (P : Value → Type 0) (low high j : ℕ) (ms : List (ℕ × Value)) → Ordered P low high ms → j < low → find j ms ≡ Absent
ordered_absent P low high j [] o lt = refl
ordered_absent P low high j (m ∷ ms) o lt =
    let miss : eqb m.0 j ≡ false = ne_eqb m.0 j (λ e. omega (arith, e, o.0)) in
    rw miss (ordered_absent P (m.0 + 1) high j ms o.4 (omega (arith, o.0)))

-- elements, as they were printed after others
record ArrayRead (f : Shape) (c : CountField → ℕ) (n next high : ℕ) (ms given : List (ℕ × Value)) (k : ℕ) (rest : List ℕ) : Type 0 where
  given' : List (ℕ × Value)
  read : repeat (member_at 93 (element_at n (read_at f))) k given (tail_of f next ms rest) ≡ Ok (given', rest)
  like : (j : ℕ) → next ≤ j → Like f (find j ms) (find j given')
  keeps : (j : ℕ) → j < next → find j given' ≡ find j given
  low : reach given' ≤ high
  right : (cv : CountField → Value) → ((by : CountField) → number (cv by) ≡ c by) → first_fault (wrong_count f cv) given ≡ None → first_fault (wrong_count f cv) given' ≡ None

array_ends : (f : Shape) (c : CountField → ℕ) (n next high : ℕ) (given : List (ℕ × Value)) (k : ℕ) (rest : List ℕ) → IsBelow next given → reach given ≤ high → 1 ≤ k → ArrayRead f c n next high [] given k rest
unfolding repeat
array_ends f c n next high given zero rest none low le = absurd (omega arith)
array_ends f c n next high given (suc k) rest none low le = record {
  given' = given;
  read = refl;
  like = λ j le. rw (find_absent j given (none j le)) (like_same f Absent);
  keeps = λ j lt. refl;
  low = low;
  right = λ cv same all. all;
}

array_like : (f : Shape) (c : CountField → ℕ) (next high : ℕ) (m : ℕ × Value) (ms given given' : List (ℕ × Value)) (w : Value) → Ordered (Proper f c) next high (m ∷ ms) → IsBelow next given → Like f m.1 w
    → ((j : ℕ) → m.0 + 1 ≤ j → Like f (find j ms) (find j given')) → ((j : ℕ) → j < m.0 + 1 → find j given' ≡ find j (given ++ (m.0, w) ∷ []))
    → (j : ℕ) → next ≤ j → Like f (find j (m ∷ ms)) (find j given')
array_like f c next high m ms given given' w o none like later keeps j le =
    elim (bool_cases (eqb m.0 j)) [
      | inl hit ↦
          let is : m.0 ≡ j = eqb-true m.0 j hit in
          let there : find j given' ≡ w = keeps j (omega arith) ∙ ap (λ (i : ℕ). find i (given ++ (m.0, w) ∷ [])) (sym is) ∙ find_pushed m.0 w given (none m.0 o.0) in
          rw (hit, there) like
      | inr miss ↦ elim (cases_lt j m.0) [
        | inl lt ↦
            let gone : find j ms ≡ Absent = ordered_absent (Proper f c) (m.0 + 1) high j ms o.4 (omega arith) in
            let there : find j given' ≡ Absent = keeps j (omega arith) ∙ find_pushed_other j m.0 w given (λ e. omega (arith, e)) ∙ find_absent j given (none j le) in
            rw (miss, gone, there) (like_same f Absent)
        | inr ge ↦ let ne = eqb-false m.0 j miss in rw miss (later j (omega (arith, ne)))
      ]
    ]

shorter : (text front t : List ℕ) (k : ℕ) → text ≡ front ++ t → 1 ≤ length front → length text ≤ k → (suc (k - 1) ≡ k) × (length t ≤ k - 1)
shorter text front t k e some le =
    let long = ap length e in
    let sum = length-append front t in
    (omega (arith, long, sum), omega (arith, long, sum))

index_some : (next i : ℕ) (text : List ℕ) → 1 ≤ length (print_index next i ++ text)
index_some next i text = cond_both (eqb i next) (32 ∷ []) (32 ∷ decimal i ++ 61 ∷ []) (λ x. 1 ≤ length (x ++ text)) (λ e. omega arith) (λ e. omega arith)

array_one : (f : Shape) (c : CountField → ℕ) (n next high : ℕ) (m : ℕ × Value) (ms given : List (ℕ × Value)) (k : ℕ) (rest : List ℕ) → (o : Ordered (Proper f c) next high (m ∷ ms)) → IsBelow next given
    → (a : Again f c m.1 (tail_of f (m.0 + 1) ms rest)) → member_at 93 (element_at n (read_at f)) given (tail_of f next (m ∷ ms) rest) ≡ Ok (Some (m.0, a.value), tail_of f (m.0 + 1) ms rest)
    → ArrayRead f c n (m.0 + 1) high ms (given ++ (m.0, a.value) ∷ []) k rest → ArrayRead f c n next high (m ∷ ms) given (suc k) rest
unfolding repeat
array_one f c n next high m ms given k rest o none a one r = record {
  given' = r.given';
  read = rw one r.read;
  like = array_like f c next high m ms given r.given' a.value o none a.like r.like r.keeps;
  keeps = λ j lt. r.keeps j (omega (arith, o.0)) ∙ find_pushed_other j m.0 a.value given (λ e. omega (arith, e, o.0));
  low = r.low;
  right = λ cv same all. r.right cv same (fault_pushed (wrong_count f cv) m.0 a.value given all (a.right cv same));
}

array_reads : (ms : List (ℕ × Value)) (f : Shape) (c : CountField → ℕ) (n next high : ℕ) (given : List (ℕ × Value)) (k : ℕ) (rest : List ℕ) → high ≤ n → high < 2 ^ 64 → Prints f c → Ordered (Proper f c) next high ms → next_number given ≡ next → IsBelow next given → reach given ≤ high
    → length (tail_of f next ms rest) ≤ k → ArrayRead f c n next high ms given k rest
array_reads [] f c n next high given k rest le fits each o is_next none low long = array_ends f c n next high given k rest none low (omega (arith, long))
array_reads (m ∷ ms) f c n next high given k rest le fits each o is_next none low long =
    let t = tail_of f (m.0 + 1) ms rest in
    let p = each m.1 t o.2 o.3 (follows_elements f c (m.0 + 1) (m.0 + 1) high ms rest fits each o.4) in
    let ends : Ends t = (follows_elements f c (m.0 + 1) (m.0 + 1) high ms rest fits each o.4).0 in
    let split = elements_split f next m ms rest in
    let one : member_at 93 (element_at n (read_at f)) given (tail_of f next (m ∷ ms) rest) ≡ Ok (Some (m.0, p.again.value), t) = ap (member_at 93 (element_at n (read_at f)) given) split ∙ element_reads f c n next m.0 given m.1 t is_next (none m.0 o.0) (omega (arith, o.1)) (omega (arith, o.1)) ends p in
    let size = shorter (tail_of f next (m ∷ ms) rest) (print_index next m.0 ++ print f m.1) t k (split ∙ sym (append_assoc (print_index next m.0) (print f m.1) t)) (index_some next m.0 (print f m.1)) long in
    let more = array_reads ms f c n (m.0 + 1) high (given ++ (m.0, p.again.value) ∷ []) (k - 1) rest le fits each o.4 (next_pushed m.0 p.again.value given) (below_pushed m.0 next p.again.value given o.0 none) (reach_pushed m.0 high p.again.value given o.1 low) size.1 in
    subst (λ (s : ℕ). ArrayRead f c n next high (m ∷ ms) given s rest) size.0 (array_one f c n next high m ms given (k - 1) rest o none p.again one more)

-- an array, as it was printed
pub record Elements (f : Shape) (c : CountField → ℕ) (n high : ℕ) (ms : List (ℕ × Value)) (rest : List ℕ) : Type 0 where
  pub given : List (ℕ × Value)
  pub read : between 91 93 (element_at n (read_at f)) (print_array (print f) ms ++ rest) ≡ Ok (given, rest)
  pub like : (j : ℕ) → Like f (find j ms) (find j given)
  pub low : reach given ≤ high
  pub right : (cv : CountField → Value) → ((by : CountField) → number (cv by) ≡ c by) → first_fault (wrong_count f cv) given ≡ None

pub elements_again : (f : Shape) (c : CountField → ℕ) (n high : ℕ) (ms : List (ℕ × Value)) (rest : List ℕ) → high ≤ n → high < 2 ^ 64 → Prints f c → Ordered (Proper f c) 0 high ms → Elements f c n high ms rest
unfolding between
elements_again f c n high ms rest le fits each o =
    let text = tail_of f 0 ms rest in
    let grouped : print_array (print f) ms ++ rest ≡ 91 ∷ text = ap (λ (x : List ℕ). 91 ∷ x) (append_assoc (print_elements (print f) 0 ms) (32 ∷ 93 ∷ []) rest) in
    let r = array_reads ms f c n 0 high [] (length text) rest le fits each o refl (λ j le. refl) (omega arith) (omega arith) in
    record {
      given = r.given';
      read = ap (between 91 93 (element_at n (read_at f))) grouped ∙ r.read;
      like = λ j. r.like j (omega arith);
      low = r.low;
      right = λ cv same. r.right cv same refl;
    }
