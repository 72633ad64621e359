-- The lengths of bytes that have the layout of struct nodeinfo, namelist, hooklist and typelist.
use Rattle.std.proofs.Common.{◌≡◌, ◌+◌, ◌-◌, ◌*◌, ◌==◌, ℕ, zero, suc, true, List, [], ◌∷◌, ◌++◌, codes}
use Rattle.std.proofs.Common.{length, drop, Ok, Err, IsOk, IfOk, refl, ap, ◌∙◌, subst, inl, inr, arith}
use Rattle.std.proofs.lemmas.Bool.{cases_lt, cases_Bool, eq-eqb, eqb-true}
use Rattle.byteorder.specs.Endian.{little_number}
use Rattle.byteorder.specs.Numbers.{little_from-take}
use Rattle.ng_base.proofs.NameLemmas.{same_name}
use Rattle.ng_shape.specs.Shape.{Shape, UInt, Hex, Str, Struct, Counted, Fields, no_fields, field}
use Rattle.ng_shape.specs.Shape.{CountField, Own, Inside}
use Rattle.ng_shape.specs.Values.{Value, Absent, number, members, find, count_in}
use Rattle.ng_shape.specs.Layout.{gap, end_gap, counts_nothing}
use Rattle.ng_shape.specs.Decoding.{Read, ◌>>=◌, take_exactly, given, number_value, group_value}
use Rattle.ng_shape.specs.Decoding.{number_in, array_in, as_group, all_read, value_in, read_fields, value_from}
use Rattle.ng_shape.proofs.Agreeing.{members_group}
use Rattle.ng_shape.proofs.Lookups.{AllBelow, find_behind, below_given}
use Rattle.ng_shape.proofs.Reading.{take_exactly_ok, take_exactly_short}
use Rattle.ng_table.specs.Message.{fields_listed}
use Rattle.ng_table.specs.Generic.{node_info, link_info, hook_list, node_list, type_list}
use Rattle.ng_laws.proofs.answers.Sizes.{size_at, fields_size, is_fixed}
use Rattle.ng_laws.proofs.printable.Lengths.{Took, Uses, took_on, took_left, uses_after, uses_on, uses_map, end_uses, value_uses, fields_use}

-- what a reader reads meets P, and what follows then meets Q
pub ok_on : {A B : Type 0} (P : A × List ℕ → Type 0) (Q : B × List ℕ → Type 0) (r : Read A) (f : A × List ℕ → Read B)
    → IfOk r P → ((x : A × List ℕ) → P x → IfOk (f x) Q) → IfOk (r >>= f) Q
ok_on P Q (Ok x) f p h = h x p
ok_on P Q (Err m) f p h = tt

-- an integer of four bytes at a multiple of four
abbrev IsNumberOf : List ℕ → Value × List ℕ → Type 0
IsNumberOf bytes x = Took 4 bytes x.1 × (x.0 ≡ number_value (little_number 4 bytes))

number_reads : (bytes : List ℕ)
    → IfOk (take_exactly 4 bytes >>= λ x. Ok (number_value (little_number 4 x.0), x.1)) (IsNumberOf bytes)
number_reads bytes = elim (cases_lt (length bytes) 4) [
  | inl lt ↦ rw (take_exactly_short 4 bytes lt) tt
  | inr le ↦
      rw (take_exactly_ok 4 bytes le)
      ((record { there = le; is = refl }), ap number_value (little_from-take 0 4 4 bytes (omega arith)))
]

number_reads_at : (count : CountField → ℕ) (front at : ℕ) (bytes : List ℕ) → at + length bytes ≡ front → gap 4 at ≡ 0
    → IfOk (value_in (UInt 32) count front bytes) (IsNumberOf bytes)
unfolding value_in number_in
number_reads_at count front at bytes e none =
    let place : front - length bytes ≡ at = omega arith in
    let before : gap 4 (front - length bytes) ≡ 0 = ap (gap 4) place ∙ none in
    rw (before, take_exactly_ok 0 bytes (omega arith)) (number_reads bytes)

-- elements that take w bytes each
pub row_uses : (element : List ℕ → Read Value) (w : ℕ) → ((bs : List ℕ) → Uses w bs (element bs))
    → (k i : ℕ) (so_far : List (ℕ × Value)) (bytes : List ℕ) → Uses (k * w) bytes (array_in element i k so_far bytes)
unfolding array_in
row_uses element w each zero i so_far bytes =
    let none : 0 * w ≡ 0 = omega arith in rw none (record { there = omega arith; is = refl })
row_uses element w each (suc k) i so_far bytes =
    let split : suc k * w ≡ w + k * w = omega arith in
    rw split
    (uses_on w (k * w) bytes (element bytes) _ (each bytes)
    (λ x t. row_uses element w each k (i + 1) (so_far ++ given i x.0) x.1))

-- The first field counts

number_given : (n : ℕ) → number (find 0 (given 0 (number_value n))) ≡ n
number_given zero = refl
number_given (suc n) = refl

abbrev first_counts : List ℕ → List ℕ → ℕ → Shape → Fields
first_counts c e max s = field c (UInt 32) (field e (Counted (Own c) max s) no_fields)

first_uses : (c e : List ℕ) (max : ℕ) (s : Shape) (w : ℕ) (bytes : List ℕ)
    → ((count : CountField → ℕ) (front : ℕ) (bs : List ℕ) → Uses w bs (value_in s count front bs))
    → Uses (4 + little_number 4 bytes * w) bytes
    (read_fields (first_counts c e max s) (first_counts c e max s) 0 [] (length bytes) bytes)
unfolding value_in read_fields
first_uses c e max s w bytes each =
    let whole = first_counts c e max s in
    let n = little_number 4 bytes in
    ok_on (IsNumberOf bytes) (λ x. Took (4 + n * w) bytes x.1) (value_in (UInt 32) (count_in whole []) (length bytes) bytes) _
    (number_reads_at (count_in whole []) (length bytes) 0 bytes (omega arith) refl)
    (λ x p.
    let so_far = given 0 x.0 in
    let counts : count_in whole so_far (Own c) ≡ n = rw (same_name c, p.1) (number_given n) in
    let m = count_in whole so_far (Own c) in
    let r = array_in (value_in s (count_in whole so_far) (length bytes)) 0 m [] x.1 in
    let u : Uses (m * w) x.1 r =
    row_uses (value_in s (count_in whole so_far) (length bytes)) w (each (count_in whole so_far) (length bytes)) m 0 [] x.1 in
    let last : List (ℕ × Value) → List (ℕ × Value) = λ ms. so_far ++ given 1 (group_value ms) in
    let read : Read (List (ℕ × Value)) = as_group r >>= λ y. Ok (so_far ++ given 1 y.0, y.1) in
    let all : Uses (m * w) x.1 read = uses_map (m * w) x.1 (as_group r) (λ y. so_far ++ given 1 y) (uses_map (m * w) x.1 r group_value u) in
    subst (λ (k : ℕ). Uses (4 + k * w) bytes read) counts (uses_after 4 (m * w) bytes x.1 read p.0 all))

-- Whole bytes

-- what is read of them all takes them all
pub whole_read : (k had : ℕ) (bytes : List ℕ) (r : Read Value) → Uses k bytes r → IsOk (all_read had r) → length bytes ≡ k
whole_read k had bytes (Ok x) u ok = elim (cases_Bool (0 == length x.1)) [
  | inl none ↦ omega (arith, took_left k bytes x.1 u, eqb-true 0 (length x.1) none)
  | inr some ↦ let no_ok = rw some at ok in cc
]
whole_read k had bytes (Err m) u ok = cc

pub fixed_length : (s : Shape) (bytes : List ℕ) → is_fixed s ≡ true → IsOk (value_from s bytes) → length bytes ≡ size_at s 0
unfolding value_from
fixed_length s bytes fixed ok =
    whole_read (size_at s 0) (length bytes) bytes (value_in s counts_nothing (length bytes) bytes)
    (value_uses s counts_nothing (length bytes) 0 bytes fixed (omega arith)) ok

-- elements of w bytes each
abbrev pub EachUses : Shape → ℕ → Type 0
EachUses s w = (count : CountField → ℕ) (front : ℕ) (bs : List ℕ) → Uses w bs (value_in s count front bs)

pub struct_each : (fs : Fields) → is_fixed (Struct fs) ≡ true → EachUses (Struct fs) (size_at (Struct fs) 0)
unfolding value_in
struct_each fs fixed count front bs =
    end_uses fs (fields_size fs 0) bs _ (fields_use fs fs 0 [] (length bs) 0 bs fixed (omega arith))

pub counted_length : (c e : List ℕ) (max : ℕ) (s : Shape) (w : ℕ) (bytes : List ℕ) → EachUses s w
    → IsOk (value_from (Struct (first_counts c e max s)) bytes) → length bytes ≡ 4 + little_number 4 bytes * w
unfolding value_from value_in
counted_length c e max s w bytes each ok =
    let fs = first_counts c e max s in
    let k = 4 + little_number 4 bytes * w in
    let all = whole_read (k + 0) (length bytes) bytes (value_in (Struct fs) counts_nothing (length bytes) bytes)
    (end_uses fs k bytes _ (first_uses c e max s w bytes each)) ok in
    omega (arith, all)

-- A number inside of the first field counts

find_here : (i : ℕ) (v : Value) → find i (given i v) ≡ v
find_here i Absent = refl
find_here i _ = rw (eq-eqb i i refl) refl

number_is : (n : ℕ) → number (number_value n) ≡ n
number_is zero = refl
number_is (suc n) = refl

fourth_given : (a b c : Value) (n : ℕ) → number (find 3 (given 0 a ++ given 1 b ++ given 2 c ++ given 3 (number_value n))) ≡ n
fourth_given a b c n =
    let xs = given 0 a ++ given 1 b ++ given 2 c in
    let low : AllBelow 3 xs = below_given 2 c (given 0 a ++ given 1 b) (below_given 1 b (given 0 a) (below_given 0 a [] tt)) in
    ap number (find_behind 3 xs (given 3 (number_value n)) low ∙ find_here 3 (number_value n)) ∙ number_is n

-- the number of a node's hooks, as it was read
abbrev hooks_read : Value → ℕ
hooks_read v = number (find 3 (members v))

-- of a struct nodeinfo
abbrev IsNodeOf : List ℕ → Value × List ℕ → Type 0
IsNodeOf bytes x = Took 72 bytes x.1 × (hooks_read x.0 ≡ little_number 4 (drop 68 bytes))

abbrev node_fields : Fields
node_fields = fields_listed ((codes "name", Str 32) ∷ (codes "type", Str 32) ∷ (codes "id", Hex 32) ∷ (codes "hooks", UInt 32) ∷ [])

abbrev AreNodeFieldsOf : List ℕ → List (ℕ × Value) × List ℕ → Type 0
AreNodeFieldsOf bytes x = Took 72 bytes x.1 × (number (find 3 x.0) ≡ little_number 4 (drop 68 bytes))

node_fields_read : (bytes : List ℕ) → IfOk (read_fields node_fields node_fields 0 [] (length bytes) bytes) (AreNodeFieldsOf bytes)
unfolding read_fields
node_fields_read bytes =
    let front = length bytes in
    ok_on (λ x. Took 32 bytes x.1) (AreNodeFieldsOf bytes) (value_in (Str 32) (count_in node_fields []) front bytes) _
    (value_uses (Str 32) (count_in node_fields []) front 0 bytes refl (omega arith))
    (λ x p.
    let one = given 0 x.0 in
    let xl = took_left 32 bytes x.1 p in
    ok_on (λ y. Took 32 x.1 y.1) (AreNodeFieldsOf bytes) (value_in (Str 32) (count_in node_fields one) front x.1) _
    (value_uses (Str 32) (count_in node_fields one) front 32 x.1 refl (omega arith))
    (λ y q.
    let two = given 0 x.0 ++ given 1 y.0 in
    let yl = took_left 32 x.1 y.1 q in
    ok_on (λ z. Took 4 y.1 z.1) (AreNodeFieldsOf bytes) (value_in (Hex 32) (count_in node_fields two) front y.1) _
    (value_uses (Hex 32) (count_in node_fields two) front 64 y.1 refl (omega arith))
    (λ z r.
    let three = given 0 x.0 ++ given 1 y.0 ++ given 2 z.0 in
    let zl = took_left 4 y.1 z.1 r in
    let so_far : Took 68 bytes z.1 = took_on 64 4 bytes y.1 z.1 (took_on 32 32 bytes x.1 y.1 p q) r in
    ok_on (IsNumberOf z.1) (AreNodeFieldsOf bytes) (value_in (UInt 32) (count_in node_fields three) front z.1) _
    (number_reads_at (count_in node_fields three) front 68 z.1 (omega arith) refl)
    (λ v t. (
      took_on 68 4 bytes z.1 v.1 so_far t.0,
      rw (t.1) (fourth_given x.0 y.0 z.0 (little_number 4 z.1)) ∙ ap (little_number 4) so_far.is,
    )))))

node_reads : (count : CountField → ℕ) (front : ℕ) (bytes : List ℕ) → IfOk (value_in node_info count front bytes) (IsNodeOf bytes)
unfolding value_in
node_reads count front bytes =
    ok_on (AreNodeFieldsOf bytes) (IsNodeOf bytes) (read_fields node_fields node_fields 0 [] (length bytes) bytes) _
    (node_fields_read bytes)
    (λ x p.
    let had : length bytes - length x.1 ≡ 72 = omega (arith, took_left 72 bytes x.1 p.0) in
    let none : end_gap node_fields (length bytes - length x.1) ≡ 0 = ap (end_gap node_fields) had in
    rw (none, take_exactly_ok 0 x.1 (omega arith))
    (p.0, ap (λ (ms : List (ℕ × Value)). number (find 3 ms)) (members_group x.0) ∙ p.1))

abbrev hook_fields : Fields
hook_fields = fields_listed ((codes "nodeinfo", node_info) ∷ (codes "linkinfo", Counted (Inside (codes "nodeinfo") (codes "hooks")) 8192 link_info) ∷ [])

link_each : EachUses link_info 136
link_each =
    struct_each (fields_listed ((codes "ourhook", Str 32) ∷ (codes "peerhook", Str 32) ∷ (codes "nodeinfo", node_info) ∷ [])) refl

hooks_use : (bytes : List ℕ)
    → Uses (72 + little_number 4 (drop 68 bytes) * 136) bytes (read_fields hook_fields hook_fields 0 [] (length bytes) bytes)
unfolding value_in read_fields
hooks_use bytes =
    let by = Inside (codes "nodeinfo") (codes "hooks") in
    let n = little_number 4 (drop 68 bytes) in
    ok_on (IsNodeOf bytes) (λ x. Took (72 + n * 136) bytes x.1) (value_in node_info (count_in hook_fields []) (length bytes) bytes) _
    (node_reads (count_in hook_fields []) (length bytes) bytes)
    (λ x p.
    let so_far = given 0 x.0 in
    let counts : count_in hook_fields so_far by ≡ n = ap hooks_read (find_here 0 x.0) ∙ p.1 in
    let m = count_in hook_fields so_far by in
    let r = array_in (value_in link_info (count_in hook_fields so_far) (length bytes)) 0 m [] x.1 in
    let u : Uses (m * 136) x.1 r =
    row_uses (value_in link_info (count_in hook_fields so_far) (length bytes)) 136
    (link_each (count_in hook_fields so_far) (length bytes)) m 0 [] x.1 in
    let read : Read (List (ℕ × Value)) = as_group r >>= λ y. Ok (so_far ++ given 1 y.0, y.1) in
    let all : Uses (m * 136) x.1 read = uses_map (m * 136) x.1 (as_group r) (λ y. so_far ++ given 1 y) (uses_map (m * 136) x.1 r group_value u) in
    subst (λ (k : ℕ). Uses (72 + k * 136) bytes read) counts (uses_after 72 (m * 136) bytes x.1 read p.0 all))

-- The four answers

pub node_info_length : (bytes : List ℕ) → IsOk (value_from node_info bytes) → length bytes ≡ 72
node_info_length bytes ok = fixed_length node_info bytes refl ok

pub node_list_length : (bytes : List ℕ) → IsOk (value_from node_list bytes) → length bytes ≡ 4 + 72 * little_number 4 bytes
node_list_length bytes ok =
    let all = counted_length (codes "numnames") (codes "nodeinfo") 8192 node_info 72 bytes (struct_each _ refl) ok in omega (arith, all)

pub type_list_length : (bytes : List ℕ) → IsOk (value_from type_list bytes) → length bytes ≡ 4 + 36 * little_number 4 bytes
type_list_length bytes ok =
    let all = counted_length (codes "numtypes") (codes "typeinfo") 64 _ 36 bytes (struct_each _ refl) ok in omega (arith, all)

pub hook_list_length : (bytes : List ℕ) → IsOk (value_from hook_list bytes) → length bytes ≡ 72 + 136 * little_number 4 (drop 68 bytes)
unfolding value_from value_in
hook_list_length bytes ok =
    let k = 72 + little_number 4 (drop 68 bytes) * 136 in
    let all = whole_read (k + 0) (length bytes) bytes (value_in hook_list counts_nothing (length bytes) bytes)
    (end_uses hook_fields k bytes _ (hooks_use bytes)) ok in
    omega (arith, all)
