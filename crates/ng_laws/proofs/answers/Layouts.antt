-- Bytes that have the layout of a structure with a counted array: the array is counted by the first field, alone or
-- before another number; by a number behind three names; or by a number inside of the first field.
use Rattle.std.proofs.Common.{◌≡◌, ◌≤◌, ◌<◌, ◌+◌, ◌-◌, ◌*◌, ◌^◌, ℕ, zero, suc, true, List, [], ◌∷◌, ◌++◌, length, take}
use Rattle.std.proofs.Common.{length-append, codes, Ok, refl, ap, ◌∙◌, arith}
use Rattle.std.specs.List.{flat_map}
use Rattle.std.proofs.lemmas.Bool.{eq-eqb}
use Rattle.std.proofs.lemmas.List.{drop_at, length-replicate}
use Rattle.byteorder.specs.Endian.{little_bytes}
use Rattle.ng_base.proofs.NameLemmas.{same_name}
use Rattle.ng_message.specs.Fields.{name_field}
use Rattle.ng_shape.specs.Shape.{Shape, UInt, Str, Struct, Counted, Fields, no_fields, field, CountField, Own, Inside}
use Rattle.ng_shape.specs.Values.{Value, Absent, number, find, count_in}
use Rattle.ng_shape.specs.Layout.{end_gap}
use Rattle.ng_shape.specs.Decoding.{given, number_value, text_value, group_value, before_nul, text_in, value_in, read_fields}
use Rattle.ng_shape.proofs.Lookups.{AllBelow, find_behind, below_given}
use Rattle.ng_shape.proofs.Agreeing.{members_group}
use Rattle.ng_shape.proofs.Reading.{take_exactly_ok}
use Rattle.ng_machine.specs.Words.{Every}
use Rattle.ng_table.specs.Message.{fields_listed, u32, x32, s32, counted_by}
use Rattle.ng_table.specs.Generic.{node_info, link_info, hook_list}
use Rattle.ng_table.specs.Bpf.{bpf_instruction, bpf_program}
use Rattle.ng_laws.specs.answers.Answers.{HasLayout}
use Rattle.ng_laws.proofs.answers.Sizes.{size_at, are_fixed, Takes, value_takes, struct_takes, struct_read, field_on, number_here}
use Rattle.ng_laws.proofs.answers.Sizes.{counted_layout}

-- Lengths

-- pieces of w bytes each
pub flat_length : {A : Type 0} (f : A → List ℕ) (w : ℕ) (xs : List A) → Every (λ (x : A). length (f x) ≡ w) xs
    → length (flat_map f xs) ≡ length xs * w
flat_length f w [] all = omega arith
flat_length f w (x ∷ xs) all = let rest = flat_length f w xs all.1 in let one = all.0 in
    omega (arith, length-append (f x) (flat_map f xs))

pub name_length : (name : List ℕ) → length name ≤ 32 → length (name_field name) ≡ 32
name_length name le = omega (arith, length-append name, length-replicate {A = ℕ})

-- Numbers that count

-- a number that is given is found
number_given : (n : ℕ) → number (find 0 (given 0 (number_value n))) ≡ n
number_given zero = refl
number_given (suc n) = refl

two_given : (n m : ℕ) → number (find 0 (given 0 (number_value n) ++ given 1 (number_value m))) ≡ n
two_given zero zero = refl
two_given zero (suc m) = refl
two_given (suc n) m = refl

find_here : (i : ℕ) (v : Value) → find i (given i v) ≡ v
find_here i Absent = refl
find_here i _ = rw (eq-eqb i i refl) refl

number_is : (n : ℕ) → number (number_value n) ≡ n
number_is zero = refl
number_is (suc n) = refl

-- the fourth of four
abbrev four : Value → Value → Value → Value → List (ℕ × Value)
four a b c d = given 0 a ++ given 1 b ++ given 2 c ++ given 3 d

fourth_given : (a b c : Value) (n : ℕ) → number (find 3 (four a b c (number_value n))) ≡ n
fourth_given a b c n =
    let xs = given 0 a ++ given 1 b ++ given 2 c in
    let low : AllBelow 3 xs = below_given 2 c (given 0 a ++ given 1 b) (below_given 1 b (given 0 a) (below_given 0 a [] tt)) in
    ap number (find_behind 3 xs (given 3 (number_value n)) low ∙ find_here 3 (number_value n)) ∙ number_is n

-- The first field counts

-- elements of w bytes each
abbrev pub Each : Shape → ℕ → Type 0
Each s w = (count : CountField → ℕ) (front : ℕ) (bs : List ℕ) → w ≤ length bs → Takes w bs (value_in s count front bs)

pub struct_each : (fs : Fields) → are_fixed fs ≡ true → Each (Struct fs) (size_at (Struct fs) 0)
struct_each fs fixed count front bs le = struct_takes fs count front bs fixed le

abbrev first_counts : List ℕ → List ℕ → ℕ → Shape → Fields
first_counts c e max s = field c (UInt 32) (field e (Counted (Own c) max s) no_fields)

pub first_layout : (c e : List ℕ) (max : ℕ) (s : Shape) (w n : ℕ) (rest : List ℕ) → Each s w → n < 2 ^ 32
    → length rest ≡ n * w → HasLayout (Struct (first_counts c e max s)) (little_bytes 4 n ++ rest)
first_layout c e max s w n rest each lt size =
    let whole = first_counts c e max s in
    let front = length (little_bytes 4 n ++ rest) in
    counted_layout whole e (Own c) max s 1 (given 0 (number_value n)) (little_bytes 4 n ++ rest) rest n w refl each
    (field_on whole c (UInt 32) (field e (Counted (Own c) max s) no_fields) 0 [] front (little_bytes 4 n ++ rest) rest
    (number_value n)
    (number_here (count_in whole []) front 0 n rest (omega arith) refl lt))
    (rw (same_name c) (number_given n)) size

abbrev first_of_two_counts : List ℕ → List ℕ → List ℕ → ℕ → Shape → Fields
first_of_two_counts c d e max s = field c (UInt 32) (field d (UInt 32) (field e (Counted (Own c) max s) no_fields))

pub first_of_two_layout : (c d e : List ℕ) (max : ℕ) (s : Shape) (w n m : ℕ) (rest : List ℕ) → Each s w → n < 2 ^ 32
    → m < 2 ^ 32 → length rest ≡ n * w
    → HasLayout (Struct (first_of_two_counts c d e max s)) (little_bytes 4 n ++ little_bytes 4 m ++ rest)
first_of_two_layout c d e max s w n m rest each lt less size =
    let whole = first_of_two_counts c d e max s in
    let behind = little_bytes 4 m ++ rest in
    let bytes = little_bytes 4 n ++ behind in
    let front = length bytes in
    let last = field e (Counted (Own c) max s) no_fields in
    counted_layout whole e (Own c) max s 2 (given 0 (number_value n) ++ given 1 (number_value m)) bytes rest n w refl each
    (field_on whole c (UInt 32) (field d (UInt 32) last) 0 [] front bytes behind (number_value n)
    (number_here (count_in whole []) front 0 n behind (omega arith) refl lt)
    ∙ field_on whole d (UInt 32) last 1 (given 0 (number_value n)) front behind rest (number_value m)
    (number_here (count_in whole (given 0 (number_value n))) front 4 m rest (omega arith) refl less))
    (rw (same_name c) (two_given n m)) size

-- Names before the number that counts

text_here : (count : CountField → ℕ) (front n : ℕ) (text rest : List ℕ) → length text ≡ n
    → value_in (Str n) count front (text ++ rest) ≡ Ok (text_value (before_nul (take n (text ++ rest))), rest)
unfolding value_in text_in
text_here count front n text rest e =
    let more = length-append text rest in
    rw (take_exactly_ok n (text ++ rest) (omega arith), drop_at text rest n e) refl

-- struct ng_bpf_hookprog
pub program_layout : (a b c : List ℕ) (n : ℕ) (rest : List ℕ) → length a ≡ 32 → length b ≡ 32 → length c ≡ 32
    → n < 2 ^ 32 → length rest ≡ n * 8
    → HasLayout bpf_program (a ++ (b ++ (c ++ (little_bytes 4 n ++ rest))))
program_layout a b c n rest la lb lc lt size =
    let last = fields_listed ((codes "bpf_prog", counted_by (codes "bpf_prog_len") 512 bpf_instruction) ∷ []) in
    let after_c = field (codes "bpf_prog_len") u32 last in
    let after_b = field (codes "ifNotMatch") s32 after_c in
    let after_a = field (codes "ifMatch") s32 after_b in
    let whole = field (codes "thisHook") s32 after_a in
    let d = little_bytes 4 n ++ rest in
    let bytes = a ++ (b ++ (c ++ d)) in
    let front = length bytes in
    let x : Value = text_value (before_nul (take 32 bytes)) in
    let y : Value = text_value (before_nul (take 32 (b ++ (c ++ d)))) in
    let z : Value = text_value (before_nul (take 32 (c ++ d))) in
    let one = given 0 x in
    let two = given 0 x ++ given 1 y in
    let three = given 0 x ++ given 1 y ++ given 2 z in
    counted_layout whole (codes "bpf_prog") (Own (codes "bpf_prog_len")) 512 bpf_instruction 4
    (four x y z (number_value n)) bytes rest n 8 refl
    (λ count at bs le. struct_takes _ count at bs refl le)
    (field_on whole (codes "thisHook") s32 after_a 0 [] front bytes (b ++ (c ++ d)) x
    (text_here (count_in whole []) front 32 a (b ++ (c ++ d)) la)
    ∙ field_on whole (codes "ifMatch") s32 after_b 1 one front (b ++ (c ++ d)) (c ++ d) y
    (text_here (count_in whole one) front 32 b (c ++ d) lb)
    ∙ field_on whole (codes "ifNotMatch") s32 after_c 2 two front (c ++ d) d z (text_here (count_in whole two) front 32 c d lc)
    ∙ field_on whole (codes "bpf_prog_len") u32 last 3 three front d rest (number_value n)
    (number_here (count_in whole three) front 96 n rest
    (omega (arith, length-append a (b ++ (c ++ d)), length-append b (c ++ d), length-append c d)) refl lt))
    (fourth_given x y z n) size

-- struct nodeinfo, with what stands behind it

abbrev node_bytes : List ℕ → List ℕ → ℕ → ℕ → List ℕ → List ℕ
node_bytes a b id n rest = a ++ (b ++ (little_bytes 4 id ++ (little_bytes 4 n ++ rest)))

-- what is read of it ends with the number of its hooks
record ReadsNode (count : CountField → ℕ) (front n : ℕ) (bytes rest : List ℕ) : Type 0 where
  x : Value
  y : Value
  z : Value
  is : value_in node_info count front bytes ≡ Ok (group_value (four x y z (number_value n)), rest)

node_read : (count : CountField → ℕ) (front : ℕ) (a b : List ℕ) (id n : ℕ) (rest : List ℕ) → length a ≡ 32
    → length b ≡ 32 → n < 2 ^ 32 → ReadsNode count front n (node_bytes a b id n rest) rest
unfolding read_fields
node_read count front a b id n rest la lb lt =
    let last = fields_listed ((codes "hooks", u32) ∷ []) in
    let after_b = field (codes "id") x32 last in
    let after_a = field (codes "type") s32 after_b in
    let whole = field (codes "name") s32 after_a in
    let d = little_bytes 4 n ++ rest in
    let c = little_bytes 4 id ++ d in
    let bytes = a ++ (b ++ c) in
    let own = length bytes in
    let x : Value = text_value (before_nul (take 32 bytes)) in
    let y : Value = text_value (before_nul (take 32 (b ++ c))) in
    let one = given 0 x in
    let two = given 0 x ++ given 1 y in
    let size : own ≡ 72 + length rest = omega (arith, length-append a (b ++ c), length-append b c) in
    let t = value_takes x32 (count_in whole two) own 64 c refl (omega arith) (omega arith) in
    let three = given 0 x ++ given 1 y ++ given 2 t.value in
    let first : read_fields whole whole 0 [] own bytes ≡ read_fields whole after_a 1 one own (b ++ c) =
    field_on whole (codes "name") s32 after_a 0 [] own bytes (b ++ c) x (text_here (count_in whole []) own 32 a (b ++ c) la) in
    let second : read_fields whole after_a 1 one own (b ++ c) ≡ read_fields whole after_b 2 two own c =
    field_on whole (codes "type") s32 after_b 1 one own (b ++ c) c y (text_here (count_in whole one) own 32 b c lb) in
    let third : read_fields whole after_b 2 two own c ≡ read_fields whole last 3 three own d =
    field_on whole (codes "id") x32 last 2 two own c d t.value t.is in
    let fourth : read_fields whole last 3 three own d ≡ Ok (four x y t.value (number_value n), rest) =
    field_on whole (codes "hooks") u32 no_fields 3 three own d rest (number_value n)
    (number_here (count_in whole three) own 68 n rest (omega arith) refl lt) in
    let left : own - length rest ≡ 72 = omega arith in
    record {
      x = x;
      y = y;
      z = t.value;
      is = struct_read whole count front bytes
          (four x y t.value (number_value n)) rest (ap (end_gap whole) left) (rw (first, second, third) fourth);
    }

-- struct hooklist
pub hooks_layout : (a b : List ℕ) (id n : ℕ) (rest : List ℕ) → length a ≡ 32 → length b ≡ 32 → n < 2 ^ 32
    → length rest ≡ n * 136 → HasLayout hook_list (node_bytes a b id n rest)
hooks_layout a b id n rest la lb lt size =
    let by = Inside (codes "nodeinfo") (codes "hooks") in
    let last = fields_listed ((codes "linkinfo", Counted by 8192 link_info) ∷ []) in
    let whole = field (codes "nodeinfo") node_info last in
    let bytes = node_bytes a b id n rest in
    let front = length bytes in
    let r = node_read (count_in whole []) front a b id n rest la lb lt in
    let xs = four r.x r.y r.z (number_value n) in
    counted_layout whole (codes "linkinfo") by 8192 link_info 1 (given 0 (group_value xs)) bytes rest n 136 refl
    (λ count at bs le. struct_takes _ count at bs refl le)
    (field_on whole (codes "nodeinfo") node_info last 0 [] front bytes rest (group_value xs) r.is)
    (let found : find 0 (given 0 (group_value xs)) ≡ group_value xs = find_here 0 (group_value xs) in
    rw (found, members_group xs) (fourth_given r.x r.y r.z n))
    size
