-- Readers leave an end of what they read.
use Rattle.std.proofs.Common.{◌≡◌, ◌≤◌, ◌<◌, ◌+◌, ◌-◌, ℕ, zero, suc, false, true, nat_lt, List, [], ◌++◌, length, take, drop, length-drop, Ok, Err}
use Rattle.std.proofs.Common.{IfOk, refl, ap, ◌∙◌, inl, inr, arith}
use Rattle.std.proofs.lemmas.Bool.{cases_lt}
use Rattle.std.proofs.lemmas.Bool.Decides.{nat_tests}
use Rattle.std.proofs.lemmas.List.{drop-drop}
use Rattle.std.proofs.lemmas.Result.{IfOk-at_ok}
use Rattle.ng_shape.specs.Shape.{Shape, Nothing, UInt, Int, Hex, Str, Ether, Struct, Array, Counted, Fields, no_fields, field, CountField}
use Rattle.ng_shape.specs.Values.{Value, count_in}
use Rattle.ng_shape.specs.Layout.{width, gap}
use Rattle.ng_shape.specs.Decoding.{Read, ◌>>=◌, take_exactly, given, number_in, text_in, address_in, array_in, as_group, read_end, value_in, read_fields}

pub take_exactly_ok : (n : ℕ) (bytes : List ℕ) → n ≤ length bytes → take_exactly n bytes ≡ Ok (take n bytes, drop n bytes)
unfolding take_exactly
take_exactly_ok n bytes le = let test : nat_lt (length bytes) n ≡ false = grind (arith, nat_tests) in rw test refl

pub take_exactly_short : (n : ℕ) (bytes : List ℕ) → length bytes < n → take_exactly n bytes ≡ Err (n - length bytes)
unfolding take_exactly
take_exactly_short n bytes lt = let test : nat_lt (length bytes) n ≡ true = grind (arith, nat_tests) in rw test refl

-- the rest is an end of the bytes
abbrev pub IsEnd : List ℕ → List ℕ → Type 0
IsEnd rest bytes = (k : ℕ) × (k ≤ length bytes) × (rest ≡ drop k bytes)

abbrev pub Goes : {A : Type 0} → Read A → List ℕ → Type 0
Goes r bytes = IfOk r (λ x. IsEnd x.1 bytes)

end_here : (bytes : List ℕ) → IsEnd bytes bytes
end_here bytes = (0, omega arith, refl)

end_further : (rest mid bytes : List ℕ) → IsEnd rest mid → IsEnd mid bytes → IsEnd rest bytes
end_further rest mid bytes (k, le, e) (j, le', e') = (j + k, omega (arith, length-drop j bytes, ap length e'), e ∙ ap (drop k) e' ∙ drop-drop k j bytes)

goes_further : {A : Type 0} (r : Read A) (mid bytes : List ℕ) → Goes r mid → IsEnd mid bytes → Goes r bytes
goes_further (Ok x) mid bytes g e = end_further x.1 mid bytes g e
goes_further (Err m) mid bytes g e = tt

goes_on : {A B : Type 0} (r : Read A) (f : A × List ℕ → Read B) (bytes : List ℕ) → Goes r bytes → ((x : A × List ℕ) → Goes (f x) x.1) → Goes (r >>= f) bytes
goes_on (Ok x) f bytes g h = goes_further (f x) x.1 bytes (h x) g
goes_on (Err m) f bytes g h = tt

take_exactly_goes : (n : ℕ) (bytes : List ℕ) → Goes (take_exactly n bytes) bytes
take_exactly_goes n bytes =
    elim (cases_lt (length bytes) n) [ inl lt ↦ rw (take_exactly_short n bytes lt) tt | inr le ↦ rw (take_exactly_ok n bytes le) (n, le, refl) ]

number_goes : (w front : ℕ) (bytes : List ℕ) → Goes (number_in w front bytes) bytes
unfolding number_in
number_goes w front bytes =
    goes_on (take_exactly (gap w (front - length bytes)) bytes) _ bytes (take_exactly_goes _ bytes) (λ p. goes_on (take_exactly w p.1) _ p.1 (take_exactly_goes w p.1) (λ x. end_here x.1))

text_goes : (n : ℕ) (bytes : List ℕ) → Goes (text_in n bytes) bytes
unfolding text_in
text_goes n bytes = goes_on (take_exactly n bytes) _ bytes (take_exactly_goes n bytes) (λ x. end_here x.1)

address_goes : (bytes : List ℕ) → Goes (address_in bytes) bytes
unfolding address_in
address_goes bytes = goes_on (take_exactly 6 bytes) _ bytes (take_exactly_goes 6 bytes) (λ x. end_here x.1)

array_goes : (element : List ℕ → Read Value) → ((b : List ℕ) → Goes (element b) b) → (i k : ℕ) (so_far : List (ℕ × Value)) (bytes : List ℕ) → Goes (array_in element i k so_far bytes) bytes
unfolding array_in
array_goes element h i zero so_far bytes = end_here bytes
array_goes element h i (suc k) so_far bytes = goes_on (element bytes) _ bytes (h bytes) (λ x. array_goes element h (i + 1) k (so_far ++ given i x.0) x.1)

group_goes : (r : Read (List (ℕ × Value))) (bytes : List ℕ) → Goes r bytes → Goes (as_group r) bytes
group_goes r bytes g = goes_on r _ bytes g (λ x. end_here x.1)

read_end_goes : (ps : Fields) (bytes : List ℕ) (r : Read (List (ℕ × Value))) → Goes r bytes → Goes (read_end ps bytes r) bytes
read_end_goes ps bytes r g = goes_on r _ bytes g (λ x. goes_on (take_exactly _ x.1) _ x.1 (take_exactly_goes _ x.1) (λ y. end_here y.1))

mutual
  unfolding value_in read_fields

  pub value_goes : (f : Shape) (count : CountField → ℕ) (front : ℕ) (bytes : List ℕ) → Goes (value_in f count front bytes) bytes
  value_goes Nothing count front bytes = end_here bytes
  value_goes (UInt bits) count front bytes = number_goes (width bits) front bytes
  value_goes (Int bits) count front bytes = number_goes (width bits) front bytes
  value_goes (Hex bits) count front bytes = number_goes (width bits) front bytes
  value_goes (Str n) count front bytes = text_goes n bytes
  value_goes Ether count front bytes = address_goes bytes
  value_goes (Struct ps) count front bytes = read_end_goes ps bytes _ (fields_go ps ps 0 [] (length bytes) bytes)
  value_goes (Array n f) count front bytes = group_goes _ bytes (array_goes (value_in f count front) (value_goes f count front) 0 n [] bytes)
  value_goes (Counted by max f) count front bytes = group_goes _ bytes (array_goes (value_in f count front) (value_goes f count front) 0 (count by) [] bytes)

  fields_go : (ps whole : Fields) (i : ℕ) (so_far : List (ℕ × Value)) (front : ℕ) (bytes : List ℕ) → Goes (read_fields whole ps i so_far front bytes) bytes
  fields_go no_fields whole i so_far front bytes = end_here bytes
  fields_go (field name f ps) whole i so_far front bytes =
      goes_on (value_in f (count_in whole so_far) front bytes) _ bytes (value_goes f (count_in whole so_far) front bytes) (λ x. fields_go ps whole (i + 1) (so_far ++ given i x.0) front x.1)

-- what takes no bytes leaves them
pub takes_none : (f : Shape) (count : CountField → ℕ) (front : ℕ) (bytes after : List ℕ) (v : Value) → value_in f count front bytes ≡ Ok (v, after) → length after ≡ length bytes → after ≡ bytes
takes_none f count front bytes after v e same =
    let (k, le, is) = IfOk-at_ok (λ (x : Value × List ℕ). IsEnd x.1 bytes) e (value_goes f count front bytes) in
    let none : k ≡ 0 = omega (arith, length-drop k bytes, ap length is) in
    is ∙ ap (λ (j : ℕ). drop j bytes) none
