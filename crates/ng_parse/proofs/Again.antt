-- Words, numbers, strings and addresses that were printed are read again.
use Rattle.std.proofs.Common.{◌≡◌, ◌<◌, ◌≤◌, ◌+◌, ◌-◌, ◌*◌, ◌/◌, ◌%◌, ◌^◌, ℕ, zero, suc, Bool, true, false, eqb, ltb, leb, ◌&&◌, not, ◌⊎◌, List, []}
use Rattle.std.proofs.Common.{◌∷◌, ◌++◌, length, get_or, Some, Ok, refl, sym, ap, ◌∙◌, subst, append_assoc, eq-eqb, inl, inr, arith, length-append}
use Rattle.std.specs.Char.{digit_value}
use Rattle.std.specs.Fmt.{decimal, digits, digits_onto, digit_glyph}
use Rattle.std.specs.List.{flat_map, list_all}
use Rattle.std.specs.Str.Parse.{AllDigits, digits_value}
use Rattle.std.proofs.Math.Nat.{mod-eq_of_lt}
use Rattle.std.proofs.lemmas.List.Concat.{flat_map-cons}
use Rattle.std.proofs.lemmas.Bool.{and_parts, cases_lt, lt-ltb, le-ltb, le-leb}
use Rattle.std.proofs.lemmas.Bool.Decides.{nat_tests, eqb_tells}
use Rattle.std.proofs.lemmas.List.{drop_at, append-nil}
use Rattle.std.proofs.lemmas.Fmt.{decimal_is_IsNumeral, first_decimal, decimal_digit, digits_is_IsNumeral}
use Rattle.ng_shape.specs.Sound.{is_word_byte}
use Rattle.ng_shape.specs.Values.{Number, Text}
use Rattle.ng_shape.specs.Canonical.{AreBytes, AreChars}
use Rattle.ng_parse.specs.Tokens.{is_blank, skip_blanks, word, after_word, starts, all_digits, number_in, signed_in, group_in, next_group_in}
use Rattle.ng_parse.specs.Tokens.{groups_in, address_in}
use Rattle.ng_parse.specs.Reading.{limit, unsigned_at, signed_below, signed_at, char_at, char_below, string_char, string_at, repeat, address_at}
use Rattle.ng_parse.specs.Reading.{is_empty, has_index}
use Rattle.ng_parse.specs.Printing.{print_signed, print_hex, two_digits, print_char, print_string, print_groups, print_address}

-- ---- words

abbrev pub AreWord : List ℕ → Type 0
AreWord [] = Unit {0}
AreWord (b ∷ bs) = (is_word_byte b ≡ true) × AreWord bs

pub word_of_all : (bs : List ℕ) → list_all is_word_byte bs ≡ true → AreWord bs
word_of_all [] all = tt
word_of_all (b ∷ bs) all = let both = and_parts (is_word_byte b) (list_all is_word_byte bs) all in (both.0, word_of_all bs both.1)

words_join : (v w : List ℕ) → AreWord v → AreWord w → AreWord (v ++ w)
words_join [] w a b = b
words_join (c ∷ v) w a b = (a.0, words_join v w a.1 b)

-- the text does not go on as a word
abbrev pub Ends : List ℕ → Type 0
Ends [] = Unit {0}
Ends (b ∷ bs) = is_word_byte b ≡ false

pub word_is : (w rest : List ℕ) → AreWord w → Ends rest → word (w ++ rest) ≡ w
word_is [] [] all e = refl
word_is [] (b ∷ rest) all e = rw e refl
word_is (b ∷ w) rest all e = rw (all.0, word_is w rest all.1 e) refl

pub behind_word : (w rest : List ℕ) → AreWord w → Ends rest → after_word (w ++ rest) ≡ rest
behind_word w rest all e = rw (word_is w rest all e) (drop_at w rest (length w) refl)

-- ---- the byte at the front

-- no blank, and none of = ] }
abbrev pub Front : List ℕ → Type 0
Front [] = ⊥
Front (b ∷ bs) = (is_blank b ≡ false) × (eqb b 61 ≡ false) × (eqb b 93 ≡ false) × (eqb b 125 ≡ false)

pub skip_front : (text : List ℕ) → Front text → skip_blanks text ≡ text
skip_front [] front = absurd front
skip_front (b ∷ bs) front = rw front.0 refl

no_blank : (b : ℕ) → is_word_byte b ≡ true → is_blank b ≡ false
no_blank b e = grind (arith, nat_tests)

no_equals : (b : ℕ) → is_word_byte b ≡ true → eqb b 61 ≡ false
no_equals b e = grind (arith, nat_tests)

no_bracket : (b : ℕ) → is_word_byte b ≡ true → eqb b 93 ≡ false
no_bracket b e = grind (arith, nat_tests)

no_brace : (b : ℕ) → is_word_byte b ≡ true → eqb b 125 ≡ false
no_brace b e = grind (arith, nat_tests)

pub front_word : (w rest : List ℕ) → 0 < length w → AreWord w → Front (w ++ rest)
front_word [] rest some all = absurd (omega arith)
front_word (b ∷ w) rest some all = (no_blank b all.0, no_equals b all.0, no_bracket b all.0, no_brace b all.0)

and_no : (a : Bool) → (a && false) ≡ false
and_no true = refl
and_no false = refl

-- a word is no index unless = follows it
pub no_index : (w rest : List ℕ) → AreWord w → Ends rest → starts 61 (skip_blanks rest) ≡ false → has_index (w ++ rest) ≡ false
no_index w rest all e other = rw (word_is w rest all e, drop_at w rest (length w) refl, other) (and_no (not (is_empty w)))

some_word : (w : List ℕ) → 0 < length w → not (is_empty w) ≡ true
some_word [] some = absurd (omega arith)
some_word (c ∷ w) some = refl

pub is_index : (w rest : List ℕ) → 0 < length w → AreWord w → has_index (w ++ 61 ∷ rest) ≡ true
is_index w rest some all = rw (word_is w (61 ∷ rest) all refl, drop_at w (61 ∷ rest) (length w) refl, some_word w some) refl

-- ---- integers

all_digits_is : (radix : ℕ) (ds : List ℕ) → AllDigits radix ds → all_digits radix ds ≡ true
all_digits_is radix [] all = refl
all_digits_is radix (c ∷ cs) all = rw (lt-ltb (digit_value c) radix all.0, all_digits_is radix cs all.1) refl

digit_in_word : (c : ℕ) → digit_value c < 36 → is_word_byte c ≡ true
digit_in_word c lt = grind (arith, nat_tests)

digits_are_word : (radix : ℕ) (ds : List ℕ) → radix ≤ 36 → AllDigits radix ds → AreWord ds
digits_are_word radix [] le all = tt
digits_are_word radix (c ∷ cs) le all = (digit_in_word c (omega (arith, all.0)), digits_are_word radix cs le all.1)

digits_say : (ds : List ℕ) → AllDigits 10 ds → 0 < length ds → 48 < get_or ds 0 0 → number_in ds ≡ Some (digits_value 10 ds)
digits_say [] all some first = absurd (omega arith)
digits_say (c ∷ cs) all some first =
    let ne : eqb c 48 ≡ false = grind (arith, nat_tests) in
    rw (ne, all_digits_is 10 (c ∷ cs) all, lt-ltb 0 (length (c ∷ cs)) some) refl

pub decimal_says : (n : ℕ) → n < 2 ^ 64 → number_in (decimal n) ≡ Some n
decimal_says zero lt = rw (decimal_digit 0 (omega arith)) refl
decimal_says (suc n) lt =
    let d = decimal_is_IsNumeral (suc n) lt in
    digits_say (decimal (suc n)) d.0.1 d.0.0 (first_decimal (suc n) (omega arith) lt) ∙ ap (λ (k : ℕ). Some k) d.1

pub decimal_word : (n : ℕ) → n < 2 ^ 64 → (0 < length (decimal n)) × AreWord (decimal n)
decimal_word n lt = let d = decimal_is_IsNumeral n lt in (d.0.0, digits_are_word 10 (decimal n) (omega arith) d.0.1)

onto_len : (k j n : ℕ) (acc : List ℕ) → n < 16 ^ suc j → length (digits_onto k 16 false n acc) ≤ suc j + length acc
onto_len zero j n acc lt = omega arith
onto_len (suc k) zero n acc lt = let e : eqb (n / 16) 0 ≡ true = eq-eqb (n / 16) 0 (omega arith) in rw e (omega arith)
onto_len (suc k) (suc j) n acc lt =
    elim (eqb_tells (n / 16) 0) [
      | inl small ↦ rw small.0 (omega arith)
      | inr big ↦ rw big.0 (omega (arith, onto_len k j (n / 16) (digit_glyph false (n % 16) ∷ acc) (omega (arith, lt))))
    ]

hex_len : (n : ℕ) → n < 2 ^ 64 → length (digits 16 false n) ≤ 16
unfolding digits
hex_len n lt = omega (arith, onto_len 64 15 n [] (omega arith))

pub hex_says : (n : ℕ) → n < 2 ^ 64 → number_in (print_hex n) ≡ Some n
hex_says n lt =
    let d = digits_is_IsNumeral 16 false (omega arith) (omega arith) n (omega arith) in
    rw (le-leb (length (digits 16 false n)) 16 (hex_len n lt), lt-ltb 0 (length (digits 16 false n)) d.0.0, all_digits_is 16 (digits 16 false n) d.0.1) (ap (λ (k : ℕ). Some k) d.1)

pub hex_word : (n : ℕ) → n < 2 ^ 64 → AreWord (print_hex n)
hex_word n lt =
    let d = digits_is_IsNumeral 16 false (omega arith) (omega arith) n (omega arith) in
    (refl, (refl, digits_are_word 16 (digits 16 false n) (omega arith) d.0.1))

-- a word that says a number is read as that number
pub unsigned_again : (bits n : ℕ) (w rest : List ℕ) → AreWord w → Ends rest → number_in w ≡ Some n → n < limit bits → unsigned_at bits (w ++ rest) ≡ Ok (Number (length (w ++ rest)) n, rest)
unsigned_again bits n w rest all e says lt =
    let front : word (w ++ rest) ≡ w = word_is w rest all e in
    let behind : after_word (w ++ rest) ≡ rest = behind_word w rest all e in
    rw (front, says, lt-ltb n (limit bits) lt, behind) refl

signed_digits : (ds : List ℕ) (n : ℕ) → AllDigits 10 ds → 0 < length ds → number_in ds ≡ Some n → signed_in ds ≡ Some (false, n)
signed_digits [] n all some says = absurd (omega arith)
signed_digits (c ∷ cs) n all some says =
    let ne : eqb c 45 ≡ false = grind (arith, nat_tests, all.0) in
    rw (ne, says) refl

below_64 : (bits : ℕ) → limit bits ≤ 2 ^ 64
below_64 bits =
    elim (eqb_tells bits 16) [
      | inl a ↦ rw a.0 (omega arith)
      | inr a ↦ elim (eqb_tells bits 32) [
        | inl b ↦ rw (a.0, b.0) (omega arith)
        | inr b ↦ elim (eqb_tells bits 64) [
          | inl d ↦ rw (a.0, b.0, d.0) (omega arith)
          | inr d ↦ rw (a.0, b.0, d.0) (omega arith)
        ]
      ]
    ]

pub low_64 : (bits n : ℕ) → n < limit bits → n < 2 ^ 64
low_64 bits n lt = omega (arith, below_64 bits)

positive_again : (bits n : ℕ) (rest : List ℕ) → Ends rest → n < limit bits → 2 * n < limit bits → signed_at bits (decimal n ++ rest) ≡ Ok (Number (length (decimal n ++ rest)) n, rest)
positive_again bits n rest e lt low =
    let small = low_64 bits n lt in
    let d = decimal_is_IsNumeral n small in
    let all = digits_are_word 10 (decimal n) (omega arith) d.0.1 in
    let says : signed_in (decimal n) ≡ Some (false, n) = signed_digits (decimal n) n d.0.1 d.0.0 (decimal_says n small) in
    let front : word (decimal n ++ rest) ≡ decimal n = word_is (decimal n) rest all e in
    let behind : after_word (decimal n ++ rest) ≡ rest = behind_word (decimal n) rest all e in
    rw (front, says, lt-ltb (2 * n) (limit bits) low, behind) refl

negative_again : (bits n m : ℕ) (rest : List ℕ) → Ends rest → n < limit bits → limit bits ≤ 2 * n → m ≡ limit bits - n → signed_at bits (45 ∷ decimal m ++ rest) ≡ Ok (Number (length (45 ∷ decimal m ++ rest)) n, rest)
negative_again bits n m rest e lt high is =
    let small : m < 2 ^ 64 = omega (arith, below_64 bits) in
    let d = decimal_is_IsNumeral m small in
    let all : AreWord (45 ∷ decimal m) = (refl, digits_are_word 10 (decimal m) (omega arith) d.0.1) in
    let says : signed_in (45 ∷ decimal m) ≡ Some (true, m) = rw (decimal_says m small) refl in
    let front : word (45 ∷ decimal m ++ rest) ≡ 45 ∷ decimal m = word_is (45 ∷ decimal m) rest all e in
    let behind : after_word (45 ∷ decimal m ++ rest) ≡ rest = behind_word (45 ∷ decimal m) rest all e in
    let back : limit bits - m ≡ n = omega arith in
    let value : n % limit bits ≡ n = mod-eq_of_lt lt in
    let fits : leb (2 * m) (limit bits) ≡ true = le-leb (2 * m) (limit bits) (omega arith) in
    ap (signed_below (limit bits) (45 ∷ decimal m ++ rest)) (ap signed_in front ∙ says) ∙ rw (fits, back, value, behind) refl

pub signed_again : (bits n : ℕ) (rest : List ℕ) → Ends rest → n < limit bits → signed_at bits (print_signed bits n ++ rest) ≡ Ok (Number (length (print_signed bits n ++ rest)) n, rest)
signed_again bits n rest e lt =
    elim (cases_lt (2 * n) (limit bits)) [
      | inl low ↦ rw (lt-ltb (2 * n) (limit bits) low) (positive_again bits n rest e lt low)
      | inr high ↦ rw (le-ltb (2 * n) (limit bits) high) (negative_again bits n (limit bits - n) rest e lt high refl)
    ]

pub signed_word : (bits n : ℕ) → n < limit bits → (0 < length (print_signed bits n)) × AreWord (print_signed bits n)
signed_word bits n lt =
    elim (cases_lt (2 * n) (limit bits)) [
      | inl low ↦ rw (lt-ltb (2 * n) (limit bits) low) (decimal_word n (low_64 bits n lt))
      | inr high ↦ rw (le-ltb (2 * n) (limit bits) high) (omega arith, (refl, (decimal_word (limit bits - n) (omega (arith, below_64 bits))).1))
    ]

-- ---- strings

glyph_value : (d : ℕ) → d < 16 → digit_value (digit_glyph false d) ≡ d
glyph_value d lt = grind (arith, nat_tests)

hex_char : (c : ℕ) (t : List ℕ) → c < 256 → char_at (92 ∷ 120 ∷ two_digits c ++ t) ≡ Ok (Some c, t)
hex_char c t lt =
    let high = glyph_value (c / 16) (omega arith) in
    let low = glyph_value (c % 16) (omega arith) in
    let a = lt-ltb (c / 16) 16 (omega arith) in
    let b = lt-ltb (c % 16) 16 (omega arith) in
    let e : c / 16 * 16 + c % 16 ≡ c = omega arith in
    rw (high, low, a, b, e) refl

ltb_tells : (a b : ℕ) → ((ltb a b ≡ true) × (a < b)) ⊎ ((ltb a b ≡ false) × (b ≤ a))
ltb_tells a b = elim (cases_lt a b) [ inl lt ↦ inl (lt-ltb a b lt, lt) | inr le ↦ inr (le-ltb a b le, le) ]

char_again : (c : ℕ) (t : List ℕ) → c < 256 → char_at (print_char c ++ t) ≡ Ok (Some c, t)
char_again c t lt =
    elim (eqb_tells c 34) [
      | inl quote ↦ rw quote.1 refl
      | inr no_quote ↦ elim (eqb_tells c 92) [
        | inl slash ↦ rw slash.1 refl
        | inr no_slash ↦ elim (ltb_tells c 32) [
          | inl low ↦ rw (no_quote.0, no_slash.0, low.0) (hex_char c t lt)
          | inr some ↦ elim (ltb_tells 126 c) [
            | inl high ↦ rw (no_quote.0, no_slash.0, some.0, high.0) (hex_char c t lt)
            | inr plain ↦ rw (no_quote.0, no_slash.0, some.0, plain.0) (rw (no_quote.0, no_slash.0) refl)
          ]
        ]
      ]
    ]

below_again : (n c : ℕ) (whole so_far t : List ℕ) → 0 < c → length so_far + 1 < n → char_below n whole so_far (Ok (Some c, t)) ≡ Ok (Some c, t)
below_again n c whole so_far t some lt =
    let a : eqb c 0 ≡ false = grind (arith, nat_tests) in
    let b : leb n (length so_far + 1) ≡ false = grind (arith, nat_tests) in
    rw (a, b) refl

chars_again : (n : ℕ) (whole cs : List ℕ) (k : ℕ) (so_far rest : List ℕ) → length cs < k → length so_far + length cs < n → AreChars cs → repeat (string_char n whole) k so_far (flat_map print_char cs ++ 34 ∷ rest) ≡ Ok (so_far ++ cs, rest)
unfolding repeat
chars_again n whole cs zero so_far rest lt room all = absurd (omega arith)
chars_again n whole [] (suc k) so_far rest lt room all = ap (λ (x : List ℕ). Ok (x, rest)) (sym (append-nil so_far))
chars_again n whole (c ∷ cs) (suc k) so_far rest lt room all =
    let more = flat_map print_char cs ++ 34 ∷ rest in
    let split : flat_map print_char (c ∷ cs) ++ 34 ∷ rest ≡ print_char c ++ more = ap (λ (x : List ℕ). x ++ 34 ∷ rest) (flat_map-cons print_char c cs) ∙ append_assoc (print_char c) (flat_map print_char cs) (34 ∷ rest) in
    let one : string_char n whole so_far (print_char c ++ more) ≡ Ok (Some c, more) = ap (char_below n whole so_far) (char_again c more all.1) ∙ below_again n c whole so_far more all.0 (omega arith) in
    let long = length-append so_far (c ∷ []) in
    ap (repeat (string_char n whole) (suc k) so_far) split ∙ rw one (chars_again n whole cs k (so_far ++ c ∷ []) rest (omega arith) (omega (arith, long)) all.2 ∙ ap (λ (x : List ℕ). Ok (x, rest)) (append_assoc so_far (c ∷ []) cs))

some_char : (c : ℕ) → 1 ≤ length (print_char c)
some_char c = grind (arith, nat_tests)

flat_len : (cs : List ℕ) → length cs ≤ length (flat_map print_char cs)
flat_len [] = omega arith
flat_len (c ∷ cs) = rw (flat_map-cons print_char c cs) (omega (arith, length-append (print_char c) (flat_map print_char cs), some_char c, flat_len cs))

pub string_again : (n : ℕ) (cs rest : List ℕ) → AreChars cs → length cs < n → string_at n (print_string cs ++ rest) ≡ Ok (Text cs, rest)
unfolding string_at
string_again n cs rest all lt =
    let text = flat_map print_char cs ++ 34 ∷ rest in
    let regrouped : print_string cs ++ rest ≡ 34 ∷ text = ap (λ (x : List ℕ). 34 ∷ x) (append_assoc (flat_map print_char cs) (34 ∷ []) rest) in
    let long : length cs < length text = omega (arith, flat_len cs, length-append (flat_map print_char cs) (34 ∷ rest)) in
    let inner : repeat (string_char n (34 ∷ text)) (length text) [] text ≡ Ok (cs, rest) = chars_again n (34 ∷ text) cs (length text) [] rest long (omega arith) all in
    ap (string_at n) regrouped ∙ rw inner refl

-- ---- addresses

group_again : (c : ℕ) (t : List ℕ) → c < 256 → group_in (two_digits c ++ t) ≡ Some (c, t)
group_again c t lt =
    let high = glyph_value (c / 16) (omega arith) in
    let low = glyph_value (c % 16) (omega arith) in
    let a = lt-ltb (c / 16) 16 (omega arith) in
    let b = lt-ltb (c % 16) 16 (omega arith) in
    let e : c / 16 * 16 + c % 16 ≡ c = omega arith in
    rw (high, low, a, b, e) refl

groups_again : (cs : List ℕ) → AreBytes cs → groups_in (length cs) (print_groups cs) ≡ Some cs
groups_again [] all = refl
groups_again (c ∷ cs) all =
    let split : print_groups (c ∷ cs) ≡ 58 ∷ two_digits c ++ print_groups cs = flat_map-cons (λ c. 58 ∷ two_digits c) c cs in
    let one : next_group_in (58 ∷ two_digits c ++ print_groups cs) ≡ Some (c, print_groups cs) = group_again c (print_groups cs) all.0 in
    ap (groups_in (suc (length cs))) split ∙ rw (one, groups_again cs all.1) refl

address_says : (cs : List ℕ) → AreBytes cs → length cs ≡ 6 → address_in (print_address cs) ≡ Some cs
address_says [] all long = absurd (omega (arith, long))
address_says (c ∷ cs) all long =
    let five : length cs ≡ 5 = omega arith in
    let more : groups_in 5 (print_groups cs) ≡ Some cs = ap (λ (k : ℕ). groups_in k (print_groups cs)) (sym five) ∙ groups_again cs all.1 in
    let one : group_in (two_digits c ++ print_groups cs) ≡ Some (c, print_groups cs) = group_again c (print_groups cs) all.0 in
    rw (one, more) refl

glyph_word : (d : ℕ) → d < 16 → is_word_byte (digit_glyph false d) ≡ true
glyph_word d lt = digit_in_word (digit_glyph false d) (omega (arith, glyph_value d lt))

two_word : (c : ℕ) → c < 256 → AreWord (two_digits c)
two_word c lt = (glyph_word (c / 16) (omega arith), (glyph_word (c % 16) (omega arith), tt))

groups_word : (cs : List ℕ) → AreBytes cs → AreWord (print_groups cs)
groups_word [] all = tt
groups_word (c ∷ cs) all =
    let split : print_groups (c ∷ cs) ≡ 58 ∷ two_digits c ++ print_groups cs = flat_map-cons (λ c. 58 ∷ two_digits c) c cs in
    subst AreWord (sym split) (refl, words_join (two_digits c) (print_groups cs) (two_word c all.0) (groups_word cs all.1))

pub address_word : (cs : List ℕ) → AreBytes cs → length cs ≡ 6 → (0 < length (print_address cs)) × AreWord (print_address cs)
address_word [] all long = absurd (omega (arith, long))
address_word (c ∷ cs) all long = (omega (arith, length-append (two_digits c) (print_groups cs)), words_join (two_digits c) (print_groups cs) (two_word c all.0) (groups_word cs all.1))

pub address_again : (cs rest : List ℕ) → AreBytes cs → length cs ≡ 6 → Ends rest → address_at (print_address cs ++ rest) ≡ Ok (Text cs, rest)
address_again cs rest all long e =
    let w = print_address cs in
    let word' = address_word cs all long in
    let front : word (w ++ rest) ≡ w = word_is w rest word'.1 e in
    let behind : after_word (w ++ rest) ≡ rest = behind_word w rest word'.1 e in
    rw (front, address_says cs all long, behind) refl
