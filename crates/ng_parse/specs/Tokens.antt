-- Blanks, words, and the numbers and addresses that words say.
use Rattle.std.specs.Prelude.{ℕ, zero, suc, ◌+◌, ◌*◌, Bool, true, false, ◌||◌, ◌&&◌, List, [], ◌∷◌, length, drop, Option, Some, None, option_map}
use Rattle.std.specs.Prelude.{nat_lt, nat_le, ◌==◌, if◌then◌else◌}
use Rattle.std.specs.Char.{digit_value}
use Rattle.std.specs.Str.Parse.{digits_value}
use Rattle.ng_shape.specs.Sound.{is_word_byte}
use Rattle.ng_parse.specs.Ascii.{tab, space, minus, digit_zero, colon, letter_x}

abbrev pub is_blank : ℕ → Bool
is_blank b = (b == space) || (b == tab)

-- without the blanks at the front
abbrev pub skip_blanks : List ℕ → List ℕ
skip_blanks [] = []
skip_blanks (b ∷ bs) = if is_blank b then skip_blanks bs else b ∷ bs

-- the longest run of a word's bytes at the front, and what follows it
abbrev pub word : List ℕ → List ℕ
word [] = []
word (b ∷ bs) = if is_word_byte b then b ∷ word bs else []

abbrev pub after_word : List ℕ → List ℕ
after_word text = drop (length (word text)) text

abbrev pub starts : ℕ → List ℕ → Bool
starts c [] = false
starts c (b ∷ bs) = b == c

-- ---- integers

abbrev pub all_digits : ℕ → List ℕ → Bool
all_digits radix [] = true
all_digits radix (c ∷ cs) = nat_lt (digit_value c) radix && all_digits radix cs

-- one or more digits
abbrev pub digits_in : ℕ → List ℕ → Option ℕ
digits_in radix ds = if nat_lt 0 (length ds) && all_digits radix ds then Some (digits_value radix ds) else None

-- behind a zero: nothing, x and 1 to 16 hexadecimal digits, or octal digits
abbrev pub after_zero : List ℕ → Option ℕ
after_zero [] = Some 0
after_zero (x ∷ ds) = if x == letter_x then (if nat_le (length ds) 16 then digits_in 16 ds else None) else digits_in 8 (x ∷ ds)

-- the number that a word says
abbrev pub number_in : List ℕ → Option ℕ
number_in [] = None
number_in (c ∷ cs) = if c == digit_zero then after_zero cs else digits_in 10 (c ∷ cs)

-- whether a word says a negative number, and the number without its sign
abbrev pub signed_in : List ℕ → Option (Bool × ℕ)
signed_in [] = None
signed_in (c ∷ cs) = if c == minus then option_map (λ n. (true, n)) (number_in cs) else option_map (λ n. (false, n)) (number_in (c ∷ cs))

-- ---- addresses: six groups of one or two hexadecimal digits, joined by colons

abbrev pub is_hex : ℕ → Bool
is_hex c = nat_lt (digit_value c) 16

-- a group at the front, and what follows it
abbrev pub group_in : List ℕ → Option (ℕ × List ℕ)
group_in [] = None
group_in (a ∷ []) = if is_hex a then Some (digit_value a, []) else None
group_in (a ∷ b ∷ rest) = if is_hex a then Some (if is_hex b then (digit_value a * 16 + digit_value b, rest) else (digit_value a, b ∷ rest)) else None

abbrev pub with_first : Option (ℕ × List ℕ) → (List ℕ → Option (List ℕ)) → Option (List ℕ)
with_first None more = None
with_first (Some x) more = option_map (λ bytes. x.0 ∷ bytes) (more x.1)

-- the same behind a colon
abbrev pub next_group_in : List ℕ → Option (ℕ × List ℕ)
next_group_in [] = None
next_group_in (c ∷ cs) = if c == colon then group_in cs else None

-- so many groups, each behind a colon, and nothing else
abbrev pub groups_in : ℕ → List ℕ → Option (List ℕ)
groups_in zero [] = Some []
groups_in zero (c ∷ cs) = None
groups_in (suc k) text = with_first (next_group_in text) (groups_in k)

-- the bytes that a word says
abbrev pub address_in : List ℕ → Option (List ℕ)
address_in text = with_first (group_in text) (groups_in 5)
