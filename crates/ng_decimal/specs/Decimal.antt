-- Numbers as words: decimal digits without a sign, and without a zero in front of others.
use Rattle.std.specs.Prelude.{ℕ, Bool, false, not, ◌&&◌, ◌||◌, ◌==◌, nat_le, if◌then◌else◌, List, [], ◌∷◌, length, Option, Some, None}
use Rattle.std.specs.List.{list_all}
use Rattle.std.specs.Str.Parse.{digits_value}

abbrev pub is_digit : ℕ → Bool
is_digit b = nat_le 48 b && nat_le b 57

abbrev pub begins_with_zero : List ℕ → Bool
begins_with_zero [] = false
begins_with_zero (b ∷ bytes) = b == 48

-- one digit or more, of which the first is no zero unless it stands alone
abbrev pub is_number : List ℕ → Bool
is_number word = nat_le 1 (length word) && list_all is_digit word && (not (begins_with_zero word) || length word == 1)

-- one byte or more, of which the first is no zero unless it stands alone
abbrev pub may_begin_number : List ℕ → Bool
may_begin_number word = nat_le 1 (length word) && (not (begins_with_zero word) || length word == 1)

-- the number that digits say, up to `most`
abbrev pub digits_up_to : ℕ → List ℕ → Option ℕ
digits_up_to most word = if list_all is_digit word && nat_le (digits_value 10 word) most then Some (digits_value 10 word) else None

-- the number that a word says, from `least` to `most`
abbrev pub number_from : ℕ → ℕ → List ℕ → Option ℕ
number_from least most word =
    if is_number word && nat_le least (digits_value 10 word) && nat_le (digits_value 10 word) most then Some (digits_value 10 word) else None
