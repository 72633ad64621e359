-- A text of bytes by its words of eight bytes.
use Rattle.std.specs.Prelude.{ℕ, List, drop}
use Rattle.byteorder.specs.Endian.{big_number}

-- the eight bytes from a place on as a number, the first byte the highest
abbrev pub text_word : ℕ → List ℕ → ℕ
text_word at text = big_number 8 (drop at text)
