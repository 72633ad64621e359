-- Laws of the layout, over every list of bytes.
use Rattle.std.specs.Prelude.{◌≡◌, ◌<◌, ◌^◌, ◌≤◌, ℕ, List, length, take, drop, ◌++◌, slice_index}
use Rattle.byteorder.specs.Endian.{little_bytes, little_number}
use Rattle.ng_base.specs.Name.{IsName}
use Rattle.ng_message.specs.declared.message.Header.{Header}
use Rattle.ng_message.specs.Fields.{name_field, field_text}
use Rattle.ng_message.specs.Layout.{header_bytes}
use Rattle.ng_message.specs.Message.{IsHeader}

-- no two headers begin the same bytes
abbrev pub HasOneHeader : Type 0
HasOneHeader =
    (a b : Header) (x y : List ℕ) →
    IsHeader a → IsHeader b → header_bytes a ++ x ≡ header_bytes b ++ y → (a ≡ b) × (x ≡ y)

-- bytes that are enough for a header begin with one
abbrev pub HasAHeader : Type 0
HasAHeader =
    (bytes : List ℕ) →
    56 ≤ length bytes → ((i : ℕ) → slice_index bytes i < 256)
    → (header : Header) × IsHeader header × (header_bytes header ++ drop 56 bytes ≡ bytes)

-- a number of so many bytes is read where it was put, whatever stands around it
abbrev pub ReadsNumberBack : Type 0
ReadsNumberBack =
    (size number : ℕ) (before after : List ℕ) →
    number < 256 ^ size → little_number size (drop (length before) (before ++ little_bytes size number ++ after)) ≡ number

-- a name is read where it was put, whatever stands around it
abbrev pub ReadsNameBack : Type 0
ReadsNameBack =
    (name before after : List ℕ) →
    IsName name → field_text (take 32 (drop (length before) (before ++ name_field name ++ after))) ≡ name
