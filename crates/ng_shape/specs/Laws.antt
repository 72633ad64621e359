-- Laws of the layout, over every shape, value and list of bytes.
use Rattle.std.specs.Prelude.{◌≡◌, ℕ, List, Ok}
use Rattle.ng_shape.specs.Shape.{Shape}
use Rattle.ng_shape.specs.Sound.{IsShape}
use Rattle.ng_shape.specs.Values.{Value}
use Rattle.ng_shape.specs.Layout.{bytes_of}
use Rattle.ng_shape.specs.Decoding.{value_from}
use Rattle.ng_shape.specs.Canonical.{IsCanonical, IsFitting, plain_of}

-- the bytes of a fitting value are canonical
abbrev pub FittingIsCanonical : Type 0
FittingIsCanonical = (s : Shape) (v : Value) → IsShape s → IsFitting s v → IsCanonical s (bytes_of s v)

-- and give it back, with zeros as nothing and members in order
abbrev pub FittingIsGivenBack : Type 0
FittingIsGivenBack = (s : Shape) (v : Value) → IsShape s → IsFitting s v → value_from s (bytes_of s v) ≡ Ok (plain_of s v)

-- canonical bytes are those of the value that they give, which fits
abbrev pub CanonicalIsLayout : Type 0
CanonicalIsLayout =
    (s : Shape) (bytes : List ℕ) → IsShape s → IsCanonical s bytes
    → (v : Value) × (value_from s bytes ≡ Ok v) × IsFitting s v × (plain_of s v ≡ v) × (bytes_of s v ≡ bytes)
