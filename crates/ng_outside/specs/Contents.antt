-- What a name holds, where an implementation of files tells it.
use Rattle.std.specs.Prelude.{◌≡◌, ◌⊎◌, ℕ, List, ◌++◌, Option, Some, None, IfSome}

pub data Contents : Type 0 where
  NotTold : Contents  -- the implementation does not tell
  NoFile : Contents  -- there is no file of this name
  Holds : List ℕ → Contents  -- there is one, and it holds these bytes

-- the bytes of a file, where they are told
abbrev pub bytes_told : Contents → Option (List ℕ)
bytes_told NotTold = None
bytes_told NoFile = None
bytes_told (Holds bytes) = Some bytes

abbrev pub files_told : (List ℕ → Contents) → List ℕ → Option (List ℕ)
files_told contents name = bytes_told (contents name)

-- what is said of the bytes of a file, where they are told
abbrev pub IfHolds : Contents → (List ℕ → Type 0) → Type 0
IfHolds contents P = IfSome (bytes_told contents) P

-- The file holds these bytes now, and there was a file or there was none. Where nothing was told, nothing is said.
abbrev pub HoldsNow : Contents → Contents → List ℕ → Type 0
HoldsNow NotTold now bytes = Unit {0}
HoldsNow NoFile now bytes = now ≡ Holds bytes
HoldsNow (Holds old) now bytes = now ≡ Holds bytes

-- What the file holds grew by these bytes. One that was not there holds them alone.
abbrev pub Grows : Contents → Contents → List ℕ → Type 0
Grows NotTold now bytes = Unit {0}
Grows NoFile now bytes = now ≡ Holds bytes
Grows (Holds old) now bytes = now ≡ Holds (old ++ bytes)

-- The file holds a prefix of these bytes now: all, a part or none of them.
pub record HoldsPrefix (old now : Contents) (bytes : List ℕ) : Type 0 where
  pub prefix : List ℕ
  pub rest : List ℕ
  pub split : prefix ++ rest ≡ bytes
  pub holds : HoldsNow old now prefix

-- A write that stopped: the file holds what it held, or a prefix of the bytes.
abbrev pub KeptOrBegun : Contents → Contents → List ℕ → Type 0
KeptOrBegun old now bytes = (now ≡ old) ⊎ HoldsPrefix old now bytes
