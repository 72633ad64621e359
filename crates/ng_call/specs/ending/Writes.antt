-- What a call writes, in order: each to the sink, or to a file that is written anew.
use Rattle.std.specs.Prelude.{◌≡◌, ◌⊎◌, ℕ, List, [], ◌∷◌}
use Rattle.std.specs.Io.KnownBytes.{Appends}
use Rattle.ng_outside.specs.Contents.{HoldsNow, KeptOrBegun}
use Rattle.ng_outside.specs.Write.{AppendsPrefix}
use Rattle.ng_call.specs.ending.Outside.{Stored, Outside, PlaceRose, Place, ToSink, ToFile, Same, SameBut}

pub record Write (F : Type 0) : Type 0 where
  pub place : Place
  pub bytes : List ℕ
  pub failed : F  -- the fault where the write fails

-- all of the bytes are written
abbrev pub Writes : Place → List ℕ → Stored → Stored → Type 0
Writes ToSink bytes old now = Appends old.sink now.sink bytes × (now.files ≡ old.files)
Writes (ToFile name) bytes old now = HoldsNow (old.files name) (now.files name) bytes × SameBut name old now

-- a prefix of the bytes is written; a file may also hold what it held
abbrev pub Begins : Place → List ℕ → Stored → Stored → Type 0
Begins ToSink bytes old now = AppendsPrefix old.sink now.sink bytes × (now.files ≡ old.files)
Begins (ToFile name) bytes old now = KeptOrBegun (old.files name) (now.files name) bytes × SameBut name old now

-- one after the other is written whole
abbrev pub WritesAll : {F : Type 0} → List (Write F) → Stored → Stored → Type 0
WritesAll [] old now = Same old now
WritesAll (w ∷ ws) old now = (next : Stored) × Writes w.place w.bytes old next × WritesAll ws next now

-- those before one are written whole and of that one a prefix, for a cause; those after it are not begun
abbrev pub StopsAt : {F : Type 0} → (Write F → Type 0) → List (Write F) → Stored → Stored → Type 0
StopsAt Cause [] old now = ⊥
StopsAt Cause (w ∷ ws) old now =
    (Cause w × Begins w.place w.bytes old now)
    ⊎ ((next : Stored) × Writes w.place w.bytes old next × StopsAt Cause ws next now)

-- a write stops because it failed and the count of its place rose, or because memory ran out
abbrev pub StopsFor : {F : Type 0} → F → Outside → F → Write F → Type 0
StopsFor no_memory o fault w = (fault ≡ no_memory) ⊎ ((fault ≡ w.failed) × PlaceRose o w.place)
