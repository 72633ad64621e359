-- What each place holds after writes.
use Rattle.std.specs.Prelude.{◌≡◌, ◌≢◌, ℕ, List, [], ◌∷◌}
use Rattle.std.specs.Io.KnownBytes.{Appends}
use Rattle.ng_outside.specs.Contents.{HoldsNow}
use Rattle.ng_call.specs.ending.Outside.{Stored, Place, ToSink, ToFile}
use Rattle.ng_call.specs.ending.Writes.{Write}

-- another place
abbrev pub IsElse : Place → Place → Type 0
IsElse ToSink ToSink = ⊥
IsElse ToSink (ToFile other) = Unit {0}
IsElse (ToFile name) ToSink = Unit {0}
IsElse (ToFile name) (ToFile other) = name ≢ other

-- none of the writes goes there
abbrev pub Spares : {F : Type 0} → Place → List (Write F) → Type 0
Spares place [] = Unit {0}
Spares place (w ∷ ws) = IsElse place w.place × Spares place ws

-- no two go to one place
abbrev pub AreApart : {F : Type 0} → List (Write F) → Type 0
AreApart [] = Unit {0}
AreApart (w ∷ ws) = Spares w.place ws × AreApart ws

-- the sink has grown by the bytes; the file holds them
abbrev pub HasWritten : Place → List ℕ → Stored → Stored → Type 0
HasWritten ToSink bytes old now = Appends old.sink now.sink bytes
HasWritten (ToFile name) bytes old now = HoldsNow (old.files name) (now.files name) bytes

abbrev pub EachWritten : {F : Type 0} → List (Write F) → Stored → Stored → Type 0
EachWritten [] old now = Unit {0}
EachWritten (w ∷ ws) old now = HasWritten w.place w.bytes old now × EachWritten ws old now

-- what a place holds is what it held
abbrev pub Keeps : Place → Stored → Stored → Type 0
Keeps ToSink old now = now.sink ≡ old.sink
Keeps (ToFile name) old now = now.files name ≡ old.files name
