-- What each place holds after writes.
use Rattle.std.proofs.Common.{inl, inr, ◌∙◌, ℕ, List, [], ◌∷◌, Option, Some, None, sym, ap, subst}
use Rattle.std.specs.Io.KnownBytes.{Appends}
use Rattle.ng_outside.specs.Contents.{Contents, HoldsNow}
use Rattle.ng_call.specs.ending.Outside.{Stored, Outside, Place, ToSink, ToFile, Same}
use Rattle.ng_call.specs.ending.Writes.{Write, Writes, Begins, WritesAll, StopsAt}
use Rattle.ng_call.specs.ending.Ends.{Call, Ends}
use Rattle.ng_call.specs.ending.Each.{IsElse, Spares, AreApart, HasWritten, EachWritten, Keeps}

-- one write keeps every other place
one_keeps : (place at : Place) (bytes : List ℕ) (old now : Stored) → IsElse place at → Writes at bytes old now → Keeps place old now
one_keeps ToSink ToSink bytes old now other w = absurd other
one_keeps ToSink (ToFile name) bytes old now other w = w.1.sink
one_keeps (ToFile name) ToSink bytes old now other w = ap (λ (f : List ℕ → Contents). f name) w.1
one_keeps (ToFile name) (ToFile at) bytes old now other w = w.1.files name other

begun_keeps : (place at : Place) (bytes : List ℕ) (old now : Stored) → IsElse place at → Begins at bytes old now → Keeps place old now
begun_keeps ToSink ToSink bytes old now other w = absurd other
begun_keeps ToSink (ToFile name) bytes old now other w = w.1.sink
begun_keeps (ToFile name) ToSink bytes old now other w = ap (λ (f : List ℕ → Contents). f name) w.1
begun_keeps (ToFile name) (ToFile at) bytes old now other w = w.1.files name other

keeps_on : (place : Place) (old mid now : Stored) → Keeps place old mid → Keeps place mid now → Keeps place old now
keeps_on ToSink old mid now first second = second ∙ first
keeps_on (ToFile name) old mid now first second = second ∙ first

same_keeps : (place : Place) (old now : Stored) → Same old now → Keeps place old now
same_keeps ToSink old now same = same.sink
same_keeps (ToFile name) old now same = ap (λ (f : List ℕ → Contents). f name) same.files

pub all_keep : {F : Type 0} (place : Place) (ws : List (Write F)) (old now : Stored) → Spares place ws → WritesAll ws old now → Keeps place old now
all_keep place [] old now spares same = same_keeps place old now same
all_keep place (w ∷ ws) old now spares (next, whole, rest) =
    keeps_on place old next now (one_keeps place w.place w.bytes old next spares.0 whole) (all_keep place ws next now spares.1 rest)

pub stop_keeps : {F : Type 0} (Cause : Write F → Type 0) (place : Place) (ws : List (Write F)) (old now : Stored) → Spares place ws → StopsAt Cause ws old now → Keeps place old now
stop_keeps Cause place [] old now spares stops = absurd stops
stop_keeps Cause place (w ∷ ws) old now spares (inl (cause, begun)) = begun_keeps place w.place w.bytes old now spares.0 begun
stop_keeps Cause place (w ∷ ws) old now spares (inr (next, whole, rest)) =
    keeps_on place old next now (one_keeps place w.place w.bytes old next spares.0 whole) (stop_keeps Cause place ws next now spares.1 rest)

-- however a call ends, a place that it doesn't write holds what it held
pub ends_keep : {F M : Type 0} (call : Call F M) (o : Outside) (made : M) (fault : Option F) (place : Place) → Ends call o made fault → Spares place (call.writes made) → Keeps place o.old o.now
ends_keep call o made None place e spares = all_keep place (call.writes made) o.old o.now spares e.written
ends_keep call o made (Some fault) place (inl e) spares = same_keeps place o.old o.now e.same
ends_keep call o made (Some fault) place (inr (inl e)) spares = same_keeps place o.old o.now e.same
ends_keep call o made (Some fault) place (inr (inr e)) spares = stop_keeps _ place (call.writes made) o.old o.now spares e.stops

-- each place has its bytes
later_same : (place : Place) (bytes : List ℕ) (old mid now : Stored) → Keeps place mid now → HasWritten place bytes old mid → HasWritten place bytes old now
later_same ToSink bytes old mid now same has = subst (λ (s : Option (List ℕ)). Appends old.sink s bytes) (sym same) has
later_same (ToFile name) bytes old mid now same has = subst (λ (s : Contents). HoldsNow (old.files name) s bytes) (sym same) has

before_same : (place : Place) (bytes : List ℕ) (old mid now : Stored) → Keeps place old mid → HasWritten place bytes mid now → HasWritten place bytes old now
before_same ToSink bytes old mid now same has = subst (λ (s : Option (List ℕ)). Appends s now.sink bytes) same has
before_same (ToFile name) bytes old mid now same has = subst (λ (s : Contents). HoldsNow s (now.files name) bytes) same has

written : (place : Place) (bytes : List ℕ) (old now : Stored) → Writes place bytes old now → HasWritten place bytes old now
written ToSink bytes old now w = w.0
written (ToFile name) bytes old now w = w.0

turned : (a b : Place) → IsElse a b → IsElse b a
turned ToSink ToSink other = other
turned ToSink (ToFile name) other = tt
turned (ToFile name) ToSink other = tt
turned (ToFile name) (ToFile at) other = λ e. other (sym e)

each_before : {F : Type 0} (at : Place) (bytes : List ℕ) (ws : List (Write F)) (old mid now : Stored) → Spares at ws → Writes at bytes old mid → EachWritten ws mid now → EachWritten ws old now
each_before at bytes [] old mid now spares w each = tt
each_before at bytes (v ∷ ws) old mid now spares w each =
    (before_same v.place v.bytes old mid now (one_keeps v.place at bytes old mid (turned at v.place spares.0) w) each.0, each_before at bytes ws old mid now spares.1 w each.1)

pub each_written : {F : Type 0} (ws : List (Write F)) (old now : Stored) → AreApart ws → WritesAll ws old now → EachWritten ws old now
each_written [] old now apart all = tt
each_written (w ∷ ws) old now apart (next, whole, rest) = (
  later_same w.place w.bytes old next now (all_keep w.place ws next now apart.0 rest) (written w.place w.bytes old next whole),
  each_before w.place w.bytes ws old next now apart.0 whole (each_written ws next now apart.1 rest),
)
