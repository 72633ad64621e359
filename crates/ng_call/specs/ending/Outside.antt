-- What stands outside of a call: a sink and files, with what they hold and their counts of faults.
use Rattle.std.specs.Prelude.{◌≡◌, ◌≢◌, ℕ, List, Option}
use Rattle.ng_outside.specs.Contents.{Contents}
use Rattle.ng_outside.specs.Count.{Rose}

-- what the sink and each file hold, where it is told
pub record Stored : Type 0 where
  pub sink : Option (List ℕ)
  pub files : List ℕ → Contents

-- the counts of faults
pub record Faults : Type 0 where
  pub sink : ℕ
  pub files : List ℕ → ℕ

-- where something is written
pub data Place : Type 0 where
  ToSink : Place
  ToFile : List ℕ → Place

-- what a call finds and what it leaves
pub record Outside : Type 0 where
  pub old : Stored
  pub now : Stored
  pub before : Faults
  pub after : Faults

-- the count of a file rose in the call, and that of a place
abbrev pub FileRose : Outside → List ℕ → Type 0
FileRose o name = Rose (o.before.files name) (o.after.files name)

abbrev pub PlaceRose : Outside → Place → Type 0
PlaceRose o ToSink = Rose o.before.sink o.after.sink
PlaceRose o (ToFile name) = FileRose o name

-- nothing was written
pub record Same (old now : Stored) : Type 0 where
  pub sink : now.sink ≡ old.sink
  pub files : now.files ≡ old.files

-- nothing was written but to the file of this name
pub record SameBut (name : List ℕ) (old now : Stored) : Type 0 where
  pub sink : now.sink ≡ old.sink
  pub files : (other : List ℕ) → other ≢ name → now.files other ≡ old.files other
