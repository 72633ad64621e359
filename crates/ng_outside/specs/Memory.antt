-- Files and a sink in memory, as a caller sees them.
use Rattle.std.specs.Prelude.{◌≡◌, ◌≢◌, ℕ, ◌-◌, ◌≤◌, min, Bool, if◌then◌else◌, List, [], ◌∷◌, find, length, take, drop, ◌++◌, All, AllPairs, Contains, Option, Some, None, IsNone, ◌⊎◌, string_bytes, vec_len, vec_capacity}
use Rattle.std.specs.Option.{option_map}
use Rattle.std.specs.Str.{bytes_eq}
use Rattle.ng_outside.specs.declared.memory_files.MemFile.{MemFile}
use Rattle.ng_outside.specs.Contents.{Contents, NoFile, Holds}
use Rattle.ng_outside.specs.Count.{next_count}

-- a file: its name, the bytes that it holds, how many it may hold, and whether it gives one byte a call
pub record FileState : Type 0 where
  pub name : List ℕ
  pub bytes : List ℕ
  pub room : ℕ
  pub slow : Bool

-- files: each one, the numbers of the calls that are to fail, the number of calls so far, and of faults so far
pub record FilesState : Type 0 where
  pub files : List FileState
  pub failing : List ℕ
  pub calls : ℕ
  pub faults : ℕ

-- a sink: the bytes that it holds, for how many more it has room, whether it takes one byte a call, and the rest as above
pub record SinkState : Type 0 where
  pub bytes : List ℕ
  pub room : ℕ
  pub slow : Bool
  pub failing : List ℕ
  pub calls : ℕ
  pub faults : ℕ

-- a file as it is handed in
abbrev pub file_state : MemFile → FileState
file_state file = record { name = string_bytes file.name; bytes = file.bytes.items; room = file.room; slow = file.slow }

-- what the files that are handed in have to be: of different names, and each with room for its bytes
abbrev pub NamesDiffer : List MemFile → Type 0
NamesDiffer files = AllPairs (λ one other. string_bytes one.name ≢ string_bytes other.name) files

abbrev pub FitRooms : List MemFile → Type 0
FitRooms files = All (λ file. vec_len file.bytes ≤ file.room) files

-- a file's bytes fit its room, and its room is reserved
pub record HasRoom (file : MemFile) : Type 0 where
  pub fits : vec_len file.bytes ≤ file.room
  pub reserved : file.room ≤ vec_capacity file.bytes

-- the file of a name
abbrev pub file_named : List FileState → List ℕ → Option FileState
file_named files name = find (λ file. bytes_eq file.name name) files

-- what a name holds
abbrev pub bytes_named : FilesState → List ℕ → Option (List ℕ)
bytes_named state name = option_map (λ file. file.bytes) (file_named state.files name)

-- the same, told as every implementation of files may tell it
abbrev pub contents_of : Option FileState → Contents
contents_of None = NoFile
contents_of (Some file) = Holds file.bytes

abbrev pub contents_named : FilesState → List ℕ → Contents
contents_named state name = contents_of (file_named state.files name)

-- the files with the bytes of one changed: of the first that has the name
abbrev pub with_file : List FileState → List ℕ → (List ℕ → List ℕ) → List FileState
with_file [] name change = []
with_file (file ∷ files) name change =
    if bytes_eq file.name name then record file { bytes = change file.bytes } ∷ files else file ∷ with_file files name change

-- how many bytes a call moves of a piece of `len` bytes, where `most` bytes are there or have room
abbrev pub moved_count : Bool → ℕ → ℕ → ℕ
moved_count slow len most = min (if slow then 1 else len) most

-- for how many more bytes a file has room; one that is not there has none
abbrev pub room_left : Option FileState → ℕ
room_left None = 0
room_left (Some file) = file.room - length file.bytes

-- how many of `len` bytes a file takes
abbrev pub taken_count : Option FileState → ℕ → ℕ
taken_count None len = 0
taken_count (Some file) len = moved_count file.slow len (room_left (Some file))

-- a read of `file` from the place `at` turns a piece `old` into `new`, and moves `count` bytes
pub record Gives (file : FileState) (at : ℕ) (old new : List ℕ) (count : ℕ) : Type 0 where
  pub number : count ≡ moved_count file.slow (length old) (length file.bytes - at)
  pub piece : new ≡ take count (drop at file.bytes) ++ drop count old

-- a read or a fresh start fails: its number is listed, or there is no file of the name
abbrev pub HasNoFile : FilesState → List ℕ → Type 0
HasNoFile state name = Contains state.failing (next_count state.calls) ⊎ IsNone (file_named state.files name)

-- an append fails: its number is listed, or there is no room left in a file of the name
abbrev pub HasNoRoom : FilesState → List ℕ → Type 0
HasNoRoom state name = Contains state.failing (next_count state.calls) ⊎ (room_left (file_named state.files name) ≤ 0)

-- a put fails: its number is listed, or there is no room left
abbrev pub PutFails : SinkState → Type 0
PutFails state = Contains state.failing (next_count state.calls) ⊎ (state.room ≤ 0)
