-- A task: what a call does for words that are in form, whatever the words are; and how a call of it ends.
use Rattle.std.specs.Prelude.{◌≡◌, ◌⊎◌, ℕ, List, Option, Some, None, IfSome}
use Rattle.ng_outside.specs.Contents.{Contents}
use Rattle.ng_call.specs.ending.Ends.{Call, Ends}
use Rattle.ng_call.specs.ending.Outside.{Outside, Same}
use Rattle.ng_call.specs.ending.Steps.{Step}
use Rattle.ng_call.specs.ending.Writes.{Write}

-- `F` is the type of faults, and `M` that of what the run makes
pub record Task (F M : Type 0) : Type 1 where
  pub Words : Type 0  -- words that are in form
  pub Input : Type 0  -- what is read
  pub IsFound : (List ℕ → Contents) → Words → Input → Type 0  -- files that hold this may be read as this input
  pub Tells : (List ℕ → Contents) → Words → Input → Type 0  -- they tell that they hold it
  pub steps : Words → Input → List (Step F)
  pub IsPart : Words → Input → M → Type 0
  pub IsMade : Words → Input → M → Type 0
  pub writes : Words → Input → M → List (Write F)
  pub status : Words → Input → M → ℕ  -- where the call ends well
  pub nothing : M
  pub usage : F  -- the fault of words that are not in form
  pub no_memory : F
  pub fault_status : F → ℕ

-- The statuses of faults that come from outside: words that are not in form, a read, no memory, a write. A fault of
-- what was read has another.

abbrev pub usage_status : ℕ
usage_status = 64

abbrev pub reading_status : ℕ
reading_status = 66

abbrev pub memory_status : ℕ
memory_status = 71

abbrev pub writing_status : ℕ
writing_status = 74

module _ {F M : Type 0} (task : Task F M) where
  -- what a call with these words and this input is to do
  abbrev pub call_of : task.Words → task.Input → Call F M
  call_of words input = record {
    steps = task.steps words input;
    nothing = task.nothing;
    IsPart = task.IsPart words input;
    IsMade = task.IsMade words input;
    writes = task.writes words input;
    no_memory = task.no_memory;
  }

  -- the status of its end
  abbrev pub status_by : task.Words → task.Input → M → Option F → ℕ
  status_by words input made None = task.status words input made
  status_by words input made (Some fault) = task.fault_status fault

-- Words that are not in form, or no memory to read them: nothing is read, made or written.
pub record EndsUnsaid {F M : Type 0} (task : Task F M) (o : Outside) (status : ℕ) (made : M) (fault : Option F)
    : Type 0 where
  pub nothing : made ≡ task.nothing
  pub same : Same o.old o.now
  pub cause : (fault ≡ Some task.usage) ⊎ (fault ≡ Some task.no_memory)
  pub status_is : IfSome fault (λ f. status ≡ task.fault_status f)

-- words in form
pub record EndsWith {F M : Type 0} (task : Task F M) (words : task.Words) (o : Outside) (status : ℕ) (made : M)
    (fault : Option F) : Type 0 where
  pub input : task.Input
  pub is_found : task.IsFound o.old.files words input
  pub ends : Ends (call_of task words input) o made fault
  pub status_is : status ≡ status_by task words input made fault

-- the ends of a call, by what its words say
abbrev pub EndsBy : {F M : Type 0} (task : Task F M) → Option task.Words → Outside → ℕ → M → Option F → Type 0
EndsBy task None o status made fault = EndsUnsaid task o status made fault
EndsBy task (Some words) o status made fault = EndsWith task words o status made fault
