-- What the program does: how it ends, and what it tells on standard error.
use Rattle.std.specs.Prelude.{◌≡◌, ◌⊎◌, ℕ, List, Option, Some, None, option_map}
use Rattle.std.specs.Io.KnownBytes.{Appends}
use Rattle.ng_outside.specs.Count.{Rose}
use Rattle.ng_outside.specs.Write.{AppendsPrefix}
use Rattle.ng_call.specs.ending.Outside.{Outside, Same}
use Rattle.ng_replay.specs.Faults.{fault_status}
use Rattle.ng_replay.specs.declared.ended.Replayed.{Replayed}
use Rattle.ng_replay.specs.declared.ended.ReplayFault.{ReplayFault}
use Rattle.ng_replay.specs.declared.ended.ReplayFault.TheVariants.{NoMemory}
use Rattle.ng_stock.specs.Stocked.{stocked}
use Rattle.ng_trace_call.specs.Traced.{IsTraced}
use Rattle.ng_trace_call.specs.Line.{trace_line}
use Rattle.ng_trace_call.specs.Words.{trace_words_of}

-- what the error output held and holds, where it tells, and its counts of faults
pub record SinkChange : Type 0 where
  pub old : Option (List ℕ)
  pub now : Option (List ℕ)
  pub before : ℕ
  pub after : ℕ

-- an error output before and after
abbrev pub changed : {E : Type 0} (held : E → Option (List ℕ)) (faults : E → ℕ) (errors errors_now : E) → SinkChange
changed held faults errors errors_now = record {
  old = held errors;
  now = held errors_now;
  before = faults errors;
  after = faults errors_now;
}

-- a line is put, or a prefix of it where the sink failed
abbrev pub Puts : List ℕ → SinkChange → Type 0
Puts line errors = Appends errors.old errors.now line ⊎ (AppendsPrefix errors.old errors.now line × Rose errors.before errors.after)

abbrev pub memory_line : List ℕ
memory_line = trace_line NoMemory None

-- the line is put; where memory runs out the line of that
abbrev pub Tells : List ℕ → SinkChange → Type 0
Tells line errors = Puts line errors ⊎ Puts memory_line errors

-- nothing is told where nothing went wrong
abbrev pub TellsIf : Option (List ℕ) → SinkChange → Type 0
TellsIf None errors = (errors.now ≡ errors.old) × (errors.after ≡ errors.before)
TellsIf (Some line) errors = Tells line errors

-- the line of its fault, where there is one
abbrev pub line_of : List (List ℕ) → Replayed → Option (List ℕ)
line_of words traced = option_map (λ fault. trace_line fault (trace_words_of words)) traced.fault

-- the call ended with this status, and its fault was told
pub record HasTraced (words : List (List ℕ)) (o : Outside) (errors : SinkChange) (status : ℕ) : Type 0 where
  pub traced : Replayed
  pub is_call : IsTraced stocked (trace_words_of words) o traced
  pub status_is : status ≡ traced.status
  pub told : TellsIf (line_of words traced) errors

-- there was no memory for the nodes: nothing was written, and that was told
pub record IsUnstocked (o : Outside) (errors : SinkChange) (status : ℕ) : Type 0 where
  pub status_is : status ≡ fault_status NoMemory
  pub same : Same o.old o.now
  pub told : Puts memory_line errors

-- the two ways in which the program ends
abbrev pub IsProgram : List (List ℕ) → Outside → SinkChange → ℕ → Type 0
IsProgram words o errors status = HasTraced words o errors status ⊎ IsUnstocked o errors status

-- where the words can't be taken
pub record IsWordless (fault : ReplayFault) (errors : SinkChange) (status : ℕ) : Type 0 where
  pub status_is : status ≡ fault_status fault
  pub told : Tells (trace_line fault None) errors
