-- What a form answers in code, as what a line asks for.
use Rattle.std.specs.Prelude.{◌≡◌, ℕ, Bool, true, false, List, ◌++◌, codes, Result, Ok, Err}
use Rattle.ng_base.specs.Name.{is_name}
use Rattle.ng_base.specs.declared.memory.Stop.{Stop}
use Rattle.ng_base.specs.declared.memory.Stop.TheVariants.{Fault, NoMemory}
use Rattle.ng_machine.specs.declared.command.What.{What}
use Rattle.ng_machine.specs.declared.command.What.TheVariants as asks
use Rattle.ngctl_script.specs.declared.refusal.Refusal.{Refusal}
use Rattle.ngctl_script.specs.declared.refusal.Refusal.TheVariants.{Unknown, Ambiguous, Usage, BadName, BadPath, BadByte}
use Rattle.ngctl_script.specs.Commands.{usage}
use Rattle.ngctl_script.specs.Forms.{is_path}

-- the words of a refusal
abbrev pub refusal_words : Refusal → List ℕ
refusal_words Unknown = codes "unknown command"
refusal_words Ambiguous = codes "ambiguous command"
refusal_words (Usage verb) = codes "usage: " ++ usage verb
refusal_words BadName = codes "bad name"
refusal_words BadPath = codes "bad path"
refusal_words BadByte = codes "bad byte"

-- what was read is what was asked, and where it was refused, that is a line refused in those words
abbrev pub Asks : Result What (Stop Refusal) → What → Type 0
Asks (Ok what) asked = asked ≡ what
Asks (Err (Fault refusal)) asked = asked ≡ asks.Bad (refusal_words refusal)
Asks (Err NoMemory) asked = Unit {0}

-- A word was read that passes a test, or refused since it fails it.
abbrev pub IsReadIf : Bool → Refusal → List ℕ → Result (List ℕ) (Stop Refusal) → Type 0
IsReadIf passes why word (Ok found) = (passes ≡ true) × (found ≡ word)
IsReadIf passes why word (Err (Fault refusal)) = (passes ≡ false) × (refusal ≡ why)
IsReadIf passes why word (Err NoMemory) = Unit {0}

abbrev pub IsNamed : List ℕ → Result (List ℕ) (Stop Refusal) → Type 0
IsNamed word found = IsReadIf (is_name word) BadName word found

abbrev pub IsPathed : List ℕ → Result (List ℕ) (Stop Refusal) → Type 0
IsPathed word found = IsReadIf (is_path word) BadPath word found
