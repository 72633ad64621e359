-- Where the numbers of commands ascend, each is found by its number.
use Rattle.std.proofs.Common.{◌≡◌, ℕ, zero, suc, ◌+◌, ◌<◌, ◌≤◌, ◌==◌, false, List, [], ◌∷◌, refl, sym, subst, arith}
use Rattle.std.specs.Prelude.{slice_get, Some}
use Rattle.std.proofs.lemmas.Bool.{eq-eqb, ne_eqb}
use Rattle.ng_machine.specs.declared.command.Command.{Command}
use Rattle.ng_machine.specs.declared.input.Input.{Input}
use Rattle.ng_machine.specs.declared.input.Input.TheVariants.{Command as Fed, Late, Packet, Tick}
use Rattle.ng_machine.specs.Feed.{Request, request_of}
use Rattle.ng_laws.specs.answers.Answers.{IsCommandThat}
use Rattle.ngctl_print.specs.whole.Commands.{command_numbered, commands_in}
use Rattle.ng_laws.specs.printable.Printable.{AscendFrom}

-- the command of that number is found, and what it requests meets P
pub record IsFound (P : Request → Type 0) (number : ℕ) (commands : List Command) : Type 0 where
  pub command : Command
  pub found : command_numbered commands number ≡ Some command
  pub high : number ≡ command.number
  pub meets : P (request_of command.what)

found_here : (P : Request → Type 0) (number : ℕ) (command : Command) (others : List Command) → command.number ≡ number
    → P (request_of command.what) → IsFound P number (command ∷ others)
found_here P number command others is meets = record {
  command = command;
  found = rw (eq-eqb command.number number is) refl;
  high = sym is;
  meets = meets;
}

found_behind : (P : Request → Type 0) (number : ℕ) (command : Command) (others : List Command) → command.number < number
    → IsFound P number others → IsFound P number (command ∷ others)
found_behind P number command others below f = record {
  command = f.command;
  found = let other : command.number == number ≡ false = ne_eqb command.number number (λ e. absurd (omega arith)) in rw other f.found;
  high = f.high;
  meets = f.meets;
}

-- what was fed there is found, and no number below the first is
abbrev Finds : (Request → Type 0) → ℕ → ℕ → List Command → Type 0
Finds P number low commands = (low ≤ number) × IsFound P number commands

finds_behind : (P : Request → Type 0) (number low : ℕ) (command : Command) (others : List Command) → AscendFrom low (command ∷ others)
    → Finds P number (command.number + 1) others → Finds P number low (command ∷ others)
finds_behind P number low command others ascend f =
    let above : command.number + 1 ≤ number = f.0 in
    let from : low ≤ command.number = ascend.0 in
    (omega arith, found_behind P number command others (omega arith) f.1)

finds_here : (P : Request → Type 0) (number low : ℕ) (first : Input) (inputs : List Input) → AscendFrom low (commands_in (first ∷ inputs))
    → IsCommandThat P number first → Finds P number low (commands_in (first ∷ inputs))
finds_here P number low (Fed command) inputs ascend is = (
  let from : low ≤ command.number = ascend.0 in let same : command.number ≡ number = is.0 in omega arith,
  found_here P number command (commands_in inputs) is.0 is.1,
)
finds_here P number low (Late command) inputs ascend is = (
  let from : low ≤ command.number = ascend.0 in let same : command.number ≡ number = is.0 in omega arith,
  found_here P number command (commands_in inputs) is.0 is.1,
)
finds_here P number low (Packet port stamp packet) inputs ascend is = absurd is
finds_here P number low (Tick seconds) inputs ascend is = absurd is

pub finds : (P : Request → Type 0) (number low : ℕ) (inputs : List Input) (place : ℕ) (input : Input) → AscendFrom low (commands_in inputs)
    → slice_get inputs place ≡ Some input → IsCommandThat P number input → Finds P number low (commands_in inputs)
finds P number low [] place input ascend there is = cc
finds P number low (Fed command ∷ inputs) (suc place) input ascend there is =
    finds_behind P number low command (commands_in inputs) ascend (finds P number (command.number + 1) inputs place input ascend.1 there is)
finds P number low (Late command ∷ inputs) (suc place) input ascend there is =
    finds_behind P number low command (commands_in inputs) ascend (finds P number (command.number + 1) inputs place input ascend.1 there is)
finds P number low (Packet port stamp packet ∷ inputs) (suc place) input ascend there is =
    finds P number low inputs place input ascend there is
finds P number low (Tick seconds ∷ inputs) (suc place) input ascend there is = finds P number low inputs place input ascend there is
finds P number low (first ∷ inputs) zero input ascend there is =
    let same : first ≡ input = cc in finds_here P number low first inputs ascend (subst (IsCommandThat P number) (sym same) is)
