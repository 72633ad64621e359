-- Lines and words as code has them.
use Rattle.std.specs.Prelude.{◌≡◌, ℕ, ◌+◌, Bool, true, false, List, [], ◌∷◌, ◌++◌, None}
use Rattle.ng_machine.specs.declared.command.Command.{Command}
use Rattle.ngctl_script.specs.declared.when.When.{When}
use Rattle.ngctl_script.specs.declared.lines.Line.{Line as LineInCode}
use Rattle.ngctl_script.specs.declared.lines.Line.TheVariants as code
use Rattle.ngctl_script.specs.declared.words.Words.{Words}
use Rattle.ngctl_script.specs.declared.words.Words.TheVariants.{Zero, One, Two, Three, Four, More}
use Rattle.ngctl_script.specs.declared.reading.Reading.{Reading}
use Rattle.ngctl_script.specs.Lines.{Line, Skipped, Mark, Command as CommandLine, line_of}
use Rattle.ngctl_script.specs.Script.{Before, past, fault_of, commands_at}

abbrev pub line_seen : LineInCode → Line
line_seen code.Skipped = Skipped
line_seen (code.Mark mark) = Mark mark
line_seen (code.Command text) = CommandLine text.now

-- five words at least
abbrev pub AreMany : List (List ℕ) → Type 0
AreMany (a ∷ b ∷ c ∷ d ∷ e ∷ words) = Unit {0}
AreMany _ = ⊥

abbrev pub AreWords : Words → List (List ℕ) → Type 0
AreWords Zero words = words ≡ []
AreWords (One a) words = words ≡ a.now ∷ []
AreWords (Two a b) words = words ≡ a.now ∷ b.now ∷ []
AreWords (Three a b c) words = words ≡ a.now ∷ b.now ∷ c.now ∷ []
AreWords (Four a b c d) words = words ≡ a.now ∷ b.now ∷ c.now ∷ d.now ∷ []
AreWords More words = AreMany words

-- what stood before the next line
abbrev pub before_of : Reading → Before
before_of reading = record { when = reading.when; commands = reading.count }

-- the commands that were read, in front of those of the lines that follow
abbrev pub unless_over : Bool → List (When × Command) → List (When × Command) → List (When × Command)
unless_over true commands rest = commands
unless_over false commands rest = commands ++ rest

abbrev pub joined : Reading → List (When × Command) → List (When × Command)
joined reading rest = unless_over reading.is_over reading.commands.items rest

-- one line more was read, which has no fault
pub record IsNextReading (old : Reading) (line : List ℕ) (new : Reading) : Type 0 where
  pub sound : fault_of (old.number + 1) (before_of old) line ≡ None
  pub number : new.number ≡ old.number + 1
  pub before : before_of new ≡ past (before_of old) (line_of line)
  pub commands : (rest : List (When × Command)) → joined new rest ≡ joined old (commands_at (before_of old) (line_of line) rest)
