-- What a line asks for: the form of each command of ngctl(8), and why a line has none.
use Rattle.std.specs.Prelude.{ℕ, Bool, true, false, not, nat_lt, is_some, if◌then◌else◌, List, [], ◌∷◌, ◌++◌, codes, Option, Some, None, Result, Ok, Err}
use Rattle.std.specs.List.{list_all}
use Rattle.std.specs.Str.{bytes_eq}
use Rattle.ng_base.specs.Name.{is_name}
use Rattle.ng_machine.specs.declared.command.What.{What}
use Rattle.ng_machine.specs.declared.command.What.TheVariants as asks
use Rattle.ng_path.specs.Address.{read_address}
use Rattle.ng_parse.specs.Tokens.{number_in}
use Rattle.ngctl_script.specs.Words.{words_in, past_words}
use Rattle.ngctl_script.specs.declared.verb.Verb.{Verb}
use Rattle.ngctl_script.specs.declared.verb.Verb.TheVariants.{Config, Connect, Help, List as Lists, Mkpeer, Msg, Name, Quit, Rmhook, Show, Shutdown, Status, Types, Write}
use Rattle.ngctl_script.specs.Commands.{usage, named}

-- Refusals come in one order: of the words, of names, of addresses, of bytes. Names and addresses are those of
-- netgraph(4); that one refusal is told, and which, is this project's choice.

abbrev pub is_path : List ℕ → Bool
is_path word = is_some (read_address word)

abbrev pub in_form : List (List ℕ) → List (List ℕ) → What → What
in_form names paths what =
    if not (list_all is_name names) then asks.Bad (codes "bad name")
    else if not (list_all is_path paths) then asks.Bad (codes "bad path")
    else what

abbrev pub unusual : Verb → What
unusual verb = asks.Bad (codes "usage: " ++ usage verb)

-- a byte is an integer from 0 to 255, in the forms that strtoul(3) reads: decimal, `0x` and hexadecimal, `0` and octal
abbrev pub byte_of : Option ℕ → Option ℕ
byte_of None = None
byte_of (Some n) = if nat_lt n 256 then Some n else None

abbrev pub with_byte : Option ℕ → Option (List ℕ) → Option (List ℕ)
with_byte None bytes = None
with_byte (Some byte) None = None
with_byte (Some byte) (Some bytes) = Some (byte ∷ bytes)

abbrev pub bytes_in : List (List ℕ) → Option (List ℕ)
bytes_in [] = Some []
bytes_in (word ∷ words) = with_byte (byte_of (number_in word)) (bytes_in words)

abbrev pub write_of : List ℕ → Option (List ℕ) → What
write_of hook None = asks.Bad (codes "bad byte")
write_of hook (Some bytes) = asks.Write hook bytes

-- `help` of one word reads that word as the first word of a line
abbrev pub help_of : List ℕ → Result Verb (List ℕ) → What
help_of word (Ok verb) = asks.Help (Some word)
help_of word (Err why) = asks.Bad why

-- Optional words are dealt out by the number of words, as ngctl(8) does: `show -n` asks for the address `-n`.

abbrev pub config_of : List ℕ → List (List ℕ) → What
config_of line (path ∷ args) = in_form [] (path ∷ []) (asks.Config path (past_words 2 line))
config_of line [] = unusual Config

abbrev pub connect_of : List (List ℕ) → What
connect_of (relpath ∷ hook ∷ peerhook ∷ []) = in_form (hook ∷ peerhook ∷ []) (relpath ∷ []) (asks.Connect None relpath hook peerhook)
connect_of (path ∷ relpath ∷ hook ∷ peerhook ∷ []) = in_form (hook ∷ peerhook ∷ []) (path ∷ relpath ∷ []) (asks.Connect (Some path) relpath hook peerhook)
connect_of _ = unusual Connect

abbrev pub help_words : List (List ℕ) → What
help_words [] = asks.Help None
help_words (word ∷ []) = help_of word (named word)
help_words (word ∷ next ∷ words) = unusual Help

abbrev pub list_of : List (List ℕ) → What
list_of [] = asks.List false
list_of (word ∷ []) = if bytes_eq word (codes "-n") then asks.List true else unusual Lists
list_of (word ∷ next ∷ words) = unusual Lists

abbrev pub mkpeer_of : List (List ℕ) → What
mkpeer_of (kind ∷ hook ∷ peerhook ∷ []) = in_form (kind ∷ hook ∷ peerhook ∷ []) [] (asks.Mkpeer None kind hook peerhook)
mkpeer_of (path ∷ kind ∷ hook ∷ peerhook ∷ []) = in_form (kind ∷ hook ∷ peerhook ∷ []) (path ∷ []) (asks.Mkpeer (Some path) kind hook peerhook)
mkpeer_of _ = unusual Mkpeer

abbrev pub msg_of : List ℕ → List (List ℕ) → What
msg_of line (path ∷ command ∷ args) = in_form [] (path ∷ []) (asks.Msg path command (past_words 3 line))
msg_of line _ = unusual Msg

abbrev pub name_of : List (List ℕ) → What
name_of (path ∷ name ∷ []) = in_form (name ∷ []) (path ∷ []) (asks.Name path name)
name_of _ = unusual Name

abbrev pub rmhook_of : List (List ℕ) → What
rmhook_of (hook ∷ []) = in_form (hook ∷ []) [] (asks.Rmhook None hook)
rmhook_of (path ∷ hook ∷ []) = in_form (hook ∷ []) (path ∷ []) (asks.Rmhook (Some path) hook)
rmhook_of _ = unusual Rmhook

abbrev pub show_of : List (List ℕ) → What
show_of (path ∷ []) = in_form [] (path ∷ []) (asks.Show false path)
show_of (flag ∷ path ∷ []) = if bytes_eq flag (codes "-n") then in_form [] (path ∷ []) (asks.Show true path) else unusual Show
show_of _ = unusual Show

abbrev pub one_path : Verb → (List ℕ → What) → List (List ℕ) → What
one_path verb what (path ∷ []) = in_form [] (path ∷ []) (what path)
one_path verb what _ = unusual verb

abbrev pub no_words : Verb → What → List (List ℕ) → What
no_words verb what [] = what
no_words verb what (word ∷ words) = unusual verb

abbrev pub write_words : List (List ℕ) → What
write_words (hook ∷ byte ∷ bytes) = in_form (hook ∷ []) [] (write_of hook (bytes_in (byte ∷ bytes)))
write_words _ = unusual Write

abbrev pub asked : Verb → List ℕ → List (List ℕ) → What
asked Config line words = config_of line words
asked Connect line words = connect_of words
asked Help line words = help_words words
asked Lists line words = list_of words
asked Mkpeer line words = mkpeer_of words
asked Msg line words = msg_of line words
asked Name line words = name_of words
asked Quit line words = no_words Quit asks.Quit words
asked Rmhook line words = rmhook_of words
asked Show line words = show_of words
asked Shutdown line words = one_path Shutdown (λ path. asks.Shutdown path) words
asked Status line words = one_path Status (λ path. asks.Status path) words
asked Types line words = no_words Types asks.Types words
asked Write line words = write_words words

abbrev pub asked_by : Result Verb (List ℕ) → List ℕ → List (List ℕ) → What
asked_by (Ok verb) line words = asked verb line words
asked_by (Err why) line words = asks.Bad why

abbrev pub what_of_words : List ℕ → List (List ℕ) → What
what_of_words line [] = asks.Bad (codes "unknown command")
what_of_words line (first ∷ words) = asked_by (named first) line words

-- what the line of a command asks for
abbrev pub what_of : List ℕ → What
what_of line = what_of_words line (words_in line)
