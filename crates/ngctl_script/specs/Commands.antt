-- The commands of ngctl(8): their names and usages, in alphabetical order. Those for debugging are left out.
use Rattle.std.specs.Prelude.{ℕ, Bool, List, [], ◌∷◌, ◌++◌, length, codes, find, filter, Option, Some, None, Result, Ok, Err, take}
use Rattle.std.specs.Str.{bytes_eq}
use Rattle.ngctl_script.specs.declared.verb.Verb.{Verb}
use Rattle.ngctl_script.specs.declared.verb.Verb.TheVariants.{Config, Connect, Help, List as Lists, Mkpeer, Msg, Name, Quit, Rmhook, Show, Shutdown, Status, Types, Write}

abbrev pub verbs : List Verb
verbs = Config ∷ Connect ∷ Help ∷ Lists ∷ Mkpeer ∷ Msg ∷ Name ∷ Quit ∷ Rmhook ∷ Show ∷ Shutdown ∷ Status ∷ Types ∷ Write ∷ []

abbrev pub verb_text : Verb → List ℕ
verb_text Config = codes "config"
verb_text Connect = codes "connect"
verb_text Help = codes "help"
verb_text Lists = codes "list"
verb_text Mkpeer = codes "mkpeer"
verb_text Msg = codes "msg"
verb_text Name = codes "name"
verb_text Quit = codes "quit"
verb_text Rmhook = codes "rmhook"
verb_text Show = codes "show"
verb_text Shutdown = codes "shutdown"
verb_text Status = codes "status"
verb_text Types = codes "types"
verb_text Write = codes "write"

-- the words behind a command's name, those in brackets optional (ngctl(8))
abbrev pub operands : Verb → List ℕ
operands Config = codes " path [args]"
operands Connect = codes " [path] relpath hook peerhook"
operands Help = codes " [command]"
operands Lists = codes " [-n]"
operands Mkpeer = codes " [path] type hook peerhook"
operands Msg = codes " path command [args]"
operands Name = codes " path name"
operands Quit = []
operands Rmhook = codes " [path] hook"
operands Show = codes " [-n] path"
operands Shutdown = codes " path"
operands Status = codes " path"
operands Types = []
operands Write = codes " hook byte .."

abbrev pub usage : Verb → List ℕ
usage verb = verb_text verb ++ operands verb

-- A command is named in full, or by a prefix that no other command has, and the two refusals are in its words (ngctl(8)
-- finds a command in this way).

abbrev pub is_prefix : List ℕ → Verb → Bool
is_prefix word verb = bytes_eq word (take (length word) (verb_text verb))

abbrev pub only : List Verb → Result Verb (List ℕ)
only [] = Err (codes "unknown command")
only (verb ∷ []) = Ok verb
only (verb ∷ other ∷ more) = Err (codes "ambiguous command")

abbrev pub or_prefix : List ℕ → Option Verb → Result Verb (List ℕ)
or_prefix word None = only (filter (is_prefix word) verbs)
or_prefix word (Some verb) = Ok verb

-- the command of that name, or why there is none
abbrev pub named : List ℕ → Result Verb (List ℕ)
named word = or_prefix word (find (λ verb. bytes_eq (verb_text verb) word) verbs)
