-- The words of a run: `[-w WORKERS] [-b BUDGET] [-n NAME] [-j JOURNAL] SCRIPT [PORT=IN,OUT ..]`, or `-g N` and no SCRIPT
-- and no ports.
use Rattle.std.specs.Prelude.{ℕ, Bool, ◌&&◌, if◌then◌else◌, List, [], ◌∷◌, ◌++◌, codes, map, Option, Some, None}
use Rattle.ng_args.specs.declared.run.TheConstants.{DEFAULT_BUDGET, MAX_BUDGET, MAX_PACKETS, MAX_WORKERS}
use Rattle.ng_args.specs.declared.port.PortWord.{PortWord}
use Rattle.ng_args.specs.declared.port.PortForm.TheVariants.{InAndOut}
use Rattle.ng_args.specs.declared.words.Source.{Source}
use Rattle.ng_args.specs.declared.words.Source.TheVariants.{FromFiles, Made}
use Rattle.ng_args.specs.declared.words.Words.{Words}
use Rattle.ng_decimal.specs.Decimal.{number_from}
use Rattle.ng_args.specs.Names.{node_name, file_name}
use Rattle.ng_args.specs.Ports.{ports_of}
use Rattle.ng_args.specs.Options.{Cut, cut_of, value_of}
use Rattle.ng_args.specs.Together.{are_ports, are_files, ins, outs}

-- what an option says, or what holds where it isn't given; None where its value isn't in form
abbrev pub unless_given : {A : Type 0} → A → (List ℕ → Option A) → Option (List ℕ) → Option A
unless_given default read None = Some default
unless_given default read (Some value) = read value

abbrev pub journal_name : List ℕ → Option (Option (List ℕ))
journal_name [] = None
journal_name (b ∷ bytes) = Some (Some (b ∷ bytes))

abbrev pub with_ports : Option (List ℕ) → Option (List PortWord) → Option Source
with_ports None ports = None
with_ports (Some script) None = None
with_ports (Some script) (Some ports) = Some (FromFiles script ports)

abbrev pub from_files : List (List ℕ) → Option Source
from_files [] = None
from_files (script ∷ words) = with_ports (file_name script) (ports_of InAndOut words)

abbrev pub made_of : Option ℕ → List (List ℕ) → Option Source
made_of None words = None
made_of (Some packets) [] = Some (Made packets)
made_of (Some packets) (word ∷ words) = None

-- with `-g` a run's inputs are made, and no other word stands there
abbrev pub source_by : Option (List ℕ) → List (List ℕ) → Option Source
source_by None words = from_files words
source_by (Some value) words = made_of (number_from 1 MAX_PACKETS value) words

abbrev pub settle : Option ℕ → Option ℕ → Option (List ℕ) → Option (Option (List ℕ)) → Option Source → Option Words
settle (Some workers) (Some budget) (Some own) (Some journal) (Some source) =
    Some (record { workers = workers; budget = budget; own_name = own; journal = journal; source = source })
settle _ _ _ _ _ = None

-- what the words say, each by itself
abbrev pub said : Cut → Option Words
said cut = settle
    (unless_given 0 (number_from 0 MAX_WORKERS) (value_of (codes "-w") cut.settings))
    (unless_given DEFAULT_BUDGET (number_from 1 MAX_BUDGET) (value_of (codes "-b") cut.settings))
    (unless_given (codes "ngctl") node_name (value_of (codes "-n") cut.settings))
    (unless_given None journal_name (value_of (codes "-j") cut.settings))
    (source_by (value_of (codes "-g") cut.settings) cut.others)

-- the ports whose inputs are made have no files
abbrev pub made_ports : List PortWord
made_ports = map (λ name. record { name = name; in_file = []; out_file = [] }) (codes "em0" ∷ codes "em1" ∷ codes "em2" ∷ [])

abbrev pub ports_from : Source → List PortWord
ports_from (FromFiles script ports) = ports
ports_from (Made packets) = made_ports

abbrev pub script_from : Source → List (List ℕ)
script_from (FromFiles script ports) = script ∷ []
script_from (Made packets) = []

abbrev pub listed : Option (List ℕ) → List (List ℕ)
listed None = []
listed (Some name) = name ∷ []

-- the files that a run writes
abbrev pub written_files : Words → List (List ℕ)
written_files words = outs (ports_from words.source) ++ listed words.journal

-- those that it reads
abbrev pub read_files : Words → List (List ℕ)
read_files words = script_from words.source ++ ins (ports_from words.source)

-- names of nodes differ, and a file that is written has a name of its own
abbrev pub are_words : Words → Bool
are_words words = are_ports words.own_name (ports_from words.source) && are_files (written_files words) (read_files words)

abbrev pub if_words : Option Words → Option Words
if_words None = None
if_words (Some words) = if are_words words then Some words else None

abbrev pub words_by : Option Cut → Option Words
words_by None = None
words_by (Some cut) = if_words (said cut)

-- what a command line says, where its words are in form
abbrev pub words_of : List (List ℕ) → Option Words
words_of words = words_by (cut_of words)
