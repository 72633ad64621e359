-- The words of a replay, behind `--replay`: `BUDGET WORKERS NAME JOURNAL SCRIPT [PORT=IN ..]`.
use Rattle.std.specs.Prelude.{ℕ, Bool, ◌&&◌, if◌then◌else◌, List, [], ◌∷◌, Option, Some, None}
use Rattle.ng_args.specs.declared.port.PortWord.{PortWord}
use Rattle.ng_args.specs.declared.port.PortForm.TheVariants.{InAlone}
use Rattle.ng_args.specs.declared.run.TheConstants.{MAX_BUDGET, MAX_WORKERS}
use Rattle.ng_args.specs.declared.words.ReplayWords.{ReplayWords}
use Rattle.ng_decimal.specs.Decimal.{number_from}
use Rattle.ng_args.specs.Names.{node_name, file_name}
use Rattle.ng_args.specs.Lists.{are_undashed}
use Rattle.ng_args.specs.Ports.{ports_of}
use Rattle.ng_args.specs.Together.{are_ports, are_files, ins}

abbrev pub replay_said : Option ℕ → Option ℕ → Option (List ℕ) → Option (List ℕ) → Option (List ℕ) → Option (List PortWord) → Option ReplayWords
replay_said (Some budget) (Some workers) (Some own) (Some journal) (Some script) (Some ports) =
    Some (record { budget = budget; workers = workers; own_name = own; journal = journal; script = script; ports = ports })
replay_said _ _ _ _ _ _ = None

-- what the words say, each by itself
abbrev pub replay_parts : List (List ℕ) → Option ReplayWords
replay_parts (budget ∷ workers ∷ own ∷ journal ∷ script ∷ ports) = replay_said
    (number_from 1 MAX_BUDGET budget) (number_from 0 MAX_WORKERS workers) (node_name own) (file_name journal) (file_name script) (ports_of InAlone ports)
replay_parts _ = None

-- names of nodes differ, and the journal is none of the files beside it
abbrev pub are_replay_words : ReplayWords → Bool
are_replay_words words = are_ports words.own_name words.ports && are_files (words.journal ∷ []) (words.script ∷ ins words.ports)

abbrev pub if_replay_words : Option ReplayWords → Option ReplayWords
if_replay_words None = None
if_replay_words (Some words) = if are_replay_words words then Some words else None

abbrev pub replay_words_of : List (List ℕ) → Option ReplayWords
replay_words_of words = if are_undashed words then if_replay_words (replay_parts words) else None
