-- The run of a script and captures that were read.
use Rattle.std.specs.Prelude.{◌≡◌, ℕ, ◌+◌, ◌≤◌, true, List, map, get_or}
use Rattle.ng_base.specs.declared.event.Event.{Event}
use Rattle.ng_base.specs.declared.kind.Kind.{Kind}
use Rattle.ng_machine.specs.declared.input.Input.{Input}
use Rattle.ng_machine.specs.Laws.{Setting, start, IsJournal, world_after}
use Rattle.ng_machine.specs.Orderly.{IsWhole}
use Rattle.ng_machine.specs.Plain.{IsPlain}
use Rattle.ng_machine.specs.SetUp.{has_waited}
use Rattle.ng_machine.specs.World.{World, Port, blank_port}
use Rattle.ngctl_script.specs.Script.{commands_of}
use Rattle.ngctl_script.specs.feed.Inputs.{inputs_of}
use Rattle.ng_table.specs.reading.Reading.{given}
use Rattle.ng_args.specs.declared.words.Words.{Words}
use Rattle.ng_args.specs.Run.{ports_from}
use Rattle.ng_call.specs.Found.{Found, captures_in}

-- the inputs of what was read
abbrev pub inputs_in : Found → List Input
inputs_in found = inputs_of (commands_of found.script) (map (λ capture. capture.kept) (captures_in found.captures))

-- A run of these inputs by what the words say, with blank nodes of these kinds. One seat feeds, and each worker has one.
abbrev pub setting_of : List Kind → Words → List Input → Setting
setting_of kinds words inputs = record {
  own = words.own_name;
  ports = map (λ port. port.name) (ports_from words.source);
  stock = kinds;
  given = given inputs;
  budget = words.budget;
  seats = words.workers + 1;
}

-- Orderly and whole. Without workers it is the plain journal; with them the first packet or tick waits for the set-up.
pub record IsRun (s : Setting) (workers : ℕ) (journal : List Event) : Type 0 where
  pub orderly : IsJournal s journal
  pub whole : IsWhole (start s) s.given journal
  pub plain : workers ≡ 0 → IsPlain (start s) s.given s.budget journal
  pub waits : 1 ≤ workers → has_waited s journal ≡ true

-- the same of what was read
abbrev pub setting_in : List Kind → Words → Found → Setting
setting_in kinds words found = setting_of kinds words (inputs_in found)

abbrev pub world_in : List Kind → Words → Found → List Event → World
world_in kinds words found journal = world_after (setting_in kinds words found) journal

-- a port by its place
abbrev pub port_at : List Port → ℕ → Port
port_at ports place = get_or ports place blank_port
