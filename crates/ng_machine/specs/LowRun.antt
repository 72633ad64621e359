-- How many: in a run that applies at most ten million items over inputs that fit, no number comes near the end of its type. That
-- so many may be applied, and so many commands and ports be there, is this project's choice.
use Rattle.std.specs.Prelude.{ℕ, ◌+◌, ◌^◌, ◌<◌, ◌≤◌, List, [], ◌∷◌, length}
use Rattle.ng_base.specs.declared.event.Event.{Event}
use Rattle.ng_machine.specs.Words.{times}
use Rattle.ng_machine.specs.World.{World, Port}
use Rattle.ng_machine.specs.Change.{most_spool}
use Rattle.ng_machine.specs.Refusal.{is_command}
use Rattle.ng_machine.specs.Laws.{Setting, IsJournal, world_after}
use Rattle.ng_machine.specs.KnownRun.{AreFit}

abbrev pub most_budget : ℕ
most_budget = 10000000

abbrev pub most_ports : ℕ
most_ports = 64

abbrev pub most_commands : ℕ
most_commands = 4096

pub record IsModest (s : Setting) : Type 0 where
  pub budget : s.budget ≤ most_budget
  pub ports : length s.ports ≤ most_ports
  pub commands : times is_command s.given.inputs ≤ most_commands
  pub fits : AreFit s

-- a number of each port, all together
abbrev pub port_sum : (Port → ℕ) → List Port → ℕ
port_sum number [] = 0
port_sum number (port ∷ ports) = number port + port_sum number ports

-- packets that were fed at ports or handed to their hosts
abbrev pub outside_count : World → ℕ
outside_count w = port_sum (λ (port : Port). port.fed + port.up) w.ports

-- packets that were lost or refused
abbrev pub loss_count : World → ℕ
loss_count w = w.lost.no_peer + (w.lost.node_gone + (w.lost.full + (w.lost.spool + w.refused)))

pub record IsLow (w : World) : Type 0 where
  pub items : w.next_item < 2 ^ 50
  pub settled : length w.done + (length w.dropped + length w.pending) < 2 ^ 50
  pub nodes : length w.nodes < 2 ^ 24
  pub links : w.next_link < 2 ^ 24
  pub applies : w.applies ≤ most_budget
  pub losses : loss_count w < 2 ^ 50
  pub outside : outside_count w < 2 ^ 50
  pub spool : w.spool ≤ most_spool

abbrev pub RunsAreLow : Type 0
RunsAreLow = (s : Setting) (journal : List Event) → IsJournal s journal → IsModest s → IsLow (world_after s journal)
