-- What a core's type keeps: a sound story over inputs that are few enough, a seat at least, low numbers, fields that stand for its
-- run, and a journal with room for the end of all that is taken and for a Stop.
use Rattle.std.specs.Prelude.{◌≡◌, ◌+◌, ◌<◌, ◌≤◌, None}
use Rattle.ng_machine.specs.LowRun.{IsLow, IsModest}
use Rattle.ng_machine.specs.story.SoundStory.{IsSoundStory}
use Rattle.ng_machine.specs.story.Story.{run_state_of, world_of}
use Rattle.ng_core_state.specs.Stands.{Stands}
use Rattle.ng_core.specs.CoreStory.{CoreStory, setting_of, story}
use Rattle.ng_core.specs.declared.machine.Parts.{Parts}

abbrev pub story_in : {B : Type 0} → Parts B → CoreStory
story_in c = record {
  own = c.own;
  ports = c.ports.items;
  stock = c.stock.items;
  budget = c.budget;
  seats = c.seats;
  inputs = c.inputs.items;
  journal = c.journal.items;
  gave_up = c.gave_up.items;
  closed = c.closed;
}

pub record IsKept {B : Type 0} (c : Parts B) : Type 0 where
  pub sound : IsSoundStory (story (story_in c))
  pub modest : IsModest (setting_of (story_in c))
  pub low : IsLow (world_of (story (story_in c)))
  pub some : 0 < c.seats
  pub stands : Stands c.state (run_state_of (story (story_in c)))
  pub room : c.closed ≡ None → c.state.pending.out + 1 ≤ c.journal.room
