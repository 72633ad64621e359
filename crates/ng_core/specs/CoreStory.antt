-- What a contract sees of a core: what it was made of and fed, its journal, who gave up, and how it was closed. Messages are read
-- by the table, so that the story of a core is its own.
use Rattle.std.specs.Prelude.{ℕ, Bool, List, Option}
use Rattle.ng_base.specs.declared.event.Event.{Event}
use Rattle.ng_base.specs.declared.kind.Kind.{Kind}
use Rattle.ng_machine.specs.declared.input.Input.{Input}
use Rattle.ng_machine.specs.Laws.{Setting}
use Rattle.ng_table.specs.reading.Reading.{given}
use Rattle.ng_machine.specs.story.Story.{Story}

pub record CoreStory : Type 0 where
  pub own : List ℕ
  pub ports : List (List ℕ)
  pub stock : List Kind
  pub budget : ℕ
  pub seats : ℕ
  pub inputs : List Input
  pub journal : List Event
  pub gave_up : List Bool
  pub closed : Option ℕ

abbrev pub setting_of : CoreStory → Setting
setting_of c = record { own = c.own; ports = c.ports; stock = c.stock; given = given c.inputs; budget = c.budget; seats = c.seats }

-- the story in the words of the contracts
abbrev pub story : CoreStory → Story
story c = record { setting = setting_of c; journal = c.journal; gave_up = c.gave_up; closed = c.closed }
