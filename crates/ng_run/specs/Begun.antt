-- The core that a run begins with.
use Rattle.std.specs.Prelude.{ℕ, List, map}
use Rattle.ng_base.specs.declared.kind.Kind.{Kind}
use Rattle.ng_core.specs.Beginning.{begun_core}
use Rattle.ng_core.specs.CoreStory.{CoreStory}
use Rattle.ng_args.specs.declared.words.Words.{Words}
use Rattle.ng_args.specs.Run.{ports_from}

-- the core as it is made by what the words say, with blank nodes of these kinds and so many seats
abbrev pub begun_by : List Kind → Words → ℕ → CoreStory
begun_by kinds words seats = begun_core words.own_name (map (λ port. port.name) (ports_from words.source)) kinds words.budget seats
