-- Both lists are of the same entries.
use Rattle.ng_topology.proofs.SoundLemmas.{as_many, home_is_there}
use Rattle.ng_topology.proofs.places.Places.soundness.Goals as goal

pub returns-clause-homes : goal.returns-clause-homes
returns-clause-homes g c = rw (← c.self.view_is) (as_many c.self.inside.entries.items)

pub returns-clause-there : goal.returns-clause-there
returns-clause-there g c = rw (← c.self.view_is) (λ id home. home_is_there c.self.inside.entries.items id.0 home)
