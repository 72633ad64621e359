-- The boxes that each example has.
use Rattle.std.specs.Prelude.{List, [], ◌∷◌}
use Rattle.ng_base.specs.declared.kind.Kind.{Kind}
use Rattle.ng_base.specs.declared.kind.Kind.TheVariants.{Socket, Ether, Hub, Hole, Bridge, Echo}

abbrev pub stocked : List Kind
stocked = Socket ∷ Ether ∷ Ether ∷ Hub ∷ Hub ∷ Hub ∷ Hole ∷ Hole ∷ Bridge ∷ Echo ∷ []
