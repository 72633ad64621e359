-- macset, a type of this project's own: a set of Ethernet addresses.
use Rattle.std.specs.Prelude.{List, [], ◌∷◌, ◌+◌, codes}
use Rattle.ng_shape.specs.Shape.{Shape, Ether}
use Rattle.ng_machine.specs.kinds.Macset.{most_addresses}
use Rattle.ng_table.specs.Message.{Message, message, read_only, has_answer, none, u32, structure, counted_by, counters}

abbrev pub macset_table : Shape
macset_table = structure ((codes "n", u32) ∷ (codes "addr", counted_by (codes "n") most_addresses Ether) ∷ [])

-- frames whose source is in the set, and other frames
abbrev pub macset_stats : Shape
macset_stats = counters (codes "knownFrames" ∷ codes "otherFrames" ∷ [])

abbrev pub macset_messages : List Message
macset_messages =
    message (codes "add") 1 Ether none
    ∷ message (codes "del") 2 Ether none
    ∷ message (codes "gettable") (3 + read_only + has_answer) none macset_table
    ∷ message (codes "getstats") (4 + has_answer) none macset_stats
    ∷ []
