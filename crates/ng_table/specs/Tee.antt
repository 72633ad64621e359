-- ng_tee(4).
use Rattle.std.specs.Prelude.{List, [], ◌∷◌, ◌+◌, codes}
use Rattle.ng_shape.specs.Shape.{Shape}
use Rattle.ng_table.specs.Message.{Message, message, has_answer, none, structure, counters}

-- struct ng_tee_hookstat
abbrev pub tee_hook_stats : Shape
tee_hook_stats = counters (codes "inOctets" ∷ codes "inFrames" ∷ codes "outOctets" ∷ codes "outFrames" ∷ [])

-- struct ng_tee_stats
abbrev pub tee_stats : Shape
tee_stats = structure (
    (codes "right", tee_hook_stats)
    ∷ (codes "left", tee_hook_stats)
    ∷ (codes "right2left", tee_hook_stats)
    ∷ (codes "left2right", tee_hook_stats)
    ∷ [])

abbrev pub tee_messages : List Message
tee_messages =
    message (codes "getstats") (1 + has_answer) none tee_stats
    ∷ message (codes "clrstats") 2 none none
    ∷ message (codes "getclrstats") (3 + has_answer) none tee_stats
    ∷ []
