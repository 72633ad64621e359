-- ng_patch(4).
use Rattle.std.specs.Prelude.{List, [], ◌∷◌, ◌+◌, codes}
use Rattle.ng_shape.specs.Shape.{Shape}
use Rattle.ng_table.specs.Message.{Message, message, read_only, has_answer, none, u16, u32, u64, structure, counted_by}

-- struct ng_patch_op
abbrev pub patch_operation : Shape
patch_operation = structure ((codes "offset", u32) ∷ (codes "length", u16) ∷ (codes "mode", u16) ∷ (codes "value", u64) ∷ [])

-- struct ng_patch_config
abbrev pub patch_config : Shape
patch_config = structure ((codes "count", u32) ∷ (codes "csum_flags", u32) ∷ (codes "ops", counted_by (codes "count") 128 patch_operation) ∷ [])

abbrev pub patch_messages : List Message
patch_messages =
    message (codes "setconfig") 1 patch_config none
    ∷ message (codes "getconfig") (2 + read_only + has_answer) none patch_config
    ∷ []
