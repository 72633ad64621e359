-- ng_etf(4), with counters of 64 bits and a table that can be read: the profile of it that this project has.
use Rattle.std.specs.Prelude.{List, [], ◌∷◌, ◌+◌, codes}
use Rattle.ng_shape.specs.Shape.{Shape}
use Rattle.ng_machine.specs.kinds.Etf.{most_filters}
use Rattle.ng_table.specs.Message.{Message, message, read_only, has_answer, none, u16, u32, s32, structure, counted_by, counters}

-- struct ng_etffilter
abbrev pub etf_filter : Shape
etf_filter = structure ((codes "matchhook", s32) ∷ (codes "ethertype", u16) ∷ [])

-- struct ng_etfstat
abbrev pub etf_status : Shape
etf_status = counters (codes "inFrames" ∷ codes "outFrames" ∷ [])

abbrev pub etf_table : Shape
etf_table = structure ((codes "n", u32) ∷ (codes "filter", counted_by (codes "n") most_filters etf_filter) ∷ [])

abbrev pub etf_messages : List Message
etf_messages =
    message (codes "setfilter") 1 etf_filter none
    ∷ message (codes "getstatus") (2 + has_answer) none etf_status
    ∷ message (codes "gettable") (3 + read_only + has_answer) none etf_table
    ∷ []
