-- The parts of the text of a run.
use Rattle.std.specs.Prelude.{ℕ, Bool, if◌then◌else◌, List, [], ◌∷◌, ◌++◌, codes}
use Rattle.std.specs.Fmt.{decimal}
use Rattle.std.specs.List.{concat}
use Rattle.ng_base.specs.declared.errno.Errno.{Errno}
use Rattle.ng_base.specs.Errno.{errno_text}
use Rattle.ng_machine.specs.declared.totals.Totals.{Totals}
use Rattle.ngctl_print.specs.Dump.{line_feed, dump}

-- the line of a command that was fed
unfoldable pub command_line : List ℕ → List ℕ
command_line line = codes "+ " ++ (line ++ line_feed)

-- the words of a refusal; nothing where there are none
abbrev pub why_text : List ℕ → List ℕ
why_text [] = []
why_text (byte ∷ why) = codes " (" ++ (byte ∷ why ++ codes ")")

-- a command that was refused: the number of the error, its text and the words
unfoldable pub refused_line : Errno → List ℕ → List ℕ
refused_line errno why = codes "error " ++ (decimal errno.0 ++ (codes ": " ++ (errno_text errno.0 ++ (why_text why ++ line_feed))))

-- a packet that reached the socket by a hook: the hook, and the bytes
unfoldable pub frame_line : List ℕ → List ℕ
frame_line hook = codes "data on " ++ (hook ++ (codes ":" ++ line_feed))

abbrev pub frame_text : List ℕ → List ℕ → List ℕ
frame_text hook packet = frame_line hook ++ dump packet

-- the summary
abbrev pub stopped_words : Bool → List ℕ
stopped_words stopped = if stopped then codes ", stopped" else []

unfoldable pub fed_line : Totals → ℕ → ℕ → Bool → List ℕ
fed_line totals fed of stopped =
    codes "summary: fed " ++ (decimal fed ++ (codes " of " ++ (decimal of ++ (codes ", applied " ++ (decimal totals.applied
    ++ (codes ", data refused " ++ (decimal totals.refused ++ (stopped_words stopped ++ line_feed))))))))

unfoldable pub dropped_line : Totals → List ℕ
dropped_line totals =
    codes "dropped: node gone " ++ (decimal totals.node_gone ++ (codes ", hook gone " ++ (decimal totals.hook_gone
    ++ (codes ", budget " ++ (decimal totals.budget ++ line_feed)))))

unfoldable pub lost_line : Totals → List ℕ
lost_line totals =
    codes "lost: no peer " ++ (decimal totals.no_peer ++ (codes ", node gone " ++ (decimal totals.peer_gone
    ++ (codes ", full " ++ (decimal totals.full ++ (codes ", spool " ++ (decimal totals.spool ++ line_feed)))))))

unfoldable pub graph_line : Totals → List ℕ
graph_line totals = codes "graph: nodes " ++ (decimal totals.nodes ++ (codes ", hooks " ++ (decimal totals.hooks ++ line_feed)))

abbrev pub summary_lines : Totals → ℕ → ℕ → Bool → List (List ℕ)
summary_lines totals fed of stopped = fed_line totals fed of stopped ∷ dropped_line totals ∷ lost_line totals ∷ graph_line totals ∷ []

abbrev pub summary_text : Totals → ℕ → ℕ → Bool → List ℕ
summary_text totals fed of stopped = concat (summary_lines totals fed of stopped)
