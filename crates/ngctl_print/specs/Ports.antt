-- The line of a port.
use Rattle.std.specs.Prelude.{ℕ, List, [], ◌++◌, codes, Option, Some, None}
use Rattle.std.specs.Fmt.{decimal}
use Rattle.ng_machine.specs.declared.totals.PortTotals.{PortTotals}
use Rattle.ngctl_print.specs.Dump.{line_feed}

-- where the capture that came in was cut
abbrev pub cut_words : Option ℕ → List ℕ
cut_words None = []
cut_words (Some place) = codes ", capture cut at byte " ++ decimal place

unfoldable pub port_words : List ℕ → PortTotals → List ℕ
port_words name totals =
    codes "port " ++ (name ++ (codes ": in " ++ (decimal totals.fed ++ (codes ", left " ++ (decimal totals.left
    ++ (codes ", up " ++ decimal totals.up))))))

abbrev pub port_line : List ℕ → PortTotals → Option ℕ → List ℕ
port_line name totals cut = port_words name totals ++ (cut_words cut ++ line_feed)
