-- ng_ether(4).
use Rattle.std.specs.Prelude.{List, [], ◌∷◌, ◌+◌, codes}
use Rattle.ng_table.specs.Message.{Message, message, read_only, has_answer, none, u32}

abbrev pub ether_messages : List Message
ether_messages =
    message (codes "setpromisc") 1 u32 none
    ∷ message (codes "getpromisc") (2 + read_only + has_answer) none u32
    ∷ message (codes "setautosrc") 3 u32 none
    ∷ message (codes "getautosrc") (4 + read_only + has_answer) none u32
    ∷ []
