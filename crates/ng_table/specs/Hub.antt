-- ng_hub(4).
use Rattle.std.specs.Prelude.{List, [], ◌∷◌, codes}
use Rattle.ng_table.specs.Message.{Message, message, none}

abbrev pub hub_messages : List Message
hub_messages = message (codes "setpersistent") 1 none none ∷ []
