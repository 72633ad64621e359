-- Worked examples of lists of inputs.
use Rattle.std.specs.Prelude.{◌≡◌, ℕ, ◌*◌, replicate, List, [], ◌∷◌, ◌++◌, codes, map, length}
use Rattle.std.specs.List.{flat_map}
use Rattle.ng_base.specs.declared.ids.Stamp.{Stamp}
use Rattle.ng_machine.specs.declared.input.Input.{Input}
use Rattle.ng_machine.specs.declared.input.Input.TheVariants.{Command, Late as LateCommand, Packet, Tick}
use Rattle.ngctl_script.specs.Script.{commands_of}
use Rattle.ngctl_script.specs.feed.Merge.{Packets}
use Rattle.ngctl_script.specs.feed.Inputs.{inputs_of}

-- an input as it is looked at: a command's number, a late one's, a packet's port and length, or seconds
pub data Seen : Type 0 where
  C L T : ℕ → Seen
  P : ℕ → ℕ → Seen

abbrev pub seen : Input → Seen
seen (Command command) = C command.number
seen (LateCommand command) = L command.number
seen (Packet port stamp packet) = P port (length packet)
seen (Tick n) = T n

-- a packet of a length, at so many tenths of a second
abbrev pub at : ℕ → ℕ → Stamp × List ℕ
at tenths len = (record { 0 = tenths * 100_000_000 }, replicate len 0)

-- what the lines of a script and captures are fed as
abbrev pub fed : List (List ℕ) → List Packets → List Seen
fed lines captures = map seen (inputs_of (commands_of (flat_map (λ line. line ++ 0x0a ∷ []) lines)) captures)

-- packets of two captures by their times, whole seconds apart, and two late commands
abbrev pub TwoPortsExample : Type 0
TwoPortsExample =
    fed (codes "mkpeer em0: bridge lower link0" ∷ codes "name em0:lower br0" ∷ codes "connect br0: em1: link1 lower"
    ∷ codes "@end" ∷ codes "show br0:" ∷ codes "msg br0: gettable" ∷ [])
    ((at 10 1 ∷ at 30 3 ∷ at 50 5 ∷ []) ∷ (at 20 2 ∷ at 40 4 ∷ at 60 6 ∷ []) ∷ [])
    ≡ C 1 ∷ C 2 ∷ C 3 ∷ P 0 1 ∷ T 1 ∷ P 1 2 ∷ T 1 ∷ P 0 3 ∷ T 1 ∷ P 1 4 ∷ T 1 ∷ P 0 5 ∷ T 1 ∷ P 1 6 ∷ L 4 ∷ L 5 ∷ []

-- six packets of one time, and a command behind the sixth
abbrev pub OneTimeExample : Type 0
OneTimeExample =
    fed (codes "mkpeer em0: hub lower l" ∷ codes "@6" ∷ codes "shutdown em0:lower" ∷ [])
    ((at 10 1 ∷ at 10 2 ∷ at 10 3 ∷ at 10 4 ∷ at 10 5 ∷ at 10 6 ∷ []) ∷ [])
    ≡ C 1 ∷ P 0 1 ∷ P 0 2 ∷ P 0 3 ∷ P 0 4 ∷ P 0 5 ∷ P 0 6 ∷ C 2 ∷ []

-- a command between packets of one second
abbrev pub BetweenExample : Type 0
BetweenExample =
    fed (codes "mkpeer em0: tee lower left" ∷ codes "name em0:lower t" ∷ codes "connect t: em1: right lower" ∷ codes "@2"
    ∷ codes "shutdown t:" ∷ codes "@end" ∷ codes "list" ∷ [])
    ((at 11 1 ∷ at 13 3 ∷ []) ∷ (at 12 2 ∷ at 14 4 ∷ []) ∷ [])
    ≡ C 1 ∷ C 2 ∷ C 3 ∷ P 0 1 ∷ P 1 2 ∷ C 4 ∷ P 0 3 ∷ P 1 4 ∷ L 5 ∷ []

-- a tick of many seconds
abbrev pub LongTickExample : Type 0
LongTickExample =
    fed (codes "mkpeer em0: bridge lower link0" ∷ codes "@end" ∷ codes "msg br0: getstats 1" ∷ [])
    ((at 10 1 ∷ []) ∷ (at 11 2 ∷ at 610 3 ∷ []) ∷ [])
    ≡ C 1 ∷ P 0 1 ∷ P 1 2 ∷ T 60 ∷ P 1 3 ∷ L 2 ∷ []

-- two and a half seconds are a tick of two
abbrev pub HalfSecondExample : Type 0
HalfSecondExample =
    fed (codes "mkpeer em0: hub lower a" ∷ codes "connect em0:lower em1: b lower" ∷ []) ((at 10 1 ∷ at 35 2 ∷ []) ∷ [] ∷ [])
    ≡ C 1 ∷ C 2 ∷ P 0 1 ∷ T 2 ∷ P 0 2 ∷ []

-- times that fall back, equal times, marks before the first packet and beyond the last one, and nothing behind `quit`
abbrev pub OddExample : Type 0
OddExample =
    fed (codes "types" ∷ codes "@0" ∷ codes "types" ∷ codes "@9" ∷ codes "types" ∷ codes "q" ∷ codes "types" ∷ [])
    ((at 30 1 ∷ at 10 2 ∷ []) ∷ (at 30 3 ∷ []) ∷ [])
    ≡ C 1 ∷ C 2 ∷ P 0 1 ∷ P 0 2 ∷ P 1 3 ∷ C 3 ∷ C 4 ∷ []

-- no packet at all
abbrev pub NoPacketExample : Type 0
NoPacketExample =
    (fed (codes "types" ∷ codes "@5" ∷ codes "types" ∷ codes "@end" ∷ codes "types" ∷ []) [] ≡ C 1 ∷ C 2 ∷ L 3 ∷ [])
    × (fed [] [] ≡ [])
