-- The types of nodes and their names. Each name is that of the manual page, ng_hub(4) and so on, without `ng_`.
use Rattle.std.specs.Prelude.{ℕ, Bool, ◌+◌, ◌==◌, List, [], ◌∷◌, codes, find, Option}
use Rattle.std.specs.Str.{bytes_eq}
use Rattle.ng_base.specs.declared.kind.Kind.{Kind}
use Rattle.ng_base.specs.declared.kind.Kind.TheVariants.{Hub, Hole, Echo, Tee, Split, One2many, Bridge, Vlan, Patch, Bpf, Ether, Socket, Etf, Macset}

abbrev pub kinds : List Kind
kinds = Hub ∷ Hole ∷ Echo ∷ Tee ∷ Split ∷ One2many ∷ Bridge ∷ Vlan ∷ Patch ∷ Bpf ∷ Ether ∷ Socket ∷ Etf ∷ Macset ∷ []

abbrev pub kind_text : Kind → List ℕ
kind_text Hub = codes "hub"
kind_text Hole = codes "hole"
kind_text Echo = codes "echo"
kind_text Tee = codes "tee"
kind_text Split = codes "split"
kind_text One2many = codes "one2many"
kind_text Bridge = codes "bridge"
kind_text Vlan = codes "vlan"
kind_text Patch = codes "patch"
kind_text Bpf = codes "bpf"
kind_text Ether = codes "ether"
kind_text Socket = codes "socket"
kind_text Etf = codes "etf"
kind_text Macset = codes "macset"

-- the kind of that name
abbrev pub kind_named : List ℕ → Option Kind
kind_named name = find (λ kind. bytes_eq (kind_text kind) name) kinds

-- the place of a kind among the kinds, from 0
abbrev pub kind_number : Kind → ℕ
kind_number Hub = 0
kind_number Hole = 1
kind_number Echo = 2
kind_number Tee = 3
kind_number Split = 4
kind_number One2many = 5
kind_number Bridge = 6
kind_number Vlan = 7
kind_number Patch = 8
kind_number Bpf = 9
kind_number Ether = 10
kind_number Socket = 11
kind_number Etf = 12
kind_number Macset = 13

abbrev pub same_kind : Kind → Kind → Bool
same_kind a b = kind_number a == kind_number b

-- the cookie of a type's own messages: this project's numbers, in the order of the types
abbrev pub cookie_of : Kind → ℕ
cookie_of kind = 0x4e470001 + kind_number kind
