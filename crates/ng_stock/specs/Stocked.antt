-- How many nodes of which types the program has.
use Rattle.std.specs.Prelude.{List, [], ◌∷◌, ◌++◌, replicate, flat_map}
use Rattle.ng_base.specs.declared.kind.Kind.{Kind}
use Rattle.ng_base.specs.declared.kind.Kind.TheVariants.{Hub, Hole, Echo, Tee, Split, One2many, Bridge, Vlan, Patch, Bpf, Ether, Socket, Etf, Macset}

-- the types besides those that stand for the program itself and for its ports
abbrev pub inner_kinds : List Kind
inner_kinds = Hub ∷ Hole ∷ Echo ∷ Tee ∷ Split ∷ One2many ∷ Bridge ∷ Vlan ∷ Patch ∷ Bpf ∷ Etf ∷ Macset ∷ []

-- one socket for the program, 64 ethers, since there are at most 64 ports, and 256 nodes of each other type
abbrev pub stocked : List Kind
stocked = Socket ∷ replicate 64 Ether ++ flat_map (λ kind. replicate 256 kind) inner_kinds
