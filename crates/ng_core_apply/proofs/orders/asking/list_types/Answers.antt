use Rattle.std.proofs.Common.{◌++◌, List, ℕ, flat_map, sym, ap, ◌∙◌}
use Rattle.byteorder.specs.Endian.{little_bytes}
use Rattle.ng_base.specs.Kind.{kind_text, kinds}
use Rattle.ng_machine.specs.Generic.{type_info}
use Rattle.ng_message.specs.Fields.{name_field}
use Rattle.ng_core_apply.specs.orders.Asked.{type_bytes}
use Rattle.ng_core_apply.proofs.orders.Lists.{counted, flat_same}
use Rattle.ng_topology.specs.Topology.{world_of}
use Rattle.ng_core_apply.proofs.orders.asking.list_types.Goals as goal

pub returns : goal.returns
returns g c =
    c.in_ok-put_types.ensures
    ∙ ap (λ (l : List ℕ). l ++ flat_map (type_bytes c.count_kinds-counts.result) kinds) (c.in_ok-put_u32.ensures.ok ∙ ap (λ (l : List ℕ). l ++ little_bytes 4 14) c.new-out.ensures.items)
    ∙ ap (λ (l : List ℕ). little_bytes 4 14 ++ l)
    (flat_same (type_bytes c.count_kinds-counts.result) (type_info (world_of c.args.graph.now.nodes)) kinds (λ kind. ap (λ (n : ℕ). name_field (kind_text kind) ++ little_bytes 4 n) (c.count_kinds-counts.ensures kind)))
    ∙ sym (counted (type_info (world_of c.args.graph.now.nodes)) kinds)
