-- What a message by its name does at a node.
use Rattle.std.proofs.Common.{◌≡◌, ℕ, List, sym, ap, ◌∙◌}
use Rattle.std.specs.declared.option.Option.{Option}
use Rattle.std.specs.declared.option.Option.TheVariants.{Some}
use Rattle.ng_base.specs.declared.ids.NodeId.{NodeId}
use Rattle.ng_base.specs.declared.kind.Kind.{Kind}
use Rattle.ng_machine.specs.Feed.{Reading, RunInput, ask_read, ask_row}
use Rattle.ng_machine.specs.World.{NodeRecord, World, kind_at, node_at}
use Rattle.ng_table.specs.reading.Reading.{reading}

-- what is read for the kind of the node that is there decides
pub row_read : (given : RunInput) (w : World) (command : ℕ) (to : NodeId) (node : NodeRecord) (kind : Kind) (name text : List ℕ) (x : Reading) → given.reading ≡ reading → node_at w to ≡ Some node
    → kind_at node ≡ kind → reading kind name text ≡ x → ask_row given w command to (node_at w to) name text ≡ ask_read w command to (node_at w to) name x
row_read given w command to node kind name text x r here k e =
    let by : given.reading (kind_at node) name text ≡ x =
    ap (λ (f : Kind → List ℕ → List ℕ → Reading). f (kind_at node) name text) r ∙ ap (λ (z : Kind). reading z name text) k ∙ e in
    ap (λ (o : Option NodeRecord). ask_row given w command to o name text) here
    ∙ ap (λ (y : Reading). ask_read w command to (Some node) name y) by
    ∙ ap (λ (o : Option NodeRecord). ask_read w command to o name x) (sym here)
