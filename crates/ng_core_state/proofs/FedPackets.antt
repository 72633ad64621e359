-- A packet comes by a port.
use Rattle.std.proofs.Common.{◌≡◌, ℕ, zero, suc, ◌+◌, ◌<◌, List, [], ◌∷◌, length, map, set, get_or, slice_get, is_some, refl, sym, ap, ◌∙◌, arith, true≢false}
use Rattle.std.proofs.lemmas.List.{map-set}
use Rattle.std.specs.declared.option.Option.{Option}
use Rattle.std.specs.declared.option.Option.TheVariants.{None, Some}
use Rattle.ng_base.specs.declared.ids.NodeId.{NodeId}
use Rattle.ng_base.specs.declared.ids.Stamp.{Stamp}
use Rattle.ng_base.specs.declared.kind.Kind.{Kind}
use Rattle.ng_machine.specs.declared.body.Body.{Body}
use Rattle.ng_machine.specs.Change.{accept, accept_at}
use Rattle.ng_machine.specs.World.{World, NodeRecord, Port, blank_port, node_at, kind_at}
use Rattle.ng_core_state.specs.declared.state.Port.{Port as KeptPort}
use Rattle.ng_core_state.specs.Stands.{port_of}

pub some_get : {A : Type 0} (xs : List A) (n : ℕ) → n < length xs → (x : A) × (slice_get xs n ≡ Some x)
some_get [] n lt = absurd (omega arith)
some_get (x ∷ xs) zero lt = (x, refl)
some_get (x ∷ xs) (suc n) lt = some_get xs n (omega arith)

get_map : (ps : List KeptPort) (n : ℕ) (kept : KeptPort) → slice_get ps n ≡ Some kept → get_or (map port_of ps) n blank_port ≡ port_of kept
get_map [] n kept e = absurd (true≢false (sym (ap is_some e)))
get_map (p ∷ ps) zero kept e = let k : p ≡ kept = cc in ap port_of k
get_map (p ∷ ps) (suc n) kept e = get_map ps n kept e

pub ports_fed : (ps qs : List KeptPort) (ws : List Port) (n : ℕ) (kept : KeptPort) → slice_get ps n ≡ Some kept → map port_of ps ≡ ws → qs ≡ set ps n (record kept { fed = kept.fed + 1 })
    → map port_of qs ≡ set ws n (record (get_or ws n blank_port) { fed = (get_or ws n blank_port).fed + 1 })
ports_fed ps qs ws n kept at is e =
    let here : port_of kept ≡ get_or ws n blank_port = sym (get_map ps n kept at) ∙ ap (λ (l : List Port). get_or l n blank_port) is in
    ap (map port_of) e ∙ map-set port_of ps n (record kept { fed = kept.fed + 1 }) ∙ ap (λ (l : List Port). set l n (port_of (record kept { fed = kept.fed + 1 }))) is
    ∙ ap (λ (p : Port). set ws n (record p { fed = p.fed + 1 })) here

pub accepts_at : (w : World) (to : NodeId) (node : NodeRecord) (kind : Kind) (body : Body) (stamp : Stamp) → node_at w to ≡ Some node → kind_at node ≡ kind → accept w to kind body None stamp ≡ accept_at w to (node_at w to) body None stamp
accepts_at w to node kind body stamp here k =
    ap (λ (z : Kind). accept w to z body None stamp) (sym k) ∙ ap (λ (o : Option NodeRecord). accept_at w to o body None stamp) (sym here)
