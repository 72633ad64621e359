-- An ether has the number of a port's node: the ethers are there from the start, and none is made later.
use Rattle.std.proofs.Common.{◌≡◌, ℕ, Bool, true, false, List, [], ◌∷◌, ◌++◌, refl, sym, ap, arith, true≢false}
use Rattle.std.specs.declared.option.Option.{Option}
use Rattle.std.specs.declared.option.Option.TheVariants.{None, Some}
use Rattle.ng_base.specs.declared.errno.Errno.{Errno}
use Rattle.ng_base.specs.declared.ids.NodeId.{NodeId}
use Rattle.ng_base.specs.declared.kind.Kind.{Kind}
use Rattle.ng_machine.specs.declared.body.Body.{Body}
use Rattle.ng_machine.specs.declared.item.Item.{Item}
use Rattle.ng_machine.specs.Words.{Every}
use Rattle.ng_machine.specs.State.{kind_of_kept}
use Rattle.ng_machine.specs.World.{World, NodeRecord, kind_at}
use Rattle.ng_machine.specs.Change.{Change, Sets, Makes, Retires, Accepts, Posts, Notes}
use Rattle.ng_machine.specs.KindObligations.{KeepsKind}
use Rattle.ng_machine.proofs.Owed.{made_kind}
use Rattle.std.proofs.Common.{◌≢◌, zero, suc, ◌-◌, ◌<◌, length, map, set, is_some, slice_get, ◌∙◌, subst, ⊎_elim}
use Rattle.std.proofs.lemmas.List.{length-map}
use Rattle.std.proofs.lemmas.Bool.{cases_eq}
use Rattle.ng_base.specs.declared.event.Event.{Event}
use Rattle.ng_base.specs.declared.event.Event.TheVariants.{Feed, Take, Back, Apply, Stop}
use Rattle.ng_base.specs.declared.ids.Stamp.{Stamp}
use Rattle.ng_base.specs.declared.kind.Kind.TheVariants.{Hub, Ether, Socket}
use Rattle.ng_machine.specs.Words.{first_refusal}
use Rattle.ng_machine.specs.Errors.{eperm}
use Rattle.ng_machine.specs.Rules.{is_fixed}
use Rattle.ng_machine.specs.State.{blank_kept, kept_with_hook}
use Rattle.ng_machine.specs.Body.{has_id}
use Rattle.std.specs.List.{find}
use Rattle.ng_machine.specs.World.{node_in, node_at, port_of, blank_node, blank_port}
use Rattle.ng_machine.specs.Change.{set_node, change, change_all}
use Rattle.ng_machine.specs.Effect.{effect, effect_at, is_hook_gone, take_out, finish, apply_if, apply_item, apply_found}
use Rattle.ng_machine.specs.Feed.{RunInput}
use Rattle.ng_machine.specs.Run.{RunState, after, after_all, beginning}
use Rattle.ng_machine.specs.Laws.{Setting, start, world_after}
use Rattle.ng_machine.proofs.NodeLists.{get, get_here, get_apart, get_before, get_gone, given_number, some_none, same_row}
use Rattle.ng_machine.proofs.Quieted.{Quietly, accepts_quietly, posts_quietly, notes_quietly, fed_next}
use Rattle.ng_machine.proofs.Kept.{nodes_quietly, ports_quietly}
use Rattle.ng_machine.proofs.Every.{every_imply}
use Rattle.ng_machine.proofs.Occurs.{Peer, Occurs}
use Rattle.ng_machine.proofs.Costing.{effect_occurs}
use Rattle.ng_machine.proofs.Preserving.{kinds_stay}

-- A made node is no ether

abbrev pub MakesNoEther : Change → Type 0
MakesNoEther (Makes kind made) = kind_at made ≡ Ether → ⊥
MakesNoEther (Sets now) = Unit {0}
MakesNoEther Retires = Unit {0}
MakesNoEther (Accepts to body tag) = Unit {0}
MakesNoEther (Posts hook packet) = Unit {0}
MakesNoEther (Notes x) = Unit {0}

not_fixed : (kind : Kind) (rest : List (Bool × Errno)) → first_refusal ((is_fixed kind, eperm) ∷ rest) ≡ None → is_fixed kind ≡ false
not_fixed kind rest e = by (is_fixed kind) e
  where
    by : (b : Bool) → first_refusal ((b, eperm) ∷ rest) ≡ None → b ≡ false
    by true e = let q : true ≡ false = ap is_some e in absurd (true≢false q)
    by false e = refl

blank_kind : (kind : Kind) → kind_of_kept (blank_kept kind) ≡ kind
blank_kind Hub = refl
blank_kind _ = refl

blank_no_ether : (kind : Kind) (hook : List ℕ) → is_fixed kind ≡ false → kind_of_kept (kept_with_hook (blank_kept kind) hook) ≡ Ether → ⊥
blank_no_ether kind hook free e =
    let same : kind ≡ Ether = sym (blank_kind kind) ∙ sym (made_kind (blank_kept kind) hook) ∙ e in true≢false (sym (ap is_fixed same) ∙ free)

makes_none : (w : World) (item : Item) (row : NodeRecord) (body : Body) (c : Change) → Occurs w item row body c → MakesNoEther c
makes_none w item row body (Makes kind made) (Peer msg name ours theirs of is) = blank_no_ether of theirs (not_fixed of _ is.free)
makes_none w item row body _ o = tt

pub no_ether_made : (w : World) (item : Item) (row : NodeRecord) (body : Body) → Every MakesNoEther (effect_at w item row body)
no_ether_made w item row body = every_imply (Occurs w item row body) MakesNoEther (makes_none w item row body) (effect_at w item row body) (effect_occurs w item row body)

-- Ethers have the numbers of ports' nodes

pub record AtPorts (ports : ℕ) (w : World) : Type 0 where
  pub length_is : length w.ports ≡ ports
  pub ethers : (id : NodeId) (row : NodeRecord) → node_in w.nodes id ≡ Some row → kind_at row ≡ Ether → port_of id < ports

get_last : (rows : List (Option NodeRecord)) (m : ℕ) (y : Option NodeRecord) → m ≡ length rows → get (rows ++ y ∷ []) m ≡ y
get_last [] zero y e = refl
get_last [] (suc m) y e = absurd (omega arith)
get_last (x ∷ rows) zero y e = absurd (omega arith)
get_last (x ∷ rows) (suc m) y e = get_last rows m y (omega arith)

module _ (ports : ℕ) where
  at_ports_quietly : {w v : World} → Quietly w v → AtPorts ports w → AtPorts ports v
  at_ports_quietly {w} {v} q A = record {
    length_is = ports_quietly q ∙ A.length_is;
    ethers = λ id row is. A.ethers id row (ap (λ (nodes : List (Option NodeRecord)). node_in nodes id) (sym (nodes_quietly q)) ∙ is);
  }

  at_ports_set : (w : World) (at : NodeId) (row now : NodeRecord) → kind_at now ≡ kind_at row → (kind_at row ≡ Ether → port_of at < ports) → AtPorts ports w → (o : Option NodeRecord) → node_at w at ≡ o → AtPorts ports (set_node w at now (is_some o))
  at_ports_set w at row now k h A None is = A
  at_ports_set w at row now k h A (Some old) is = record {
    length_is = A.length_is;
    ethers = λ id r there ether. ⊎_elim
        (λ (e : id.0 ≡ at.0).
        let here : get (set w.nodes at.0 (Some now)) id.0 ≡ Some now = ap (get (set w.nodes at.0 (Some now))) e ∙ get_here w.nodes at.0 (Some now) (given_number w.nodes at.0 old is) in
        let same : r ≡ now = same_row r now (sym there ∙ here) in
        let lt : port_of at < ports = h (sym k ∙ ap kind_at (sym same) ∙ ether) in
        subst (λ (m : ℕ). m - 2 < ports) (sym e) lt)
        (λ (a : id.0 ≢ at.0). A.ethers id r (sym (get_apart w.nodes at.0 id.0 (Some now) a) ∙ there) ether)
        (cases_eq id.0 at.0);
  }

  at_ports_change : (at : NodeId) (stamp : Stamp) (row : NodeRecord) → (kind_at row ≡ Ether → port_of at < ports) → (w : World) (c : Change) → KeepsKind row c → MakesNoEther c → AtPorts ports w → AtPorts ports (change at stamp w c)
  at_ports_change at stamp row h w (Sets now) k m A = at_ports_set w at row now k h A (node_at w at) refl
  at_ports_change at stamp row h w (Makes kind made) k m A = record {
    length_is = A.length_is;
    ethers = λ id r there ether. ⊎_elim
        (λ (e : id.0 ≡ length w.nodes). let same : r ≡ made = same_row r made (sym there ∙ get_last w.nodes id.0 (Some made) e) in absurd (m (ap kind_at (sym same) ∙ ether)))
        (λ (a : id.0 ≢ length w.nodes). A.ethers id r (sym (get_before w.nodes id.0 (Some made) a) ∙ there) ether)
        (cases_eq id.0 (length w.nodes));
  }
  at_ports_change at stamp row h w Retires k m A = record {
    length_is = A.length_is;
    ethers = λ id r there ether. ⊎_elim
        (λ (e : id.0 ≡ at.0). absurd (some_none r (sym there ∙ ap (get (set w.nodes at.0 None)) e ∙ get_gone w.nodes at.0)))
        (λ (a : id.0 ≢ at.0). A.ethers id r (sym (get_apart w.nodes at.0 id.0 None a) ∙ there) ether)
        (cases_eq id.0 at.0);
  }
  at_ports_change at stamp row h w (Accepts to body tag) k m A = at_ports_quietly (accepts_quietly at stamp w to body tag) A
  at_ports_change at stamp row h w (Posts hook packet) k m A = at_ports_quietly (posts_quietly at stamp w hook packet) A
  at_ports_change at stamp row h w (Notes x) k m A = at_ports_quietly (notes_quietly at stamp w x) A

  at_ports_changed : (at : NodeId) (stamp : Stamp) (row : NodeRecord) → (kind_at row ≡ Ether → port_of at < ports) → (w : World) (cs : List Change) → Every (KeepsKind row) cs → Every MakesNoEther cs → AtPorts ports w → AtPorts ports (change_all at stamp w cs)
  at_ports_changed at stamp row h w [] k m A = A
  at_ports_changed at stamp row h w (c ∷ cs) k m A = at_ports_changed at stamp row h (change at stamp w c) cs k.1 m.1 (at_ports_change at stamp row h w c k.0 m.0 A)

  at_ports_effect : (w : World) (p : Item) → AtPorts ports w → (o : Option NodeRecord) → node_at w p.to ≡ o → AtPorts ports (change_all p.to p.stamp w (effect w p o))
  at_ports_effect w p A None is = A
  at_ports_effect w p A (Some row) is = at_ports_changed p.to p.stamp row (A.ethers p.to row is) w (effect_at w p row p.body) (kinds_stay w p row p.body) (no_ether_made w p row p.body) A

  at_ports_applied : (w : World) (p : Item) → AtPorts ports w → AtPorts ports (apply_item w p)
  at_ports_applied w p A = by (is_hook_gone (node_at w p.to) p.body)
    where
      by : (b : Bool) → AtPorts ports (apply_if (take_out w p.id) p b)
      by true = record { length_is = A.length_is; ethers = A.ethers }
      by false = at_ports_effect (finish (take_out w p.id) p.id) p (record { length_is = A.length_is; ethers = A.ethers }) (node_at w p.to) refl

  at_ports_found : (w : World) (o : Option Item) → AtPorts ports w → AtPorts ports (apply_found w o)
  at_ports_found w None A = A
  at_ports_found w (Some p) A = at_ports_applied w p A

  at_ports_event : (given : RunInput) (at : RunState) (e : Event) → AtPorts ports at.world → AtPorts ports (after given at e).world
  at_ports_event given at Feed A = fed_next given at.world (slice_get given.inputs at.world.fed) (AtPorts ports) A (λ v q. at_ports_quietly q (record { length_is = A.length_is; ethers = A.ethers }))
  at_ports_event given at (Take seat id) A = A
  at_ports_event given at (Back id) A = A
  at_ports_event given at (Apply id) A = at_ports_found at.world (find (has_id id) at.world.pending) A
  at_ports_event given at Stop A = record { length_is = A.length_is; ethers = A.ethers }

  at_ports_run : (given : RunInput) (at : RunState) (es : List Event) → AtPorts ports at.world → AtPorts ports (after_all given at es).world
  at_ports_run given at [] A = A
  at_ports_run given at (e ∷ es) A = at_ports_run given (after given at e) es (at_ports_event given at e A)

ether_rows : (names : List (List ℕ)) (n : ℕ) (row : NodeRecord) → get (map (λ name. Some (blank_node (Some name) Ether)) names) n ≡ Some row → n < length names
ether_rows [] n row e = absurd (some_none row (sym e))
ether_rows (x ∷ names) zero row e = omega arith
ether_rows (x ∷ names) (suc n) row e = let lt = ether_rows names n row e in omega arith

socket_apart : Socket ≡ Ether → ⊥
socket_apart e = let q : false ≡ true = ap (λ (k : Kind). is_ether k) e in true≢false (sym q)
  where
    is_ether : Kind → Bool
    is_ether Ether = true
    is_ether _ = false

start_ethers : (own : List ℕ) (names : List (List ℕ)) (n : ℕ) (row : NodeRecord) → get (None ∷ Some (blank_node (Some own) Socket) ∷ map (λ name. Some (blank_node (Some name) Ether)) names) n ≡ Some row → kind_at row ≡ Ether → n - 2 < length names
start_ethers own names zero row is ether = absurd (some_none row (sym is))
start_ethers own names (suc zero) row is ether = let same : row ≡ blank_node (Some own) Socket = same_row row _ (sym is) in absurd (socket_apart (ap kind_at (sym same) ∙ ether))
start_ethers own names (suc (suc n)) row is ether = let lt = ether_rows names n row is in omega arith

pub at_ports : (s : Setting) (journal : List Event) → AtPorts (length s.ports) (world_after s journal)
at_ports s journal = at_ports_run (length s.ports) s.given (beginning (start s)) journal
    (record { length_is = length-map s.ports (λ name. blank_port); ethers = λ id row is ether. start_ethers s.own s.ports id.0 row is ether })
