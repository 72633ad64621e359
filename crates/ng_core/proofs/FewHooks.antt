-- A node of a run has at most as many hooks as items were applied: an applied item adds one hook to a node.
-- to move to ng_machine
use Rattle.std.proofs.Common.{◌≡◌, ◌≢◌, ◌∙◌, ℕ, zero, suc, ◌+◌, ◌≤◌, List, [], ◌∷◌, ◌++◌, length, map, set, Bool, true, false, refl, sym, ap, subst, ⊎_elim, arith, length-set}
use Rattle.std.proofs.lemmas.Bool.{cases_eq}
use Rattle.std.specs.Prelude.{slice_get}
use Rattle.std.specs.List.{find}
use Rattle.std.specs.declared.option.Option.{Option}
use Rattle.std.specs.declared.option.Option.TheVariants.{None, Some}
use Rattle.ng_base.specs.declared.event.Event.{Event}
use Rattle.ng_base.specs.declared.event.Event.TheVariants.{Feed, Take, Back, Apply, Stop}
use Rattle.ng_base.specs.declared.ids.NodeId.{NodeId}
use Rattle.ng_base.specs.declared.ids.Stamp.{Stamp}
use Rattle.ng_base.specs.declared.kind.Kind.TheVariants.{Ether, Socket}
use Rattle.ng_machine.specs.declared.body.Body.{Body}
use Rattle.ng_machine.specs.declared.item.Item.{Item}
use Rattle.ng_machine.specs.Body.{has_id}
use Rattle.ng_machine.specs.Change.{Change, Sets, Makes, Retires, Accepts, Posts, Notes, change, change_all, set_node}
use Rattle.ng_machine.specs.Effect.{apply_found, apply_if, effect, effect_at, finish, is_hook_gone, take_out}
use Rattle.ng_machine.specs.Feed.{RunInput}
use Rattle.ng_machine.specs.Laws.{Setting, start, world_after}
use Rattle.ng_machine.specs.Run.{RunState, after, after_all, beginning, step}
use Rattle.ng_machine.specs.Words.{Every}
use Rattle.ng_machine.specs.World.{World, NodeRecord, blank_node, is_there, node_at, node_in}
use Rattle.ng_machine.proofs.Every.{every_imply}
use Rattle.ng_machine.proofs.Preserving.{Grows, grows_effect}
use Rattle.ng_machine.proofs.Kept.{all_applies, applies_quietly, nodes_quietly}
use Rattle.ng_machine.proofs.NodeLists.{get, get_apart, get_before, get_gone, get_here, get_last, given_number, same_row, some_none}
use Rattle.ng_machine.proofs.Quieted.{accepts_quietly, fed_next, notes_quietly, posts_quietly}

-- each node that is there has at most n hooks
abbrev pub AreFew : ℕ → List (Option NodeRecord) → Type 0
AreFew n nodes = (m : ℕ) (node : NodeRecord) → get nodes m ≡ Some node → length node.hooks ≤ n

-- a change gives a node at most one hook more than n
abbrev pub AddsOne : ℕ → Change → Type 0
AddsOne n (Sets node) = length node.hooks ≤ n + 1
AddsOne n (Makes kind node) = length node.hooks ≤ n + 1
AddsOne n Retires = Unit {0}
AddsOne n (Accepts to body tag) = Unit {0}
AddsOne n (Posts hook packet) = Unit {0}
AddsOne n (Notes note) = Unit {0}

abbrev pub AddOne : ℕ → List Change → Type 0
AddOne n changes = Every (AddsOne n) changes

-- Changes of the nodes

few_set : (n : ℕ) (nodes : List (Option NodeRecord)) (at : ℕ) (now : NodeRecord) → length now.hooks ≤ n → AreFew n nodes → AreFew n (set nodes at (Some now))
few_set n nodes at now few F m node here = ⊎_elim
    (λ (e : m ≡ at).
    let lt = given_number (set nodes at (Some now)) m node here in
    let len = length-set nodes at (Some now) in
    let there : Some now ≡ Some node = sym (get_here nodes at (Some now) (omega arith)) ∙ ap (λ (k : ℕ). get (set nodes at (Some now)) k) (sym e) ∙ here in
    let is = same_row now node there in subst (λ (r : NodeRecord). length r.hooks ≤ n) is few)
    (λ (d : m ≢ at). F m node (sym (get_apart nodes at m (Some now) d) ∙ here))
    (cases_eq m at)

few_gone : (n : ℕ) (nodes : List (Option NodeRecord)) (at : ℕ) → AreFew n nodes → AreFew n (set nodes at None)
few_gone n nodes at F m node here = ⊎_elim
    (λ (e : m ≡ at). absurd (some_none node (sym here ∙ ap (λ (k : ℕ). get (set nodes at None) k) e ∙ get_gone nodes at)))
    (λ (d : m ≢ at). F m node (sym (get_apart nodes at m None d) ∙ here))
    (cases_eq m at)

few_made : (n : ℕ) (nodes : List (Option NodeRecord)) (made : NodeRecord) → length made.hooks ≤ n → AreFew n nodes → AreFew n (nodes ++ Some made ∷ [])
few_made n nodes made few F m node here = ⊎_elim
    (λ (e : m ≡ length nodes). let is = same_row made node (sym (get_last nodes m (Some made) e) ∙ here) in subst (λ (r : NodeRecord). length r.hooks ≤ n) is few)
    (λ (d : m ≢ length nodes). F m node (sym (get_before nodes m (Some made) d) ∙ here))
    (cases_eq m (length nodes))

few_quietly : (n : ℕ) (w v : World) → v.nodes ≡ w.nodes → AreFew n w.nodes → AreFew n v.nodes
few_quietly n w v e F = subst (AreFew n) (sym e) F

few_change : (n : ℕ) (at : NodeId) (stamp : Stamp) (w : World) (c : Change) → AddsOne n c → AreFew (n + 1) w.nodes → AreFew (n + 1) (change at stamp w c).nodes
few_change n at stamp w (Sets node) a F = by (is_there w at)
  where
    by : (b : Bool) → AreFew (n + 1) (set_node w at node b).nodes
    by true = few_set (n + 1) w.nodes at.0 node a F
    by false = F
few_change n at stamp w (Makes kind node) a F = few_made (n + 1) w.nodes node a F
few_change n at stamp w Retires a F = few_gone (n + 1) w.nodes at.0 F
few_change n at stamp w (Accepts to body tag) a F = few_quietly (n + 1) w (change at stamp w (Accepts to body tag)) (nodes_quietly (accepts_quietly at stamp w to body tag)) F
few_change n at stamp w (Posts hook packet) a F = few_quietly (n + 1) w (change at stamp w (Posts hook packet)) (nodes_quietly (posts_quietly at stamp w hook packet)) F
few_change n at stamp w (Notes x) a F = few_quietly (n + 1) w (change at stamp w (Notes x)) (nodes_quietly (notes_quietly at stamp w x)) F

few_changes : (n : ℕ) (at : NodeId) (stamp : Stamp) (w : World) (cs : List Change) → AddOne n cs → AreFew (n + 1) w.nodes → AreFew (n + 1) (change_all at stamp w cs).nodes
few_changes n at stamp w [] a F = F
few_changes n at stamp w (c ∷ cs) a F = few_changes n at stamp (change at stamp w c) cs a.1 (few_change n at stamp w c a.0 F)

-- What each body changes

adds : (n : ℕ) (node : NodeRecord) → length node.hooks ≤ n → (c : Change) → Grows node c → AddsOne n c
adds n node few (Sets now) g = let le = g.0.0 in omega arith
adds n node few (Makes kind made) g = let le = g.0 in omega arith
adds n node few _ g = tt

effect_few : (n : ℕ) (w : World) (item : Item) (node : NodeRecord) (body : Body) → length node.hooks ≤ n → AddOne n (effect_at w item node body)
effect_few n w item node body few = every_imply (Grows node) (AddsOne n) (adds n node few) (effect_at w item node body) (grows_effect w item node body)

-- Events

more : (n : ℕ) (nodes : List (Option NodeRecord)) → AreFew n nodes → AreFew (n + 1) nodes
more n nodes F m node here = let few = F m node here in omega arith

-- no more hooks than items were applied
abbrev pub AreFewIn : World → Type 0
AreFewIn w = AreFew w.applies w.nodes

effect_of_few : (w v : World) (item : Item) (n : ℕ) → v.nodes ≡ w.nodes → AreFew n w.nodes → (o : Option NodeRecord) → node_at v item.to ≡ o → AreFew (n + 1) (change_all item.to item.stamp v (effect v item o)).nodes
effect_of_few w v item n same F None e = subst (AreFew (n + 1)) (sym same) (more n w.nodes F)
effect_of_few w v item n same F (Some node) e =
    few_changes n item.to item.stamp v (effect_at v item node item.body) (effect_few n v item node item.body (F item.to.0 node (ap (λ (l : List (Option NodeRecord)). node_in l item.to) (sym same) ∙ e)))
    (subst (AreFew (n + 1)) (sym same) (more n w.nodes F))

applied_few : (w : World) (item : Item) (gone : Bool) → AreFewIn w → AreFewIn (apply_if (take_out w item.id) item gone)
applied_few w item true F = more w.applies w.nodes F
applied_few w item false F =
    let v = finish (take_out w item.id) item.id in
    subst (λ (n : ℕ). AreFew n (change_all item.to item.stamp v (effect v item (node_at v item.to))).nodes) (sym (all_applies item.to item.stamp v (effect v item (node_at v item.to))))
    (effect_of_few w v item w.applies refl F (node_at v item.to) refl)

found_few : (w : World) (o : Option Item) → AreFewIn w → AreFewIn (apply_found w o)
found_few w None F = F
found_few w (Some item) F = applied_few w item (is_hook_gone (node_at w item.to) item.body) F

step_few : (given : RunInput) (w : World) (e : Event) → AreFewIn w → AreFewIn (step given w e)
step_few given w Feed F = fed_next given w (slice_get given.inputs w.fed) AreFewIn F (λ v q. subst (λ (n : ℕ). AreFew n v.nodes) (sym (applies_quietly q)) (subst (AreFew w.applies) (sym (nodes_quietly q)) F))
step_few given w (Take seat id) F = F
step_few given w (Back id) F = F
step_few given w (Apply id) F = found_few w (find (has_id id) w.pending) F
step_few given w Stop F = F

run_few : (given : RunInput) (a : RunState) (events : List Event) → AreFewIn a.world → AreFewIn (after_all given a events).world
run_few given a [] F = F
run_few given a (e ∷ events) F = run_few given (after given a e) events (step_few given a.world e F)

start_few : (names : List (List ℕ)) (m : ℕ) (node : NodeRecord) → get (map (λ (name : List ℕ). Some (blank_node (Some name) Ether)) names) m ≡ Some node → length node.hooks ≤ 0
start_few [] m node here = absurd (some_none node (sym here))
start_few (name ∷ names) zero node here = subst (λ (r : NodeRecord). length r.hooks ≤ 0) (same_row (blank_node (Some name) Ether) node here) (omega arith)
start_few (name ∷ names) (suc m) node here = start_few names m node here

begin_few : (s : Setting) → AreFewIn (start s)
begin_few s zero node here = absurd (some_none node (sym here))
begin_few s (suc zero) node here = subst (λ (r : NodeRecord). length r.hooks ≤ 0) (same_row (blank_node (Some s.own) Socket) node here) (omega arith)
begin_few s (suc (suc m)) node here = start_few s.ports m node here

pub hooks_are_few : (s : Setting) (journal : List Event) → AreFewIn (world_after s journal)
hooks_are_few s journal = run_few s.given (beginning (start s)) journal (begin_few s)
