-- A graph that stays: what is the same of its nodes, and that spreads go by that alone.
use Rattle.std.proofs.Common.{◌≡◌, ◌≢◌, ℕ, zero, suc, ◌<◌, List, [], ◌∷◌, ◌++◌, length, set, find, Bool, true, false, ◌==◌, ◌&&◌, is_some, is_none, refl, sym, ap, ap₂, ◌∙◌, subst, ⊎_elim, length-set, true≢false}
use Rattle.std.specs.declared.option.Option.{Option}
use Rattle.std.specs.declared.option.Option.TheVariants.{None, Some}
use Rattle.std.proofs.lemmas.Bool.{cases_eq}
use Rattle.ng_base.specs.declared.ids.LinkId.{LinkId}
use Rattle.ng_base.specs.declared.ids.NodeId.{NodeId}
use Rattle.ng_machine.specs.declared.body.Body.TheVariants.{Frame}
use Rattle.ng_machine.specs.declared.body.Door.{Door}
use Rattle.ng_machine.specs.declared.body.Door.TheVariants.{Wire, Hook as ByHook}
use Rattle.ng_machine.specs.declared.hook.Hook.{Hook}
use Rattle.ng_machine.specs.declared.plan.Plan.{Plan}
use Rattle.ng_machine.specs.State.{State, KindState, One2manyState, kind_of_kept, way_of, way_of_kept}
use Rattle.ng_machine.specs.Case.{outcome_by_plan, outcome_of}
use Rattle.ng_machine.specs.World.{NodeRecord, node_in, is_named, hook_of, kind_at, state_of, hook_names}
use Rattle.ng_machine.specs.Effect.{is_hook_gone, door_name}
use Rattle.ng_machine.specs.Spread.{Spread, Flight, body_of, is_followed, Fate, Vanishes, Untold, Comes, leaving, sent_if, sent_by, sent_on, comes, fate_if, fate_at, fate, beside, spread_all, spread_by, spread_in}
use Rattle.ng_laws.specs.still_graph.Bag.{IsStillNode, StillAt, IsStillGraph}
use Rattle.ng_machine.proofs.NodeLists.{get, get_here, get_apart, given_number}

-- Graphs that stay, one after another

node_rests : (row : NodeRecord) → IsStillNode row row
node_rests row = record { name = refl; kind = refl; hooks = refl; way = λ f. refl }

node_joins : (a b c : NodeRecord) → IsStillNode a b → IsStillNode b c → IsStillNode a c
node_joins a b c s t = record { name = t.name ∙ s.name; kind = t.kind ∙ s.kind; hooks = t.hooks ∙ s.hooks; way = λ f. t.way (ap is_followed s.kind ∙ f) ∙ s.way f }

at_rests : (o : Option NodeRecord) → StillAt o o
at_rests None = tt
at_rests (Some row) = node_rests row

at_joins : (a b c : Option NodeRecord) → StillAt a b → StillAt b c → StillAt a c
at_joins None None None s t = tt
at_joins None None (Some z) s t = absurd t
at_joins None (Some y) c s t = absurd s
at_joins (Some x) None c s t = absurd s
at_joins (Some x) (Some y) None s t = absurd t
at_joins (Some x) (Some y) (Some z) s t = node_joins x y z s t

pub graph_rests : (nodes : List (Option NodeRecord)) → IsStillGraph nodes nodes
graph_rests nodes = record { numbers = refl; each = λ id. at_rests (node_in nodes id) }

pub graph_joins : (a b c : List (Option NodeRecord)) → IsStillGraph a b → IsStillGraph b c → IsStillGraph a c
graph_joins a b c s t = record { numbers = t.numbers ∙ s.numbers; each = λ id. at_joins (node_in a id) (node_in b id) (node_in c id) (s.each id) (t.each id) }

pub graph_same : (a b : List (Option NodeRecord)) → b ≡ a → IsStillGraph a b
graph_same a b e = subst (IsStillGraph a) (sym e) (graph_rests a)

there_alike : (o p : Option NodeRecord) → StillAt o p → is_some p ≡ is_some o
there_alike None None s = refl
there_alike None (Some y) s = absurd s
there_alike (Some x) None s = absurd s
there_alike (Some x) (Some y) s = refl

-- a node is set to a row that is still as it was
pub graph_set : (a b : List (Option NodeRecord)) (n : NodeId) (row now : NodeRecord) → node_in a n ≡ Some row → IsStillNode row now → IsStillGraph a b → is_some (node_in b n) ≡ true → IsStillGraph a (set b n.0 (Some now))
graph_set a b n row now is s G there = record {
  numbers = length-set {A = Option NodeRecord} b n.0 (Some now) ∙ G.numbers;
  each = λ id. ⊎_elim
      (λ (e : id.0 ≡ n.0).
      let here : get (set b n.0 (Some now)) id.0 ≡ Some now = ap (get (set b n.0 (Some now))) e ∙ get_here b n.0 (Some now) (known (node_in b n) refl there) in
      let was : get a id.0 ≡ Some row = ap (get a) e ∙ is in
      subst (λ (o : Option NodeRecord). StillAt o (get (set b n.0 (Some now)) id.0)) (sym was) (subst (StillAt (Some row)) (sym here) s))
      (λ (apart : id.0 ≢ n.0). subst (StillAt (get a id.0)) (sym (get_apart b n.0 id.0 (Some now) apart)) (G.each id))
      (cases_eq id.0 n.0);
}
  where
    known : (o : Option NodeRecord) → node_in b n ≡ o → is_some o ≡ true → n.0 < length b
    known None e t = absurd (true≢false (sym t))
    known (Some old) e t = given_number b n.0 old e

-- What becomes of a packet goes by what stays

gone_alike : (a b : NodeRecord) (f : Flight) → b.hooks ≡ a.hooks → is_hook_gone (Some b) (body_of f) ≡ is_hook_gone (Some a) (body_of f)
gone_alike a b f e = by f.door f.link
  where
    by : (door : Door) (link : Option LinkId) → is_hook_gone (Some b) (Frame door link f.packet) ≡ is_hook_gone (Some a) (Frame door link f.packet)
    by Wire link = refl
    by (ByHook hook) None = refl
    by (ByHook hook) (Some link) = ap (λ (hooks : List Hook). is_none (find (λ h. is_named hook h && h.link.0 == link.0) hooks)) e

has_way : (kept : KindState) (hooks : List (List ℕ)) → is_followed (kind_of_kept kept) ≡ true → is_some (way_of_kept kept hooks) ≡ true
has_way (One2manyState s) hooks e = absurd (true≢false (sym e))
has_way _ hooks e = refl

passed_alike : (a b : State) (door : Door) (packet : List ℕ) (o : Option Plan) → is_some o ≡ true → outcome_by_plan a o door packet ≡ outcome_by_plan b o door packet
passed_alike a b door packet None t = absurd (true≢false (sym t))
passed_alike a b door packet (Some plan) t = refl

outcome_alike : (a b : NodeRecord) (f : Flight) → way_of (state_of b) ≡ way_of (state_of a) → is_some (way_of (state_of a)) ≡ true → outcome_of (state_of b) (body_of f) ≡ outcome_of (state_of a) (body_of f)
outcome_alike a b f e t = ap (λ (o : Option Plan). outcome_by_plan (state_of b) o f.door f.packet) e ∙ passed_alike (state_of b) (state_of a) f.door f.packet (way_of (state_of a)) t

-- the packets that are sent on go by the hooks and by which nodes are there
module _ (a b : List (Option NodeRecord)) (there : (id : NodeId) → is_some (node_in b id) ≡ is_some (node_in a id)) (x y : NodeRecord) (hooks : y.hooks ≡ x.hooks) where
  pub sent_one : (name packet : List ℕ) → sent_by b (hook_of y name) packet ≡ sent_by a (hook_of x name) packet
  sent_one name packet = ap (λ (hs : List Hook). sent_by b (find (is_named name) hs) packet) hooks ∙ by (hook_of x name)
    where
      by : (o : Option Hook) → sent_by b o packet ≡ sent_by a o packet
      by None = refl
      by (Some hook) = ap (λ (t : Bool). sent_if hook hook.joined t packet) (there hook.peer.node)

  pub sent_alike : (xs : List (List ℕ × List ℕ)) → sent_on b y xs ≡ sent_on a x xs
  sent_alike [] = refl
  sent_alike (z ∷ xs) = ap₂ (λ (p q : List Flight). p ++ q) (sent_one z.0 z.1) (sent_alike xs)

pub there_in : (a b : List (Option NodeRecord)) → IsStillGraph a b → (id : NodeId) → is_some (node_in b id) ≡ is_some (node_in a id)
there_in a b G id = there_alike (node_in a id) (node_in b id) (G.each id)

pub fate_alike : (a b : List (Option NodeRecord)) → IsStillGraph a b → (f : Flight) → fate b f ≡ fate a f
fate_alike a b G f = rows (node_in a f.to) (node_in b f.to) (G.each f.to)
  where
    ifs : (x y : NodeRecord) → IsStillNode x y → (gone followed : Bool) → is_followed (kind_at x) ≡ followed → fate_if b f y gone followed ≡ fate_if a f x gone followed
    ifs x y s true followed e = refl
    ifs x y s false false e = refl
    ifs x y s false true e =
        let out = outcome_of (state_of x) (body_of f) in
        ap (comes b f y) (outcome_alike x y f (s.way e) (has_way x.kept (hook_names x) e))
        ∙ ap (Comes (leaving f.to (door_name f.door) out.leaves)) (sent_alike a b (there_in a b G) x y s.hooks out.sends)

    rows : (o p : Option NodeRecord) → StillAt o p → fate_at b f p ≡ fate_at a f o
    rows None None s = refl
    rows None (Some y) s = absurd s
    rows (Some x) None s = absurd s
    rows (Some x) (Some y) s =
        ap₂ (fate_if b f y) (gone_alike x y f s.hooks) (ap is_followed s.kind) ∙ ifs x y s (is_hook_gone (Some x) (body_of f)) (is_followed (kind_at x)) refl

-- and so do spreads

pub all_alike : (g h : Flight → Option Spread) → ((f : Flight) → g f ≡ h f) → (fs : List Flight) → spread_all g fs ≡ spread_all h fs
all_alike g h e [] = refl
all_alike g h e (f ∷ fs) = ap₂ beside (e f) (all_alike g h e fs)

by_alike : (g h : List Flight → Option Spread) → ((fs : List Flight) → g fs ≡ h fs) → (x : Fate) → spread_by g x ≡ spread_by h x
by_alike g h e Vanishes = refl
by_alike g h e Untold = refl
by_alike g h e (Comes leaves sent) = ap (beside (Some leaves)) (e sent)

pub spread_alike : (a b : List (Option NodeRecord)) → ((f : Flight) → fate b f ≡ fate a f) → (n : ℕ) (f : Flight) → spread_in b n f ≡ spread_in a n f
spread_alike a b e zero f = ap (spread_by (λ fs. None)) (e f)
spread_alike a b e (suc n) f =
    ap (spread_by (spread_all (λ g. spread_in b n g))) (e f)
    ∙ by_alike (spread_all (λ g. spread_in b n g)) (spread_all (λ g. spread_in a n g)) (all_alike (λ g. spread_in b n g) (λ g. spread_in a n g) (λ g. spread_alike a b e n g)) (fate a f)
