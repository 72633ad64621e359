-- Whether a node stays without a hook, and the hook that has a link.
use Rattle.std.proofs.Common.{◌≡◌, ℕ, zero, suc, ◌+◌, ◌<◌, List, [], ◌∷◌, length, get_or, is_some, Bool, true, false, not, cond, refl, sym, ap, ◌∙◌, arith, true≢false}
use Rattle.std.specs.Prelude.{◌==◌, ◌&&◌, ◌||◌, take, filter}
use Rattle.std.proofs.lemmas.Bool.{and_parts, eq-eqb}
use Rattle.std.proofs.lemmas.Slice.Eq.{bytes_eq-Decides}
use Rattle.std.specs.declared.option.Option.{Option}
use Rattle.std.specs.declared.option.Option.TheVariants.{None, Some}
use Rattle.ng_base.specs.declared.ids.LinkId.{LinkId}
use Rattle.ng_machine.specs.declared.hook.Hook.{Hook}
use Rattle.ng_machine.specs.declared.item.Item.{Item}
use Rattle.ng_machine.specs.Change.{Accepts}
use Rattle.ng_machine.specs.declared.body.Body.TheVariants.{Leave}
use Rattle.ng_machine.specs.Words.{Has}
use Rattle.ng_machine.specs.Connect.{remove_peer_hook, rmhook}
use Rattle.ng_machine.specs.Retire.{cut_to, cut_to_if, has_hooks, stays}
use Rattle.ng_machine.specs.Rules.{is_lasting}
use Rattle.ng_machine.specs.State.{BpfState, BridgeState, EchoState, EtfState, EtherState, HoleState, HubState, KindState, MacsetState, One2manyState, PatchState, SocketState, SplitState, TeeState, VlanState, kept_without_hook}
use Rattle.ng_machine.specs.World.{NodeRecord, World, hook_of, is_named, linked_hook, without_hook}
use Rattle.ng_machine.proofs.Standing.{of_find, to_find}

-- a node lasts as long without a hook
pub lasts_without : (kept : KindState) (hook : List ℕ) → is_lasting (kept_without_hook kept hook) ≡ is_lasting kept
lasts_without (HubState persistent) hook = refl
lasts_without HoleState hook = refl
lasts_without EchoState hook = refl
lasts_without SplitState hook = refl
lasts_without SocketState hook = refl
lasts_without (TeeState rows) hook = refl
lasts_without (One2manyState s) hook = refl
lasts_without (BridgeState s) hook = refl
lasts_without (VlanState s) hook = refl
lasts_without (PatchState ops) hook = refl
lasts_without (BpfState s) hook = refl
lasts_without (EtherState s) hook = refl
lasts_without (EtfState s) hook = refl
lasts_without (MacsetState s) hook = refl

abbrev pub others : List ℕ → List Hook → List Hook
others name hooks = filter (λ h. not (is_named name h)) hooks

-- a hook of another name
pub another_here : (hooks : List Hook) (i : ℕ) (h : Hook) (name : List ℕ) → i < length hooks → h ≡ get_or hooks i h → is_named name h ≡ false → has_hooks (others name hooks) ≡ true
another_here [] i h name lt e is = absurd (omega arith)
another_here (x ∷ hooks) zero h name lt e is = ap (λ (b : Bool). has_hooks (cond (not b) (x ∷ others name hooks) (others name hooks))) (ap (is_named name) (sym e) ∙ is)
another_here (x ∷ hooks) (suc i) h name lt e is = by (is_named name x) (another_here hooks i h name (omega arith) e is)
  where
    by : (b : Bool) → has_hooks (others name hooks) ≡ true → has_hooks (cond (not b) (x ∷ others name hooks) (others name hooks)) ≡ true
    by true more = more
    by false more = refl

-- and none so far
pub another_not : (hooks : List Hook) (i : ℕ) (h : Hook) (name : List ℕ) → i < length hooks → h ≡ get_or hooks i h → is_named name h ≡ true → has_hooks (others name (take i hooks)) ≡ false → has_hooks (others name (take (i + 1) hooks)) ≡ false
another_not hooks i h name lt e is so = ap (λ (k : ℕ). has_hooks (others name (take k hooks))) (let f : i + 1 ≡ suc i = omega arith in f) ∙ go hooks i lt e so
  where
    go : (hooks : List Hook) (i : ℕ) → i < length hooks → h ≡ get_or hooks i h → has_hooks (others name (take i hooks)) ≡ false → has_hooks (others name (take (suc i) hooks)) ≡ false
    go [] i lt e so = absurd (omega arith)
    go (x ∷ hooks) zero lt e so = ap (λ (b : Bool). has_hooks (cond (not b) (x ∷ []) [])) (ap (is_named name) (sym e) ∙ is)
    go (x ∷ hooks) (suc i) lt e so = by (is_named name x) (go hooks i (omega arith) e) so
      where
        by : (b : Bool) → (has_hooks (others name (take i hooks)) ≡ false → has_hooks (others name (take (suc i) hooks)) ≡ false)
            → has_hooks (cond (not b) (x ∷ others name (take i hooks)) (others name (take i hooks))) ≡ false → has_hooks (cond (not b) (x ∷ others name (take (suc i) hooks)) (others name (take (suc i) hooks))) ≡ false
        by true more s = more s
        by false more s = absurd (true≢false s)

-- the node has no other hook, and stays where it lasts
pub stays_else : (node : NodeRecord) (hook : List ℕ) (b : Bool) → has_hooks (others hook node.hooks) ≡ false → b ≡ is_lasting node.kept → b ≡ stays (without_hook node hook)
stays_else node hook b e is = is ∙ sym (lasts_without node.kept hook) ∙ sym (ap (λ (c : Bool). c || is_lasting (kept_without_hook node.kept hook)) e)

pub is_none_of : {A : Type 0} (o : Option A) → is_some o ≡ false → o ≡ None
is_none_of None e = refl
is_none_of (Some x) e = absurd (true≢false e)

pub is_some_of : {A : Type 0} (o : Option A) → is_some o ≡ true → (x : A) × (o ≡ Some x)
is_some_of None e = absurd (true≢false (sym e))
is_some_of (Some x) e = (x, refl)

pub linked_name : (node : NodeRecord) (hook : List ℕ) (link : LinkId) (h : Hook) → linked_hook node hook link ≡ Some h → h.name ≡ hook
linked_name node hook link h e =
    let f = of_find (λ (x : Hook). is_named hook x && x.link.0 == link.0) h node.hooks e in
    (bytes_eq-Decides h.name hook).0 (and_parts (is_named hook h) (h.link.0 == link.0) f.1).0

hook_test : (node : NodeRecord) (hook : List ℕ) (h : Hook) → hook_of node hook ≡ Some h → Has h node.hooks × (is_named hook h ≡ true)
hook_test node hook h e = of_find (is_named hook) h node.hooks e

pub hook_name : (node : NodeRecord) (hook : List ℕ) (h : Hook) → hook_of node hook ≡ Some h → h.name ≡ hook
hook_name node hook h e = (bytes_eq-Decides h.name hook).0 (hook_test node hook h e).1

-- a hook has its own link
pub has_own_link : (node : NodeRecord) (hook : List ℕ) (h : Hook) → hook_of node hook ≡ Some h → is_some (linked_hook node hook h.link) ≡ true
has_own_link node hook h e =
    let t = hook_test node hook h e in
    let f = to_find (λ (x : Hook). is_named hook x && x.link.0 == h.link.0) h node.hooks t.0 (ap (λ (b : Bool). b && h.link.0 == h.link.0) t.1 ∙ eq-eqb h.link.0 h.link.0 refl) in
    ap is_some f.1

-- what the order makes of a hook, by whether its node stays
pub rmhook_changes : (w : World) (item : Item) (node : NodeRecord) (hook : List ℕ) (h : Hook) (b : Bool) → hook_of node hook ≡ Some h → stays (without_hook node hook) ≡ b
    → rmhook w item node (hook_of node hook) ≡ Accepts h.peer.node (Leave h.peer.hook h.link) None ∷ cut_to_if w item (without_hook node hook) b
rmhook_changes w item node hook h b e is =
    ap (rmhook w item node) e
    ∙ ap (λ (n : List ℕ). Accepts h.peer.node (Leave h.peer.hook h.link) None ∷ cut_to w item (without_hook node n)) (hook_name node hook h e)
    ∙ ap (λ (c : Bool). Accepts h.peer.node (Leave h.peer.hook h.link) None ∷ cut_to_if w item (without_hook node hook) c) is

-- what is made of a hook that goes, by whether its node stays
pub leave_changes : (w : World) (item : Item) (node : NodeRecord) (hook : List ℕ) (link : LinkId) (b : Bool) → is_some (linked_hook node hook link) ≡ true → stays (without_hook node hook) ≡ b
    → remove_peer_hook w item node (linked_hook node hook link) ≡ cut_to_if w item (without_hook node hook) b
leave_changes w item node hook link b there is =
    let h = is_some_of (linked_hook node hook link) there in
    ap (remove_peer_hook w item node) h.1 ∙ ap (λ (n : List ℕ). cut_to w item (without_hook node n)) (linked_name node hook link h.0 h.1) ∙ ap (cut_to_if w item (without_hook node hook)) is

pub leave_nothing : (w : World) (item : Item) (node : NodeRecord) (hook : List ℕ) (link : LinkId) → is_some (linked_hook node hook link) ≡ false → remove_peer_hook w item node (linked_hook node hook link) ≡ []
leave_nothing w item node hook link there = ap (remove_peer_hook w item node) (is_none_of (linked_hook node hook link) there)
