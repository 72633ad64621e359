-- What a part keeps by hooks stays of hooks that are there.
use Rattle.std.proofs.Common.{◌≡◌, if◌then◌else◌, cond, ℕ, ◌==◌, Bool, true, false, not, List, [], ◌∷◌, ◌++◌, map, nat_lt, refl, sym, ap, ◌∙◌, subst, inl, inr, true≢false}
use Rattle.std.specs.List.{filter, find}
use Rattle.std.specs.Str.{bytes_eq}
use Rattle.std.specs.declared.option.Option.{Option}
use Rattle.std.specs.declared.option.Option.TheVariants.{None, Some}
use Rattle.std.proofs.lemmas.Bool.{cases_Bool, eqb-true, eq-eqb}
use Rattle.ng_base.proofs.NameLemmas.{is_same, any_added, any_new, any_left, has_name-added, has_name-new, has_name-left}
use Rattle.ng_base.specs.Names.{has_name, without_name}
use Rattle.ng_base.specs.declared.kind.Kind.{Kind}
use Rattle.ng_base.specs.declared.kind.Kind.TheVariants.{Bridge as OfBridge}
use Rattle.ng_machine.specs.declared.body.Body.{Body}
use Rattle.ng_machine.specs.declared.body.Body.TheVariants.{Frame, Msg, Join2, Join3, Undo, Leave, Rebind, Tick, Learn}
use Rattle.ng_machine.specs.Words.{Every, first_refusal}
use Rattle.ng_machine.specs.Errors.{einval}
use Rattle.ng_base.specs.Name.{is_name}
use Rattle.ng_machine.specs.Arguments.{number_at, text_at}
use Rattle.ng_machine.specs.Rules.{accepts_hook}
use Rattle.ng_machine.specs.kinds.One2many as many
use Rattle.ng_machine.specs.kinds.Bridge as bridge
use Rattle.ng_machine.specs.kinds.Vlan as vlan
use Rattle.ng_machine.specs.kinds.Bpf as bpf
use Rattle.ng_machine.specs.kinds.Etf as etf
use Rattle.ng_machine.specs.declared.plan.VlanWay.{VlanWay}
use Rattle.ng_machine.specs.declared.plan.EtfWay.{EtfWay}
use Rattle.byteorder.specs.Endian.{big_number, little_bytes}
use Rattle.ng_base.specs.declared.errno.Errno.{Errno}
use Rattle.ng_machine.specs.declared.body.Door.{Door}
use Rattle.ng_machine.specs.Counters.{Count, Rows, zeros, raise, raise_at, at_row, row_named, row_bytes, after_counts}
use Rattle.ng_machine.specs.kinds.One2many.{One2many, count_many}
use Rattle.ng_machine.specs.Outcome.{Reply, invalid, sets, answers, unless_refused, with_length}
use Rattle.ng_machine.specs.kinds.Etf.{Etf, count_etf}
use Rattle.ng_machine.specs.kinds.Vlan.{Vlan}
use Rattle.ng_machine.specs.kinds.Bridge.{Bridge, Link, Host, Standing, Known, Looped, News, Crowded, link_number, put_link, new_link, has_number, at_link, see_host, seen_number, count_bridge, count_bridge_if, calm_link, age_host, rest_host, put_host, new_host, learn_by_standing, standing, mute_of, link_way, host_way}
use Rattle.ng_machine.specs.kinds.Bpf.{Filter, new_filter, is_of_hook, at_filter, count_filter}
use Rattle.ng_machine.specs.State.{KindState, HubState, HoleState, EchoState, SplitState, SocketState, TeeState, One2manyState, BridgeState, VlanState, PatchState, BpfState, EtherState, EtfState, MacsetState, State, kind_of_kept, kept_with_hook, kept_without_hook, blank_of}
use Rattle.ng_machine.specs.SoundStates.{IsByHook, StatesStaySound}
use Rattle.ng_machine.proofs.Every.{every_imply, every_push, every_map}
use Rattle.ng_machine.proofs.Owed.{made_kind, cut_kind, passed_kind, reply_kind, ticked_kind, learned_kind}
use Rattle.ng_machine.specs.Case.{absorb, kept_after_frame, kept_after_tick, kept_after_learn, reply_of, outcome_of, kept_after}
use Rattle.ng_machine.specs.Sound.{has_link, KeepsByHooks, IsSound}
use Rattle.ng_machine.proofs.Replies.{by_number_all, with_length_all}

-- Lists

-- what passes a test keeps Q, where P and the test give it
sifted : {A : Type 0} (P Q : A → Type 0) (test : A → Bool) → ((x : A) → P x → test x ≡ true → Q x) → (xs : List A) → Every P xs → Every Q (filter test xs)
sifted P Q test one [] h = tt
sifted P Q test one (x ∷ xs) h = by (test x) refl (sifted P Q test one xs h.1)
  where
    by : (b : Bool) → test x ≡ b → Every Q (filter test xs) → Every Q (cond b (x ∷ filter test xs) (filter test xs))
    by true is rest = (one x h.0 is, rest)
    by false is rest = rest

-- New hooks and cuts

link_made : (hooks : List (List ℕ)) (hook : List ℕ) (number : ℕ) → has_link hooks number ≡ true → has_link (hooks ++ hook ∷ []) number ≡ true
link_made hooks hook number there = any_added (λ other. link_number other == number) hooks hook there

link_new : (hooks : List (List ℕ)) (hook : List ℕ) → has_link (hooks ++ hook ∷ []) (link_number hook) ≡ true
link_new hooks hook = any_new (λ other. link_number other == link_number hook) hooks hook (eq-eqb (link_number hook) (link_number hook) refl)

turned : (b : Bool) → not b ≡ true → b ≡ false
turned false e = refl
turned true e = absurd (true≢false (sym e))

unlike : (a b : ℕ) → (a == b) ≡ false → (b == a) ≡ false
unlike a b e = elim (cases_Bool (b == a)) [
  | inl is ↦ absurd (true≢false (sym (eq-eqb a b (sym (eqb-true b a is))) ∙ e))
  | inr other ↦ other
]

link_cut : (hooks : List (List ℕ)) (hook : List ℕ) (number : ℕ) → has_link hooks number ≡ true → not (number == link_number hook) ≡ true → has_link (without_name hooks hook) number ≡ true
link_cut hooks hook number there other = any_left (λ x. link_number x == number) hooks hook there (unlike number (link_number hook) (turned (number == link_number hook) other))

link_there : (hooks : List (List ℕ)) (hook : List ℕ) → has_name hooks hook ≡ true → has_link hooks (link_number hook) ≡ true
link_there [] hook there = absurd (true≢false (sym there))
link_there (other ∷ hooks) hook there = elim (cases_Bool (bytes_eq other hook)) [
  | inl is ↦ rw (eq-eqb (link_number other) (link_number hook) (ap link_number (is_same other hook is))) refl
  | inr apart ↦ elim (cases_Bool (link_number other == link_number hook)) [
    | inl same ↦ rw same refl
    | inr differ ↦ rw differ (link_there hooks hook (rw apart at there))
  ]
]

abbrev IsIn : List (List ℕ) → List ℕ → Type 0
IsIn hooks name = has_name hooks name ≡ true

abbrev RowIn : List (List ℕ) → List ℕ × List ℕ → Type 0
RowIn hooks row = has_name hooks row.0 ≡ true

abbrev LinkIn : List (List ℕ) → Link → Type 0
LinkIn hooks l = has_link hooks l.number ≡ true

abbrev HostIn : List (List ℕ) → Host → Type 0
HostIn hooks h = has_link hooks h.link ≡ true

abbrev VlanIn : List (List ℕ) → VlanWay → Type 0
VlanIn hooks f = has_name hooks f.hook ≡ true

abbrev EtfIn : List (List ℕ) → EtfWay → Type 0
EtfIn hooks f = has_name hooks f.hook ≡ true

abbrev FilterIn : List (List ℕ) → Filter → Type 0
FilterIn hooks f = has_name hooks f.way.hook ≡ true

linked_hook : (hooks : List (List ℕ)) (l : Link) (links : List Link) → LinkIn hooks l → Every (LinkIn hooks) links → Every (LinkIn hooks) (put_link l links)
linked_hook hooks l [] p h = (p, tt)
linked_hook hooks l (m ∷ links) p h = by (nat_lt l.number m.number) (linked_hook hooks l links p h.1)
  where
    by : (b : Bool) → Every (LinkIn hooks) (put_link l links) → Every (LinkIn hooks) (if b then l ∷ m ∷ links else m ∷ put_link l links)
    by true rest = (p, (h.0, h.1))
    by false rest = (h.0, rest)

made_kept : (kept : KindState) (hooks : List (List ℕ)) (hook : List ℕ) → KeepsByHooks kept hooks → KeepsByHooks (kept_with_hook kept hook) (hooks ++ hook ∷ [])
made_kept (One2manyState s) hooks hook kept =
    every_push (RowIn (hooks ++ hook ∷ [])) s.rows (hook, zeros 5) (every_imply (RowIn hooks) (RowIn (hooks ++ hook ∷ [])) (λ row there. has_name-added hooks hook row.0 there) s.rows kept) (has_name-new hooks hook)
made_kept (BridgeState s) hooks hook kept = (
  linked_hook (hooks ++ hook ∷ []) (new_link (link_number hook)) s.links (link_new hooks hook)
      (every_imply (LinkIn hooks) (LinkIn (hooks ++ hook ∷ [])) (λ l there. link_made hooks hook l.number there) s.links kept.0),
  every_imply (HostIn hooks) (HostIn (hooks ++ hook ∷ [])) (λ h there. link_made hooks hook h.link there) s.hosts kept.1,
)
made_kept (VlanState s) hooks hook kept = every_imply (VlanIn hooks) (VlanIn (hooks ++ hook ∷ [])) (λ f there. has_name-added hooks hook f.hook there) s.filters kept
made_kept (EtfState s) hooks hook kept = every_imply (EtfIn hooks) (EtfIn (hooks ++ hook ∷ [])) (λ f there. has_name-added hooks hook f.hook there) s.filters kept
made_kept (BpfState s) hooks hook kept =
    every_push (FilterIn (hooks ++ hook ∷ [])) s (new_filter hook) (every_imply (FilterIn hooks) (FilterIn (hooks ++ hook ∷ [])) (λ f there. has_name-added hooks hook f.way.hook there) s kept) (has_name-new hooks hook)
made_kept (HubState s) hooks hook kept = tt
made_kept HoleState hooks hook kept = tt
made_kept EchoState hooks hook kept = tt
made_kept SplitState hooks hook kept = tt
made_kept SocketState hooks hook kept = tt
made_kept (TeeState s) hooks hook kept = tt
made_kept (PatchState s) hooks hook kept = tt
made_kept (EtherState s) hooks hook kept = tt
made_kept (MacsetState s) hooks hook kept = tt

cut_kept : (kept : KindState) (hooks : List (List ℕ)) (hook : List ℕ) → KeepsByHooks kept hooks → KeepsByHooks (kept_without_hook kept hook) (without_name hooks hook)
cut_kept (One2manyState s) hooks hook kept = sifted (RowIn hooks) (RowIn (without_name hooks hook)) _ (λ row there other. has_name-left hooks hook row.0 there other) s.rows kept
cut_kept (BridgeState s) hooks hook kept = (
  sifted (LinkIn hooks) (LinkIn (without_name hooks hook)) _ (λ l there other. link_cut hooks hook l.number there other) s.links kept.0,
  sifted (HostIn hooks) (HostIn (without_name hooks hook)) _ (λ h there other. link_cut hooks hook h.link there other) s.hosts kept.1,
)
cut_kept (VlanState s) hooks hook kept = sifted (VlanIn hooks) (VlanIn (without_name hooks hook)) _ (λ f there other. has_name-left hooks hook f.hook there other) s.filters kept
cut_kept (EtfState s) hooks hook kept = sifted (EtfIn hooks) (EtfIn (without_name hooks hook)) _ (λ f there other. has_name-left hooks hook f.hook there other) s.filters kept
cut_kept (BpfState s) hooks hook kept = sifted (FilterIn hooks) (FilterIn (without_name hooks hook)) _ (λ f there other. has_name-left hooks hook f.way.hook there other) s kept
cut_kept (HubState s) hooks hook kept = tt
cut_kept HoleState hooks hook kept = tt
cut_kept EchoState hooks hook kept = tt
cut_kept SplitState hooks hook kept = tt
cut_kept SocketState hooks hook kept = tt
cut_kept (TeeState s) hooks hook kept = tt
cut_kept (PatchState s) hooks hook kept = tt
cut_kept (EtherState s) hooks hook kept = tt
cut_kept (MacsetState s) hooks hook kept = tt

-- Counters

pub counts_keep : {S : Type 0} (P : S → Type 0) (count : S → Count → S) → ((s : S) (c : Count) → P s → P (count s c)) → (s : S) (counts : List Count) → P s → P (after_counts count s counts)
counts_keep P count one s [] h = h
counts_keep P count one s (c ∷ counts) h = counts_keep P count one (count s c) counts (one s c h)

rows_kept : (hooks : List (List ℕ)) (name : List ℕ) (change : List ℕ → List ℕ) (rows : Rows) → Every (RowIn hooks) rows → Every (RowIn hooks) (at_row name change rows)
rows_kept hooks name change rows h = every_map (RowIn hooks) (RowIn hooks) _ (λ row there. one row there (bytes_eq row.0 name)) rows h
  where
    one : (row : List ℕ × List ℕ) → RowIn hooks row → (b : Bool) → RowIn hooks (if b then (row.0, change row.1) else row)
    one row there true = there
    one row there false = there

links_kept : (hooks : List (List ℕ)) (number : ℕ) (change : Link → Link) → ((l : Link) → (change l).number ≡ l.number) → (links : List Link) → Every (LinkIn hooks) links → Every (LinkIn hooks) (at_link number change links)
links_kept hooks number change same links h = every_map (LinkIn hooks) (LinkIn hooks) _ (λ l there. one l there (has_number number l)) links h
  where
    one : (l : Link) → LinkIn hooks l → (b : Bool) → LinkIn hooks (if b then change l else l)
    one l there true = subst (λ (n : ℕ). has_link hooks n ≡ true) (sym (same l)) there
    one l there false = there

seen_kept : (hooks : List (List ℕ)) (number amount : ℕ) (hosts : List Host) → Every (HostIn hooks) hosts → Every (HostIn hooks) (map (see_host number amount) hosts)
seen_kept hooks number amount hosts h = every_map (HostIn hooks) (HostIn hooks) _ (λ x there. one x there (seen_number x.addr == number)) hosts h
  where
    one : (x : Host) → HostIn hooks x → (b : Bool) → HostIn hooks (if b then record x { seen = raise x.seen amount } else x)
    one x there true = there
    one x there false = there

filters_kept : (hooks : List (List ℕ)) (hook : List ℕ) (change : Filter → Filter) → ((f : Filter) → FilterIn hooks f → is_of_hook hook f ≡ true → FilterIn hooks (change f)) → (s : List Filter) → Every (FilterIn hooks) s → Every (FilterIn hooks) (at_filter hook change s)
filters_kept hooks hook change one s h = every_map (FilterIn hooks) (FilterIn hooks) _ (λ f there. by f there (is_of_hook hook f) refl) s h
  where
    by : (f : Filter) → FilterIn hooks f → (b : Bool) → is_of_hook hook f ≡ b → FilterIn hooks (if b then change f else f)
    by f there true is = one f there is
    by f there false is = there

bridge_counted : (hooks : List (List ℕ)) (s : Bridge) (c : Count) (b : Bool) → KeepsByHooks (BridgeState s) hooks → KeepsByHooks (BridgeState (count_bridge_if b s c)) hooks
bridge_counted hooks s c true h = (links_kept hooks (link_number c.0) (λ l. record l { counters = raise_at l.counters c.1 c.2 }) (λ l. refl) s.links h.0, h.1)
bridge_counted hooks s c false h = (h.0, seen_kept hooks c.1 c.2 s.hosts h.1)

many_counted : (hooks : List (List ℕ)) (s : One2many) (counts : List Count) → KeepsByHooks (One2manyState s) hooks → KeepsByHooks (One2manyState (after_counts count_many s counts)) hooks
many_counted hooks s counts h = counts_keep (λ x. KeepsByHooks (One2manyState x) hooks) count_many (λ x c k. rows_kept hooks c.0 _ x.rows k) s counts h

absorb_kept : (kept : KindState) (hooks : List (List ℕ)) (counts : List Count) → KeepsByHooks kept hooks → KeepsByHooks (absorb kept counts) hooks
absorb_kept (One2manyState s) hooks counts h = many_counted hooks s counts h
absorb_kept (BridgeState s) hooks counts h = counts_keep (λ x. KeepsByHooks (BridgeState x) hooks) count_bridge (λ x c k. bridge_counted hooks x c (nat_lt c.1 14) k) s counts h
absorb_kept (BpfState s) hooks counts h = counts_keep (λ x. KeepsByHooks (BpfState x) hooks) count_filter (λ x c k. filters_kept hooks c.0 _ (λ f there is. there) x k) s counts h
absorb_kept (EtfState s) hooks counts h = counts_keep (λ x. KeepsByHooks (EtfState x) hooks) count_etf (λ x c k. k) s counts h
absorb_kept (VlanState s) hooks counts h = h
absorb_kept _ hooks counts h = tt

absorb_kind : (kept : KindState) (counts : List Count) → kind_of_kept (absorb kept counts) ≡ kind_of_kept kept
absorb_kind (One2manyState s) counts = refl
absorb_kind _ counts = refl

passed_kept : (kept : KindState) (hooks : List (List ℕ)) (door : Door) (counts : List Count) → KeepsByHooks kept hooks → KeepsByHooks (kept_after_frame kept hooks door counts) hooks
passed_kept (One2manyState s) hooks door counts h = many_counted hooks s counts h
passed_kept (BridgeState s) hooks door counts h = absorb_kept (BridgeState s) hooks counts h
passed_kept (BpfState s) hooks door counts h = absorb_kept (BpfState s) hooks counts h
passed_kept (EtfState s) hooks door counts h = absorb_kept (EtfState s) hooks counts h
passed_kept (VlanState s) hooks door counts h = h
passed_kept _ hooks door counts h = tt

-- Time and learning

ticked_kept : (kept : KindState) (hooks : List (List ℕ)) (seconds : ℕ) → KeepsByHooks kept hooks → KeepsByHooks (kept_after_tick kept seconds) hooks
ticked_kept (BridgeState s) hooks seconds h = (
  every_map (LinkIn hooks) (LinkIn hooks) (calm_link seconds) (λ l there. there) s.links h.0,
  sifted (HostIn hooks) (HostIn hooks) _ (λ x there passes. there) (map (λ x. age_host seconds (rest_host x)) s.hosts)
      (every_map (HostIn hooks) (HostIn hooks) (λ x. age_host seconds (rest_host x)) (λ x there. one x there (nat_lt 0 x.seen)) s.hosts h.1),
)
  where
    one : (x : Host) → HostIn hooks x → (b : Bool) → HostIn hooks (age_host seconds (if b then record x { staleness = 0; seen = 0 } else x))
    one x there true = there
    one x there false = there
ticked_kept (One2manyState s) hooks seconds h = h
ticked_kept (BpfState s) hooks seconds h = h
ticked_kept (EtfState s) hooks seconds h = h
ticked_kept (VlanState s) hooks seconds h = h
ticked_kept (HubState s) hooks seconds h = tt
ticked_kept HoleState hooks seconds h = tt
ticked_kept EchoState hooks seconds h = tt
ticked_kept SplitState hooks seconds h = tt
ticked_kept SocketState hooks seconds h = tt
ticked_kept (TeeState s) hooks seconds h = tt
ticked_kept (PatchState s) hooks seconds h = tt
ticked_kept (EtherState s) hooks seconds h = tt
ticked_kept (MacsetState s) hooks seconds h = tt

host_put : (hooks : List (List ℕ)) (x : Host) (hosts : List Host) → HostIn hooks x → Every (HostIn hooks) hosts → Every (HostIn hooks) (put_host x hosts)
host_put hooks x [] p h = (p, tt)
host_put hooks x (y ∷ hosts) p h = by (bytes_eq y.addr x.addr) (nat_lt (big_number 6 x.addr) (big_number 6 y.addr)) (host_put hooks x hosts p h.1)
  where
    by : (a b : Bool) → Every (HostIn hooks) (put_host x hosts) → Every (HostIn hooks) (if a then x ∷ hosts else if b then x ∷ y ∷ hosts else y ∷ put_host x hosts)
    by true b rest = (p, h.1)
    by false true rest = (p, (h.0, h.1))
    by false false rest = (h.0, rest)

learned_by : (standing : Standing) (s : Bridge) (hooks : List (List ℕ)) (hook addr : List ℕ) → has_name hooks hook ≡ true → KeepsByHooks (BridgeState s) hooks → KeepsByHooks (BridgeState (learn_by_standing standing s (link_number hook) addr)) hooks
learned_by Known s hooks hook addr there h = (h.0, seen_kept hooks (seen_number addr) 1 s.hosts h.1)
learned_by Looped s hooks hook addr there h = (
  links_kept hooks (link_number hook) _ (λ l. refl) s.links h.0,
  sifted (HostIn hooks) (HostIn hooks) _ (λ x there passes. there) s.hosts h.1,
)
learned_by News s hooks hook addr there h = (h.0, host_put hooks (new_host addr (link_number hook)) s.hosts (link_there hooks hook there) h.1)
learned_by Crowded s hooks hook addr there h = h

learned_kept : (kept : KindState) (hooks : List (List ℕ)) (hook addr : List ℕ) → has_name hooks hook ≡ true → KeepsByHooks kept hooks → KeepsByHooks (kept_after_learn kept hook addr) hooks
learned_kept (BridgeState s) hooks hook addr there h = by (nat_lt 0 (mute_of (map link_way s.links) hook))
  where
    by : (b : Bool) → KeepsByHooks (BridgeState (if b then s else learn_by_standing (standing s.config (map host_way s.hosts) (link_number hook) addr) s (link_number hook) addr)) hooks
    by true = h
    by false = learned_by (standing s.config (map host_way s.hosts) (link_number hook) addr) s hooks hook addr there h
learned_kept (One2manyState s) hooks hook addr there h = h
learned_kept (BpfState s) hooks hook addr there h = h
learned_kept (EtfState s) hooks hook addr there h = h
learned_kept (VlanState s) hooks hook addr there h = h
learned_kept (HubState s) hooks hook addr there h = tt
learned_kept HoleState hooks hook addr there h = tt
learned_kept EchoState hooks hook addr there h = tt
learned_kept SplitState hooks hook addr there h = tt
learned_kept SocketState hooks hook addr there h = tt
learned_kept (TeeState s) hooks hook addr there h = tt
learned_kept (PatchState s) hooks hook addr there h = tt
learned_kept (EtherState s) hooks hook addr there h = tt
learned_kept (MacsetState s) hooks hook addr there h = tt

-- Messages

record Holds {S : Type 0} (make : S → KindState) (hooks : List (List ℕ)) (reply : Reply S) : Type 0 where
  kept : KeepsByHooks (make reply.after) hooks

holds : {S : Type 0} {make : S → KindState} {hooks : List (List ℕ)} {reply : Reply S} → KeepsByHooks (make reply.after) hooks → Holds make hooks reply
holds h = record { kept = h }

-- where nothing is refused each test of the table fails
pub none_of : (refusals : List (Bool × Errno)) → first_refusal refusals ≡ None → Every (λ (r : Bool × Errno). r.0 ≡ false) refusals
none_of [] h = tt
none_of ((true, e) ∷ rest) h = absurd (cc h)
none_of ((false, e) ∷ rest) h = (refl, none_of rest h)

guarded : {S : Type 0} (make : S → KindState) (hooks : List (List ℕ)) (s after : S) (refusals : List (Bool × Errno)) → KeepsByHooks (make s) hooks
    → (first_refusal refusals ≡ None → KeepsByHooks (make after) hooks) → Holds make hooks (unless_refused s (first_refusal refusals) (sets after))
guarded make hooks s after refusals h one = by (first_refusal refusals) refl
  where
    by : (e : Option Errno) → first_refusal refusals ≡ e → Holds make hooks (unless_refused s e (sets after))
    by None is = holds (one is)
    by (Some errno) is = holds h

sized : {S : Type 0} (make : S → KindState) (hooks : List (List ℕ)) (s : S) (n : ℕ) (args : List ℕ) (reply : Reply S) → KeepsByHooks (make s) hooks → Holds make hooks reply → Holds make hooks (with_length s n args reply)
sized make hooks s n args reply h one = with_length_all (Holds make hooks) s n args reply (holds h) one

many_row : (hooks : List (List ℕ)) (s : One2many) (row : Option (List ℕ)) (reply : List ℕ → Reply One2many) → KeepsByHooks (One2manyState s) hooks → ((row : List ℕ) → Holds One2manyState hooks (reply row)) → Holds One2manyState hooks (many.by_row s row reply)
many_row hooks s None reply h one = holds h
many_row hooks s (Some row) reply h one = one row

many_hook : (hooks : List (List ℕ)) (s : One2many) (hook : Option (List ℕ)) (reply : List ℕ → List ℕ → Reply One2many) → KeepsByHooks (One2manyState s) hooks → ((hook row : List ℕ) → Holds One2manyState hooks (reply hook row)) → Holds One2manyState hooks (many.by_hook s hook reply)
many_hook hooks s None reply h one = holds h
many_hook hooks s (Some hook) reply h one = many_row hooks s (row_named hook s.rows) (reply hook) h (one hook)

many_link : (hooks : List (List ℕ)) (s : One2many) (args : List ℕ) (reply : List ℕ → List ℕ → Reply One2many) → KeepsByHooks (One2manyState s) hooks → ((hook row : List ℕ) → Holds One2manyState hooks (reply hook row)) → Holds One2manyState hooks (many.by_link s args reply)
many_link hooks s args reply h one = sized One2manyState hooks s 4 args (many.by_hook s (many.link_hook (number_at 4 args 0)) reply) h (many_hook hooks s (many.link_hook (number_at 4 args 0)) reply h one)

config_holds : (hooks : List (List ℕ)) (s : One2many) (args : List ℕ) → KeepsByHooks (One2manyState s) hooks → Holds One2manyState hooks (many.set_config s args)
config_holds hooks s args h = guarded One2manyState hooks s (many.with_config s args) (many.config_refusals s args) h (λ _. h)

many_reply : (hooks : List (List ℕ)) (s : One2many) (number : ℕ) (args : List ℕ) → KeepsByHooks (One2manyState s) hooks → Holds One2manyState hooks (many.one2many_message s number args)
many_reply hooks s number args h = by_number_all (Holds One2manyState hooks) s number (many.one2many_messages s args) (holds h) (
  (λ _. sized One2manyState hooks s 72 args (many.set_config s args) h (config_holds hooks s args h)),
  (
    (λ _. sized One2manyState hooks s 0 args (answers s (many.config_bytes s)) h (holds h)),
    (
      (λ _. many_link hooks s args (λ hook row. answers s (row_bytes row)) h (λ hook row. holds h)),
      (
        (λ _. many_link hooks s args (λ hook row. sets (many.many_clear s hook)) h (λ hook row. holds (rows_kept hooks hook (λ r. zeros 5) s.rows h))),
        ((λ _. many_link hooks s args (λ hook row. answers (many.many_clear s hook) (row_bytes row)) h (λ hook row. holds (rows_kept hooks hook (λ r. zeros 5) s.rows h))), tt),
      ),
    ),
  ),
)

found_link : (hooks : List (List ℕ)) (s : Bridge) (l : Option Link) (reply : Link → Reply Bridge) → KeepsByHooks (BridgeState s) hooks → ((l : Link) → Holds BridgeState hooks (reply l)) → Holds BridgeState hooks (bridge.by_link_found s l reply)
found_link hooks s None reply h one = holds h
found_link hooks s (Some l) reply h one = one l

bridge_link : (hooks : List (List ℕ)) (s : Bridge) (args : List ℕ) (reply : Link → Reply Bridge) → KeepsByHooks (BridgeState s) hooks → ((l : Link) → Holds BridgeState hooks (reply l)) → Holds BridgeState hooks (bridge.by_link s args reply)
bridge_link hooks s args reply h one = sized BridgeState hooks s 4 args (bridge.by_link_number s (number_at 4 args 0) reply) h (by (nat_lt (number_at 4 args 0) bridge.most_links))
  where
    by : (b : Bool) → Holds BridgeState hooks (if b then bridge.by_link_found s (find (has_number (number_at 4 args 0)) s.links) reply else invalid s)
    by true = found_link hooks s (find (has_number (number_at 4 args 0)) s.links) reply h one
    by false = holds h

bridge_reply : (hooks : List (List ℕ)) (s : Bridge) (number : ℕ) (args : List ℕ) → KeepsByHooks (BridgeState s) hooks → Holds BridgeState hooks (bridge.bridge_message s number args)
bridge_reply hooks s number args h = by_number_all (Holds BridgeState hooks) s number (bridge.bridge_messages s args) (holds h) (
  (λ _. sized BridgeState hooks s 16 args (sets (record s { config = bridge.bridge_config_in args })) h (holds h)),
  (
    (λ _. sized BridgeState hooks s 0 args (answers s (bridge.bridge_config_bytes s.config)) h (holds h)),
    (
      (λ _. sized BridgeState hooks s 0 args (sets (bridge.bridge_reset s)) h (holds (every_map (LinkIn hooks) (LinkIn hooks) (λ l. new_link l.number) (λ l there. there) s.links h.0, tt))),
      (
        (λ _. bridge_link hooks s args (λ l. answers s (row_bytes l.counters)) h (λ l. holds h)),
        (
          (λ _. bridge_link hooks s args (λ l. sets (bridge.bridge_clear s l)) h (λ l. holds (links_kept hooks l.number (λ m. record m { counters = zeros 14 }) (λ m. refl) s.links h.0, h.1))),
          (
            (λ _. bridge_link hooks s args (λ l. answers (bridge.bridge_clear s l) (row_bytes l.counters)) h (λ l. holds (links_kept hooks l.number (λ m. record m { counters = zeros 14 }) (λ m. refl) s.links h.0, h.1))),
            (
              (λ _. sized BridgeState hooks s 0 args (answers s (bridge.hosts_bytes s.hosts)) h (holds h)),
              ((λ _. sized BridgeState hooks s 0 args (sets (record s { persistent = true })) h (holds h)), tt),
            ),
          ),
        ),
      ),
    ),
  ),
)

vlan_put : (hooks : List (List ℕ)) (f : VlanWay) (filters : List VlanWay) → VlanIn hooks f → Every (VlanIn hooks) filters → Every (VlanIn hooks) (vlan.put_filter f filters)
vlan_put hooks f [] p h = (p, tt)
vlan_put hooks f (g ∷ filters) p h = by (nat_lt f.vlan g.vlan) (vlan_put hooks f filters p h.1)
  where
    by : (b : Bool) → Every (VlanIn hooks) (vlan.put_filter f filters) → Every (VlanIn hooks) (if b then f ∷ g ∷ filters else g ∷ vlan.put_filter f filters)
    by true rest = (p, (h.0, h.1))
    by false rest = (h.0, rest)

pub is_not : (b : Bool) → not b ≡ false → b ≡ true
is_not true e = refl
is_not false e = absurd (true≢false e)

add_holds : (hooks : List (List ℕ)) (s : Vlan) (f : VlanWay) → KeepsByHooks (VlanState s) hooks → Holds VlanState hooks (vlan.add_filter s hooks f)
add_holds hooks s f h = guarded VlanState hooks s (vlan.with_filter s hooks f) (vlan.add_refusals s hooks f) h
    (λ none. vlan_put hooks f s.filters (is_not (has_name hooks f.hook) (none_of (vlan.add_refusals s hooks f) none).1.1.1.1.1.0) h)

vlan_reply : (hooks : List (List ℕ)) (s : Vlan) (number : ℕ) (args : List ℕ) → KeepsByHooks (VlanState s) hooks → Holds VlanState hooks (vlan.vlan_message s hooks number args)
vlan_reply hooks s number args h = by_number_all (Holds VlanState hooks) s number (vlan.vlan_messages s hooks args) (holds h) (
  (λ _. sized VlanState hooks s 36 args (vlan.add_filter s hooks (vlan.filter_in args)) h (add_holds hooks s (vlan.filter_in args) h)),
  (
    (λ _. sized VlanState hooks s 32 args (vlan.delete_filter s (text_at args 0)) h
        (guarded VlanState hooks s (vlan.vlan_without_hook s (text_at args 0)) (vlan.delete_refusals s (text_at args 0)) h (λ _. sifted (VlanIn hooks) (VlanIn hooks) _ (λ f there other. there) s.filters h))),
    (
      (λ _. sized VlanState hooks s 0 args (answers s (vlan.filters_bytes s.filters)) h (holds h)),
      (
        (λ _. sized VlanState hooks s 4 args (vlan.set_kind s (number_at 4 args 0)) h (guarded VlanState hooks s (record s { kind = number_at 4 args 0 }) (vlan.kind_refusals s (number_at 4 args 0)) h (λ _. h))),
        ((λ _. sized VlanState hooks s 0 args (answers s (little_bytes 4 s.kind)) h (holds h)), tt),
      ),
    ),
  ),
)

found_filter : (hooks : List (List ℕ)) (s : List Filter) (f : Option Filter) (reply : Filter → Reply (List Filter)) → KeepsByHooks (BpfState s) hooks → ((f : Filter) → Holds BpfState hooks (reply f)) → Holds BpfState hooks (bpf.by_filter s f reply)
found_filter hooks s None reply h one = holds h
found_filter hooks s (Some f) reply h one = one f

refused_or : {S : Type 0} (make : S → KindState) (hooks : List (List ℕ)) (s : S) (e : Option Errno) (reply : Reply S) → KeepsByHooks (make s) hooks → Holds make hooks reply → Holds make hooks (unless_refused s e reply)
refused_or make hooks s None reply h one = one
refused_or make hooks s (Some errno) reply h one = holds h

hook_filter : (hooks : List (List ℕ)) (s : List Filter) (args : List ℕ) (reply : Filter → Reply (List Filter)) → KeepsByHooks (BpfState s) hooks → ((f : Filter) → Holds BpfState hooks (reply f)) → Holds BpfState hooks (bpf.of_hook s args reply)
hook_filter hooks s args reply h one = sized BpfState hooks s 32 args _ h
    (refused_or BpfState hooks s (first_refusal ((not (is_name (text_at args 0)), einval) ∷ [])) (bpf.by_filter s (find (is_of_hook (text_at args 0)) s) reply) h (found_filter hooks s (find (is_of_hook (text_at args 0)) s) reply h one))

program_holds : (hooks : List (List ℕ)) (s : List Filter) (args : List ℕ) → KeepsByHooks (BpfState s) hooks → Holds BpfState hooks (bpf.set_program s args)
program_holds hooks s args h = guarded BpfState hooks s (bpf.with_program s args) (bpf.program_refusals s args) h
    (λ _. filters_kept hooks (text_at args 0) _ (λ f there is. subst (λ (n : List ℕ). has_name hooks n ≡ true) (is_same f.way.hook (text_at args 0) is) there) s h)

bpf_reply : (hooks : List (List ℕ)) (s : List Filter) (number : ℕ) (args : List ℕ) → KeepsByHooks (BpfState s) hooks → Holds BpfState hooks (bpf.bpf_message s number args)
bpf_reply hooks s number args h = by_number_all (Holds BpfState hooks) s number (bpf.bpf_messages s args) (holds h) (
  (λ _. program_holds hooks s args h),
  (
    (λ _. hook_filter hooks s args (λ f. answers s (bpf.way_bytes f.way)) h (λ f. holds h)),
    (
      (λ _. hook_filter hooks s args (λ f. answers s (row_bytes f.counters)) h (λ f. holds h)),
      (
        (λ _. hook_filter hooks s args (λ f. sets (bpf.bpf_clear s f)) h (λ f. holds (filters_kept hooks f.way.hook _ (λ g there is. there) s h))),
        ((λ _. hook_filter hooks s args (λ f. answers (bpf.bpf_clear s f) (row_bytes f.counters)) h (λ f. holds (filters_kept hooks f.way.hook _ (λ g there is. there) s h))), tt),
      ),
    ),
  ),
)

etf_put : (hooks : List (List ℕ)) (f : EtfWay) (filters : List EtfWay) → EtfIn hooks f → Every (EtfIn hooks) filters → Every (EtfIn hooks) (etf.put_etf f filters)
etf_put hooks f [] p h = (p, tt)
etf_put hooks f (g ∷ filters) p h = by (nat_lt f.ethertype g.ethertype) (etf_put hooks f filters p h.1)
  where
    by : (b : Bool) → Every (EtfIn hooks) (etf.put_etf f filters) → Every (EtfIn hooks) (if b then f ∷ g ∷ filters else g ∷ etf.put_etf f filters)
    by true rest = (p, (h.0, h.1))
    by false rest = (h.0, rest)

set_holds : (hooks : List (List ℕ)) (s : Etf) (f : EtfWay) → KeepsByHooks (EtfState s) hooks → Holds EtfState hooks (etf.set_filter s hooks f)
set_holds hooks s f h = guarded EtfState hooks s (etf.with_etf_filter s hooks f) (etf.filter_refusals s hooks f) h
    (λ none. etf_put hooks f s.filters (is_not (has_name hooks f.hook) (none_of (etf.filter_refusals s hooks f) none).1.1.1.0) h)

etf_reply : (hooks : List (List ℕ)) (s : Etf) (number : ℕ) (args : List ℕ) → KeepsByHooks (EtfState s) hooks → Holds EtfState hooks (etf.etf_message s hooks number args)
etf_reply hooks s number args h = by_number_all (Holds EtfState hooks) s number (etf.etf_messages s hooks args) (holds h) (
  (λ _. sized EtfState hooks s 34 args (etf.set_filter s hooks (etf.etf_filter_in args)) h (set_holds hooks s (etf.etf_filter_in args) h)),
  (
    (λ _. sized EtfState hooks s 0 args (answers s (row_bytes s.counters)) h (holds h)),
    ((λ _. sized EtfState hooks s 0 args (answers s (etf.etf_filters_bytes s.filters)) h (holds h)), tt),
  ),
)

reply_kept : (kept : KindState) (hooks : List (List ℕ)) (number : ℕ) (args : List ℕ) → KeepsByHooks kept hooks → KeepsByHooks (reply_of kept hooks number args).after hooks
reply_kept (One2manyState s) hooks number args h = (many_reply hooks s number args h).kept
reply_kept (BridgeState s) hooks number args h = (bridge_reply hooks s number args h).kept
reply_kept (VlanState s) hooks number args h = (vlan_reply hooks s number args h).kept
reply_kept (BpfState s) hooks number args h = (bpf_reply hooks s number args h).kept
reply_kept (EtfState s) hooks number args h = (etf_reply hooks s number args h).kept
reply_kept _ hooks number args h = tt

-- States

blank_sound : (kind : Kind) → IsSound (blank_of kind)
blank_sound OfBridge = record { taken = tt; kept = (tt, tt) }
blank_sound _ = record { taken = tt; kept = tt }

same_taken : (state : State) (kept : KindState) → kind_of_kept kept ≡ kind_of_kept state.kept → KeepsByHooks kept state.hooks → IsSound state → IsSound (record state { kept = kept })
same_taken state after kind keeps sound = record {
  taken = subst (λ (k : Kind). Every (λ (hook : List ℕ). accepts_hook k hook ≡ true) state.hooks) (sym kind) sound.taken;
  kept = keeps;
}

after_sound : (state : State) (body : Body) → IsByHook state body → IsSound state → IsSound (record state { kept = kept_after state body })
after_sound state (Frame door link packet) by sound =
    same_taken state _ (passed_kind state.kept state.hooks door (outcome_of state (Frame door link packet)).counts) (passed_kept state.kept state.hooks door (outcome_of state (Frame door link packet)).counts sound.kept) sound
after_sound state (Msg msg) by sound = same_taken state _ (reply_kind state.kept state.hooks msg.header.cmd msg.args) (reply_kept state.kept state.hooks msg.header.cmd msg.args sound.kept) sound
after_sound state (Join2 hook link peer peer_hook) by sound = sound
after_sound state (Join3 hook link) by sound = sound
after_sound state (Undo hook link errno) by sound = sound
after_sound state (Leave hook link) by sound = sound
after_sound state (Rebind hook old new peer peer_hook) by sound = sound
after_sound state (Tick seconds) by sound = same_taken state _ (ticked_kind state.kept seconds) (ticked_kept state.kept state.hooks seconds sound.kept) sound
after_sound state (Learn hook link addr) by sound = same_taken state _ (learned_kind state.kept hook addr) (learned_kept state.kept state.hooks hook addr by sound.kept) sound

pub states_stay_sound : StatesStaySound
states_stay_sound = record {
  blank = blank_sound;
  made = λ state hook sound takes. record {
    taken = subst (λ (k : Kind). Every (λ (x : List ℕ). accepts_hook k x ≡ true) (state.hooks ++ hook ∷ [])) (sym (made_kind state.kept hook))
        (every_push (λ (x : List ℕ). accepts_hook (kind_of_kept state.kept) x ≡ true) state.hooks hook sound.taken takes);
    kept = made_kept state.kept state.hooks hook sound.kept;
  };
  cut = λ state hook sound. record {
    taken = subst (λ (k : Kind). Every (λ (x : List ℕ). accepts_hook k x ≡ true) (without_name state.hooks hook)) (sym (cut_kind state.kept hook))
        (sifted (λ (x : List ℕ). accepts_hook (kind_of_kept state.kept) x ≡ true) (λ (x : List ℕ). accepts_hook (kind_of_kept state.kept) x ≡ true) _ (λ x there other. there) state.hooks sound.taken);
    kept = cut_kept state.kept state.hooks hook sound.kept;
  };
  absorbed = λ state counts sound. same_taken state _ (absorb_kind state.kept counts) (absorb_kept state.kept state.hooks counts sound.kept) sound;
  after = after_sound;
}
