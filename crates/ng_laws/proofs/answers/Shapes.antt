-- What a node keeps has the lengths that its answers have: through new hooks and cuts, packets, time and learning.
use Rattle.std.proofs.Common.{◌≡◌, ◌≤◌, ◌==◌, nat_lt, if◌then◌else◌, ℕ, suc, Bool, true, false, List, [], ◌∷◌, map, length}
use Rattle.std.proofs.Common.{length-set, refl, ◌∙◌, arith}
use Rattle.std.specs.Str.{bytes_eq}
use Rattle.std.proofs.lemmas.List.{length-map}
use Rattle.byteorder.specs.Endian.{big_number}
use Rattle.ng_base.specs.declared.kind.Kind.{Kind}
use Rattle.ng_base.specs.declared.kind.Kind.TheVariants.{Tee as OfTee}
use Rattle.ng_base.specs.declared.kind.Kind.TheVariants.{One2many as OfOne2many, Bridge as OfBridge}
use Rattle.ng_base.specs.declared.kind.Kind.TheVariants.{Patch as OfPatch}
use Rattle.ng_base.specs.declared.kind.Kind.TheVariants.{Etf as OfEtf, Macset as OfMacset}
use Rattle.ng_message.specs.Fields.{text_or_empty}
use Rattle.ng_machine.specs.declared.body.Door.{Door}
use Rattle.ng_machine.specs.declared.plan.BpfWay.{BpfWay}
use Rattle.ng_machine.specs.declared.plan.EtfWay.{EtfWay}
use Rattle.ng_machine.specs.declared.plan.VlanWay.{VlanWay}
use Rattle.ng_machine.specs.Words.{Every}
use Rattle.ng_machine.specs.Counters.{Count, Rows, zeros, raise, raise_at, at_row, after_counts}
use Rattle.ng_machine.specs.kinds.One2many.{One2many, count_many}
use Rattle.ng_machine.specs.kinds.Bridge.{Bridge, Link, Host, Standing, Known, Looped, News, Crowded, link_number, put_link, new_link}
use Rattle.ng_machine.specs.kinds.Bridge.{has_number, at_link, see_host, seen_number, count_bridge, count_bridge_if, calm_link}
use Rattle.ng_machine.specs.kinds.Bridge.{age_host, rest_host, put_host, new_host, learn_by_standing, standing, mute_of, link_way}
use Rattle.ng_machine.specs.kinds.Bridge.{host_way}
use Rattle.ng_machine.specs.kinds.Bpf.{Filter, new_filter, is_of_hook, at_filter, count_filter}
use Rattle.ng_machine.specs.kinds.Etf.{count_etf}
use Rattle.ng_machine.specs.kinds.Macset.{count_macset}
use Rattle.ng_machine.specs.State.{KindState, HubState, HoleState, EchoState, SplitState, SocketState, TeeState, One2manyState}
use Rattle.ng_machine.specs.State.{BridgeState, VlanState, PatchState, BpfState, EtherState, EtfState, MacsetState, blank_kept}
use Rattle.ng_machine.specs.State.{kept_with_hook, kept_without_hook, kept_without_hooks}
use Rattle.ng_machine.specs.Case.{absorb, kept_after_frame, kept_after_tick, kept_after_learn}
use Rattle.ng_machine.proofs.Every.{every_push, every_filter}
use Rattle.ng_machine.proofs.Sounded.{counts_keep}
use Rattle.ng_machine.proofs.Every.{every_map}
use Rattle.ng_laws.proofs.answers.Rows.{IsShort, fewer}

-- What has the right lengths, and how many elements there are whose number isn't bounded by the state

abbrev pub RowsOf : ℕ → Rows → Type 0
RowsOf k rows = Every (λ (row : List ℕ × List ℕ). length row.1 ≡ k) rows

abbrev pub HasCounters : Link → Type 0
HasCounters l = length l.counters ≡ 14

abbrev pub HasAddress : Host → Type 0
HasAddress h = length h.addr ≡ 6

abbrev pub IsShortWay : VlanWay → Type 0
IsShortWay f = IsShort f.hook

abbrev pub IsShortFilter : EtfWay → Type 0
IsShortFilter f = IsShort f.hook

pub record IsShapedWay (way : BpfWay) : Type 0 where
  pub hook : IsShort way.hook
  pub match : IsShort (text_or_empty way.if_match)
  pub not_match : IsShort (text_or_empty way.if_not_match)
  pub few : length way.program ≤ 512

abbrev pub IsShapedFilter : Filter → Type 0
IsShapedFilter f = IsShapedWay f.way × (length f.counters ≡ 6)

abbrev pub IsSix : List ℕ → Type 0
IsSix address = length address ≡ 6

abbrev pub HasLengths : KindState → Type 0
HasLengths (TeeState rows) = RowsOf 4 rows × (length rows ≡ 4)
HasLengths (One2manyState s) = RowsOf 5 s.rows × (length s.enabled ≡ 64)
HasLengths (BridgeState s) = Every HasCounters s.links × Every HasAddress s.hosts
HasLengths (VlanState s) = Every IsShortWay s.filters
HasLengths (PatchState ops) = length ops ≤ 128
HasLengths (BpfState s) = Every IsShapedFilter s
HasLengths (EtfState s) = Every IsShortFilter s.filters × (length s.counters ≡ 2)
HasLengths (MacsetState s) = Every IsSix s.addresses × (length s.counters ≡ 2)
HasLengths (HubState persistent) = Unit {0}
HasLengths HoleState = Unit {0}
HasLengths EchoState = Unit {0}
HasLengths SplitState = Unit {0}
HasLengths SocketState = Unit {0}
HasLengths (EtherState s) = Unit {0}

abbrev pub size_of : KindState → ℕ
size_of (BridgeState s) = length s.hosts
size_of (VlanState s) = length s.filters
size_of (EtfState s) = length s.filters
size_of (MacsetState s) = length s.addresses
size_of _ = 0

abbrev pub IsShaped : ℕ → KindState → Type 0
IsShaped n kept = HasLengths kept × (size_of kept ≤ n)

pub more_shaped : (n m : ℕ) (kept : KindState) → n ≤ m → IsShaped n kept → IsShaped m kept
more_shaped n m kept le h = (h.0, let few = h.1 in omega arith)

pub blank_shaped : (kind : Kind) → IsShaped 0 (blank_kept kind)
blank_shaped OfTee = (((refl, (refl, (refl, (refl, tt)))), refl), omega arith)
blank_shaped OfOne2many = ((tt, refl), omega arith)
blank_shaped OfBridge = ((tt, tt), omega arith)
blank_shaped OfPatch = (omega arith, omega arith)
blank_shaped OfEtf = ((tt, refl), omega arith)
blank_shaped OfMacset = ((tt, refl), omega arith)
blank_shaped _ = (tt, omega arith)

-- New hooks and cuts

link_put : (l : Link) (links : List Link) → HasCounters l → Every HasCounters links → Every HasCounters (put_link l links)
link_put l [] p h = (p, tt)
link_put l (m ∷ links) p h = by (nat_lt l.number m.number) (link_put l links p h.1)
  where
    by : (b : Bool) → Every HasCounters (put_link l links) → Every HasCounters (if b then l ∷ m ∷ links else m ∷ put_link l links)
    by true rest = (p, (h.0, h.1))
    by false rest = (h.0, rest)

pub made_shaped : (n : ℕ) (kept : KindState) (hook : List ℕ) → IsShort hook → IsShaped n kept
    → IsShaped n (kept_with_hook kept hook)
made_shaped n (One2manyState s) hook short h = (
  (
    every_push (λ (row : List ℕ × List ℕ). length row.1 ≡ 5) s.rows
        (hook, zeros 5) h.0.0 refl,
    h.0.1,
  ),
  h.1,
)
made_shaped n (BridgeState s) hook short h = ((link_put (new_link (link_number hook)) s.links refl h.0.0, h.0.1), h.1)
made_shaped n (BpfState s) hook short h = (
  every_push IsShapedFilter s (new_filter hook) h.0
      (record { hook = short; match = omega arith; not_match = omega arith; few = omega arith }, refl),
  h.1,
)
made_shaped n (TeeState rows) hook short h = h
made_shaped n (VlanState s) hook short h = h
made_shaped n (PatchState ops) hook short h = h
made_shaped n (EtfState s) hook short h = h
made_shaped n (MacsetState s) hook short h = h
made_shaped n (HubState persistent) hook short h = h
made_shaped n HoleState hook short h = h
made_shaped n EchoState hook short h = h
made_shaped n SplitState hook short h = h
made_shaped n SocketState hook short h = h
made_shaped n (EtherState s) hook short h = h

pub cut_shaped : (n : ℕ) (kept : KindState) (hook : List ℕ) → IsShaped n kept → IsShaped n (kept_without_hook kept hook)
cut_shaped n (One2manyState s) hook h = ((every_filter (λ (row : List ℕ × List ℕ). length row.1 ≡ 5) _ s.rows h.0.0, h.0.1), h.1)
cut_shaped n (BridgeState s) hook h = (
  (
    every_filter HasCounters _ s.links h.0.0,
    every_filter HasAddress _ s.hosts h.0.1,
  ),
  let few = h.1 in omega (arith, fewer {A = Host}),
)
cut_shaped n (VlanState s) hook h = (every_filter IsShortWay _ s.filters h.0, let few = h.1 in omega (arith, fewer {A = VlanWay}))
cut_shaped n (BpfState s) hook h = (every_filter IsShapedFilter _ s h.0, h.1)
cut_shaped n (EtfState s) hook h = (
  (every_filter IsShortFilter _ s.filters h.0.0, h.0.1),
  let few = h.1 in
      omega (arith, fewer {A = EtfWay}),
)
cut_shaped n (TeeState rows) hook h = h
cut_shaped n (PatchState ops) hook h = h
cut_shaped n (MacsetState s) hook h = h
cut_shaped n (HubState persistent) hook h = h
cut_shaped n HoleState hook h = h
cut_shaped n EchoState hook h = h
cut_shaped n SplitState hook h = h
cut_shaped n SocketState hook h = h
cut_shaped n (EtherState s) hook h = h

pub cut_all_shaped : (n : ℕ) (kept : KindState) (hooks : List (List ℕ)) → IsShaped n kept
    → IsShaped n (kept_without_hooks kept hooks)
cut_all_shaped n kept [] h = h
cut_all_shaped n kept (hook ∷ hooks) h = cut_all_shaped n (kept_without_hook kept hook) hooks (cut_shaped n kept hook h)

-- Counters

raised_length : (row : List ℕ) (number amount : ℕ) → length (raise_at row number amount) ≡ length row
raised_length row number amount = length-set {A = ℕ} row number _

pub rows_changed : (k : ℕ) (name : List ℕ) (change : List ℕ → List ℕ)
    → ((row : List ℕ) → length row ≡ k → length (change row) ≡ k) → (rows : Rows) → RowsOf k rows
    → RowsOf k (at_row name change rows)
rows_changed k name change keeps rows h = every_map (λ (row : List ℕ × List ℕ). length row.1 ≡ k)
    (λ (row : List ℕ × List ℕ). length row.1 ≡ k) _ (λ row is. by row is (bytes_eq row.0 name)) rows h
  where
    by : (row : List ℕ × List ℕ) → length row.1 ≡ k → (b : Bool) → length (if b then (row.0, change row.1) else row).1 ≡ k
    by row is true = keeps row.1 is
    by row is false = is

rows_counted : (k : ℕ) (rows : Rows) (c : Count) → RowsOf k rows → RowsOf k (at_row c.0 (λ row. raise_at row c.1 c.2) rows)
rows_counted k rows c h = rows_changed k c.0 (λ row. raise_at row c.1 c.2) (λ row is. raised_length row c.1 c.2 ∙ is) rows h

pub links_changed : (number : ℕ) (change : Link → Link) → ((l : Link) → HasCounters l → HasCounters (change l))
    → (links : List Link) → Every HasCounters links → Every HasCounters (at_link number change links)
links_changed number change keeps links h = every_map HasCounters HasCounters _ (λ l is. by l is (has_number number l)) links h
  where
    by : (l : Link) → HasCounters l → (b : Bool) → HasCounters (if b then change l else l)
    by l is true = keeps l is
    by l is false = is

pub filters_changed : (hook : List ℕ) (change : Filter → Filter)
    → ((f : Filter) → IsShapedFilter f → IsShapedFilter (change f)) → (s : List Filter) → Every IsShapedFilter s
    → Every IsShapedFilter (at_filter hook change s)
filters_changed hook change keeps s h = every_map IsShapedFilter IsShapedFilter _ (λ f is. by f is (is_of_hook hook f)) s h
  where
    by : (f : Filter) → IsShapedFilter f → (b : Bool) → IsShapedFilter (if b then change f else f)
    by f is true = keeps f is
    by f is false = is

seen_shaped : (number amount : ℕ) (hosts : List Host) → Every HasAddress hosts
    → Every HasAddress (map (see_host number amount) hosts)
seen_shaped number amount hosts h = every_map HasAddress HasAddress _ (λ x is. by x is (seen_number x.addr == number)) hosts h
  where
    by : (x : Host) → HasAddress x → (b : Bool) → HasAddress (if b then record x { seen = raise x.seen amount } else x)
    by x is true = is
    by x is false = is

bridge_counted : (n : ℕ) (s : Bridge) (c : Count) (b : Bool) → IsShaped n (BridgeState s)
    → IsShaped n (BridgeState (count_bridge_if b s c))
bridge_counted n s c true h = (
  (
    links_changed (link_number c.0)
        (λ l. record l { counters = raise_at l.counters c.1 c.2 })
        (λ l is. raised_length l.counters c.1 c.2 ∙ is) s.links h.0.0,
    h.0.1,
  ),
  h.1,
)
bridge_counted n s c false h = (
  (h.0.0, seen_shaped c.1 c.2 s.hosts h.0.1),
  let few = h.1 in
      omega (arith, length-map s.hosts (see_host c.1 c.2)),
)

many_counted : (n : ℕ) (s : One2many) (counts : List Count) → IsShaped n (One2manyState s)
    → IsShaped n (One2manyState (after_counts count_many s counts))
many_counted n s counts h = counts_keep (λ x. IsShaped n (One2manyState x)) count_many
    (λ x c k. ((rows_counted 5 x.rows c k.0.0, k.0.1), k.1)) s counts h

absorb_shaped : (n : ℕ) (kept : KindState) (counts : List Count) → IsShaped n kept → IsShaped n (absorb kept counts)
absorb_shaped n (TeeState rows) counts h =
    counts_keep (λ x. IsShaped n (TeeState x)) _ (λ x c k.
    ((rows_counted 4 x c k.0.0, length-map x _ ∙ k.0.1), k.1)) rows counts h
absorb_shaped n (One2manyState s) counts h = many_counted n s counts h
absorb_shaped n (BridgeState s) counts h = counts_keep (λ x. IsShaped n (BridgeState x)) count_bridge
    (λ x c k. bridge_counted n x c (nat_lt c.1 14) k) s counts h
absorb_shaped n (BpfState s) counts h =
    counts_keep (λ x. IsShaped n (BpfState x)) count_filter
    (λ x c k. (filters_changed c.0 _ (λ f is. (is.0, raised_length f.counters c.1 c.2 ∙ is.1)) x k.0, k.1)) s counts h
absorb_shaped n (EtfState s) counts h = counts_keep (λ x. IsShaped n (EtfState x)) count_etf
    (λ x c k. ((k.0.0, raised_length x.counters c.1 c.2 ∙ k.0.1), k.1)) s counts h
absorb_shaped n (MacsetState s) counts h = counts_keep (λ x. IsShaped n (MacsetState x)) count_macset
    (λ x c k. ((k.0.0, raised_length x.counters c.1 c.2 ∙ k.0.1), k.1)) s counts h
absorb_shaped n (VlanState s) counts h = h
absorb_shaped n (PatchState ops) counts h = h
absorb_shaped n (HubState persistent) counts h = h
absorb_shaped n HoleState counts h = h
absorb_shaped n EchoState counts h = h
absorb_shaped n SplitState counts h = h
absorb_shaped n SocketState counts h = h
absorb_shaped n (EtherState s) counts h = h

pub passed_shaped : (n : ℕ) (kept : KindState) (hooks : List (List ℕ)) (door : Door) (counts : List Count)
    → IsShaped n kept → IsShaped n (kept_after_frame kept hooks door counts)
passed_shaped n (One2manyState s) hooks door counts h = many_counted n s counts h
passed_shaped n (TeeState rows) hooks door counts h = absorb_shaped n (TeeState rows) counts h
passed_shaped n (BridgeState s) hooks door counts h = absorb_shaped n (BridgeState s) counts h
passed_shaped n (BpfState s) hooks door counts h = absorb_shaped n (BpfState s) counts h
passed_shaped n (EtfState s) hooks door counts h = absorb_shaped n (EtfState s) counts h
passed_shaped n (MacsetState s) hooks door counts h = absorb_shaped n (MacsetState s) counts h
passed_shaped n _ hooks door counts h = h

-- Time and learning

pub ticked_shaped : (n : ℕ) (kept : KindState) (seconds : ℕ) → IsShaped n kept → IsShaped n (kept_after_tick kept seconds)
ticked_shaped n (BridgeState s) seconds h =
    let aged = map (λ (x : Host). age_host seconds (rest_host x)) s.hosts in (
      (
        every_map HasCounters HasCounters (calm_link seconds) (λ l is. is) s.links h.0.0,
        every_filter HasAddress (λ (x : Host). nat_lt x.staleness s.config.max_staleness) aged
            (every_map HasAddress HasAddress (λ (x : Host). age_host seconds (rest_host x))
            (λ x is. by x is (nat_lt 0 x.seen)) s.hosts h.0.1),
      ),
      (let few = h.1 in omega (
        arith,
        fewer (λ (x : Host). nat_lt x.staleness s.config.max_staleness) aged,
        length-map s.hosts (λ (x : Host). age_host seconds (rest_host x)),
      )),
    )
  where
    by : (x : Host) → HasAddress x → (b : Bool) → HasAddress
        (age_host seconds (if b then record x { staleness = 0; seen = 0 } else x))
    by x is true = is
    by x is false = is
ticked_shaped n (One2manyState s) seconds h = h
ticked_shaped n (TeeState rows) seconds h = h
ticked_shaped n (VlanState s) seconds h = h
ticked_shaped n (PatchState ops) seconds h = h
ticked_shaped n (BpfState s) seconds h = h
ticked_shaped n (EtfState s) seconds h = h
ticked_shaped n (MacsetState s) seconds h = h
ticked_shaped n (HubState persistent) seconds h = h
ticked_shaped n HoleState seconds h = h
ticked_shaped n EchoState seconds h = h
ticked_shaped n SplitState seconds h = h
ticked_shaped n SocketState seconds h = h
ticked_shaped n (EtherState s) seconds h = h

host_put : (x : Host) (hosts : List Host) → HasAddress x → Every HasAddress hosts
    → Every HasAddress (put_host x hosts) × (length (put_host x hosts) ≤ suc (length hosts))
host_put x [] p h = ((p, tt), omega arith)
host_put x (y ∷ hosts) p h = by (bytes_eq y.addr x.addr) (nat_lt (big_number 6 x.addr) (big_number 6 y.addr))
    (host_put x hosts p h.1)
  where
    by : (a b : Bool) → Every HasAddress (put_host x hosts) × (length (put_host x hosts) ≤ suc (length hosts))
        → Every HasAddress (if a then x ∷ hosts else if b then x ∷ y ∷ hosts else y ∷ put_host x hosts)
        × (length (if a then x ∷ hosts else if b then x ∷ y ∷ hosts else y ∷ put_host x hosts) ≤ suc (suc (length hosts)))
    by true b rest = ((p, h.1), omega arith)
    by false true rest = ((p, (h.0, h.1)), omega arith)
    by false false rest = ((h.0, rest.0), let le = rest.1 in omega arith)

learned_by : (standing : Standing) (n : ℕ) (s : Bridge) (number : ℕ) (addr : List ℕ) → IsSix addr
    → IsShaped n (BridgeState s) → IsShaped (suc n) (BridgeState (learn_by_standing standing s number addr))
learned_by Known n s number addr six h = (
  (h.0.0, seen_shaped (seen_number addr) 1 s.hosts h.0.1),
  let few = h.1 in
      omega (arith, length-map s.hosts (see_host (seen_number addr) 1)),
)
learned_by Looped n s number addr six h = (
  (links_changed number _ (λ l is. raised_length l.counters _ _ ∙ is) s.links h.0.0, every_filter HasAddress _ s.hosts h.0.1),
  (let few = h.1 in omega (arith, fewer {A = Host})),
)
learned_by News n s number addr six h = let put = host_put (new_host addr number) s.hosts six h.0.1 in
    ((h.0.0, put.0), let few = h.1 in let le = put.1 in omega arith)
learned_by Crowded n s number addr six h = more_shaped n (suc n) (BridgeState s) (omega arith) h

pub learned_shaped : (n : ℕ) (kept : KindState) (hook addr : List ℕ) → IsSix addr → IsShaped n kept
    → IsShaped (suc n) (kept_after_learn kept hook addr)
learned_shaped n (BridgeState s) hook addr six h = by (nat_lt 0 (mute_of (map link_way s.links) hook))
  where
    by : (b : Bool) → IsShaped (suc n) (BridgeState (if b then s else learn_by_standing
        (standing s.config (map host_way s.hosts) (link_number hook) addr) s (link_number hook) addr))
    by true = more_shaped n (suc n) (BridgeState s) (omega arith) h
    by false = learned_by (standing s.config (map host_way s.hosts) (link_number hook) addr) n s (link_number hook) addr six h
learned_shaped n (One2manyState s) hook addr six h = more_shaped n (suc n) (One2manyState s) (omega arith) h
learned_shaped n (TeeState rows) hook addr six h = more_shaped n (suc n) (TeeState rows) (omega arith) h
learned_shaped n (VlanState s) hook addr six h = more_shaped n (suc n) (VlanState s) (omega arith) h
learned_shaped n (PatchState ops) hook addr six h = more_shaped n (suc n) (PatchState ops) (omega arith) h
learned_shaped n (BpfState s) hook addr six h = more_shaped n (suc n) (BpfState s) (omega arith) h
learned_shaped n (EtfState s) hook addr six h = more_shaped n (suc n) (EtfState s) (omega arith) h
learned_shaped n (MacsetState s) hook addr six h = more_shaped n (suc n) (MacsetState s) (omega arith) h
learned_shaped n (HubState persistent) hook addr six h = more_shaped n (suc n) (HubState persistent) (omega arith) h
learned_shaped n HoleState hook addr six h = more_shaped n (suc n) HoleState (omega arith) h
learned_shaped n EchoState hook addr six h = more_shaped n (suc n) EchoState (omega arith) h
learned_shaped n SplitState hook addr six h = more_shaped n (suc n) SplitState (omega arith) h
learned_shaped n SocketState hook addr six h = more_shaped n (suc n) SocketState (omega arith) h
learned_shaped n (EtherState s) hook addr six h = more_shaped n (suc n) (EtherState s) (omega arith) h
