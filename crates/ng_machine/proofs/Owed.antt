-- The facts that each kind owes the laws: a message that reads leaves what the kind keeps; a packet that reads leaves what
-- a plan holds; and nothing changes the kind.
use Rattle.std.proofs.Common.{◌≡◌, if◌then◌else◌, ℕ, Bool, true, false, ◌==◌, nat_lt, List, [], ◌∷◌, map, refl, ap, ◌∙◌, true≢false}
use Rattle.std.specs.List.{find}
use Rattle.std.specs.declared.option.Option.{Option}
use Rattle.std.specs.declared.option.Option.TheVariants.{None, Some}
use Rattle.ng_machine.specs.declared.body.Door.{Door}
use Rattle.ng_machine.specs.declared.plan.BpfWay.{BpfWay}
use Rattle.ng_machine.specs.declared.plan.BridgeLink.{BridgeLink}
use Rattle.ng_machine.specs.declared.plan.BridgeHost.{BridgeHost}
use Rattle.ng_machine.specs.declared.plan.PatchOp.{PatchOp}
use Rattle.ng_machine.specs.declared.plan.Plan.TheVariants.{Bridge as BridgePlan, Bpf as BpfPlan}
use Rattle.ng_message.specs.Numbers.{is_reader_number}
use Rattle.ng_machine.specs.Body.{writes_by_packets}
use Rattle.ng_machine.specs.Arguments.{text_at}
use Rattle.ng_machine.specs.Counters.{Count, Rows, raise_at, after_counts}
use Rattle.ng_machine.specs.Outcome.{Reply, answers, with_length}
use Rattle.ng_machine.specs.kinds.Hub.{hub_messages, hub_message}
use Rattle.ng_machine.specs.kinds.Tee.{tee_messages, tee_message}
use Rattle.ng_machine.specs.kinds.One2many.{One2many, one2many_messages, one2many_message, config_bytes}
use Rattle.ng_machine.specs.kinds.Bridge.{Bridge, Link, Host, bridge_messages, bridge_message, bridge_config_bytes, count_bridge, count_bridge_if, has_number, link_way, host_way, link_number, seen_number}
use Rattle.ng_machine.specs.kinds.Vlan.{Vlan, vlan_messages, vlan_message}
use Rattle.ng_machine.specs.kinds.Patch.{patch_messages, patch_message}
use Rattle.ng_machine.specs.kinds.Bpf.{Filter, bpf_messages, bpf_message, by_filter, is_of_hook, count_filter, way_bytes}
use Rattle.ng_machine.specs.kinds.Ether.{Ether, ether_messages, ether_message}
use Rattle.ng_machine.specs.kinds.Etf.{Etf, etf_messages, etf_message, count_etf}
use Rattle.ng_machine.specs.kinds.Macset.{Macset, macset_messages, macset_message, count_macset}
use Rattle.ng_machine.specs.State.{KindState, HubState, TeeState, One2manyState, BridgeState, VlanState, PatchState, BpfState, EtherState, EtfState, MacsetState, kind_of_kept, kept_with_hook, kept_without_hook, kept_without_hooks, way_of_kept}
use Rattle.ng_machine.specs.Case.{absorb, kept_after_frame, reply_of, kept_after_tick, kept_after_learn}
use Rattle.ng_machine.specs.KindObligations.{AbsorbingPreserves}
use Rattle.ng_machine.proofs.Replies.{by_number_all, with_length_all, unless_all, reads_not}

-- Messages that read

abbrev Leaves : {S : Type 0} → S → Reply S → Type 0
Leaves s reply = reply.after ≡ s

hub_reads : (s : Bool) (number : ℕ) (args : List ℕ) → is_reader_number number ≡ true → Leaves s (hub_message s number args)
hub_reads s number args reads = by_number_all (Leaves s) s number (hub_messages s args) refl (reads_not 1 number refl reads, tt)

tee_reads : (s : Rows) (number : ℕ) (args : List ℕ) → is_reader_number number ≡ true → Leaves s (tee_message s number args)
tee_reads s number args reads = by_number_all (Leaves s) s number (tee_messages s args) refl
    (reads_not 0x20000001 number refl reads, (reads_not 2 number refl reads, (reads_not 0x20000003 number refl reads, tt)))

-- an answer leaves what the kind keeps
told : {S : Type 0} (s : S) (n : ℕ) (args bytes : List ℕ) → Leaves s (with_length s n args (answers s bytes))
told s n args bytes = with_length_all (Leaves s) s n args (answers s bytes) refl refl

one2many_reads : (s : One2many) (number : ℕ) (args : List ℕ) → is_reader_number number ≡ true → Leaves s (one2many_message s number args)
one2many_reads s number args reads = by_number_all (Leaves s) s number (one2many_messages s args) refl
    (reads_not 1 number refl reads, ((λ _. told s 0 args (config_bytes s)), (reads_not 0x20000003 number refl reads, (reads_not 4 number refl reads, (reads_not 0x20000005 number refl reads, tt)))))

bridge_reads : (s : Bridge) (number : ℕ) (args : List ℕ) → is_reader_number number ≡ true → Leaves s (bridge_message s number args)
bridge_reads s number args reads = by_number_all (Leaves s) s number (bridge_messages s args) refl (
  reads_not 1 number refl reads,
  (
    (λ _. told s 0 args (bridge_config_bytes s.config)),
    (
      reads_not 3 number refl reads,
      (
        reads_not 0x20000004 number refl reads,
        (reads_not 5 number refl reads, (reads_not 0x20000006 number refl reads, (reads_not 0x20000007 number refl reads, (reads_not 8 number refl reads, tt)))),
      ),
    ),
  ),
)

vlan_reads : (s : Vlan) (hooks : List (List ℕ)) (number : ℕ) (args : List ℕ) → is_reader_number number ≡ true → Leaves s (vlan_message s hooks number args)
vlan_reads s hooks number args reads = by_number_all (Leaves s) s number (vlan_messages s hooks args) refl
    (reads_not 1 number refl reads, (reads_not 2 number refl reads, ((λ _. told s 0 args _), (reads_not 4 number refl reads, ((λ _. told s 0 args _), tt)))))

patch_reads : (s : List PatchOp) (number : ℕ) (args : List ℕ) → is_reader_number number ≡ true → Leaves s (patch_message s number args)
patch_reads s number args reads = by_number_all (Leaves s) s number (patch_messages s args) refl (reads_not 1 number refl reads, ((λ _. told s 0 args _), tt))

filter_told : (s : List Filter) (found : Option Filter) → Leaves s (by_filter s found (λ f. answers s (way_bytes f.way)))
filter_told s None = refl
filter_told s (Some f) = refl

bpf_reads : (s : List Filter) (number : ℕ) (args : List ℕ) → is_reader_number number ≡ true → Leaves s (bpf_message s number args)
bpf_reads s number args reads = by_number_all (Leaves s) s number (bpf_messages s args) refl (
  reads_not 1 number refl reads,
  (
    (λ _. with_length_all (Leaves s) s 32 args _ refl (unless_all (Leaves s) s _ _ (λ _. refl) (filter_told s (find (is_of_hook (text_at args 0)) s)))),
    (reads_not 0x20000003 number refl reads, (reads_not 4 number refl reads, (reads_not 0x20000005 number refl reads, tt))),
  ),
)

ether_reads : (s : Ether) (number : ℕ) (args : List ℕ) → is_reader_number number ≡ true → Leaves s (ether_message s number args)
ether_reads s number args reads = by_number_all (Leaves s) s number (ether_messages s args) refl
    (reads_not 1 number refl reads, ((λ _. told s 0 args _), (reads_not 3 number refl reads, ((λ _. told s 0 args _), tt))))

etf_reads : (s : Etf) (hooks : List (List ℕ)) (number : ℕ) (args : List ℕ) → is_reader_number number ≡ true → Leaves s (etf_message s hooks number args)
etf_reads s hooks number args reads = by_number_all (Leaves s) s number (etf_messages s hooks args) refl
    (reads_not 1 number refl reads, (reads_not 0x20000002 number refl reads, ((λ _. told s 0 args _), tt)))

macset_reads : (s : Macset) (number : ℕ) (args : List ℕ) → is_reader_number number ≡ true → Leaves s (macset_message s number args)
macset_reads s number args reads = by_number_all (Leaves s) s number (macset_messages s args) refl
    (reads_not 1 number refl reads, (reads_not 2 number refl reads, ((λ _. told s 0 args _), (reads_not 0x20000004 number refl reads, tt))))

pub reply_reads : (kept : KindState) (hooks : List (List ℕ)) (number : ℕ) (args : List ℕ) → is_reader_number number ≡ true → (reply_of kept hooks number args).after ≡ kept
reply_reads (HubState s) hooks number args reads = ap HubState (hub_reads s number args reads)
reply_reads (TeeState s) hooks number args reads = ap TeeState (tee_reads s number args reads)
reply_reads (One2manyState s) hooks number args reads = ap One2manyState (one2many_reads s number args reads)
reply_reads (BridgeState s) hooks number args reads = ap BridgeState (bridge_reads s number args reads)
reply_reads (VlanState s) hooks number args reads = ap VlanState (vlan_reads s hooks number args reads)
reply_reads (PatchState s) hooks number args reads = ap PatchState (patch_reads s number args reads)
reply_reads (BpfState s) hooks number args reads = ap BpfState (bpf_reads s number args reads)
reply_reads (EtherState s) hooks number args reads = ap EtherState (ether_reads s number args reads)
reply_reads (EtfState s) hooks number args reads = ap EtfState (etf_reads s hooks number args reads)
reply_reads (MacsetState s) hooks number args reads = ap MacsetState (macset_reads s number args reads)
reply_reads _ hooks number args reads = refl

-- What is counted leaves the plan

-- what each count leaves, all leave
counts_leave : {S V : Type 0} (view : S → V) (count : S → Count → S) → ((s : S) (c : Count) → view (count s c) ≡ view s) → (s : S) (counts : List Count) → view (after_counts count s counts) ≡ view s
counts_leave view count one s [] = refl
counts_leave view count one s (c ∷ counts) = counts_leave view count one (count s c) counts ∙ one s c

-- a change to some elements that leaves what is seen of each leaves what is seen of all
map_leaves : {A V : Type 0} (view : A → V) (change : A → A) → ((x : A) → view (change x) ≡ view x) → (xs : List A) → map view (map change xs) ≡ map view xs
map_leaves view change one [] = refl
map_leaves view change one (x ∷ xs) = ap (λ v. v ∷ map view (map change xs)) (one x) ∙ ap (λ vs. view x ∷ vs) (map_leaves view change one xs)

filter_counted : (c : Count) (f : Filter) (b : Bool) → (if b then record f { counters = raise_at f.counters c.1 c.2 } else f).way ≡ f.way
filter_counted c f true = refl
filter_counted c f false = refl

bpf_counted : (s : List Filter) (c : Count) → map (λ (f : Filter). f.way) (count_filter s c) ≡ map (λ (f : Filter). f.way) s
bpf_counted s c = map_leaves (λ (f : Filter). f.way) _ (λ f. filter_counted c f (is_of_hook c.0 f)) s

link_counted : (c : Count) (l : Link) (b : Bool) → link_way (if b then record l { counters = raise_at l.counters c.1 c.2 } else l) ≡ link_way l
link_counted c l true = refl
link_counted c l false = refl

host_seen : (h : Host) (now : ℕ) (b : Bool) → host_way (if b then record h { seen = now } else h) ≡ host_way h
host_seen h now true = refl
host_seen h now false = refl

bridge_counted : (hooks : List (List ℕ)) (s : Bridge) (c : Count) (b : Bool) → way_of_kept (BridgeState (count_bridge_if b s c)) hooks ≡ way_of_kept (BridgeState s) hooks
bridge_counted hooks s c true = ap (λ (links : List BridgeLink). Some (BridgePlan s.config links (map host_way s.hosts))) (map_leaves link_way _ (λ l. link_counted c l (has_number (link_number c.0) l)) s.links)
bridge_counted hooks s c false = ap (λ (hosts : List BridgeHost). Some (BridgePlan s.config (map link_way s.links) hosts)) (map_leaves host_way _ (λ h. host_seen h _ (seen_number h.addr == c.1)) s.hosts)

pub absorb_way : (kept : KindState) (hooks : List (List ℕ)) (counts : List Count) → way_of_kept (absorb kept counts) hooks ≡ way_of_kept kept hooks
absorb_way (BridgeState s) hooks counts = counts_leave (λ (x : Bridge). way_of_kept (BridgeState x) hooks) count_bridge (λ x c. bridge_counted hooks x c (nat_lt c.1 14)) s counts
absorb_way (BpfState s) hooks counts = ap (λ (ways : List BpfWay). Some (BpfPlan ways)) (counts_leave (λ (x : List Filter). map (λ (f : Filter). f.way) x) count_filter bpf_counted s counts)
absorb_way (EtfState s) hooks counts = counts_leave (λ (x : Etf). way_of_kept (EtfState x) hooks) count_etf (λ x c. refl) s counts
absorb_way (MacsetState s) hooks counts = counts_leave (λ (x : Macset). way_of_kept (MacsetState x) hooks) count_macset (λ x c. refl) s counts
absorb_way _ hooks counts = refl

pub absorbing_preserves : AbsorbingPreserves
absorbing_preserves state counts = absorb_way state.kept state.hooks counts

-- a packet that reads leaves the plan
pub passed_way : (kept : KindState) (hooks : List (List ℕ)) (door : Door) (counts : List Count) → writes_by_packets (kind_of_kept kept) ≡ false → way_of_kept (kept_after_frame kept hooks door counts) hooks ≡ way_of_kept kept hooks
passed_way (One2manyState s) hooks door counts e = absurd (true≢false e)
passed_way (TeeState s) hooks door counts e = absorb_way (TeeState s) hooks counts
passed_way (BridgeState s) hooks door counts e = absorb_way (BridgeState s) hooks counts
passed_way (BpfState s) hooks door counts e = absorb_way (BpfState s) hooks counts
passed_way (EtfState s) hooks door counts e = absorb_way (EtfState s) hooks counts
passed_way (MacsetState s) hooks door counts e = absorb_way (MacsetState s) hooks counts
passed_way _ hooks door counts e = refl

-- Kinds stay

pub made_kind : (kept : KindState) (hook : List ℕ) → kind_of_kept (kept_with_hook kept hook) ≡ kind_of_kept kept
made_kind (HubState s) hook = refl
made_kind _ hook = refl

pub cut_kind : (kept : KindState) (hook : List ℕ) → kind_of_kept (kept_without_hook kept hook) ≡ kind_of_kept kept
cut_kind (HubState s) hook = refl
cut_kind _ hook = refl

pub cut_all_kind : (kept : KindState) (hooks : List (List ℕ)) → kind_of_kept (kept_without_hooks kept hooks) ≡ kind_of_kept kept
cut_all_kind kept [] = refl
cut_all_kind kept (hook ∷ hooks) = cut_all_kind (kept_without_hook kept hook) hooks ∙ cut_kind kept hook

pub passed_kind : (kept : KindState) (hooks : List (List ℕ)) (door : Door) (counts : List Count) → kind_of_kept (kept_after_frame kept hooks door counts) ≡ kind_of_kept kept
passed_kind (HubState s) hooks door counts = refl
passed_kind _ hooks door counts = refl

pub reply_kind : (kept : KindState) (hooks : List (List ℕ)) (number : ℕ) (args : List ℕ) → kind_of_kept (reply_of kept hooks number args).after ≡ kind_of_kept kept
reply_kind (HubState s) hooks number args = refl
reply_kind _ hooks number args = refl

pub ticked_kind : (kept : KindState) (seconds : ℕ) → kind_of_kept (kept_after_tick kept seconds) ≡ kind_of_kept kept
ticked_kind (BridgeState s) seconds = refl
ticked_kind _ seconds = refl

pub learned_kind : (kept : KindState) (hook addr : List ℕ) → kind_of_kept (kept_after_learn kept hook addr) ≡ kind_of_kept kept
learned_kind (BridgeState s) hook addr = refl
learned_kind _ hook addr = refl
