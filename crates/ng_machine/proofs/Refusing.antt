-- A message that is refused changes nothing: each row of each table of messages refuses, or has no error.
use Rattle.std.proofs.Common.{◌≡◌, if◌then◌else◌, ℕ, Bool, true, false, List, [], nat_lt, refl, sym, ap, ◌∙◌, true≢false}
use Rattle.std.specs.List.{find}
use Rattle.std.specs.declared.option.Option.{Option}
use Rattle.std.specs.declared.option.Option.TheVariants.{None, Some}
use Rattle.ng_base.specs.declared.errno.Errno.{Errno}
use Rattle.ng_machine.specs.declared.plan.PatchOp.{PatchOp}
use Rattle.ng_machine.specs.declared.plan.VlanWay.{VlanWay}
use Rattle.ng_machine.specs.declared.plan.EtfWay.{EtfWay}
use Rattle.ng_machine.specs.Words.{first_refusal}
use Rattle.ng_machine.specs.Arguments.{text_at, number_at}
use Rattle.ng_machine.specs.Counters.{Rows, row_named}
use Rattle.ng_machine.specs.Outcome.{Reply, invalid, sets, with_length, unless_refused}
use Rattle.ng_machine.specs.kinds.Hub.{hub_messages, hub_message}
use Rattle.ng_machine.specs.kinds.Tee.{tee_messages, tee_message}
use Rattle.ng_machine.specs.kinds.One2many as many
use Rattle.ng_machine.specs.kinds.Bridge as bridge
use Rattle.ng_machine.specs.kinds.Vlan.{Vlan, vlan_messages, vlan_message, add_filter, add_refusals, with_filter, delete_filter, delete_refusals, vlan_without_hook, set_kind, kind_refusals, filter_in}
use Rattle.ng_machine.specs.kinds.Patch.{patch_messages, patch_message, set_ops, ops_refusals, ops_of}
use Rattle.ng_machine.specs.kinds.Bpf.{Filter, bpf_messages, bpf_message, set_program, program_refusals, with_program, of_hook, by_filter, is_of_hook}
use Rattle.ng_machine.specs.kinds.Ether.{Ether, ether_messages, ether_message}
use Rattle.ng_machine.specs.kinds.Etf.{Etf, etf_messages, etf_message, set_filter, filter_refusals, with_etf_filter, etf_filter_in}
use Rattle.ng_machine.specs.kinds.Macset.{Macset, macset_messages, macset_message, add_address, address_refusals, with_address, delete_address, delete_address_refusals, without_address}
use Rattle.ng_machine.specs.Effect.{is_fine}
use Rattle.ng_machine.specs.State.{KindState, HubState, TeeState, One2manyState, BridgeState, VlanState, PatchState, BpfState, EtherState, EtfState, MacsetState}
use Rattle.ng_machine.specs.Case.{reply_of}
use Rattle.ng_machine.specs.KindObligations.{RefusedLeaves}
use Rattle.ng_machine.proofs.Replies.{by_number_all, with_length_all, unless_all}

-- where the reply has an error, what the kind keeps is as before; and no reply sends a packet or lets one leave
record Clean {S : Type 0} (s : S) (reply : Reply S) : Type 0 where
  leaves : is_fine reply.outcome.errno ≡ false → reply.after ≡ s
  sends : reply.outcome.sends ≡ []
  exits : reply.outcome.leaves ≡ []

fine : {S : Type 0} {s : S} {reply : Reply S} → is_fine reply.outcome.errno ≡ true → reply.outcome.sends ≡ [] → reply.outcome.leaves ≡ [] → Clean s reply
fine is sends exits = record { leaves = λ e. absurd (true≢false (sym is ∙ e)); sends = sends; exits = exits }

same : {S : Type 0} {s : S} {reply : Reply S} → reply.after ≡ s → reply.outcome.sends ≡ [] → reply.outcome.leaves ≡ [] → Clean s reply
same is sends exits = record { leaves = λ e. is; sends = sends; exits = exits }

sized : {S : Type 0} (s : S) (n : ℕ) (args : List ℕ) (reply : Reply S) → Clean s reply → Clean s (with_length s n args reply)
sized s n args reply h = with_length_all (Clean s) s n args reply (same refl refl refl) h

-- a change after a table of refusals
guarded : {S : Type 0} (s after : S) (e : Option Errno) → Clean s (unless_refused s e (sets after))
guarded s after e = unless_all (Clean s) s e (sets after) (λ errno. same refl refl refl) (fine refl refl refl)

config_clean : (s : many.One2many) (args : List ℕ) → Clean s (many.set_config s args)
config_clean s args = guarded s (many.with_config s args) (first_refusal (many.config_refusals s args))

add_clean : (s : Vlan) (hooks : List (List ℕ)) (f : VlanWay) → Clean s (add_filter s hooks f)
add_clean s hooks f = guarded s (with_filter s hooks f) (first_refusal (add_refusals s hooks f))

delete_clean : (s : Vlan) (hook : List ℕ) → Clean s (delete_filter s hook)
delete_clean s hook = guarded s (vlan_without_hook s hook) (first_refusal (delete_refusals s hook))

kind_clean : (s : Vlan) (kind : ℕ) → Clean s (set_kind s kind)
kind_clean s kind = guarded s (record s { kind = kind }) (first_refusal (kind_refusals s kind))

ops_clean : (s : List PatchOp) (args : List ℕ) → Clean s (set_ops s args)
ops_clean s args = guarded s (ops_of args) (first_refusal (ops_refusals s args))

program_clean : (s : List Filter) (args : List ℕ) → Clean s (set_program s args)
program_clean s args = guarded s (with_program s args) (first_refusal (program_refusals s args))

filter_set_clean : (s : Etf) (hooks : List (List ℕ)) (f : EtfWay) → Clean s (set_filter s hooks f)
filter_set_clean s hooks f = guarded s (with_etf_filter s hooks f) (first_refusal (filter_refusals s hooks f))

address_clean : (s : Macset) (address : List ℕ) → Clean s (add_address s address)
address_clean s address = guarded s (with_address s address) (first_refusal (address_refusals s address))

deleted_clean : (s : Macset) (address : List ℕ) → Clean s (delete_address s address)
deleted_clean s address = guarded s (without_address s address) (first_refusal (delete_address_refusals s address))

hub_clean : (s : Bool) (number : ℕ) (args : List ℕ) → Clean s (hub_message s number args)
hub_clean s number args = by_number_all (Clean s) s number (hub_messages s args) (same refl refl refl) ((λ _. sized s 0 args _ (fine refl refl refl)), tt)

tee_clean : (s : Rows) (number : ℕ) (args : List ℕ) → Clean s (tee_message s number args)
tee_clean s number args = by_number_all (Clean s) s number (tee_messages s args) (same refl refl refl)
    ((λ _. sized s 0 args _ (fine refl refl refl)), ((λ _. sized s 0 args _ (fine refl refl refl)), ((λ _. sized s 0 args _ (fine refl refl refl)), tt)))

many_row : (s : many.One2many) (row : Option (List ℕ)) (reply : List ℕ → Reply many.One2many) → ((row : List ℕ) → Clean s (reply row)) → Clean s (many.by_row s row reply)
many_row s None reply h = same refl refl refl
many_row s (Some row) reply h = h row

many_hook : (s : many.One2many) (hook : Option (List ℕ)) (reply : List ℕ → List ℕ → Reply many.One2many) → ((hook row : List ℕ) → Clean s (reply hook row)) → Clean s (many.by_hook s hook reply)
many_hook s None reply h = same refl refl refl
many_hook s (Some hook) reply h = many_row s (row_named hook s.rows) (reply hook) (h hook)

many_link : (s : many.One2many) (args : List ℕ) (reply : List ℕ → List ℕ → Reply many.One2many) → ((hook row : List ℕ) → Clean s (reply hook row)) → Clean s (many.by_link s args reply)
many_link s args reply h = sized s 4 args _ (many_hook s (many.link_hook (number_at 4 args 0)) reply h)

many_clean : (s : many.One2many) (number : ℕ) (args : List ℕ) → Clean s (many.one2many_message s number args)
many_clean s number args = by_number_all (Clean s) s number (many.one2many_messages s args) (same refl refl refl) (
  (λ _. sized s 72 args (many.set_config s args) (config_clean s args)),
  (
    (λ _. sized s 0 args _ (fine refl refl refl)),
    (
      (λ _. many_link s args _ (λ hook row. fine refl refl refl)),
      ((λ _. many_link s args _ (λ hook row. fine refl refl refl)), ((λ _. many_link s args _ (λ hook row. fine refl refl refl)), tt)),
    ),
  ),
)

bridge_found : (s : bridge.Bridge) (l : Option bridge.Link) (reply : bridge.Link → Reply bridge.Bridge) → ((l : bridge.Link) → Clean s (reply l)) → Clean s (bridge.by_link_found s l reply)
bridge_found s None reply h = same refl refl refl
bridge_found s (Some l) reply h = h l

bridge_link : (s : bridge.Bridge) (args : List ℕ) (reply : bridge.Link → Reply bridge.Bridge) → ((l : bridge.Link) → Clean s (reply l)) → Clean s (bridge.by_link s args reply)
bridge_link s args reply h = sized s 4 args _ (by (nat_lt (number_at 4 args 0) bridge.most_links))
  where
    by : (b : Bool) → Clean s (if b then bridge.by_link_found s (find (bridge.has_number (number_at 4 args 0)) s.links) reply else invalid s)
    by true = bridge_found s (find (bridge.has_number (number_at 4 args 0)) s.links) reply h
    by false = same refl refl refl

bridge_clean : (s : bridge.Bridge) (number : ℕ) (args : List ℕ) → Clean s (bridge.bridge_message s number args)
bridge_clean s number args = by_number_all (Clean s) s number (bridge.bridge_messages s args) (same refl refl refl) (
  (λ _. sized s 16 args _ (fine refl refl refl)),
  (
    (λ _. sized s 0 args _ (fine refl refl refl)),
    (
      (λ _. sized s 0 args _ (fine refl refl refl)),
      (
        (λ _. bridge_link s args _ (λ l. fine refl refl refl)),
        ((λ _. bridge_link s args _ (λ l. fine refl refl refl)), ((λ _. bridge_link s args _ (λ l. fine refl refl refl)), ((λ _. sized s 0 args _ (fine refl refl refl)), ((λ _. sized s 0 args _ (fine refl refl refl)), tt)))),
      ),
    ),
  ),
)

vlan_clean : (s : Vlan) (hooks : List (List ℕ)) (number : ℕ) (args : List ℕ) → Clean s (vlan_message s hooks number args)
vlan_clean s hooks number args = by_number_all (Clean s) s number (vlan_messages s hooks args) (same refl refl refl)
    ((λ _. sized s 36 args (add_filter s hooks (filter_in args)) (add_clean s hooks (filter_in args))), ((λ _. sized s 32 args (delete_filter s (text_at args 0)) (delete_clean s (text_at args 0))), ((λ _. sized s 0 args _ (fine refl refl refl)), ((λ _. sized s 4 args (set_kind s (number_at 4 args 0)) (kind_clean s (number_at 4 args 0))), ((λ _. sized s 0 args _ (fine refl refl refl)), tt)))))

patch_clean : (s : List PatchOp) (number : ℕ) (args : List ℕ) → Clean s (patch_message s number args)
patch_clean s number args = by_number_all (Clean s) s number (patch_messages s args) (same refl refl refl) ((λ _. ops_clean s args), ((λ _. sized s 0 args _ (fine refl refl refl)), tt))

filter_clean : (s : List Filter) (found : Option Filter) (reply : Filter → Reply (List Filter)) → ((f : Filter) → Clean s (reply f)) → Clean s (by_filter s found reply)
filter_clean s None reply h = same refl refl refl
filter_clean s (Some f) reply h = h f

hook_clean : (s : List Filter) (args : List ℕ) (reply : Filter → Reply (List Filter)) → ((f : Filter) → Clean s (reply f)) → Clean s (of_hook s args reply)
hook_clean s args reply h = sized s 32 args _ (unless_all (Clean s) s _ _ (λ errno. same refl refl refl) (filter_clean s (find (is_of_hook (text_at args 0)) s) reply h))

bpf_clean : (s : List Filter) (number : ℕ) (args : List ℕ) → Clean s (bpf_message s number args)
bpf_clean s number args = by_number_all (Clean s) s number (bpf_messages s args) (same refl refl refl)
    ((λ _. program_clean s args), ((λ _. hook_clean s args _ (λ f. fine refl refl refl)), ((λ _. hook_clean s args _ (λ f. fine refl refl refl)), ((λ _. hook_clean s args _ (λ f. fine refl refl refl)), ((λ _. hook_clean s args _ (λ f. fine refl refl refl)), tt)))))

ether_clean : (s : Ether) (number : ℕ) (args : List ℕ) → Clean s (ether_message s number args)
ether_clean s number args = by_number_all (Clean s) s number (ether_messages s args) (same refl refl refl)
    ((λ _. sized s 4 args _ (fine refl refl refl)), ((λ _. sized s 0 args _ (fine refl refl refl)), ((λ _. sized s 4 args _ (fine refl refl refl)), ((λ _. sized s 0 args _ (fine refl refl refl)), tt))))

etf_clean : (s : Etf) (hooks : List (List ℕ)) (number : ℕ) (args : List ℕ) → Clean s (etf_message s hooks number args)
etf_clean s hooks number args = by_number_all (Clean s) s number (etf_messages s hooks args) (same refl refl refl)
    ((λ _. sized s 34 args (set_filter s hooks (etf_filter_in args)) (filter_set_clean s hooks (etf_filter_in args))), ((λ _. sized s 0 args _ (fine refl refl refl)), ((λ _. sized s 0 args _ (fine refl refl refl)), tt)))

macset_clean : (s : Macset) (number : ℕ) (args : List ℕ) → Clean s (macset_message s number args)
macset_clean s number args = by_number_all (Clean s) s number (macset_messages s args) (same refl refl refl)
    ((λ _. sized s 6 args (add_address s args) (address_clean s args)), ((λ _. sized s 6 args (delete_address s args) (deleted_clean s args)), ((λ _. sized s 0 args _ (fine refl refl refl)), ((λ _. sized s 0 args _ (fine refl refl refl)), tt))))

reply_clean : (kept : KindState) (hooks : List (List ℕ)) (number : ℕ) (args : List ℕ) → Clean kept (reply_of kept hooks number args)
reply_clean (HubState s) hooks number args = record { leaves = λ e. ap HubState ((hub_clean s number args).leaves e); sends = (hub_clean s number args).sends; exits = (hub_clean s number args).exits }
reply_clean (TeeState s) hooks number args = record { leaves = λ e. ap TeeState ((tee_clean s number args).leaves e); sends = (tee_clean s number args).sends; exits = (tee_clean s number args).exits }
reply_clean (One2manyState s) hooks number args = record { leaves = λ e. ap One2manyState ((many_clean s number args).leaves e); sends = (many_clean s number args).sends; exits = (many_clean s number args).exits }
reply_clean (BridgeState s) hooks number args = record { leaves = λ e. ap BridgeState ((bridge_clean s number args).leaves e); sends = (bridge_clean s number args).sends; exits = (bridge_clean s number args).exits }
reply_clean (VlanState s) hooks number args = record { leaves = λ e. ap VlanState ((vlan_clean s hooks number args).leaves e); sends = (vlan_clean s hooks number args).sends; exits = (vlan_clean s hooks number args).exits }
reply_clean (PatchState s) hooks number args = record { leaves = λ e. ap PatchState ((patch_clean s number args).leaves e); sends = (patch_clean s number args).sends; exits = (patch_clean s number args).exits }
reply_clean (BpfState s) hooks number args = record { leaves = λ e. ap BpfState ((bpf_clean s number args).leaves e); sends = (bpf_clean s number args).sends; exits = (bpf_clean s number args).exits }
reply_clean (EtherState s) hooks number args = record { leaves = λ e. ap EtherState ((ether_clean s number args).leaves e); sends = (ether_clean s number args).sends; exits = (ether_clean s number args).exits }
reply_clean (EtfState s) hooks number args = record { leaves = λ e. ap EtfState ((etf_clean s hooks number args).leaves e); sends = (etf_clean s hooks number args).sends; exits = (etf_clean s hooks number args).exits }
reply_clean (MacsetState s) hooks number args = record { leaves = λ e. ap MacsetState ((macset_clean s number args).leaves e); sends = (macset_clean s number args).sends; exits = (macset_clean s number args).exits }
reply_clean _ hooks number args = same refl refl refl

pub refused_leaves : RefusedLeaves
refused_leaves state number args e = (reply_clean state.kept state.hooks number args).leaves e

-- a message sends no packet and lets none leave
pub reply_quiet : (kept : KindState) (hooks : List (List ℕ)) (number : ℕ) (args : List ℕ)
    → ((reply_of kept hooks number args).outcome.sends ≡ []) × ((reply_of kept hooks number args).outcome.leaves ≡ [])
reply_quiet kept hooks number args = let c = reply_clean kept hooks number args in (c.sends, c.exits)
