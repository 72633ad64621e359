-- A hook brings at most one link, and nothing else brings any.
use Rattle.std.proofs.Common.{◌≡◌, if◌then◌else◌, ℕ, suc, ◌+◌, ◌≤◌, Bool, true, false, not, List, [], ◌∷◌, map, length, nat_lt, refl, ap, ◌∙◌, arith}
use Rattle.std.specs.List.{find}
use Rattle.std.specs.declared.option.Option.{Option}
use Rattle.std.specs.declared.option.Option.TheVariants.{None, Some}
use Rattle.std.proofs.lemmas.List.{length-map}
use Rattle.ng_base.specs.declared.kind.Kind.{Kind}
use Rattle.ng_base.specs.declared.kind.Kind.TheVariants.{Hub}
use Rattle.ng_machine.proofs.Standing.{fewer_filtered}
use Rattle.ng_machine.specs.declared.body.Body.{Body}
use Rattle.ng_machine.specs.declared.body.Body.TheVariants.{Frame, Msg, Tick, Learn}
use Rattle.ng_machine.specs.declared.body.Door.{Door}
use Rattle.ng_machine.specs.Arguments.{number_at}
use Rattle.ng_machine.specs.Counters.{Count, raise_at, row_bytes, after_counts}
use Rattle.ng_machine.specs.Outcome.{Reply, invalid, sets, answers, with_length}
use Rattle.ng_machine.specs.kinds.Bridge.{Bridge, Link, Standing, Looped, link_number, new_link, put_link, has_number, link_way, host_way, mute_of, count_bridge, count_bridge_if, calm_link, learn_by_standing, standing, by_link, by_link_number, by_link_found, bridge_message, bridge_messages, bridge_config_in, bridge_config_bytes, bridge_reset, bridge_clear, hosts_bytes, most_links}
use Rattle.ng_machine.specs.State.{KindState, HubState, HoleState, EchoState, SplitState, SocketState, TeeState, One2manyState, BridgeState, VlanState, PatchState, BpfState, EtherState, EtfState, MacsetState, State, blank_kept, kept_with_hook, kept_without_hook}
use Rattle.ng_machine.specs.Case.{absorb, kept_after_frame, kept_after_tick, kept_after_learn, reply_of, outcome_of, kept_after}
use Rattle.ng_machine.specs.Bounds.{links_of, LinksAreFew}
use Rattle.ng_machine.proofs.Replies.{by_number_all, with_length_all}

put_length : (l : Link) (links : List Link) → length (put_link l links) ≡ suc (length links)
put_length l [] = refl
put_length l (m ∷ links) = by (nat_lt l.number m.number) (put_length l links)
  where
    by : (b : Bool) → length (put_link l links) ≡ suc (length links) → length (if b then l ∷ m ∷ links else m ∷ put_link l links) ≡ suc (suc (length links))
    by true e = refl
    by false e = ap suc e

made_few : (kept : KindState) (hook : List ℕ) → links_of (kept_with_hook kept hook) ≤ 1 + links_of kept
made_few (BridgeState s) hook = let e = put_length (new_link (link_number hook)) s.links in omega arith
made_few _ hook = omega arith

cut_few : (kept : KindState) (hook : List ℕ) → links_of (kept_without_hook kept hook) ≤ links_of kept
cut_few (BridgeState s) hook = fewer_filtered (λ l. not (has_number (link_number hook) l)) s.links
cut_few _ hook = omega arith

counted_few : (s : Bridge) (c : Count) (b : Bool) → length (count_bridge_if b s c).links ≡ length s.links
counted_few s c true = length-map s.links (λ l. if has_number (link_number c.0) l then record l { counters = raise_at l.counters c.1 c.2 } else l)
counted_few s c false = refl

counts_few : (s : Bridge) (counts : List Count) → length (after_counts count_bridge s counts).links ≡ length s.links
counts_few s [] = refl
counts_few s (c ∷ counts) = counts_few (count_bridge s c) counts ∙ counted_few s c (nat_lt c.1 14)

absorb_few : (kept : KindState) (counts : List Count) → links_of (absorb kept counts) ≡ links_of kept
absorb_few (BridgeState s) counts = counts_few s counts
absorb_few _ counts = refl

passed_few : (kept : KindState) (hooks : List (List ℕ)) (door : Door) (counts : List Count) → links_of (kept_after_frame kept hooks door counts) ≡ links_of kept
passed_few (BridgeState s) hooks door counts = counts_few s counts
passed_few _ hooks door counts = refl

ticked_few : (kept : KindState) (seconds : ℕ) → links_of (kept_after_tick kept seconds) ≡ links_of kept
ticked_few (BridgeState s) seconds = length-map s.links (calm_link seconds)
ticked_few _ seconds = refl

learned_by : (standing : Standing) (s : Bridge) (number : ℕ) (addr : List ℕ) → length (learn_by_standing standing s number addr).links ≡ length s.links
learned_by Looped s number addr = length-map s.links _
learned_by _ s number addr = refl

learned_few : (kept : KindState) (hook addr : List ℕ) → links_of (kept_after_learn kept hook addr) ≡ links_of kept
learned_few (BridgeState s) hook addr = by (nat_lt 0 (mute_of (map link_way s.links) hook))
  where
    by : (b : Bool) → length (if b then s else learn_by_standing (standing s.config (map host_way s.hosts) (link_number hook) addr) s (link_number hook) addr).links ≡ length s.links
    by true = refl
    by false = learned_by (standing s.config (map host_way s.hosts) (link_number hook) addr) s (link_number hook) addr
learned_few (HubState s) hook addr = refl
learned_few HoleState hook addr = refl
learned_few EchoState hook addr = refl
learned_few SplitState hook addr = refl
learned_few SocketState hook addr = refl
learned_few (TeeState s) hook addr = refl
learned_few (One2manyState s) hook addr = refl
learned_few (VlanState s) hook addr = refl
learned_few (PatchState s) hook addr = refl
learned_few (BpfState s) hook addr = refl
learned_few (EtherState s) hook addr = refl
learned_few (EtfState s) hook addr = refl
learned_few (MacsetState s) hook addr = refl

-- a reply that leaves as many links
record Same (s : Bridge) (reply : Reply Bridge) : Type 0 where
  links : length reply.after.links ≡ length s.links

same : {s : Bridge} {reply : Reply Bridge} → length reply.after.links ≡ length s.links → Same s reply
same e = record { links = e }

sized : (s : Bridge) (n : ℕ) (args : List ℕ) (reply : Reply Bridge) → Same s reply → Same s (with_length s n args reply)
sized s n args reply one = with_length_all (Same s) s n args reply (same refl) one

found : (s : Bridge) (l : Option Link) (reply : Link → Reply Bridge) → ((l : Link) → Same s (reply l)) → Same s (by_link_found s l reply)
found s None reply one = same refl
found s (Some l) reply one = one l

at_number : (s : Bridge) (args : List ℕ) (reply : Link → Reply Bridge) → ((l : Link) → Same s (reply l)) → Same s (by_link s args reply)
at_number s args reply one = sized s 4 args (by_link_number s (number_at 4 args 0) reply) (by (nat_lt (number_at 4 args 0) most_links))
  where
    by : (b : Bool) → Same s (if b then by_link_found s (find (has_number (number_at 4 args 0)) s.links) reply else invalid s)
    by true = found s (find (has_number (number_at 4 args 0)) s.links) reply one
    by false = same refl

cleared : (s : Bridge) (l : Link) → length (bridge_clear s l).links ≡ length s.links
cleared s l = length-map s.links _

bridge_same : (s : Bridge) (number : ℕ) (args : List ℕ) → Same s (bridge_message s number args)
bridge_same s number args = by_number_all (Same s) s number (bridge_messages s args) (same refl) (
  (λ _. sized s 16 args (sets (record s { config = bridge_config_in args })) (same refl)),
  (
    (λ _. sized s 0 args (answers s (bridge_config_bytes s.config)) (same refl)),
    (
      (λ _. sized s 0 args (sets (bridge_reset s)) (same (length-map s.links _))),
      (
        (λ _. at_number s args (λ l. answers s (row_bytes l.counters)) (λ l. same refl)),
        (
          (λ _. at_number s args (λ l. sets (bridge_clear s l)) (λ l. same (cleared s l))),
          (
            (λ _. at_number s args (λ l. answers (bridge_clear s l) (row_bytes l.counters)) (λ l. same (cleared s l))),
            (
              (λ _. sized s 0 args (answers s (hosts_bytes s.hosts)) (same refl)),
              ((λ _. sized s 0 args (sets (record s { persistent = true })) (same refl)), tt),
            ),
          ),
        ),
      ),
    ),
  ),
)

reply_few : (kept : KindState) (hooks : List (List ℕ)) (number : ℕ) (args : List ℕ) → links_of (reply_of kept hooks number args).after ≡ links_of kept
reply_few (BridgeState s) hooks number args = (bridge_same s number args).links
reply_few _ hooks number args = refl

after_few : (state : State) (body : Body) → links_of (kept_after state body) ≡ links_of state.kept
after_few state (Frame door link packet) = passed_few state.kept state.hooks door (outcome_of state (Frame door link packet)).counts
after_few state (Msg msg) = reply_few state.kept state.hooks msg.header.cmd msg.args
after_few state (Tick seconds) = ticked_few state.kept seconds
after_few state (Learn hook link addr) = learned_few state.kept hook addr
after_few state _ = refl

blank_few : (kind : Kind) → links_of (blank_kept kind) ≡ 0
blank_few Hub = refl
blank_few _ = refl

pub links_are_few : LinksAreFew
links_are_few = record { blank = blank_few; made = made_few; cut = cut_few; absorbed = absorb_few; after = after_few }
