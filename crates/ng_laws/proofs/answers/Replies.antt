-- What a message of a node's type leaves has the right lengths still, and what it answers has the layout of its row.
use Rattle.std.proofs.Common.{◌≡◌, ◌≤◌, ◌<◌, ◌+◌, ◌-◌, ◌*◌, ◌/◌, ◌^◌, ◌==◌, ◌&&◌, nat_lt, nat_le, if◌then◌else◌, ℕ, zero, suc}
use Rattle.std.proofs.Common.{Bool, true, false, not, List, [], ◌∷◌, length, drop, length-drop, refl, ap, ◌∙◌, subst, arith}
use Rattle.std.specs.List.{find}
use Rattle.std.specs.Str.{bytes_eq}
use Rattle.std.specs.declared.option.Option.{Option}
use Rattle.std.specs.declared.option.Option.TheVariants.{None, Some}
use Rattle.std.proofs.lemmas.Bool.{and_parts, eqb-true, leb-true}
use Rattle.std.proofs.lemmas.List.{length-map, length-take}
use Rattle.byteorder.specs.Endian.{big_number, little_bytes}
use Rattle.ng_base.specs.declared.errno.Errno.{Errno}
use Rattle.ng_base.specs.declared.kind.Kind.TheVariants.{Tee as OfTee, One2many as OfMany, Bridge as OfBridge, Vlan as OfVlan}
use Rattle.ng_base.specs.declared.kind.Kind.TheVariants.{Patch as OfPatch, Bpf as OfBpf, Ether as OfEther, Etf as OfEtf}
use Rattle.ng_base.specs.declared.kind.Kind.TheVariants.{Macset as OfMacset, Hub as OfHub}
use Rattle.ng_base.specs.Kind.{cookie_of}
use Rattle.ng_base.specs.Name.{is_name}
use Rattle.ng_message.specs.Fields.{text_or_empty}
use Rattle.ng_machine.specs.declared.plan.EtfWay.{EtfWay}
use Rattle.ng_machine.specs.declared.plan.PatchOp.{PatchOp}
use Rattle.ng_machine.specs.declared.plan.VlanWay.{VlanWay}
use Rattle.ng_machine.specs.Words.{Every, first_refusal}
use Rattle.ng_machine.specs.Errors.{einval}
use Rattle.ng_machine.specs.Arguments.{number_at, text_at}
use Rattle.ng_machine.specs.Counters.{Rows, zeros, row_named, row_bytes}
use Rattle.ng_machine.specs.Outcome.{Reply, invalid, refuses, sets, answers, unless_refused, with_length}
use Rattle.ng_machine.specs.kinds.Hub as hub
use Rattle.ng_machine.specs.kinds.Tee as tee
use Rattle.ng_machine.specs.kinds.One2many as many
use Rattle.ng_machine.specs.kinds.One2many.{One2many}
use Rattle.ng_machine.specs.kinds.Bridge as bridge
use Rattle.ng_machine.specs.kinds.Bridge.{Bridge, Link, has_number, new_link}
use Rattle.ng_machine.specs.kinds.Vlan as vlan
use Rattle.ng_machine.specs.kinds.Vlan.{Vlan}
use Rattle.ng_machine.specs.kinds.Patch as patch
use Rattle.ng_machine.specs.kinds.Bpf as bpf
use Rattle.ng_machine.specs.kinds.Bpf.{Filter, is_of_hook}
use Rattle.ng_machine.specs.kinds.Ether as ether
use Rattle.ng_machine.specs.kinds.Ether.{Ether}
use Rattle.ng_machine.specs.kinds.Etf as etf
use Rattle.ng_machine.specs.kinds.Etf.{Etf}
use Rattle.ng_machine.specs.kinds.Macset as macset
use Rattle.ng_machine.specs.kinds.Macset.{Macset}
use Rattle.ng_machine.specs.State.{KindState, HubState, HoleState, EchoState, SplitState, SocketState, TeeState, One2manyState}
use Rattle.ng_machine.specs.State.{BridgeState, VlanState, PatchState, BpfState, EtherState, EtfState, MacsetState, kind_of_kept}
use Rattle.ng_machine.specs.Case.{reply_of}
use Rattle.ng_machine.proofs.Every.{every_filter, every_find}
use Rattle.ng_machine.proofs.Replies.{by_number_all}
use Rattle.ng_machine.proofs.Sounded.{none_of, is_not}
use Rattle.ng_machine.proofs.Every.{every_map}
use Rattle.ng_laws.specs.answers.Answers.{HasRow}
use Rattle.ng_laws.proofs.answers.Rows as table
use Rattle.ng_laws.proofs.answers.Rows.{IsShort, fewer}
use Rattle.ng_laws.proofs.answers.Shapes.{RowsOf, HasCounters, IsShortWay, IsShortFilter, IsShapedFilter, IsSix, IsShaped, more_shaped}
use Rattle.ng_laws.proofs.answers.Shapes.{rows_changed, links_changed, filters_changed}

-- Replies

abbrev pub AnswerHasRow : ℕ → ℕ → Option (List ℕ) → Type 0
AnswerHasRow cookie number None = Unit {0}
AnswerHasRow cookie number (Some bytes) = HasRow cookie number bytes

-- where there are at most n elements before the message
pub record IsFine {S : Type 0} (make : S → KindState) (n cookie number : ℕ) (reply : Reply S) : Type 0 where
  pub shaped : IsShaped (suc n) (make reply.after)
  pub answer : n < 2 ^ 32 → AnswerHasRow cookie number reply.outcome.answer

module _ {S : Type 0} (make : S → KindState) (n cookie number : ℕ) where
  abbrev Fine : Reply S → Type 0
  Fine reply = IsFine make n cookie number reply

  fine_refusal : (s : S) (errno : Errno) → IsShaped n (make s) → Fine (refuses s errno)
  fine_refusal s errno h = record { shaped = more_shaped n (suc n) (make s) (omega arith) h; answer = λ _. tt }

  fine_set : (s : S) → IsShaped (suc n) (make s) → Fine (sets s)
  fine_set s h = record { shaped = h; answer = λ _. tt }

  fine_answer : (s : S) (bytes : List ℕ) → IsShaped n (make s) → (n < 2 ^ 32 → HasRow cookie number bytes)
      → Fine (answers s bytes)
  fine_answer s bytes h has = record { shaped = more_shaped n (suc n) (make s) (omega arith) h; answer = has }

  -- arguments of this length
  fine_sized : (s : S) (k : ℕ) (args : List ℕ) (reply : Reply S) → IsShaped n (make s) → (length args ≡ k → Fine reply)
      → Fine (with_length s k args reply)
  fine_sized s k args reply h one = by (length args == k) refl
    where
      by : (b : Bool) → (length args == k) ≡ b → Fine (if b then reply else invalid s)
      by true e = one (eqb-true (length args) k e)
      by false e = fine_refusal s einval h

  -- where no test of the table holds
  fine_unless : (s : S) (refusals : List (Bool × Errno)) (reply : Reply S) → IsShaped n (make s)
      → (first_refusal refusals ≡ None → Fine reply) → Fine (unless_refused s (first_refusal refusals) reply)
  fine_unless s refusals reply h one = by (first_refusal refusals) refl
    where
      by : (e : Option Errno) → first_refusal refusals ≡ e → Fine (unless_refused s e reply)
      by None e = one e
      by (Some errno) e = fine_refusal s errno h

-- the row of the number is that of the message
at_number : (cookie a number : ℕ) (bytes : List ℕ) → a ≡ number → HasRow cookie a bytes → HasRow cookie number bytes
at_number cookie a number bytes e has = subst (λ (k : ℕ). HasRow cookie k bytes) e has

pub text_short : (args : List ℕ) (at : ℕ) → IsShort (text_at args at)
text_short args at = omega (arith, length-take {A = ℕ})

-- ng_hub(4)

hub_fine : (n : ℕ) (s : Bool) (number : ℕ) (args : List ℕ) → IsShaped n (HubState s)
    → IsFine HubState n (cookie_of OfHub) number (hub.hub_message s number args)
hub_fine n s number args h = by_number_all (IsFine HubState n (cookie_of OfHub) number) s number
    (hub.hub_messages s args) (fine_refusal HubState n (cookie_of OfHub) number s einval h) (
      (λ _. fine_sized HubState n (cookie_of OfHub) number s 0 args _ h
          (λ _. fine_set HubState n (cookie_of OfHub) number true (tt, omega arith))),
      tt,
    )

-- ng_tee(4)

tee_fine : (n : ℕ) (s : Rows) (number : ℕ) (args : List ℕ) → IsShaped n (TeeState s)
    → IsFine TeeState n (cookie_of OfTee) number (tee.tee_message s number args)
tee_fine n s number args h =
    let cookie = cookie_of OfTee in
    let cleared : IsShaped n (TeeState (tee.tee_clear s)) = (
      (
        every_map (λ (row : List ℕ × List ℕ). length row.1 ≡ 4) (λ (row : List ℕ × List ℕ). length row.1 ≡ 4)
            (λ row. (row.0, zeros 4)) (λ row is. refl) s h.0.0,
        length-map s (λ (row : List ℕ × List ℕ). (row.0, zeros 4)) ∙ h.0.1,
      ),
      omega arith,
    ) in
    by_number_all (IsFine TeeState n cookie number) s number (tee.tee_messages s args)
    (fine_refusal TeeState n cookie number s einval h) (
      (λ e. fine_sized TeeState n cookie number s 0 args _ h
          (λ _. fine_answer TeeState n cookie number s (tee.tee_bytes s) h
          (λ _. at_number cookie 0x20000001 number _ e (table.tee_gets s h.0.0 h.0.1)))),
      (
        (λ _. fine_sized TeeState n cookie number s 0 args _ h
            (λ _. fine_set TeeState n cookie number (tee.tee_clear s)
            (more_shaped n (suc n) (TeeState (tee.tee_clear s)) (omega arith) cleared))),
        (
          (λ e. fine_sized TeeState n cookie number s 0 args _ h
              (λ _. fine_answer TeeState n cookie number (tee.tee_clear s) (tee.tee_bytes s) cleared
              (λ _. at_number cookie 0x20000003 number _ e (table.tee_takes s h.0.0 h.0.1)))),
          tt,
        ),
      ),
    )

-- ng_one2many(4)

row_found : (k : ℕ) (name : List ℕ) (rows : Rows) (row : List ℕ) → RowsOf k rows → row_named name rows ≡ Some row → length row ≡ k
row_found k name [] row h e = absurd (cc e)
row_found k name (x ∷ rows) row h e = by (bytes_eq x.0 name) e (row_found k name rows row h.1)
  where
    by : (b : Bool) → (if b then Some x.1 else row_named name rows) ≡ Some row
        → (row_named name rows ≡ Some row → length row ≡ k) → length row ≡ k
    by true is later = let same : x.1 ≡ row = cc is in subst (λ (r : List ℕ). length r ≡ k) same h.0
    by false is later = later is

module _ (n number : ℕ) (s : One2many) (args : List ℕ) (h : IsShaped n (One2manyState s)) where
  abbrev ManyFine : Reply One2many → Type 0
  ManyFine reply = IsFine One2manyState n (cookie_of OfMany) number reply

  many_refusal : (errno : Errno) → ManyFine (refuses s errno)
  many_refusal errno = fine_refusal One2manyState n (cookie_of OfMany) number s errno h

  many_row : (o : Option (List ℕ)) (reply : List ℕ → Reply One2many)
      → ((row : List ℕ) → o ≡ Some row → ManyFine (reply row)) → ManyFine (many.by_row s o reply)
  many_row None reply one = many_refusal _
  many_row (Some row) reply one = one row refl

  many_hook : (hook : Option (List ℕ)) (reply : List ℕ → List ℕ → Reply One2many)
      → ((hook row : List ℕ) → length row ≡ 5 → ManyFine (reply hook row)) → ManyFine (many.by_hook s hook reply)
  many_hook None reply one = many_refusal einval
  many_hook (Some hook) reply one = many_row (row_named hook s.rows) (reply hook)
      (λ row e. one hook row (row_found 5 hook s.rows row h.0.0 e))

  many_link : (reply : List ℕ → List ℕ → Reply One2many)
      → ((hook row : List ℕ) → length row ≡ 5 → ManyFine (reply hook row)) → ManyFine (many.by_link s args reply)
  many_link reply one = fine_sized One2manyState n (cookie_of OfMany) number s 4 args _ h
      (λ _. many_hook (many.link_hook (number_at 4 args 0)) reply one)

  many_cleared : (hook : List ℕ) → IsShaped n (One2manyState (many.many_clear s hook))
  many_cleared hook = ((rows_changed 5 hook (λ r. zeros 5) (λ row is. refl) s.rows h.0.0, h.0.1), h.1)

  many_fine : ManyFine (many.one2many_message s number args)
  many_fine =
      let cookie = cookie_of OfMany in
      by_number_all (IsFine One2manyState n cookie number) s number (many.one2many_messages s args) (many_refusal einval) (
        (λ _. fine_sized One2manyState n cookie number s 72 args _ h
            (λ size. fine_unless One2manyState n cookie number s (many.config_refusals s args) _ h
            (λ _. fine_set One2manyState n cookie number (many.with_config s args) (
              (
                h.0.0,
                let less = length-drop 8 args in length-map (drop 8 args)
                    (λ (value : ℕ). if value == 0 then 0 else 1) ∙ omega arith,
              ),
              omega arith,
            )))),
        (
          (λ e. fine_sized One2manyState n cookie number s 0 args _ h
              (λ _. fine_answer One2manyState n cookie number s (many.config_bytes s) h
              (λ _. at_number cookie 0x30000002 number _ e (table.many_config s h.0.1)))),
          (
            (λ e. many_link (λ hook r. answers s (row_bytes r))
                (λ hook r is. fine_answer One2manyState n cookie number s (row_bytes r) h
                (λ _. at_number cookie 0x20000003 number _ e (table.many_gets r is)))),
            (
              (λ _. many_link (λ hook r. sets (many.many_clear s hook))
                  (λ hook r is. fine_set One2manyState n cookie number (many.many_clear s hook)
                  (more_shaped n (suc n) (One2manyState (many.many_clear s hook)) (omega arith) (many_cleared hook)))),
              (
                (λ e. many_link (λ hook r. answers (many.many_clear s hook) (row_bytes r))
                    (λ hook r is. fine_answer One2manyState n cookie number (many.many_clear s hook) (row_bytes r)
                    (many_cleared hook) (λ _. at_number cookie 0x20000005 number _ e (table.many_takes r is)))),
                tt,
              ),
            ),
          ),
        ),
      )

-- ng_bridge(4)

module _ (n number : ℕ) (s : Bridge) (args : List ℕ) (h : IsShaped n (BridgeState s)) where
  abbrev BridgeFine : Reply Bridge → Type 0
  BridgeFine reply = IsFine BridgeState n (cookie_of OfBridge) number reply

  bridge_refusal : (errno : Errno) → BridgeFine (refuses s errno)
  bridge_refusal errno = fine_refusal BridgeState n (cookie_of OfBridge) number s errno h

  found_link : (l : Option Link) (reply : Link → Reply Bridge) → ((x : Link) → l ≡ Some x → BridgeFine (reply x))
      → BridgeFine (bridge.by_link_found s l reply)
  found_link None reply one = bridge_refusal _
  found_link (Some l) reply one = one l refl

  bridge_link : (reply : Link → Reply Bridge) → ((l : Link) → HasCounters l → BridgeFine (reply l))
      → BridgeFine (bridge.by_link s args reply)
  bridge_link reply one = fine_sized BridgeState n (cookie_of OfBridge) number s 4 args _ h
      (λ _. by (nat_lt (number_at 4 args 0) bridge.most_links))
    where
      by : (b : Bool) → BridgeFine (if b then bridge.by_link_found s
          (find (has_number (number_at 4 args 0)) s.links) reply else invalid s)
      by true = found_link (find (has_number (number_at 4 args 0)) s.links) reply
          (λ l e. one l (every_find HasCounters (has_number (number_at 4 args 0)) s.links l h.0.0 e))
      by false = bridge_refusal einval

  bridge_cleared : (l : Link) → IsShaped n (BridgeState (bridge.bridge_clear s l))
  bridge_cleared l = ((links_changed l.number (λ m. record m { counters = zeros 14 }) (λ m is. refl) s.links h.0.0, h.0.1), h.1)

  bridge_fine : BridgeFine (bridge.bridge_message s number args)
  bridge_fine =
      let cookie = cookie_of OfBridge in
      let few = h.1 in
      let kept : IsShaped (suc n) (BridgeState s) = more_shaped n (suc n) (BridgeState s) (omega arith) h in
      by_number_all (IsFine BridgeState n cookie number) s number (bridge.bridge_messages s args) (bridge_refusal einval) (
        (λ _. fine_sized BridgeState n cookie number s 16 args _ h (λ _. fine_set BridgeState n cookie number _ kept)),
        (
          (λ e. fine_sized BridgeState n cookie number s 0 args _ h
              (λ _. fine_answer BridgeState n cookie number s (bridge.bridge_config_bytes s.config) h
              (λ _. at_number cookie 0x30000002 number _ e (table.bridge_config s.config)))),
          (
            (λ _. fine_sized BridgeState n cookie number s 0 args _ h
                (λ _. fine_set BridgeState n cookie number (bridge.bridge_reset s)
                ((every_map HasCounters HasCounters (λ l. new_link l.number) (λ l is. refl) s.links h.0.0, tt), omega arith))),
            (
              (λ e. bridge_link (λ l. answers s (row_bytes l.counters))
                  (λ l is. fine_answer BridgeState n cookie number s (row_bytes l.counters) h
                  (λ _. at_number cookie 0x20000004 number _ e (table.bridge_gets l.counters is)))),
              (
                (λ _. bridge_link (λ l. sets (bridge.bridge_clear s l))
                    (λ l is. fine_set BridgeState n cookie number (bridge.bridge_clear s l)
                    (more_shaped n (suc n) (BridgeState (bridge.bridge_clear s l)) (omega arith) (bridge_cleared l)))),
                (
                  (λ e. bridge_link (λ l. answers (bridge.bridge_clear s l) (row_bytes l.counters))
                      (λ l is. fine_answer BridgeState n cookie number (bridge.bridge_clear s l) (row_bytes l.counters)
                      (bridge_cleared l) (λ _. at_number cookie 0x20000006 number _ e (table.bridge_takes l.counters is)))),
                  (
                    (λ e. fine_sized BridgeState n cookie number s 0 args _ h
                        (λ _. fine_answer BridgeState n cookie number s (bridge.hosts_bytes s.hosts) h
                        (λ lt. at_number cookie 0x20000007 number _ e (table.bridge_table s.hosts h.0.1 (omega arith))))),
                    (
                      (λ _. fine_sized BridgeState n cookie number s 0 args _ h
                          (λ _. fine_set BridgeState n cookie number _ kept)),
                      tt,
                    ),
                  ),
                ),
              ),
            ),
          ),
        ),
      )

-- ng_vlan(4)

vlan_put : (f : VlanWay) (filters : List VlanWay) → IsShortWay f → Every IsShortWay filters
    → Every IsShortWay (vlan.put_filter f filters) × (length (vlan.put_filter f filters) ≤ suc (length filters))
vlan_put f [] p h = ((p, tt), omega arith)
vlan_put f (g ∷ filters) p h = by (nat_lt f.vlan g.vlan) (vlan_put f filters p h.1)
  where
    by : (b : Bool) → Every IsShortWay (vlan.put_filter f filters) × (length (vlan.put_filter f filters) ≤ suc (length filters))
        → Every IsShortWay (if b then f ∷ g ∷ filters else g ∷ vlan.put_filter f filters)
        × (length (if b then f ∷ g ∷ filters else g ∷ vlan.put_filter f filters) ≤ suc (suc (length filters)))
    by true rest = ((p, (h.0, h.1)), omega arith)
    by false rest = ((h.0, rest.0), let le = rest.1 in omega arith)

vlan_fine : (n : ℕ) (s : Vlan) (hooks : List (List ℕ)) (number : ℕ) (args : List ℕ) → IsShaped n (VlanState s)
    → IsFine VlanState n (cookie_of OfVlan) number (vlan.vlan_message s hooks number args)
vlan_fine n s hooks number args h =
    let cookie = cookie_of OfVlan in
    let few = h.1 in
    let kept : IsShaped (suc n) (VlanState s) = more_shaped n (suc n) (VlanState s) (omega arith) h in
    let f = vlan.filter_in args in
    let put = vlan_put f s.filters (text_short args 0) h.0 in
    by_number_all (IsFine VlanState n cookie number) s number (vlan.vlan_messages s hooks args)
    (fine_refusal VlanState n cookie number s einval h) (
      (λ _. fine_sized VlanState n cookie number s 36 args _ h
          (λ _. fine_unless VlanState n cookie number s (vlan.add_refusals s hooks f) _ h
          (λ _. fine_set VlanState n cookie number (vlan.with_filter s hooks f) (put.0, let le = put.1 in omega arith)))),
      (
        (λ _. fine_sized VlanState n cookie number s 32 args _ h
            (λ _. fine_unless VlanState n cookie number s (vlan.delete_refusals s (text_at args 0)) _ h
            (λ _. fine_set VlanState n cookie number (vlan.vlan_without_hook s (text_at args 0))
            (every_filter IsShortWay _ s.filters h.0, omega (arith, fewer {A = VlanWay}))))),
        (
          (λ e. fine_sized VlanState n cookie number s 0 args _ h
              (λ _. fine_answer VlanState n cookie number s (vlan.filters_bytes s.filters) h
              (λ lt. at_number cookie 0x30000003 number _ e (table.vlan_table s.filters h.0 (omega arith))))),
          (
            (λ _. fine_sized VlanState n cookie number s 4 args _ h
                (λ _. fine_unless VlanState n cookie number s (vlan.kind_refusals s (number_at 4 args 0)) _ h
                (λ _. fine_set VlanState n cookie number _ kept))),
            (
              (λ e. fine_sized VlanState n cookie number s 0 args _ h
                  (λ _. fine_answer VlanState n cookie number s (little_bytes 4 s.kind) h
                  (λ _. at_number cookie 0x30000005 number _ e (table.vlan_kind s.kind)))),
              tt,
            ),
          ),
        ),
      ),
    )

-- ng_patch(4)

ops_length : (n : ℕ) (bytes : List ℕ) → length (patch.ops_in n bytes) ≡ n
ops_length zero bytes = refl
ops_length (suc n) bytes = ap suc (ops_length n (drop 16 bytes))

ops_few : (args : List ℕ) → patch.has_ops args ≡ true → length (patch.ops_of args) ≤ 128
ops_few args e =
    let a = and_parts (nat_le 8 (length args) && (length args == 8 + 16 * number_at 4 args 0))
    (nat_le (number_at 4 args 0) 128) e in
    let b = and_parts (nat_le 8 (length args)) (length args == 8 + 16 * number_at 4 args 0) a.0 in
    let size = eqb-true (length args) (8 + 16 * number_at 4 args 0) b.1 in
    let few = leb-true (number_at 4 args 0) 128 a.1 in
    let count = ops_length ((length args - 8) / 16) (drop 8 args) in
    omega arith

patch_fine : (n : ℕ) (s : List PatchOp) (number : ℕ) (args : List ℕ) → IsShaped n (PatchState s)
    → IsFine PatchState n (cookie_of OfPatch) number (patch.patch_message s number args)
patch_fine n s number args h =
    let cookie = cookie_of OfPatch in
    let few = h.0 in
    by_number_all (IsFine PatchState n cookie number) s number (patch.patch_messages s args)
    (fine_refusal PatchState n cookie number s einval h) (
      (λ _. fine_unless PatchState n cookie number s (patch.ops_refusals s args) _ h
          (λ none. fine_set PatchState n cookie number (patch.ops_of args)
          (ops_few args (is_not (patch.has_ops args) (none_of (patch.ops_refusals s args) none).0), omega arith))),
      (
        (λ e. fine_sized PatchState n cookie number s 0 args _ h
            (λ _. fine_answer PatchState n cookie number s (patch.ops_bytes s) h
            (λ _. at_number cookie 0x30000002 number _ e (table.patch_config s (omega arith))))),
        tt,
      ),
    )

-- ng_bpf(4)

insns_length : (n : ℕ) (bytes : List ℕ) → length (bpf.insns_in n bytes) ≡ n
insns_length zero bytes = refl
insns_length (suc n) bytes = ap suc (insns_length n (drop 8 bytes))

program_few : (args : List ℕ) → bpf.has_program args ≡ true → length (bpf.program_in args) ≤ 512
program_few args e =
    let a = and_parts (nat_le 100 (length args) && (length args == 100 + 8 * number_at 4 args 96))
    (nat_le (number_at 4 args 96) 512) e in
    let b = and_parts (nat_le 100 (length args)) (length args == 100 + 8 * number_at 4 args 96) a.0 in
    let size = eqb-true (length args) (100 + 8 * number_at 4 args 96) b.1 in
    let few = leb-true (number_at 4 args 96) 512 a.1 in
    let count = insns_length ((length args - 100) / 8) (drop 100 args) in
    omega arith

target_short : (text : List ℕ) → IsShort text → IsShort (text_or_empty (bpf.target_of text))
target_short [] short = short
target_short (byte ∷ bytes) short = short

module _ (n number : ℕ) (s : List Filter) (args : List ℕ) (h : IsShaped n (BpfState s)) where
  abbrev BpfFine : Reply (List Filter) → Type 0
  BpfFine reply = IsFine BpfState n (cookie_of OfBpf) number reply

  found_filter : (f : Option Filter) (reply : Filter → Reply (List Filter))
      → ((x : Filter) → f ≡ Some x → BpfFine (reply x)) → BpfFine (bpf.by_filter s f reply)
  found_filter None reply one = fine_refusal BpfState n (cookie_of OfBpf) number s _ h
  found_filter (Some f) reply one = one f refl

  hook_filter : (reply : Filter → Reply (List Filter)) → ((f : Filter) → IsShapedFilter f → BpfFine (reply f))
      → BpfFine (bpf.of_hook s args reply)
  hook_filter reply one =
      let hook = text_at args 0 in
      fine_sized BpfState n (cookie_of OfBpf) number s 32 args _ h
      (λ _. fine_unless BpfState n (cookie_of OfBpf) number s ((not (is_name hook), einval) ∷ []) _ h
      (λ _. found_filter (find (is_of_hook hook) s) reply (λ f e. one f (every_find IsShapedFilter (is_of_hook hook) s f h.0 e))))

  bpf_cleared : (f : Filter) → IsShaped n (BpfState (bpf.bpf_clear s f))
  bpf_cleared f = (filters_changed f.way.hook (λ g. record g { counters = zeros 6 }) (λ g is. (is.0, refl)) s h.0, h.1)

  bpf_fine : BpfFine (bpf.bpf_message s number args)
  bpf_fine =
      let cookie = cookie_of OfBpf in
      by_number_all (IsFine BpfState n cookie number) s number (bpf.bpf_messages s args)
      (fine_refusal BpfState n cookie number s einval h) (
        (λ _. fine_unless BpfState n cookie number s (bpf.program_refusals s args) _ h
            (λ none. fine_set BpfState n cookie number (bpf.with_program s args) (
              filters_changed (text_at args 0) (λ f. record f { way = bpf.way_in args }) (λ f is. (
                record {
                  hook = text_short args 0;
                  match = target_short (text_at args 32) (text_short args 32);
                  not_match = target_short (text_at args 64) (text_short args 64);
                  few = program_few args (is_not (bpf.has_program args) (none_of (bpf.program_refusals s args) none).0);
                },
                is.1,
              )) s h.0,
              omega arith,
            ))),
        (
          (λ e. hook_filter (λ f. answers s (bpf.way_bytes f.way))
              (λ f is. fine_answer BpfState n cookie number s (bpf.way_bytes f.way) h
              (λ _. at_number cookie 0x30000002 number _ e
              (let few = is.0.few in table.bpf_program f.way is.0.hook is.0.match is.0.not_match (omega arith))))),
          (
            (λ e. hook_filter (λ f. answers s (row_bytes f.counters))
                (λ f is. fine_answer BpfState n cookie number s (row_bytes f.counters) h
                (λ _. at_number cookie 0x20000003 number _ e (table.bpf_gets f.counters is.1)))),
            (
              (λ _. hook_filter (λ f. sets (bpf.bpf_clear s f))
                  (λ f is. fine_set BpfState n cookie number (bpf.bpf_clear s f)
                  (more_shaped n (suc n) (BpfState (bpf.bpf_clear s f)) (omega arith) (bpf_cleared f)))),
              (
                (λ e. hook_filter (λ f. answers (bpf.bpf_clear s f) (row_bytes f.counters))
                    (λ f is. fine_answer BpfState n cookie number (bpf.bpf_clear s f) (row_bytes f.counters)
                    (bpf_cleared f) (λ _. at_number cookie 0x20000005 number _ e (table.bpf_takes f.counters is.1)))),
                tt,
              ),
            ),
          ),
        ),
      )

-- ng_ether(4)

ether_fine : (n : ℕ) (s : Ether) (number : ℕ) (args : List ℕ) → IsShaped n (EtherState s)
    → IsFine EtherState n (cookie_of OfEther) number (ether.ether_message s number args)
ether_fine n s number args h =
    let cookie = cookie_of OfEther in
    by_number_all (IsFine EtherState n cookie number) s number (ether.ether_messages s args)
    (fine_refusal EtherState n cookie number s einval h) (
      (λ _. fine_sized EtherState n cookie number s 4 args _ h (λ _. fine_set EtherState n cookie number _ (tt, omega arith))),
      (
        (λ e. fine_sized EtherState n cookie number s 0 args _ h
            (λ _. fine_answer EtherState n cookie number s (little_bytes 4 s.promiscuous) h
            (λ _. at_number cookie 0x30000002 number _ e (table.ether_promiscuous s.promiscuous)))),
        (
          (λ _. fine_sized EtherState n cookie number s 4 args _ h
              (λ _. fine_set EtherState n cookie number _ (tt, omega arith))),
          (
            (λ e. fine_sized EtherState n cookie number s 0 args _ h
                (λ _. fine_answer EtherState n cookie number s (little_bytes 4 s.source) h
                (λ _. at_number cookie 0x30000004 number _ e (table.ether_source s.source)))),
            tt,
          ),
        ),
      ),
    )

-- ng_etf(4)

etf_put : (f : EtfWay) (filters : List EtfWay) → IsShortFilter f → Every IsShortFilter filters
    → Every IsShortFilter (etf.put_etf f filters) × (length (etf.put_etf f filters) ≤ suc (length filters))
etf_put f [] p h = ((p, tt), omega arith)
etf_put f (g ∷ filters) p h = by (nat_lt f.ethertype g.ethertype) (etf_put f filters p h.1)
  where
    by : (b : Bool) → Every IsShortFilter (etf.put_etf f filters) × (length (etf.put_etf f filters) ≤ suc (length filters))
        → Every IsShortFilter (if b then f ∷ g ∷ filters else g ∷ etf.put_etf f filters)
        × (length (if b then f ∷ g ∷ filters else g ∷ etf.put_etf f filters) ≤ suc (suc (length filters)))
    by true rest = ((p, (h.0, h.1)), omega arith)
    by false rest = ((h.0, rest.0), let le = rest.1 in omega arith)

etf_fine : (n : ℕ) (s : Etf) (hooks : List (List ℕ)) (number : ℕ) (args : List ℕ) → IsShaped n (EtfState s)
    → IsFine EtfState n (cookie_of OfEtf) number (etf.etf_message s hooks number args)
etf_fine n s hooks number args h =
    let cookie = cookie_of OfEtf in
    let few = h.1 in
    let f = etf.etf_filter_in args in
    let put = etf_put f s.filters (text_short args 0) h.0.0 in
    by_number_all (IsFine EtfState n cookie number) s number (etf.etf_messages s hooks args)
    (fine_refusal EtfState n cookie number s einval h) (
      (λ _. fine_sized EtfState n cookie number s 34 args _ h
          (λ _. fine_unless EtfState n cookie number s (etf.filter_refusals s hooks f) _ h
          (λ _. fine_set EtfState n cookie number (etf.with_etf_filter s hooks f)
          ((put.0, h.0.1), let le = put.1 in omega arith)))),
      (
        (λ e. fine_sized EtfState n cookie number s 0 args _ h
            (λ _. fine_answer EtfState n cookie number s (row_bytes s.counters) h
            (λ _. at_number cookie 0x20000002 number _ e (table.etf_status s.counters h.0.1)))),
        (
          (λ e. fine_sized EtfState n cookie number s 0 args _ h
              (λ _. fine_answer EtfState n cookie number s (etf.etf_filters_bytes s.filters) h
              (λ lt. at_number cookie 0x30000003 number _ e (table.etf_table s.filters h.0.0 (omega arith))))),
          tt,
        ),
      ),
    )

-- macset

address_put : (a : List ℕ) (addresses : List (List ℕ)) → IsSix a → Every IsSix addresses
    → Every IsSix (macset.put_address a addresses) × (length (macset.put_address a addresses) ≤ suc (length addresses))
address_put a [] p h = ((p, tt), omega arith)
address_put a (b ∷ addresses) p h = by (nat_lt (big_number 6 a) (big_number 6 b)) (address_put a addresses p h.1)
  where
    by : (c : Bool) → Every IsSix (macset.put_address a addresses) ×
        (length (macset.put_address a addresses) ≤ suc (length addresses))
        → Every IsSix (if c then a ∷ b ∷ addresses else b ∷ macset.put_address a addresses)
        × (length (if c then a ∷ b ∷ addresses else b ∷ macset.put_address a addresses) ≤ suc (suc (length addresses)))
    by true rest = ((p, (h.0, h.1)), omega arith)
    by false rest = ((h.0, rest.0), let le = rest.1 in omega arith)

macset_fine : (n : ℕ) (s : Macset) (number : ℕ) (args : List ℕ) → IsShaped n (MacsetState s)
    → IsFine MacsetState n (cookie_of OfMacset) number (macset.macset_message s number args)
macset_fine n s number args h =
    let cookie = cookie_of OfMacset in
    let few = h.1 in
    by_number_all (IsFine MacsetState n cookie number) s number (macset.macset_messages s args)
    (fine_refusal MacsetState n cookie number s einval h) (
      (λ _. fine_sized MacsetState n cookie number s 6 args _ h
          (λ six. fine_unless MacsetState n cookie number s (macset.address_refusals s args) _ h
          (λ _. let put = address_put args s.addresses six h.0.0 in
          fine_set MacsetState n cookie number (macset.with_address s args)
          ((put.0, h.0.1), let le = put.1 in omega arith)))),
      (
        (λ _. fine_sized MacsetState n cookie number s 6 args _ h
            (λ _. fine_unless MacsetState n cookie number s (macset.delete_address_refusals s args) _ h
            (λ _. fine_set MacsetState n cookie number (macset.without_address s args)
            ((every_filter IsSix _ s.addresses h.0.0, h.0.1), omega (arith, fewer {A = List ℕ}))))),
        (
          (λ e. fine_sized MacsetState n cookie number s 0 args _ h
              (λ _. fine_answer MacsetState n cookie number s (macset.addresses_bytes s.addresses) h
              (λ lt. at_number cookie 0x30000003 number _ e (table.macset_table s.addresses h.0.0 (omega arith))))),
          (
            (λ e. fine_sized MacsetState n cookie number s 0 args _ h
                (λ _. fine_answer MacsetState n cookie number s (row_bytes s.counters) h
                (λ _. at_number cookie 0x20000004 number _ e (table.macset_stats s.counters h.0.1)))),
            tt,
          ),
        ),
      ),
    )

-- Each type

abbrev pub Keeps : KindState → KindState
Keeps kept = kept

as_kept_fine : {S : Type 0} (make : S → KindState) (n cookie number : ℕ) (reply : Reply S)
    → IsFine make n cookie number reply → IsFine Keeps n cookie number
    (record { after = make reply.after; outcome = reply.outcome })
as_kept_fine make n cookie number reply f = record { shaped = f.shaped; answer = f.answer }

pub reply_fine : (n : ℕ) (kept : KindState) (hooks : List (List ℕ)) (number : ℕ) (args : List ℕ) → IsShaped n kept
    → IsFine Keeps n (cookie_of (kind_of_kept kept)) number (reply_of kept hooks number args)
reply_fine n (HubState s) hooks number args h = as_kept_fine HubState n _ number _ (hub_fine n s number args h)
reply_fine n (TeeState s) hooks number args h = as_kept_fine TeeState n _ number _ (tee_fine n s number args h)
reply_fine n (One2manyState s) hooks number args h = as_kept_fine One2manyState n _ number _ (many_fine n number s args h)
reply_fine n (BridgeState s) hooks number args h = as_kept_fine BridgeState n _ number _ (bridge_fine n number s args h)
reply_fine n (VlanState s) hooks number args h = as_kept_fine VlanState n _ number _ (vlan_fine n s hooks number args h)
reply_fine n (PatchState s) hooks number args h = as_kept_fine PatchState n _ number _ (patch_fine n s number args h)
reply_fine n (BpfState s) hooks number args h = as_kept_fine BpfState n _ number _ (bpf_fine n number s args h)
reply_fine n (EtherState s) hooks number args h = as_kept_fine EtherState n _ number _ (ether_fine n s number args h)
reply_fine n (EtfState s) hooks number args h = as_kept_fine EtfState n _ number _ (etf_fine n s hooks number args h)
reply_fine n (MacsetState s) hooks number args h = as_kept_fine MacsetState n _ number _ (macset_fine n s number args h)
reply_fine n HoleState hooks number args h = fine_refusal Keeps n _ number HoleState einval h
reply_fine n EchoState hooks number args h = fine_refusal Keeps n _ number EchoState einval h
reply_fine n SplitState hooks number args h = fine_refusal Keeps n _ number SplitState einval h
reply_fine n SocketState hooks number args h = fine_refusal Keeps n _ number SocketState einval h
