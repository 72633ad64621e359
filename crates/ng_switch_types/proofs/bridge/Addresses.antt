-- Hosts in order of their addresses.
use Rattle.std.proofs.Common.{◌≡◌, ℕ, zero, suc, ◌+◌, ◌*◌, ◌/◌, ◌^◌, ◌<◌, ◌≤◌, nat_lt, ◌==◌, not, Bool, true, false, cond, List, [], ◌∷◌, length, set, slice_index, map, None, find, Result, Ok, Err, OnOk, OnErr, refl, sym, ap, ◌∙◌, arith, inl, inr, true≢false}
use Rattle.std.specs.List.{insert, filter}
use Rattle.std.specs.Option.{option_map}
use Rattle.std.specs.Str.{bytes_eq}
use Rattle.std.proofs.lemmas.Bool.{cases_Bool, cases_eq, cases_lt, eqb-true, eq-eqb}
use Rattle.std.proofs.lemmas.Nat.{div-mul-add}
use Rattle.std.proofs.lemmas.Bool.Decides.{nat_tests}
use Rattle.std.proofs.lemmas.List.{length-map, length-set}
use Rattle.std.proofs.lemmas.List.Edits.{length-insert}
use Rattle.byteorder.specs.Endian.{big_from, big_number}
use Rattle.byteorder.specs.Numbers.{big_from-lt}
use Rattle.ng_base.proofs.NameLemmas.{is_same, same_name}
use Rattle.ng_plan.specs.lookup.Table.{IsAscending}
use Rattle.ng_machine.specs.declared.plan.BridgeConfig.{BridgeConfig}
use Rattle.ng_machine.specs.declared.plan.BridgeHost.{BridgeHost}
use Rattle.ng_machine.specs.kinds.Bridge.{Host, elsewhere, host_of, host_way, put_host, see_host, seen_number, age_host, rest_host, standing, standing_of, News}
use Rattle.ng_machine.specs.Counters.{raise}
use Rattle.ng_machine.specs.Words.{Every}
use Rattle.ng_switch_types.specs.bridge.Hosts.{IsAddress, address_of, AreHosts, AreKept}
use Rattle.ng_sorted.specs.Order.{IsAbove, IsInOrder, IsGap, IsPlace}
use Rattle.ng_sorted.proofs.InOrder.{ordered_at, next_gap, next_place, change_at, ordered_filter, ordered_map, ordered_insert, ordered_change}

-- by what a plan finds a host
abbrev pub way_number : BridgeHost → ℕ
way_number h = big_number 6 h.addr

-- ---- addresses

-- two numbers in front of lesser ones
leading : (p x y r s : ℕ) → r < p → s < p → x * p + r ≡ y * p + s → x ≡ y
leading p x y r s r_less s_less e = sym (div-mul-add x p r r_less) ∙ ap (λ (n : ℕ). n / p) e ∙ div-mul-add y p s s_less

-- two lists of bytes with the same number have the same bytes
same_bytes : (i n : ℕ) (a b : List ℕ) → ((k : ℕ) → slice_index a k < 256) → ((k : ℕ) → slice_index b k < 256) → big_from i n a ≡ big_from i n b
    → (k : ℕ) → i ≤ k → k < i + n → slice_index a k ≡ slice_index b k
same_bytes i zero a b a_bytes b_bytes e k from below = absurd (omega arith)
same_bytes i (suc n) a b a_bytes b_bytes e k from below =
    let first : slice_index a i ≡ slice_index b i =
    leading (256 ^ n) (slice_index a i) (slice_index b i) (big_from (suc i) n a) (big_from (suc i) n b) (big_from-lt (suc i) n a a_bytes) (big_from-lt (suc i) n b b_bytes) e in
    let scaled : slice_index a i * 256 ^ n ≡ slice_index b i * 256 ^ n = ap (λ (x : ℕ). x * 256 ^ n) first in
    let rest : big_from (suc i) n a ≡ big_from (suc i) n b = omega (arith, e, scaled) in
    elim (cases_eq k i) [
      | inl here ↦ rw here first
      | inr later ↦ same_bytes (suc i) n a b a_bytes b_bytes rest k (omega arith) (omega arith)
    ]

same_lists : (a b : List ℕ) → length a ≡ length b → ((k : ℕ) → k < length a → slice_index a k ≡ slice_index b k) → a ≡ b
same_lists [] [] e same = refl
same_lists [] (y ∷ b) e same = absurd (omega arith)
same_lists (x ∷ a) [] e same = absurd (omega arith)
same_lists (x ∷ a) (y ∷ b) e same =
    let first : x ≡ y = same 0 (omega arith) in
    let rest : a ≡ b = same_lists a b (omega arith) (λ k below. same (suc k) (omega arith)) in
    rw (first, rest) refl

pub same_address : (a b : List ℕ) → IsAddress a → IsAddress b → big_number 6 a ≡ big_number 6 b → a ≡ b
same_address a b is_a is_b e =
    same_lists a b (is_a.six ∙ sym is_b.six) (λ k below. same_bytes 0 6 a b is_a.bytes is_b.bytes e k (omega arith) (omega (arith, is_a.six)))

-- so the test of the bytes is that of the numbers
pub test_address : (a b : List ℕ) → IsAddress a → IsAddress b → bytes_eq a b ≡ (big_number 6 a == big_number 6 b)
test_address a b is_a is_b = elim (cases_Bool (big_number 6 a == big_number 6 b)) [
  | inl is ↦ let e : a ≡ b = same_address a b is_a is_b (eqb-true (big_number 6 a) (big_number 6 b) is) in rw is (rw e (same_name b))
  | inr other ↦ elim (cases_Bool (bytes_eq a b)) [
    | inl same ↦ let e : a ≡ b = is_same a b same in absurd (true≢false (sym (eq-eqb (big_number 6 a) (big_number 6 b) (ap (big_number 6) e)) ∙ other))
    | inr differ ↦ differ ∙ sym other
  ]
]

-- ---- finding

pub host_found : (hosts : List Host) (addr : List ℕ) → IsAddress addr → Every (λ h. IsAddress h.addr) hosts
    → host_of addr (map host_way hosts) ≡ option_map host_way (find (λ h. address_of h == big_number 6 addr) hosts)
host_found [] addr is all = refl
host_found (h ∷ hosts) addr is all =
    let test = test_address h.addr addr all.0 is in
    elim (cases_Bool (big_number 6 h.addr == big_number 6 addr)) [
      | inl same ↦ rw (test, same) refl
      | inr other ↦ rw (test, other) (host_found hosts addr is all.1)
    ]

-- ---- putting

pub put_gap : (hosts : List Host) (k : ℕ) (x : Host) → IsAddress x.addr → Every (λ h. IsAddress h.addr) hosts → IsGap address_of hosts (big_number 6 x.addr) k → put_host x hosts ≡ insert hosts k x
put_gap [] zero x is all at = refl
put_gap [] (suc k) x is all at = absurd (omega (arith, at.in_range))
put_gap (h ∷ hosts) zero x is all at =
    let more : big_number 6 x.addr < big_number 6 h.addr = at.greater 0 h (omega arith) (omega arith) in
    let test : bytes_eq h.addr x.addr ≡ false = test_address h.addr x.addr all.0 is ∙ grind (arith, nat_tests) in
    let less : nat_lt (big_number 6 x.addr) (big_number 6 h.addr) ≡ true = grind (arith, nat_tests) in
    rw (test, less) refl
put_gap (h ∷ hosts) (suc k) x is all at =
    let more : big_number 6 h.addr < big_number 6 x.addr = at.lesser 0 h (omega arith) in
    let test : bytes_eq h.addr x.addr ≡ false = test_address h.addr x.addr all.0 is ∙ grind (arith, nat_tests) in
    let less : nat_lt (big_number 6 x.addr) (big_number 6 h.addr) ≡ false = grind (arith, nat_tests) in
    rw (test, less) (ap (λ hs. h ∷ hs) (put_gap hosts k x is all.1 (next_gap address_of h hosts (big_number 6 x.addr) k at)))

pub put_place : (hosts : List Host) (k : ℕ) (x : Host) → IsAddress x.addr → Every (λ h. IsAddress h.addr) hosts → IsPlace address_of hosts (big_number 6 x.addr) k → put_host x hosts ≡ set hosts k x
put_place [] k x is all at = absurd (omega (arith, at.in_range))
put_place (h ∷ hosts) zero x is all at =
    let same : big_number 6 h.addr ≡ big_number 6 x.addr = at.same h in
    let test : bytes_eq h.addr x.addr ≡ true = test_address h.addr x.addr all.0 is ∙ eq-eqb (big_number 6 h.addr) (big_number 6 x.addr) same in
    rw test refl
put_place (h ∷ hosts) (suc k) x is all at =
    let more : big_number 6 h.addr < big_number 6 x.addr = at.lesser 0 h (omega arith) in
    let test : bytes_eq h.addr x.addr ≡ false = test_address h.addr x.addr all.0 is ∙ grind (arith, nat_tests) in
    let less : nat_lt (big_number 6 x.addr) (big_number 6 h.addr) ≡ false = grind (arith, nat_tests) in
    rw (test, less) (ap (λ hs. h ∷ hs) (put_place hosts k x is all.1 (next_place address_of h hosts (big_number 6 x.addr) k at)))

-- ---- what stays true of each host

pub every_set : (P : Host → Type 0) (hosts : List Host) (k : ℕ) (x : Host) → P x → Every P hosts → Every P (set hosts k x)
every_set P [] k x p all = tt
every_set P (h ∷ hosts) zero x p all = (p, all.1)
every_set P (h ∷ hosts) (suc k) x p all = (all.0, every_set P hosts k x p all.1)

pub every_insert : (P : Host → Type 0) (hosts : List Host) (k : ℕ) (x : Host) → k ≤ length hosts → P x → Every P hosts → Every P (insert hosts k x)
every_insert P hosts zero x below p all = (p, all)
every_insert P [] (suc k) x below p all = absurd (omega arith)
every_insert P (h ∷ hosts) (suc k) x below p all = (all.0, every_insert P hosts k x (omega arith) p all.1)

pub every_filter : (P : Host → Type 0) (test : Host → Bool) (hosts : List Host) → Every P hosts → Every P (filter test hosts)
every_filter P test [] all = tt
every_filter P test (h ∷ hosts) all = elim (test h) as (λ b. Every P (cond b (h ∷ filter test hosts) (filter test hosts))) [ true ↦ (all.0, every_filter P test hosts all.1) | false ↦ every_filter P test hosts all.1 ]

pub every_map : (P : Host → Type 0) (f : Host → Host) (hosts : List Host) → ((h : Host) → P h → P (f h)) → Every P hosts → Every P (map f hosts)
every_map P f [] one all = tt
every_map P f (h ∷ hosts) one all = (one h all.0, every_map P f hosts one all.1)

-- ---- seeing

abbrev pub seen_more : ℕ → Host → Host
seen_more amount h = record h { seen = raise h.seen amount }

-- a host is counted as seen under its number
pub see_is_change : (a amount : ℕ) (hosts : List Host) → map (change_at address_of a (seen_more amount)) hosts ≡ map (see_host (2 ^ 48 + a) amount) hosts
see_is_change a amount [] = refl
see_is_change a amount (h ∷ hosts) =
    let test : (big_number 6 h.addr == a) ≡ (seen_number h.addr == 2 ^ 48 + a) = grind (arith, nat_tests) in
    rw (test, see_is_change a amount hosts) refl

-- and under no number below
pub see_none : (number amount : ℕ) (hosts : List Host) → number < 2 ^ 48 → hosts ≡ map (see_host number amount) hosts
see_none number amount [] less = refl
see_none number amount (h ∷ hosts) less =
    let test : (seen_number h.addr == number) ≡ false = grind (arith, nat_tests) in
    rw (test, ← see_none number amount hosts less) refl

pub see_keeps : (number amount : ℕ) (h : Host) → (see_host number amount h).addr ≡ h.addr
see_keeps number amount h = elim (cases_Bool (seen_number h.addr == number)) [ inl is ↦ rw is refl | inr other ↦ rw other refl ]

-- ---- what the edits keep

fewer : (p : Host → Bool) (hosts : List Host) → length (filter p hosts) ≤ length hosts
fewer p [] = omega arith
fewer p (h ∷ hosts) = elim (cases_Bool (p h)) [ inl is ↦ rw is (omega (arith, fewer p hosts)) | inr other ↦ rw other (omega (arith, fewer p hosts)) ]

pub hosts_filter : (p : Host → Bool) (hosts : List Host) → AreHosts hosts → AreHosts (filter p hosts)
hosts_filter p hosts are = record {
  ordered = ordered_filter address_of p hosts are.ordered;
  addressed = every_filter (λ h. IsAddress h.addr) p hosts are.addressed;
  few = omega (arith, fewer p hosts, are.few);
}

pub hosts_map : (f : Host → Host) (hosts : List Host) → ((h : Host) → (f h).addr ≡ h.addr) → AreHosts hosts → AreHosts (map f hosts)
hosts_map f hosts keeps are = record {
  ordered = ordered_map address_of f hosts (λ h. ap (big_number 6) (keeps h)) are.ordered;
  addressed = every_map (λ h. IsAddress h.addr) f hosts (λ h is. rw (keeps h) is) are.addressed;
  few = omega (arith, length-map hosts f, are.few);
}

pub hosts_set : (hosts : List Host) (k : ℕ) (x : Host) → IsAddress x.addr → IsPlace address_of hosts (big_number 6 x.addr) k → AreHosts hosts → AreHosts (set hosts k x)
hosts_set hosts k x is at are = record {
  ordered = ordered_change address_of hosts (big_number 6 x.addr) k x are.ordered at refl;
  addressed = every_set (λ h. IsAddress h.addr) hosts k x is are.addressed;
  few = omega (arith, length-set hosts k x, are.few);
}

pub hosts_insert : (hosts : List Host) (k : ℕ) (x : Host) → IsAddress x.addr → IsGap address_of hosts (big_number 6 x.addr) k → length hosts < 4096 → AreHosts hosts → AreHosts (insert hosts k x)
hosts_insert hosts k x is at room are = record {
  ordered = ordered_insert address_of hosts k x are.ordered at;
  addressed = every_insert (λ h. IsAddress h.addr) hosts k x at.in_range is are.addressed;
  few = omega (arith, length-insert hosts k x at.in_range, room);
}

-- ---- what a plan holds of hosts

-- it is in order as they are
way_above : (a : ℕ) (hosts : List Host) → IsAbove address_of a hosts → IsAbove way_number a (map host_way hosts)
way_above a [] up = tt
way_above a (h ∷ hosts) up = (up.0, way_above a hosts up.1)

ways_in_order : (hosts : List Host) → IsInOrder address_of hosts → IsInOrder way_number (map host_way hosts)
ways_in_order [] up = tt
ways_in_order (h ∷ hosts) up = (way_above (address_of h) hosts up.0, ways_in_order hosts up.1)

pub ways_ascend : (hosts : List Host) (ways : List BridgeHost) → IsInOrder address_of hosts → ways ≡ map host_way hosts → IsAscending way_number ways
ways_ascend hosts ways up planned k d below = ordered_at way_number ways k (k + 1) d (rw planned (ways_in_order hosts up)) (omega arith) below

-- a host that is put among them
ways_insert : (hosts : List Host) (k : ℕ) (x : Host) → insert (map host_way hosts) k (host_way x) ≡ map host_way (insert hosts k x)
ways_insert hosts zero x = refl
ways_insert [] (suc k) x = refl
ways_insert (h ∷ hosts) (suc k) x = ap (λ ways. host_way h ∷ ways) (ways_insert hosts k x)

pub learned : {A E : Type 0} (r : Result A E) (hosts now : List Host) (ways then : List BridgeHost) (k : ℕ) (x : Host)
    → OnOk r (now ≡ insert hosts k x) → OnOk r (then ≡ insert ways k (host_way x)) → OnErr r (now ≡ hosts) → OnErr r (then ≡ ways)
    → AreHosts (insert hosts k x) → AreKept hosts ways → AreKept now then
learned (Ok v) hosts now ways then k x host way hosts_stay ways_stay are kept = record {
  known = rw host are;
  planned = way ∙ ap (λ (ws : List BridgeHost). insert ws k (host_way x)) kept.planned ∙ ways_insert hosts k x ∙ ap (map host_way) (sym host);
}
learned (Err e) hosts now ways then k x host way hosts_stay ways_stay are kept = record {
  known = rw hosts_stay kept.known;
  planned = ways_stay ∙ kept.planned ∙ ap (map host_way) (sym hosts_stay);
}

-- hosts behind a link that are forgotten
pub ways_elsewhere : (link : ℕ) (hosts : List Host) → filter (λ (w : BridgeHost). not (w.link == link)) (map host_way hosts) ≡ map host_way (elsewhere link hosts)
ways_elsewhere link [] = refl
ways_elsewhere link (h ∷ hosts) = elim (cases_Bool (h.link == link)) [
  | inl is ↦ rw is (ways_elsewhere link hosts)
  | inr other ↦ rw other (ap (λ ways. host_way h ∷ ways) (ways_elsewhere link hosts))
]

-- no plan holds how often a host was seen
pub ways_seen : (number amount : ℕ) (hosts : List Host) → map host_way (map (see_host number amount) hosts) ≡ map host_way hosts
ways_seen number amount [] = refl
ways_seen number amount (h ∷ hosts) = elim (cases_Bool (seen_number h.addr == number)) [
  | inl is ↦ rw is (ap (λ ways. host_way h ∷ ways) (ways_seen number amount hosts))
  | inr other ↦ rw other (ap (λ ways. host_way h ∷ ways) (ways_seen number amount hosts))
]

pub older_keeps : (seconds : ℕ) (h : Host) → (age_host seconds (rest_host h)).addr ≡ h.addr
older_keeps seconds h = elim (cases_Bool (nat_lt 0 h.seen)) [ inl is ↦ rw is refl | inr other ↦ rw other refl ]

-- news has room
pub news_has_room : (config : BridgeConfig) (hosts : List Host) (number : ℕ) (addr : List ℕ) → standing config (map host_way hosts) number addr ≡ News → host_of addr (map host_way hosts) ≡ None → length hosts < 4096
news_has_room config hosts number addr news none = omega (arith, length-map hosts host_way, room (length (map host_way hosts)) (rw none at news))
  where
    room : (count : ℕ) → standing_of config count number None ≡ News → count < 4096
    room count e = elim (cases_lt count 4096) [
      | inl less ↦ less
      | inr more ↦ let test : nat_lt count 4096 ≡ false = grind (arith, nat_tests) in absurd (cc (rw test at e))
    ]
