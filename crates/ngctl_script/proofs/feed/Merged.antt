-- The packets of captures that were not taken yet, and the next one.
use Rattle.std.proofs.Common.{◌≡◌, ℕ, zero, suc, ◌+◌, ◌*◌, ◌^◌, ◌<◌, Bool, true, false, cond, leb, List, [], ◌∷◌, length, Option, Some, None, refl, sym, ap, ◌∙◌, arith}
use Rattle.ng_base.specs.declared.ids.Stamp.{Stamp}
use Rattle.ngctl_script.specs.declared.feed.arrival.Arrival.{Arrival}
use Rattle.std.specs.Option.{MatchOption, IfSome}
use Rattle.ngctl_script.specs.feed.Merge.{Packets, next_from, without_next, packet_count, earlier, taken, merged_in, merged, with_next}
use Rattle.ngctl_script.proofs.feed.Heads.{HeadAt, head_of}

abbrev pub is_next_early : Option Arrival → Type 0
is_next_early None = Unit {0}
is_next_early (Some arrival) = arrival.stamp.0 < 2 ^ 32 * 1000000000

one_less_at : (place : ℕ) (captures : List Packets) (stamp : Stamp) (packet : List ℕ) → HeadAt place captures stamp packet
    → packet_count captures ≡ suc (packet_count (without_next place captures))
one_less_at place [] stamp packet head = elim head [ ]
one_less_at zero ([] ∷ captures) stamp packet head = elim head [ ]
one_less_at zero ((first ∷ packets) ∷ captures) stamp packet head = omega arith
one_less_at (suc place) (packets ∷ captures) stamp packet head = let e = one_less_at place captures stamp packet head in omega (arith, e)

-- with the next packet out there is one less
one_less : (captures : List Packets) (arrival : Arrival) → next_from 0 captures ≡ Some arrival → packet_count captures ≡ suc (packet_count (without_next arrival.port captures))
one_less captures arrival is =
    let found = head_of 0 captures arrival is in
    let at : found.place ≡ arrival.port = omega (arith, found.at) in
    one_less_at found.place captures arrival.stamp arrival.packet found.head ∙ ap (λ n. suc (packet_count (without_next n captures))) at

turns_more : (turns : ℕ) (captures : List Packets) (arrival : Arrival) → turns ≡ suc (packet_count (without_next arrival.port captures)) → next_from 0 captures ≡ Some arrival
    → merged_in turns captures ≡ arrival ∷ merged (without_next arrival.port captures)
turns_more turns captures arrival count is =
    ap (λ n. merged_in n captures) count ∙ ap (λ next. taken captures (λ rest. merged_in (packet_count (without_next arrival.port captures)) rest) next) is

-- the next packet is the first of those that are left
pub merged_next : (captures : List Packets) (arrival : Arrival) → next_from 0 captures ≡ Some arrival → merged captures ≡ arrival ∷ merged (without_next arrival.port captures)
merged_next captures arrival is = turns_more (packet_count captures) captures arrival (one_less captures arrival is) is

turns_none : (turns : ℕ) (captures : List Packets) → next_from 0 captures ≡ None → merged_in turns captures ≡ []
turns_none zero captures is = refl
turns_none (suc turns) captures is = ap (λ next. taken captures (λ rest. merged_in turns rest) next) is

-- where there is no next packet, none is left
pub merged_none : (captures : List Packets) → next_from 0 captures ≡ None → merged captures ≡ []
merged_none captures is = turns_none (packet_count captures) captures is

-- what is known of a packet that was taken, in terms of all that are left
pub rest_by : (old new : List Packets) (found : Option Arrival)
    → MatchOption found ((next_from 0 old ≡ None) × (new ≡ old)) (λ arrival. (next_from 0 old ≡ Some arrival) × (new ≡ without_next arrival.port old))
    → merged old ≡ with_next found (merged new)
rest_by old new None is = merged_none old (is.0)
rest_by old new (Some arrival) is = merged_next old arrival (is.0) ∙ ap (λ captures. arrival ∷ merged captures) (sym (is.1))

as_many : (place : ℕ) (captures : List Packets) → length (without_next place captures) ≡ length captures
as_many place [] = refl
as_many zero (packets ∷ captures) = refl
as_many (suc place) (packets ∷ captures) = ap suc (as_many place captures)

pub many_by : (old new : List Packets) (found : Option Arrival)
    → MatchOption found ((next_from 0 old ≡ None) × (new ≡ old)) (λ arrival. (next_from 0 old ≡ Some arrival) × (new ≡ without_next arrival.port old))
    → length new ≡ length old
many_by old new None is = ap length (is.1)
many_by old new (Some arrival) is = ap length (is.1) ∙ as_many arrival.port old

counted_by : (turns : ℕ) (captures : List Packets) (next : Option Arrival) → ((arrival : Arrival) → next ≡ Some arrival → length (merged_in turns (without_next arrival.port captures)) ≡ turns)
    → (next ≡ None → ⊥) → length (taken captures (λ rest. merged_in turns rest) next) ≡ suc turns
counted_by turns captures None more some = absurd (some refl)
counted_by turns captures (Some arrival) more some = ap suc (more arrival refl)

none_left : (port : ℕ) (captures : List Packets) → next_from port captures ≡ None → packet_count captures ≡ 0
none_left port [] is = refl
none_left port ([] ∷ captures) is = let e = none_left (port + 1) captures is in omega (arith, e)
none_left port ((first ∷ packets) ∷ captures) is = absurd (no_later (record { port = port; stamp = first.0; packet = first.1 }) (next_from (port + 1) captures) is)
  where
    no_cond : (is : Bool) (a b : Arrival) → cond is (Some a) (Some b) ≡ None → ⊥
    no_cond true a b e = cc
    no_cond false a b e = cc

    no_later : (arrival : Arrival) (later : Option Arrival) → earlier arrival later ≡ None → ⊥
    no_later arrival None e = cc
    no_later arrival (Some other) e = no_cond (leb arrival.stamp.0 other.stamp.0) arrival other e

-- all packets come
counted_in : (turns : ℕ) (captures : List Packets) → turns ≡ packet_count captures → length (merged_in turns captures) ≡ turns
counted_in zero captures count = refl
counted_in (suc turns) captures count = counted_by turns captures (next_from 0 captures)
    (λ arrival is. counted_in turns (without_next arrival.port captures) (let e = one_less captures arrival is in omega (arith, e)))
    (λ none. let e = none_left 0 captures none in omega (arith, e))

pub counted : (captures : List Packets) → length (merged captures) ≡ packet_count captures
counted captures = counted_in (packet_count captures) captures refl

pub early_by : (next : Option Arrival) → IfSome next (λ arrival. arrival.stamp.0 < 2 ^ 32 * 1000000000) → is_next_early next
early_by None early = tt
early_by (Some arrival) early = early
