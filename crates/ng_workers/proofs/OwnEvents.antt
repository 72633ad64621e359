-- Feeds are events of the seat 0, and of no other.
use Rattle.std.proofs.Common.{◌≡◌, ◌+◌, ℕ, List, [], ◌∷◌, Bool, true, false, refl, ap, ◌∙◌, if◌then◌else◌, arith}
use Rattle.ng_base.specs.declared.event.Event.{Event}
use Rattle.ng_base.specs.declared.event.Event.TheVariants.{Feed, Take, Back, Apply, Stop}
use Rattle.ng_machine.specs.Desk.{add_own, has_taken, is_own, own_events, own_events_from}
use Rattle.ng_machine.specs.Run.{Taken, taken_after}
use Rattle.ng_machine.specs.Words.{times}
use Rattle.ng_workers.specs.Desks.{is_feed}

-- an event that is no Feed counts for nothing, whosever it is
counts_more : (b : Bool) (e : Event) (own all : List Event) → is_feed e ≡ false → times is_feed own ≡ times is_feed all → times is_feed (add_own b e own) ≡ times is_feed (e ∷ all)
counts_more true e own all is same = ap (λ (n : ℕ). (if is_feed e then 1 else 0) + n) same
counts_more false e own all is same =
    let none : times is_feed (e ∷ all) ≡ 0 + times is_feed all = ap (λ (feeds : Bool). (if feeds then 1 else 0) + times is_feed all) is in omega arith

feeds_from : (taken : List Taken) (j : List Event) → times is_feed (own_events_from taken 0 j) ≡ times is_feed j
feeds_from taken [] = refl
feeds_from taken (Feed ∷ es) = ap (λ (n : ℕ). 1 + n) (feeds_from taken es)
feeds_from taken (Take seat id ∷ es) =
    let after = taken_after taken (Take seat id) in
    counts_more (is_own taken 0 (Take seat id)) (Take seat id) (own_events_from after 0 es) es refl (feeds_from after es)
feeds_from taken (Back id ∷ es) =
    let after = taken_after taken (Back id) in
    counts_more (has_taken taken id 0) (Back id) (own_events_from after 0 es) es refl (feeds_from after es)
feeds_from taken (Apply id ∷ es) =
    let after = taken_after taken (Apply id) in
    counts_more (has_taken taken id 0) (Apply id) (own_events_from after 0 es) es refl (feeds_from after es)
feeds_from taken (Stop ∷ es) = counts_more (is_own taken 0 Stop) Stop (own_events_from taken 0 es) es refl (feeds_from taken es)

pub own_feeds : (j : List Event) → times is_feed (own_events j 0) ≡ times is_feed j
own_feeds j = feeds_from [] j
