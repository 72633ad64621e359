-- The event at a place.
use Rattle.std.proofs.Common.{◌≡◌, ℕ, zero, suc, ◌+◌, ◌<◌, ◌≤◌, List, [], ◌∷◌, ◌++◌, length, take, Option, Some, None, refl, ◌∙◌, ap, arith}
use Rattle.std.specs.Prelude.{slice_get, slice_index_or}
use Rattle.std.proofs.Math.Seq.{take-suc}
use Rattle.ng_base.specs.declared.event.Event.{Event}
use Rattle.ng_journal.specs.declared.kept.short.Short.{Short}
use Rattle.ng_journal.specs.declared.kept.short.Short.TheVariants.{Feed, Take, Back, Apply, Stop, Great}
use Rattle.ng_journal.specs.kept.Shorts.{of_short, events_in, greats_in}

-- as many events as short ones: none is missing
abbrev IsWhole : List Short → List Event → Type 0
IsWhole shorts great = length (events_in shorts great) ≡ length shorts

-- a short event, or where its numbers are great the one that stands elsewhere
abbrev pub or_else : Option Event → Option Event → Option Event
or_else None elsewhere = elsewhere
or_else (Some event) elsewhere = Some event

abbrev pub event_of : Option Short → Option Event → Option Event
event_of None elsewhere = None
event_of (Some short) elsewhere = or_else (of_short short) elsewhere

pub event_at : (shorts : List Short) (great : List Event) (i : ℕ) → IsWhole shorts great
    → slice_get (events_in shorts great) i ≡ event_of (slice_get shorts i) (slice_get great (greats_in (take i shorts)))
event_at [] great zero whole = refl
event_at [] great (suc i) whole = refl
event_at (Feed ∷ shorts) great zero whole = refl
event_at (Take seat id ∷ shorts) great zero whole = refl
event_at (Back id ∷ shorts) great zero whole = refl
event_at (Apply id ∷ shorts) great zero whole = refl
event_at (Stop ∷ shorts) great zero whole = refl
event_at (Great ∷ shorts) [] i whole = absurd (omega arith)
event_at (Great ∷ shorts) (event ∷ great) zero whole = refl
event_at (Feed ∷ shorts) great (suc i) whole = event_at shorts great i (omega arith)
event_at (Take seat id ∷ shorts) great (suc i) whole = event_at shorts great i (omega arith)
event_at (Back id ∷ shorts) great (suc i) whole = event_at shorts great i (omega arith)
event_at (Apply id ∷ shorts) great (suc i) whole = event_at shorts great i (omega arith)
event_at (Stop ∷ shorts) great (suc i) whole = event_at shorts great i (omega arith)
event_at (Great ∷ shorts) (event ∷ great) (suc i) whole = event_at shorts great i (omega arith)

-- one more short event
pub greats_of_more : (shorts : List Short) (short : Short) → greats_in (shorts ++ short ∷ []) ≡ greats_in shorts + greats_in (short ∷ [])
greats_of_more [] short = omega arith
greats_of_more (Feed ∷ shorts) short = greats_of_more shorts short
greats_of_more (Take seat id ∷ shorts) short = greats_of_more shorts short
greats_of_more (Back id ∷ shorts) short = greats_of_more shorts short
greats_of_more (Apply id ∷ shorts) short = greats_of_more shorts short
greats_of_more (Stop ∷ shorts) short = greats_of_more shorts short
greats_of_more (Great ∷ shorts) short = let rest = greats_of_more shorts short in omega arith

pub greats_of_next : (shorts : List Short) (i : ℕ) (default : Short) → i < length shorts
    → greats_in (take (i + 1) shorts) ≡ greats_in (take i shorts) + greats_in (slice_index_or shorts i default ∷ [])
greats_of_next shorts i default within =
    ap (λ n. greats_in (take n shorts)) (let next : i + 1 ≡ suc i = omega arith in next)
    ∙ ap greats_in (take-suc shorts i default within)
    ∙ greats_of_more (take i shorts) (slice_index_or shorts i default)

pub one_at_most : (short : Short) → greats_in (short ∷ []) ≤ 1
one_at_most Feed = omega arith
one_at_most (Take seat id) = omega arith
one_at_most (Back id) = omega arith
one_at_most (Apply id) = omega arith
one_at_most Stop = omega arith
one_at_most Great = omega arith
