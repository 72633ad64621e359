-- The numbers of a run's world are far below the ends of their types, and what is pending is counted.
use Rattle.std.proofs.Common.{◌≡◌, ℕ, ◌+◌, ◌^◌, ◌≤◌, List, [], ◌∷◌, length, Bool, true, false, cond, ◌==◌, subst, arith}
use Rattle.ng_base.specs.declared.cause.Cause.{Cause}
use Rattle.ng_base.specs.declared.cause.Cause.TheVariants.{NodeGone, HookGone, Budget, NoPeer, Full, Spool}
use Rattle.ng_base.specs.declared.ids.ItemId.{ItemId}
use Rattle.ng_base.specs.declared.ids.NodeId.{NodeId}
use Rattle.ng_machine.specs.declared.item.Item.{Item}
use Rattle.ng_machine.specs.Words.{Has, times}
use Rattle.ng_machine.specs.Body.{has_frame, has_tick}
use Rattle.ng_machine.specs.World.{World}
use Rattle.ng_machine.specs.Change.{items_of}
use Rattle.ng_machine.specs.LowRun.{IsLow}
use Rattle.ng_machine.specs.Totals.{cause_number, dropped_for}
use Rattle.ng_queue.specs.tie.Tie.{IsSorted}
use Rattle.ng_queue.proofs.tie.Leaving.{times_without, all_times}
use Rattle.ng_queue.specs.tally.Tally.{tally_of, is_tagged, HasNumbers, HasCounted, Counts}
use Rattle.ng_queue.specs.tally.TallyLaws.{CountsAreLow}
use Rattle.ng_queue.proofs.tally.CountsOfWorld.{parted}

one_at_most : (b : Bool) → cond b 1 0 ≤ 1
one_at_most true = omega arith
one_at_most false = omega arith

pub times_few : (test : Item → Bool) (xs : List Item) → times test xs ≤ length xs
times_few test [] = omega arith
times_few test (x ∷ xs) = let rest = times_few test xs in let one = one_at_most (test x) in omega arith

-- what is dropped is dropped for one cause
one_cause : (cause : Cause) → cond (cause_number cause == cause_number NodeGone) 1 0 + (cond (cause_number cause == cause_number HookGone) 1 0 + cond (cause_number cause == cause_number Budget) 1 0) ≤ 1
one_cause NodeGone = omega arith
one_cause HookGone = omega arith
one_cause Budget = omega arith
one_cause NoPeer = omega arith
one_cause Full = omega arith
one_cause Spool = omega arith

causes_few : (dropped : List (ItemId × Cause)) → dropped_for NodeGone dropped + (dropped_for HookGone dropped + dropped_for Budget dropped) ≤ length dropped
causes_few [] = omega arith
causes_few (x ∷ xs) = let rest = causes_few xs in let first = one_cause x.1 in omega arith

low : (w : World) → IsLow w → HasNumbers (2 ^ 62) (tally_of w)
low w L = record {
  made = let items = L.items in let losses = L.losses in omega arith;
  settled = let few = causes_few w.dropped in let all = L.settled in omega arith;
  applies = let few = L.applies in omega arith;
  frames = let few = times_few has_frame w.pending in let all = L.settled in omega arith;
  ticks = let few = times_few has_tick w.pending in let all = L.settled in omega arith;
  tagged = let few = times_few is_tagged w.pending in let all = L.settled in omega arith;
  spool = L.spool;
}

fewer : (a b c : ℕ) → a + b ≡ c → b ≤ c
fewer a b c e = omega arith

is_counted : (w : World) (item : Item) → IsSorted 0 w.pending → Has item w.pending → Counts (tally_of w) item
is_counted w item s h = record {
  pending = subst (λ (n : ℕ). 1 ≤ n) (all_times w.pending) (fewer _ 1 _ (times_without (λ x. true) 0 w.pending item s h));
  frames = fewer _ _ _ (times_without has_frame 0 w.pending item s h);
  ticks = fewer _ _ _ (times_without has_tick 0 w.pending item s h);
  tagged = fewer _ _ _ (times_without is_tagged 0 w.pending item s h);
}

part : (a b c : ℕ) → a + b ≡ c → a ≤ c
part a b c e = omega arith

are_counted : (w : World) (at : NodeId) → HasCounted (tally_of w) (items_of w at)
are_counted w at = record {
  pending = let e = part _ _ _ (parted (λ x. true) w at) in let a = all_times w.pending in let b = all_times (items_of w at) in omega arith;
  frames = part _ _ _ (parted has_frame w at);
  ticks = part _ _ _ (parted has_tick w at);
  tagged = part _ _ _ (parted is_tagged w at);
}

pub counts_are_low : CountsAreLow
counts_are_low = record { low = low; one = is_counted; some = are_counted }
