-- The port that was found has a packet, which is the next one.
use Rattle.std.proofs.Common.{length, List, ap, subst, arith}
use Rattle.ngctl_script.specs.feed.Merge.{Packets, next_from}
use Rattle.ngctl_script.specs.feed.Best.{IsBest}
use Rattle.std.proofs.Common.{Some}
use Rattle.ngctl_script.proofs.feed.Heads.{head_is_low, head_has_packet, taken_is, rest_is}
use Rattle.ngctl_script.proofs.feed.merge.take_first.Goals as goal

pub index_mut-queue-requires : goal.index_mut-queue-requires
index_mut-queue-requires c = let low = head_is_low c.deref.result.now c.in_ok-head.head c.in_ok-head.ensures in omega (arith, c.deref.ensures.len)

pub overflow_cast-result : goal.overflow_cast-result
overflow_cast-result c = let low = head_is_low c.deref.result.now c.in_ok-head.head c.in_ok-head.ensures in let e = ap length c.deref.ensures.value in omega (arith, c.requires)

pub returns-in_err-stamp-clause-next : goal.returns-in_err-stamp-clause-next
returns-in_err-stamp-clause-next c =
    let P : List Packets → Type 0 = λ captures. IsBest (Some c.in_ok-head.head) (next_from 0 captures) in
    absurd (head_has_packet c.args.queues.now.items c.in_ok-head.head c.index_mut-queue.result.now (subst P c.deref.ensures.value c.in_ok-head.ensures) c.index_mut-queue.ensures.value (c.in_err-stamp.ensures.taken.0))

pub returns-clause-next : goal.returns-clause-next
returns-clause-next c =
    let P : List Packets → Type 0 = λ captures. IsBest (Some c.in_ok-head.head) (next_from 0 captures) in
    let best = subst P c.deref.ensures.value c.in_ok-head.ensures in (
      taken_is c.args.queues.now.items c.in_ok-head.head c.index_mut-queue.result.now c.take.new.self (c.in_ok-stamp.stamp, c.in_ok-stamp.packet) best c.index_mut-queue.ensures.value c.in_ok-stamp.ensures.taken,
      rest_is c.args.queues.now.items c.in_ok-head.head c.index_mut-queue.result.now c.take.new.self (c.in_ok-stamp.stamp, c.in_ok-stamp.packet) best c.index_mut-queue.ensures.value c.in_ok-stamp.ensures.taken,
    )
