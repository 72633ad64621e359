-- Each turn of the loop passes over one packet.
use Rattle.std.proofs.Common.{◌<◌, length, take, drop, sym, ap, ◌∙◌, arith}
use Rattle.std.proofs.lemmas.Bool.Decides.{nat_tests}
use Rattle.std.proofs.lemmas.Result.{err_from_is_err_and}
use Rattle.ng_pcap.proofs.Packets.{count_begins, count_goes_on, counted_cut, counted_fault, counted_whole}
use Rattle.ng_pcap.proofs.reader.count_behind_head.Goals as goal

pub loop-left-init : goal.loop-left-init
loop-left-init c = count_begins c.args.format c.args.bytes.now _ c.requires c.split_at.ensures.back

pub returns-in_err-head : goal.returns-in_err-head
returns-in_err-head c =
    let p = err_from_is_err_and c.from_residual.result c.from_residual.ensures.1 in
    let some : 0 < length c.loop-left.left.now = grind (arith, nat_tests) in
    rw (p.1, p.2)
    (sym (counted_fault c.args.format c.args.bytes.now c.loop-left.left.now c.loop-left.count _ some
    (sym c.in_err-head.ensures.found) c.loop-left.invariant))

pub returns-in_default : goal.returns-in_default
returns-in_default c =
    let some : 0 < length c.loop-left.left.now = grind (arith, nat_tests) in
    sym (counted_cut c.args.format c.args.bytes.now c.loop-left.left.now c.loop-left.count some
    (rw c.in_default.is at (sym c.in_ok-head.ensures.found)) c.loop-left.invariant)

pub loop-left-preserved : goal.loop-left-preserved
loop-left-preserved c =
    let some : 0 < length c.loop-left.left.now = grind (arith, nat_tests) in
    let head = c.in-Some.head in
    let found = rw c.in-Some.is at c.in_ok-head.ensures.found in
    let text = c.split_at-in-loop-left.ensures.back in
    let behind = c.split_at-in-loop-left-2.ensures.back ∙ ap (drop head.len) text in
    count_goes_on c.args.format c.args.bytes.now c.loop-left.left.now _ c.loop-left.count head some
    (sym found) (omega arith) behind c.loop-left.invariant

pub returns : goal.returns
returns c =
    sym (counted_whole c.args.format c.args.bytes.now c.loop-left.left.now c.loop-left.count (grind (arith, nat_tests)) c.loop-left.invariant)
