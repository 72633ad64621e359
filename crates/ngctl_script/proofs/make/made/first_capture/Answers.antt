-- A packet is written behind the others.
use Rattle.std.proofs.Common.{◌++◌, ◌*◌, ap, sym, ◌∙◌}
use Rattle.ng_pcap.specs.Writing.{written_packet}
use Rattle.ngctl_script.specs.make.Made.{packet_bytes}
use Rattle.ngctl_script.proofs.make.Files.{one_packet_more}
use Rattle.ngctl_script.proofs.make.made.first_capture.Goals as goal

pub loop-k-preserved : goal.loop-k-preserved
loop-k-preserved c =
    c.in_ok-add_packet.ensures
    ∙ ap (λ bytes. bytes ++ written_packet (record { 0 = c.loop-k.k * 1000 }) (packet_bytes c.args.n c.loop-k.k)) c.loop-k.invariant
    ∙ sym (one_packet_more c.args.n c.loop-k.k)
