-- The head and the bytes behind what was there.
use Rattle.std.proofs.lemmas.List.{append_assoc}
use Rattle.ng_pcap.proofs.writer.write_packet.Goals as goal

pub returns-clause-ok : goal.returns-clause-ok
returns-clause-ok c =
    rw (
      c.in_ok-extend_from_slice-2.ensures.items,
      c.in_ok-extend_from_slice.ensures.items,
      c.packet_head.ensures,
      c.in_ok-reserve.ensures.items,
      c.bytes-bytes.ensures,
    ) (simp append_assoc)
