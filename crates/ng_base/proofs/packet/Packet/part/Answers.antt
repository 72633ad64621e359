-- A part of what the packet shows is a part of the shared bytes.
use Rattle.std.proofs.Common.{◌+◌, ◌≤◌, length, drop, sym, ap, arith}
use Rattle.std.proofs.lemmas.List.{length-take}
use Rattle.std.specs.Arc.{arc_value}
use Rattle.ng_base.proofs.PacketParts.{part_of_part}
use Rattle.ng_base.proofs.packet.Packet.part.Goals as goal

pub returns : goal.returns
returns c =
    let bytes = (arc_value c.self.inside.shared).items in
    let shown = c.self.view_is in
    let few = length-take c.self.inside.len (drop c.self.inside.from bytes) in
    let fits : c.args.from + c.args.len ≤ c.self.inside.len = omega (arith, ap length shown, few, c.requires) in
    rw (c.in_ok-try_clone.ensures, sym shown) (part_of_part bytes c.self.inside.from c.self.inside.len c.args.from c.args.len fits)
