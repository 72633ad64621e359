-- The appends joined are the layout.
use Rattle.std.proofs.lemmas.List.{append_assoc}
use Rattle.ng_message.proofs.codec.append_header.Goals as goal

pub returns-clause-ok : goal.returns-clause-ok
returns-clause-ok c =
    rw (
      c.in_ok-extend_from_slice-2.ensures.items,
      c.in_ok-put_u32-5.ensures.ok,
      c.in_ok-put_u32-4.ensures.ok,
      c.in_ok-put_u32-3.ensures.ok,
      c.in_ok-put_u32-2.ensures.ok,
      c.in_ok-put_u32.ensures.ok,
      c.in_ok-put_u16.ensures.ok,
      c.in_ok-extend_from_slice.ensures.items,
    ) (simp append_assoc)
