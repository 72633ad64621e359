-- What stands before is dropped, and the number begins the rest.
use Rattle.std.proofs.Common.{◌++◌, ap, ◌∙◌}
use Rattle.std.proofs.lemmas.List.{append_assoc, drop_at}
use Rattle.std.proofs.Common.{length, drop, refl}
use Rattle.byteorder.specs.Endian.{little_bytes, little_number}
use Rattle.byteorder.specs.Numbers.{little_number-reads_back}
use Rattle.ng_message.proofs.laws.number_read_back.Goals as goal

pub returns : goal.returns
returns c = λ size number before after fits.
    ap (λ l. little_number size (drop (length before) l)) (append_assoc before (little_bytes size number) after)
    ∙ ap (little_number size) (drop_at before (little_bytes size number ++ after) (length before) refl)
    ∙ little_number-reads_back size number after fits
