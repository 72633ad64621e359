-- The field of 32 bytes is what was put.
use Rattle.std.proofs.Common.{◌++◌, length, take, drop, refl, ap, ◌∙◌}
use Rattle.std.proofs.lemmas.List.{append_assoc, drop_at, take_at}
use Rattle.ng_message.specs.Fields.{field_text, name_field}
use Rattle.ng_message.proofs.Names.{field_text-name_field, length-name_field}
use Rattle.ng_message.proofs.laws.name_read_back.Goals as goal

pub returns : goal.returns
returns c = λ name before after named.
    ap (λ l. field_text (take 32 (drop (length before) l))) (append_assoc before (name_field name) after)
    ∙ ap (λ l. field_text (take 32 l)) (drop_at before (name_field name ++ after) (length before) refl)
    ∙ ap field_text (take_at (name_field name) after 32 (length-name_field name named))
    ∙ field_text-name_field name named
