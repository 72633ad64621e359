-- A row of the type, or of all types, has shapes.
use Rattle.std.proofs.Common.{sym, ap, ◌∙◌}
use Rattle.std.specs.Str.{bytes_eq}
use Rattle.ng_table.specs.Message.{message_of, message_seen}
use Rattle.ng_table.specs.Generic.{generic_messages}
use Rattle.ng_table.specs.Table.{messages_of, find_by_name}
use Rattle.ng_table.specs.Laws.{HasShapes}
use Rattle.ng_table.proofs.Found.{found_has, all_shapes}
use Rattle.ng_table.proofs.find.find_name.Goals as goal

pub returns-in-Some-clause-shapes : goal.returns-in-Some-clause-shapes
returns-in-Some-clause-shapes c =
    let said = sym (ap message_seen c.in-Some.is) ∙ c.find_by_name.ensures ∙ ap (λ messages. find_by_name messages c.args.name.now) c.rows_of.ensures in
    found_has HasShapes (λ message. bytes_eq message.name c.args.name.now) (messages_of c.args.kind) (message_of c.in-Some.row.now) (all_shapes.1 c.args.kind) (sym said)

pub returns-clause-shapes : goal.returns-clause-shapes
returns-clause-shapes c =
    let said = sym (ap message_seen c.in_ok-row.was) ∙ c.find_by_name-2.ensures ∙ ap (λ messages. find_by_name messages c.args.name.now) c.rows.ensures in
    found_has HasShapes (λ message. bytes_eq message.name c.args.name.now) generic_messages (message_of c.in_ok-row.row.now) all_shapes.0 (sym said)
