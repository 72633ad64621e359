-- A row of the cookie has shapes.
use Rattle.std.proofs.Common.{◌==◌, ap, ◌∙◌}
use Rattle.ng_table.specs.Table.{messages_with, find_by_number}
use Rattle.ng_table.proofs.Found.{seen_has, with_cookie}
use Rattle.ng_table.proofs.find.find_number.Goals as goal

pub returns-clause-shapes : goal.returns-clause-shapes
returns-clause-shapes c = seen_has c.find_by_number.result (λ message. message.number == c.args.number) (messages_with c.args.cookie) (with_cookie c.args.cookie) (c.find_by_number.ensures ∙ ap (λ messages. find_by_number messages c.args.number) c.rows_with.ensures)
