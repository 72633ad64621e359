-- A row of the name is a name among the rows' names.
use Rattle.std.proofs.Common.{◌≡◌, List, ℕ, ◌∙◌}
use Rattle.std.specs.List.{list_any}
use Rattle.std.specs.Str.{bytes_eq}
use Rattle.ng_switch_types.proofs.one2many.RowLists.{has_row}
use Rattle.ng_switch_types.proofs.one2many.rows.Rows.has.Goals as goal

pub returns : goal.returns
returns c =
    let any : c.is_there.result ≡ list_any (λ (row : List ℕ × List ℕ). bytes_eq row.0 c.args.hook.now) c.self.inside.rows.items = rw c.deref.ensures.value at c.is_there.ensures in
    rw (← c.self.view_is) (any ∙ has_row c.self.inside.rows.items c.args.hook.now)
