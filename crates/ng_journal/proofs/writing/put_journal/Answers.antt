-- The head, and the lines behind it.
use Rattle.std.proofs.Common.{ℕ, List, [], ◌∷◌, ◌++◌, ap, ◌∙◌, append_assoc}
use Rattle.std.specs.List.{flat_map}
use Rattle.ng_journal.specs.Journal.{line_feed, head, event_line}
use Rattle.ng_journal.proofs.writing.put_journal.Goals as goal

pub returns : goal.returns
returns c =
    let lines = flat_map event_line c.args.journal.now.items in
    c.in_ok-put_lines.ensures
    ∙ ap (λ (front : List ℕ). front ++ lines) c.in_ok-extend_from_slice.ensures.items
    ∙ append_assoc c.args.out.now.items (head ++ line_feed ∷ []) lines
