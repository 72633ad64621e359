-- What is left leads to the same text.
use Rattle.std.proofs.Common.{◌≡◌, ◌++◌, drop}
use Rattle.std.specs.Prelude.{codes}
use Rattle.ng_trace.specs.Text.{places_text}
use Rattle.ng_trace.proofs.lines.put_places.Given as goal

abbrev pub invariant-loop-place : goal.invariant-loop-place
invariant-loop-place l = l.out.items ++ places_text l.mark (drop l.place-index l.places) ≡ l.fn.out.items ++ places_text (codes ": ") l.places
