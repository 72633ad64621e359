-- The lines of the ports, made one behind the other.
use Rattle.std.proofs.Common.{◌≡◌, ◌∙◌, ℕ, zero, suc, ◌+◌, ◌<◌, List, [], ◌∷◌, ◌++◌, length, take, get_or, Option, refl, ap, arith}
use Rattle.ng_machine.specs.declared.totals.PortTotals.{PortTotals}
use Rattle.ng_machine.specs.Totals.{port_totals_of}
use Rattle.ng_machine.specs.World.{Port}
use Rattle.ng_args.specs.declared.port.PortWord.{PortWord}
use Rattle.ngctl_print.specs.declared.whole.report.PortReport.{PortReport}
use Rattle.ngctl_print.specs.whole.Text.{reports}
use Rattle.ng_call.specs.Run.{port_at}
use Rattle.ng_call.specs.Writes.{shown_by}

abbrev line_at : List PortWord → List (Option ℕ) → List Port → ℕ → PortWord → Option ℕ → PortReport
line_at words cuts ports i d e = record {
  name = (get_or words i d).name;
  totals = port_totals_of (port_at ports i);
  cut = get_or cuts i e;
}

one_more : (i : ℕ) (words : List PortWord) (cuts : List (Option ℕ)) (ports : List Port) (d : PortWord) (e : Option ℕ) → i < length words
    → i < length cuts → i < length ports
    → reports (shown_by (take (suc i) words) (take (suc i) cuts)) ports
    ≡ reports (shown_by (take i words) (take i cuts)) ports ++ line_at words cuts ports i d e ∷ []
one_more i [] cuts ports d e a b c = absurd (omega (arith, a))
one_more i (w ∷ words) [] ports d e a b c = absurd (omega (arith, b))
one_more i (w ∷ words) (x ∷ cuts) [] d e a b c = absurd (omega (arith, c))
one_more zero (w ∷ words) (x ∷ cuts) (p ∷ ports) d e a b c = refl
one_more (suc i) (w ∷ words) (x ∷ cuts) (p ∷ ports) d e a b c =
    let first : PortReport = record { name = w.name; totals = port_totals_of p; cut = x } in
    ap (λ (l : List PortReport). first ∷ l)
    (one_more i words cuts ports d e (omega (arith, a)) (omega (arith, b)) (omega (arith, c)))

pub line_more : (i : ℕ) (words : List PortWord) (cuts : List (Option ℕ)) (ports : List Port) (d : PortWord) (e : Option ℕ) → i < length words
    → i < length cuts → i < length ports
    → reports (shown_by (take (i + 1) words) (take (i + 1) cuts)) ports
    ≡ reports (shown_by (take i words) (take i cuts)) ports ++ line_at words cuts ports i d e ∷ []
line_more i words cuts ports d e a b c =
    ap (λ (n : ℕ). reports (shown_by (take n words) (take n cuts)) ports) (let next : i + 1 ≡ suc i = omega arith in next)
    ∙ one_more i words cuts ports d e a b c

-- the line that is made next
pub one_line : (i : ℕ) (words : List PortWord) (cuts : List (Option ℕ)) (ports : List Port) (d : PortWord) (e : Option ℕ) (made : List PortReport)
    (line : PortReport) → made ≡ reports (shown_by (take i words) (take i cuts)) ports → line.name ≡ (get_or words i d).name
    → line.totals ≡ port_totals_of (port_at ports i) → line.cut ≡ get_or cuts i e
    → made ++ line ∷ [] ≡ reports (shown_by (take i words) (take i cuts)) ports ++ line_at words cuts ports i d e ∷ []
one_line i words cuts ports d e made line so_far name totals cut =
    let same : line ≡ line_at words cuts ports i d e =
    ap (λ (n : List ℕ). let l : PortReport = record { name = n; totals = line.totals; cut = line.cut } in l) name
    ∙ ap (λ (t : PortTotals). let l : PortReport = record { name = (get_or words i d).name; totals = t; cut = line.cut } in l) totals
    ∙ ap (λ (k : Option ℕ). let l : PortReport = record { name = (get_or words i d).name; totals = port_totals_of (port_at ports i); cut = k } in l) cut in
    ap (λ (l : List PortReport). l ++ line ∷ []) so_far
    ∙ ap (λ (l : PortReport). reports (shown_by (take i words) (take i cuts)) ports ++ l ∷ []) same
