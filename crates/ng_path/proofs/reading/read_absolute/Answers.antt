-- A fault of the node part stands before all others, one of the hook part before a second colon.
use Rattle.std.proofs.Common.{◌≡◌, ℕ, List, [], ◌∷◌, ◌++◌, length, subst, sym, ap, ◌∙◌, eqb, false}
use Rattle.std.proofs.lemmas.Bool.{eqb-false}
use Rattle.std.proofs.lemmas.Result.{err_from_is_err_and}
use Rattle.ng_path.proofs.Cuts.{cut_some}
use Rattle.ng_path.proofs.Steps.{front_of, some_behind, no_bytes}
use Rattle.ng_path.proofs.Whole.{first_in_parts, first_node_empty, first_node_bad, first_hooks, first_colon, short_whole}
use Rattle.ng_path.specs.Faults.{IsFaultOfSegments, IsFirstOf}
use Rattle.ng_path.specs.declared.fault.PathFault.TheVariants.{EmptyNode}
use Rattle.ng_path.proofs.reading.read_absolute.Goals as goal

pub returns-then-is_empty : goal.returns-then-is_empty
returns-then-is_empty c =
    let behind = cut_some 0x3a c.args.behind.now in
    let none : c.args.node.now ≡ [] = no_bytes c.args.node.now (sym c.is_empty.ensures ∙ c.if-is_empty.true) in
    let first = subst (λ (l : List ℕ). IsFirstOf (IsFaultOfSegments (l ∷ (behind.0 ∷ behind.1))) EmptyNode) (sym none) (first_node_empty behind.0 behind.1) in
    first_in_parts (c.args.node.now ++ 0x3a ∷ c.args.behind.now) (c.args.node.now ∷ (behind.0 ∷ behind.1)) EmptyNode
    (short_whole c.args.node.now c.args.behind.now c.requires.short)
    (c.requires.parts ∙ ap (λ (l : List (List ℕ)). c.args.node.now ∷ l) behind.2) first

pub returns-in_default : goal.returns-in_default
returns-in_default c =
    let behind = cut_some 0x3a c.args.behind.now in
    let some : eqb (length c.args.node.now) 0 ≡ false = sym c.is_empty.ensures ∙ c.if-is_empty.false in
    first_in_parts (c.args.node.now ++ 0x3a ∷ c.args.behind.now) (c.args.node.now ∷ (behind.0 ∷ behind.1)) _
    (short_whole c.args.node.now c.args.behind.now c.requires.short)
    (c.requires.parts ∙ ap (λ (l : List (List ℕ)). c.args.node.now ∷ l) behind.2)
    (first_node_bad c.args.node.now behind.0 behind.1 (λ e. eqb-false (length c.args.node.now) 0 some (ap length e)) c.in_default.ensures)

pub returns-in_err-hooks : goal.returns-in_err-hooks
returns-in_err-hooks c =
    let behind = front_of 0x3a c.args.behind.now c.cut.result.0.now c.cut.result.1 c.cut.ensures.parts in
    let p = err_from_is_err_and c.from_residual.result c.from_residual.ensures.1 in
    rw (p.1, p.2)
    (first_in_parts (c.args.node.now ++ 0x3a ∷ c.args.behind.now) (c.args.node.now ∷ (c.cut.result.0.now ∷ behind.0)) _
    (short_whole c.args.node.now c.args.behind.now c.requires.short)
    (c.requires.parts ∙ ap (λ (l : List (List ℕ)). c.args.node.now ∷ l) behind.1)
    (first_hooks c.args.node.now c.cut.result.0.now behind.0 c.in-Some.head _ c.in-Some.ensures c.in_err-hooks.ensures))

pub returns-then-is_some : goal.returns-then-is_some
returns-then-is_some c =
    let behind = some_behind 0x3a c.args.behind.now c.cut.result.0.now c.cut.result.1 c.cut.ensures.parts (sym c.is_some.ensures ∙ c.if-is_some.true) in
    first_in_parts (c.args.node.now ++ 0x3a ∷ c.args.behind.now) (c.args.node.now ∷ (c.cut.result.0.now ∷ (behind.0 ∷ behind.1))) _
    (short_whole c.args.node.now c.args.behind.now c.requires.short)
    (c.requires.parts ∙ ap (λ (l : List (List ℕ)). c.args.node.now ∷ l) behind.2)
    (first_colon c.args.node.now c.cut.result.0.now behind.0 behind.1 c.in-Some.head _ c.in-Some.ensures c.in_ok-hooks.ensures)
