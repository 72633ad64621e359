use Rattle.std.proofs.Common.{◌≡◌, ◌≤◌, ◌∙◌, ℕ, true, List, [], ◌∷◌, length, map, sym, ap, subst}
use Rattle.std.proofs.lemmas.List.{length-map}
use Rattle.std.proofs.lemmas.List.Elements.{All-nil, All-cons, All-head, All-tail, All-same, All-map}
use Rattle.std.proofs.lemmas.Simd.{map-map}
use Rattle.std.specs.List.{All}
use Rattle.ng_base.specs.declared.kind.Kind.{Kind}
use Rattle.ng_base.specs.declared.kind.Kind.TheVariants.{Ether, Socket}
use Rattle.ng_base.specs.Kind.{same_kind}
use Rattle.ng_machine.specs.LowRun.{most_ports}
use Rattle.ng_machine.specs.State.{State, blank_of, kind_of}
use Rattle.ng_machine.specs.Stock.{has_kind}
use Rattle.ng_machine.specs.Words.{times}
use Rattle.ng_core.specs.Calls.{most_boxes}
use Rattle.ng_core.specs.Stocked.{IsStocked}
use Rattle.ng_call_tests.proofs.runs.waiting.waiting_nodes.Goals as goal

abbrev IsBlank : State → Type 0
IsBlank s = s ≡ blank_of (kind_of s)

all_of_map : {X Y : Type 0} (P : Y → Type 0) (f : X → Y) (xs : List X) → All P (map f xs) → All (λ x. P (f x)) xs
all_of_map P f [] all = All-nil (λ x. P (f x))
all_of_map P f (x ∷ xs) all =
    All-cons (λ x. P (f x)) x xs (All-head P (f x) (map f xs) all) (all_of_map P f xs (All-tail P (f x) (map f xs) all))

-- nodes with the states of a stock are one
same_stock : {X Y : Type 0} (f : X → State) (g : Y → State) (xs : List X) (ys : List Y) → map f xs ≡ map g ys → IsStocked g ys → IsStocked f xs
same_stock f g xs ys same stock =
    let kinds : map (λ x. kind_of (f x)) xs ≡ map (λ y. kind_of (g y)) ys = sym (map-map kind_of f xs) ∙ ap (map kind_of) same ∙ map-map kind_of g ys in
    let long : length xs ≡ length ys = sym (length-map xs f) ∙ ap length same ∙ length-map ys g in
    record {
      blank = all_of_map IsBlank f xs (All-same IsBlank (map f xs) (map g ys) same (All-map IsBlank g ys stock.blank));
      socket = subst (λ (l : List Kind). has_kind l Socket ≡ true) (sym kinds) stock.socket;
      ethers = subst (λ (l : List Kind). most_ports ≤ times (λ (kind : Kind). same_kind kind Ether) l) (sym kinds) stock.ethers;
      few = subst (λ (n : ℕ). n ≤ most_boxes) (sym long) stock.few;
    }

pub returns : goal.returns
returns c = same_stock _ _ _ _ c.in_ok-nodes.ensures c.requires
