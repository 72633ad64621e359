-- The state of a node after what is done to what it keeps.
use Rattle.std.proofs.Common.{◌≡◌, ℕ, false, List, [], ◌∷◌, sym, ap, ◌∙◌}
use Rattle.std.proofs.lemmas.List.{map-append}
use Rattle.ng_base.specs.Names.{has_name}
use Rattle.ng_machine.specs.Case.{absorb}
use Rattle.ng_machine.specs.Counters.{Count, Rows, after_counts, zeros}
use Rattle.ng_machine.specs.kinds.One2many.{One2many, count_many, many_after, many_with_hook, many_without_hook}
use Rattle.ng_machine.specs.State.{State, One2manyState, add_hook, cut_hook}
use Rattle.ng_machine.specs.declared.body.Door.{Door}
use Rattle.ng_switch_types.specs.one2many.Node.{names_of, one2many_state}
use Rattle.ng_switch_types.proofs.one2many.RowLists.{counted, names_counted, names_without, undone}

abbrev pub with_names : One2many → List (List ℕ) → State
with_names s names = record { hooks = names; kept = One2manyState s }

pub state_added : (s : One2many) (hook : List ℕ) → one2many_state (many_with_hook s hook) ≡ add_hook (one2many_state s) hook
state_added s hook = ap (with_names (many_with_hook s hook)) (map-append (λ (row : List ℕ × List ℕ). row.0) s.rows ((hook, zeros 5) ∷ []))

pub state_cut : (s : One2many) (hook : List ℕ) → one2many_state (many_without_hook s hook) ≡ cut_hook (one2many_state s) hook
state_cut s hook = ap (with_names (many_without_hook s hook)) (sym (names_without s.rows hook))

pub state_undone : (s : One2many) (hook : List ℕ) → has_name (names_of s.rows) hook ≡ false → cut_hook (one2many_state (many_with_hook s hook)) hook ≡ one2many_state s
state_undone s hook fresh =
    sym (state_cut (many_with_hook s hook) hook)
    ∙ ap (λ (rows : Rows). one2many_state (record s { rows = rows })) (undone s.rows hook (zeros 5) fresh)

names_absorbed : (s : One2many) (counts : List Count) → names_of (after_counts count_many s counts).rows ≡ names_of s.rows
names_absorbed s counts = ap (λ (t : One2many). names_of t.rows) (counted counts s) ∙ names_counted counts s.rows

pub state_absorbed : (s : One2many) (counts : List Count) → one2many_state (after_counts count_many s counts) ≡ record (one2many_state s) { kept = absorb (One2manyState s) counts }
state_absorbed s counts = ap (with_names (after_counts count_many s counts)) (names_absorbed s counts)

pub state_dealt : (s : One2many) (hooks : List (List ℕ)) (door : Door) (counts : List Count) → one2many_state (many_after s hooks door counts) ≡ with_names (many_after s hooks door counts) (names_of s.rows)
state_dealt s hooks door counts = ap (with_names (many_after s hooks door counts)) (names_absorbed s counts)

-- the hooks stay, and what the node keeps is this
pub state_kept : (s now after : One2many) → names_of now.rows ≡ names_of s.rows → now ≡ after → one2many_state now ≡ with_names after (names_of s.rows)
state_kept s now after same is = ap (with_names now) same ∙ ap (λ (t : One2many). with_names t (names_of s.rows)) is
