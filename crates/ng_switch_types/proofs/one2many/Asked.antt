-- What is replied to the messages that have arguments.
use Rattle.std.proofs.Common.{◌≡◌, ℕ, Bool, true, false, not, ◌&&◌, ◌==◌, if◌then◌else◌, List, [], ◌∷◌, length, find, nat_le, Option, Some, None, refl, ap, ◌∙◌}
use Rattle.std.specs.Str.{bytes_eq}
use Rattle.std.proofs.lemmas.Bool.{eq-eqb}
use Rattle.ng_machine.specs.Arguments.{number_at}
use Rattle.ng_machine.specs.Errors.{einval, enotconn}
use Rattle.ng_machine.specs.kinds.One2many.{One2many, by_hook, by_link, by_row, link_hook, set_config, with_config}
use Rattle.ng_machine.specs.Outcome.{Reply, invalid, refuses, sets, unless, with_length}
use Rattle.ng_switch_types.proofs.one2many.RowLists.{row_found, row_missing}

right_length : (s : One2many) (n : ℕ) (args : List ℕ) (reply : Reply One2many) → length args ≡ n → with_length s n args reply ≡ reply
right_length s n args reply long = ap (λ (b : Bool). if b then reply else invalid s) (eq-eqb (length args) n long)

-- ---- setconfig

refused : (s : One2many) (p q : Bool) (reply : Reply One2many) → unless s ((not p, einval) ∷ (not q, einval) ∷ []) reply ≡ (if p && q then reply else invalid s)
refused s true true reply = refl
refused s true false reply = refl
refused s false true reply = refl
refused s false false reply = refl

pub config_reply : (s : One2many) (args : List ℕ) → length args ≡ 72
    → with_length s 72 args (set_config s args) ≡ (if (nat_le 1 (number_at 4 args 0) && nat_le (number_at 4 args 0) 3) && (number_at 4 args 4 == 1) then sets (with_config s args) else invalid s)
config_reply s args long =
    right_length s 72 args (set_config s args) long
    ∙ refused s (nat_le 1 (number_at 4 args 0) && nat_le (number_at 4 args 0) 3) (number_at 4 args 4 == 1) (sets (with_config s args))

-- ---- the counters of a link

pub row_there : (s : One2many) (args hook : List ℕ) (row : List ℕ × List ℕ) → length args ≡ 4 → link_hook (number_at 4 args 0) ≡ Some hook
    → find (λ (r : List ℕ × List ℕ). bytes_eq r.0 hook) s.rows ≡ Some row
    → (reply : List ℕ → List ℕ → Reply One2many) → by_link s args reply ≡ reply row.0 row.1
row_there s args hook row long is found reply =
    let there = row_found s.rows hook row found in
    right_length s 4 args (by_hook s (link_hook (number_at 4 args 0)) reply) long
    ∙ ap (λ (o : Option (List ℕ)). by_hook s o reply) is
    ∙ ap (λ (o : Option (List ℕ)). by_row s o (reply hook)) (there.0)
    ∙ ap (λ (h : List ℕ). reply h row.1) (there.1)

pub row_absent : (s : One2many) (args hook : List ℕ) → length args ≡ 4 → link_hook (number_at 4 args 0) ≡ Some hook
    → find (λ (r : List ℕ × List ℕ). bytes_eq r.0 hook) s.rows ≡ None
    → (reply : List ℕ → List ℕ → Reply One2many) → by_link s args reply ≡ refuses s enotconn
row_absent s args hook long is none reply =
    right_length s 4 args (by_hook s (link_hook (number_at 4 args 0)) reply) long
    ∙ ap (λ (o : Option (List ℕ)). by_hook s o reply) is
    ∙ ap (λ (o : Option (List ℕ)). by_row s o (reply hook)) (row_missing s.rows hook none)

pub no_link : (s : One2many) (args : List ℕ) → length args ≡ 4 → link_hook (number_at 4 args 0) ≡ None
    → (reply : List ℕ → List ℕ → Reply One2many) → by_link s args reply ≡ refuses s einval
no_link s args long is reply =
    right_length s 4 args (by_hook s (link_hook (number_at 4 args 0)) reply) long
    ∙ ap (λ (o : Option (List ℕ)). by_hook s o reply) is
