-- The graph's answers are the refusals of the machine's tables.
use Rattle.std.proofs.Common.{◌≡◌, ℕ, Bool, true, false, not, cond, List, [], ◌∷◌, refl, sym, ap, ◌∙◌, true≢false}
use Rattle.std.specs.declared.option.Option.{Option}
use Rattle.std.specs.declared.option.Option.TheVariants.{None, Some}
use Rattle.std.specs.Prelude.{Result, Ok, Err, is_err}
use Rattle.ng_base.specs.declared.errno.Errno.{Errno}
use Rattle.ng_machine.specs.Connect.{hook_refusal}
use Rattle.ng_machine.specs.Errors.{eperm, eexist, einval, enfile}
use Rattle.ng_base.specs.declared.kind.Kind.{Kind}
use Rattle.ng_machine.specs.Generic.{mkpeer_refusal}
use Rattle.ng_machine.specs.Rules.{accepts_hook, is_fixed, may_of}
use Rattle.ng_machine.specs.Stock.{has_kind}
use Rattle.ng_machine.specs.Words.{first_refusal}
use Rattle.ng_machine.specs.World.{World, NodeRecord, has_hook, kind_at}
use Rattle.ng_core_apply.specs.orders.Refusals.{has_error, refused}

-- whether a node may get a hook, where the hook is there or not, and its name is taken by the type or not
abbrev pub own_answer : Bool → Bool → Result Unit Errno
own_answer has takes = cond has (Err eexist) (cond takes (Ok tt) (Err einval))

abbrev pub own_table : Bool → Bool → Option Errno
own_table has takes = first_refusal ((has, eexist) ∷ (not takes, einval) ∷ [])

pub own_refused : (has takes : Bool) → own_answer has takes ≡ refused (own_table has takes)
own_refused true takes = refl
own_refused false true = refl
own_refused false false = refl

-- one refusal stands for another
pub is_refused : (r : Result Unit Errno) (errno : Errno) (o : Option Errno) → r ≡ Err errno → r ≡ refused o → o ≡ Some errno
is_refused r errno None e is = absurd (cc)
is_refused r errno (Some other) e is = cc

pub no_refusal : (r : Result Unit Errno) (o : Option Errno) → r ≡ Ok tt → r ≡ refused o → o ≡ None
no_refusal r None e is = refl
no_refusal r (Some other) e is = absurd (cc)

-- whether a blank node is left, and takes its hook or not
abbrev pub blank_answer : Bool → Bool → Result Unit Errno
blank_answer left takes = cond left (cond takes (Ok tt) (Err einval)) (Err enfile)

abbrev pub make_table : Bool → Bool → Bool → Bool → Bool → Option Errno
make_table fixed left has theirs ours = first_refusal ((fixed, eperm) ∷ (not left, enfile) ∷ (has, eexist) ∷ (not theirs, einval) ∷ (not ours, einval) ∷ [])

pub made_used_up : (left has theirs ours : Bool) → has_error enfile (blank_answer left theirs) ≡ true → blank_answer left theirs ≡ refused (make_table false left has theirs ours)
made_used_up false has theirs ours e = refl
made_used_up true has true ours e = absurd (true≢false (sym e))
made_used_up true has false ours e = absurd (true≢false (sym e))

pub made_there : (left theirs ours : Bool) → has_error enfile (blank_answer left theirs) ≡ false → make_table false left true theirs ours ≡ Some eexist
made_there true theirs ours e = refl
made_there false theirs ours e = absurd (true≢false e)

pub made_refused : (left theirs ours : Bool) → has_error enfile (blank_answer left theirs) ≡ false → is_err (blank_answer left theirs) ≡ true → blank_answer left theirs ≡ refused (make_table false left false theirs ours)
made_refused false theirs ours e is = absurd (true≢false e)
made_refused true true ours e is = absurd (true≢false (sym is))
made_refused true false ours e is = refl

pub made_last : (left theirs ours : Bool) → is_err (blank_answer left theirs) ≡ false → own_answer false ours ≡ refused (make_table false left false theirs ours)
made_last false theirs ours e = absurd (true≢false e)
made_last true false ours e = absurd (true≢false e)
made_last true true true e = refl
made_last true true false e = refl

-- the table of a node that is made, of a type that isn't fixed
pub make_is : (w : World) (node : NodeRecord) (stock : List Kind) (kind : Kind) (ours theirs : List ℕ) → is_fixed kind ≡ false → w.stock ≡ stock
    → refused (mkpeer_refusal w node kind ours theirs) ≡ refused (make_table false (has_kind stock kind) (has_hook node ours) (accepts_hook kind theirs) (accepts_hook (kind_at node) ours))
make_is w node stock kind ours theirs fixed is =
    ap (λ (b : Bool). refused (make_table b (has_kind w.stock kind) (has_hook node ours) (accepts_hook kind theirs) (accepts_hook (kind_at node) ours))) fixed
    ∙ ap (λ (l : List Kind). refused (make_table false (has_kind l kind) (has_hook node ours) (accepts_hook kind theirs) (accepts_hook (kind_at node) ours))) is

pub made_has : (left has theirs ours b : Bool) → has ≡ b → refused (make_table false left has theirs ours) ≡ refused (make_table false left b theirs ours)
made_has left has theirs ours b e = ap (λ (h : Bool). refused (make_table false left h theirs ours)) e

-- what the graph answers to a hook is the machine's refusal
pub hook_answer : (node : NodeRecord) (hook : List ℕ) (r : Result Unit Errno) → r ≡ cond (has_hook node hook) (Err eexist) (may_of (kind_at node) hook) → r ≡ refused (hook_refusal node hook)
hook_answer node hook r e = e ∙ own_refused (has_hook node hook) (accepts_hook (kind_at node) hook)

-- what a node that may be made has
pub made_may : (fixed left has theirs ours : Bool) → make_table fixed left has theirs ours ≡ None → (left ≡ true) × (has ≡ false) × (theirs ≡ true) × (ours ≡ true)
made_may true left has theirs ours e = absurd (cc)
made_may false false has theirs ours e = absurd (cc)
made_may false true true theirs ours e = absurd (cc)
made_may false true false false ours e = absurd (cc)
made_may false true false true false e = absurd (cc)
made_may false true false true true e = (refl, refl, refl, refl)
