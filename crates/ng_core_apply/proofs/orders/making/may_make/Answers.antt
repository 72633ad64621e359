use Rattle.std.proofs.Common.{true, false, Bool, sym, ap, ◌∙◌, is_err}
use Rattle.ng_machine.specs.Errors.{enfile}
use Rattle.ng_machine.specs.Rules.{accepts_hook}
use Rattle.ng_machine.specs.Stock.{has_kind}
use Rattle.ng_machine.specs.World.{has_hook, kind_at}
use Rattle.ng_core_apply.specs.orders.Refusals.{has_error, refused}
use Rattle.ng_core_apply.proofs.orders.Tables.{make_is, made_has, own_answer, made_used_up, made_there, made_refused, made_last}
use Rattle.ng_core_apply.proofs.orders.making.may_make.Goals as goal

pub returns-then-is_used_up : goal.returns-then-is_used_up
returns-then-is_used_up g c = λ w node stock here.
    c.blank_may-blank.ensures
    ∙ made_used_up (has_kind c.args.graph.now.stock c.args.kind) (has_hook node c.args.ours.now) (accepts_hook c.args.kind c.args.theirs.now) (accepts_hook (kind_at node) c.args.ours.now)
    (ap (has_error enfile) (sym c.blank_may-blank.ensures) ∙ sym c.is_used_up.ensures ∙ c.if-is_used_up.true)
    ∙ sym (make_is w node c.args.graph.now.stock c.args.kind c.args.ours.now c.args.theirs.now (sym c.is_fixed.ensures ∙ c.if-is_fixed.false) stock)

pub returns-then-has_hook : goal.returns-then-has_hook
returns-then-has_hook g c = λ w node stock here.
    sym (make_is w node c.args.graph.now.stock c.args.kind c.args.ours.now c.args.theirs.now (sym c.is_fixed.ensures ∙ c.if-is_fixed.false) stock
    ∙ made_has (has_kind c.args.graph.now.stock c.args.kind) (has_hook node c.args.ours.now) (accepts_hook c.args.kind c.args.theirs.now) (accepts_hook (kind_at node) c.args.ours.now) true (sym (c.has_hook.ensures node here) ∙ c.if-has_hook.true)
    ∙ ap refused (made_there (has_kind c.args.graph.now.stock c.args.kind) (accepts_hook c.args.kind c.args.theirs.now) (accepts_hook (kind_at node) c.args.ours.now)
    (ap (has_error enfile) (sym c.blank_may-blank.ensures) ∙ sym c.is_used_up.ensures ∙ c.if-is_used_up.false)))

pub returns-then-is_err : goal.returns-then-is_err
returns-then-is_err g c = λ w node stock here.
    c.blank_may-blank.ensures
    ∙ made_refused (has_kind c.args.graph.now.stock c.args.kind) (accepts_hook c.args.kind c.args.theirs.now) (accepts_hook (kind_at node) c.args.ours.now)
    (ap (has_error enfile) (sym c.blank_may-blank.ensures) ∙ sym c.is_used_up.ensures ∙ c.if-is_used_up.false)
    (ap is_err (sym c.blank_may-blank.ensures) ∙ sym c.is_err.ensures.value ∙ c.if-is_err.true)
    ∙ sym (make_is w node c.args.graph.now.stock c.args.kind c.args.ours.now c.args.theirs.now (sym c.is_fixed.ensures ∙ c.if-is_fixed.false) stock
    ∙ made_has (has_kind c.args.graph.now.stock c.args.kind) (has_hook node c.args.ours.now) (accepts_hook c.args.kind c.args.theirs.now) (accepts_hook (kind_at node) c.args.ours.now) false (sym (c.has_hook.ensures node here) ∙ c.if-has_hook.false))

pub returns : goal.returns
returns g c = λ w node stock here.
    c.may.ensures node here
    ∙ ap (λ (b : Bool). own_answer b (accepts_hook (kind_at node) c.args.ours.now)) (sym (c.has_hook.ensures node here) ∙ c.if-has_hook.false)
    ∙ made_last (has_kind c.args.graph.now.stock c.args.kind) (accepts_hook c.args.kind c.args.theirs.now) (accepts_hook (kind_at node) c.args.ours.now)
    (ap is_err (sym c.blank_may-blank.ensures) ∙ sym c.is_err.ensures.value ∙ c.if-is_err.false)
    ∙ sym (make_is w node c.args.graph.now.stock c.args.kind c.args.ours.now c.args.theirs.now (sym c.is_fixed.ensures ∙ c.if-is_fixed.false) stock
    ∙ made_has (has_kind c.args.graph.now.stock c.args.kind) (has_hook node c.args.ours.now) (accepts_hook c.args.kind c.args.theirs.now) (accepts_hook (kind_at node) c.args.ours.now) false (sym (c.has_hook.ensures node here) ∙ c.if-has_hook.false))
