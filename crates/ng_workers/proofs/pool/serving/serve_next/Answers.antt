use Rattle.std.proofs.Common.{◌≡◌, ◌∙◌, inl, inr, ap, subst}
use Rattle.std.specs.Prelude.{IfNone, IfSome}
use Rattle.std.specs.declared.option.Option.{Option}
use Rattle.ng_core.specs.CoreStory.{CoreStory, story}
use Rattle.ng_base.specs.declared.event.Event.TheVariants.{Take}
use Rattle.ng_machine.specs.story.Story.{NothingToTake, with_event}
use Rattle.ng_core_state.specs.declared.handed.Work.{Work}
use Rattle.ng_core_state.specs.Handed.{item_of}
use Rattle.ng_workers.proofs.pool.PartRuns.{on_err}
use Rattle.ng_workers.proofs.pool.serving.serve_next.Goals as goal

-- nothing was served, so the core is as it was, and then nothing was taken
pub returns-in_default-clause-none : goal.returns-in_default-clause-none
returns-in_default-clause-none g c = λ e.
    let same = (c.in_ok-serve.ensures.other c.if-branch.false).0 in
    let none = subst (λ (o : Option (Work g.row.B.Denot)). IfNone o ((c.take.new.self ≡ c.serve.new.self) × NothingToTake (story c.serve.new.self))) c.in_default.is c.in_ok-taken.ensures.none in
    (none.0 ∙ same, subst (λ (x : CoreStory). NothingToTake (story x)) same none.1)

pub returns-in_err-serve-clause-halted : goal.returns-in_err-serve-clause-halted
returns-in_err-serve-clause-halted g c = on_err c.from_residual.result (inl (ap story c.in_err-serve.ensures.err))

pub returns-in_err-taken-clause-halted : goal.returns-in_err-taken-clause-halted
returns-in_err-taken-clause-halted g c =
    on_err c.from_residual-in_err-taken.result (inl (ap story (c.in_err-taken.ensures.err ∙ (c.in_ok-serve.ensures.other c.if-branch.false).0)))

pub returns-in_err-finish-clause-halted : goal.returns-in_err-finish-clause-halted
returns-in_err-finish-clause-halted g c =
    let same = (c.in_ok-serve.ensures.other c.if-branch.false).0 in
    let took = subst (λ (o : Option (Work g.row.B.Denot)). IfSome o (λ work. story c.take.new.self ≡ with_event (story c.serve.new.self) (Take 0 (item_of work).id))) c.in-Some.is c.in_ok-taken.ensures.taken in
    let id = (item_of c.in-Some.taken).id in
    on_err c.from_residual-in_err-finish.result (inr (id, ap story c.in_err-finish.ensures.err ∙ took ∙ ap (λ (x : CoreStory). with_event (story x) (Take 0 id)) same))
