use Rattle.std.proofs.Common.{◌≡◌, ◌∙◌, ℕ, ◌+◌, List, [], ◌∷◌, ◌++◌, sym, ap, append_assoc}
use Rattle.std.proofs.lemmas.List.{length-append}
use Rattle.ng_base.specs.declared.event.Event.{Event}
use Rattle.ng_replay.specs.judge.Following.{all_with}
use Rattle.ng_core.specs.CoreStory.{story}
use Rattle.ng_replay.proofs.judge.Followed.{followed_more}
use Rattle.ng_replay.proofs.judge.Whole.{first_refused}
use Rattle.ng_trace.proofs.EventsMore.{watched_more}
use Rattle.ng_trace.proofs.watching.watch_all.Goals as goal

pub returns-then-not-allowed-clause-refused : goal.returns-then-not-allowed-clause-refused
returns-then-not-allowed-clause-refused g c =
    let inv = c.loop-event.invariant in
    let step : c.loop-event.event-iterator ≡ c.in-Some.event ∷ c.next.new.self = c.in-Some.ensures.steps in
    let parts : c.args.journal.now.items ≡ c.loop-event.yielded ++ c.in-Some.event ∷ c.next.new.self = sym inv.6 ∙ ap (λ (l : List Event). c.loop-event.yielded ++ l) step in
    first_refused (all_with (story c.args.core.now) c.args.unfed.now) c.args.journal.now.items c.loop-event.yielded c.next.new.self c.in-Some.event
    (story c.loop-event.core) c.loop-event.unfed parts inv.0
    (c.loop-event.number + 1) (ap (λ (n : ℕ). n + 1) inv.5) (c.in_ok-allowed.ensures.refuses c.if-not-allowed.true)

pub loop-event-preserved : goal.loop-event-preserved
loop-event-preserved g c =
    let inv = c.loop-event.invariant in
    let done = c.in_ok-allowed.ensures in
    let step : c.loop-event.event-iterator ≡ c.in-Some.event ∷ c.next.new.self = c.in-Some.ensures.steps in
    let more = followed_more (all_with (story c.args.core.now) c.args.unfed.now) c.loop-event.yielded (story c.loop-event.core) (story c.step.new.core)
    c.loop-event.unfed c.step.new.unfed c.in-Some.event inv.0 (done.follows c.if-not-allowed.false) in (
      more,
      done.holds c.if-not-allowed.false,
      done.fits c.if-not-allowed.false,
      done.seats ∙ inv.3,
      done.len ∙ inv.4,
      ap (λ (n : ℕ). n + 1) inv.5 ∙ sym (length-append c.loop-event.yielded (c.in-Some.event ∷ [])),
      append_assoc c.loop-event.yielded (c.in-Some.event ∷ []) c.next.new.self ∙ ap (λ (l : List Event). c.loop-event.yielded ++ l) (sym step) ∙ inv.6,
      watched_more (all_with (story c.args.core.now) c.args.unfed.now) c.args.watched.now c.loop-event.yielded (story c.loop-event.core) (story c.step.new.core)
          c.loop-event.unfed c.step.new.unfed c.in-Some.event c.loop-event.watched c.step.new.watched inv.0 more inv.7 (done.watched c.if-not-allowed.false),
    )
