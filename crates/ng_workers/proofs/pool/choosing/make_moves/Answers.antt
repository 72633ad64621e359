use Rattle.std.proofs.Common.{◌∙◌, ◌+◌, ℕ, List, [], ◌∷◌, ◌++◌, ap, get_or, subst}
use Rattle.std.proofs.lemmas.List.{append-nil, drop_more}
use Rattle.ng_core.specs.CoreStory.{story}
use Rattle.ng_workers.specs.pool.Moves.{Played}
use Rattle.ng_workers.specs.declared.pool.moves.Move.TheVariants as by
use Rattle.ng_workers.proofs.pool.Playing.{drop_past, played_all, played_more}
use Rattle.ng_workers.proofs.pool.choosing.make_moves.Goals as goal

pub loop-one-preserved : goal.loop-one-preserved
loop-one-preserved g c =
    let inv = c.loop-one.invariant in
    let n = c.loop-one.one-index in
    let made = c.in_ok-made.ensures in (
      played_more c.args.moves.now (story c.args.core.now) c.args.unfed.now n (get_or c.args.moves.now n by.Feed) (story c.loop-one.core) (story c.make_move.new.core) c.loop-one.unfed c.make_move.new.unfed
          c.loop-one.skipped.items c.note_unless.new.skipped.items c.in_ok-made.made (drop_more c.args.moves.now n by.Feed c.loop-one-test.true) made.makes
          (λ is. let k = made.skips is in (ap story k.0, k.1, k.2)) c.in_ok-note_unless.ensures.made
          (λ is. c.in_ok-note_unless.ensures.skipped is ∙ ap (λ (p : ℕ). c.loop-one.skipped.items ++ p ∷ []) inv.6) inv.0,
      made.holds,
      made.fits,
      made.ends ∙ inv.3,
      made.seats ∙ inv.4,
      made.len ∙ inv.5,
      ap (λ (p : ℕ). p + 1) inv.6,
    )

pub returns-clause-played : goal.returns-clause-played
returns-clause-played g c =
    subst (λ (l : List ℕ). Played c.args.moves.now 0 (story c.args.core.now) c.args.unfed.now l (story c.loop-one.core) c.loop-one.unfed) (append-nil c.loop-one.skipped.items)
    (played_all c.args.moves.now (story c.args.core.now) c.args.unfed.now c.loop-one.one-index (story c.loop-one.core) c.loop-one.unfed c.loop-one.skipped.items (drop_past c.args.moves.now c.loop-one.one-index c.loop-one-test.false)
    c.loop-one.invariant.0)
