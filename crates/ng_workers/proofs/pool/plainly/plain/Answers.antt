use Rattle.std.proofs.Common.{sym, subst}
use Rattle.ng_workers.specs.pool.Going.{Going}
use Rattle.ng_workers.specs.pool.Plainly.{WentPlainly}
use Rattle.ng_core.specs.CoreStory.{story}
use Rattle.ng_workers.proofs.pool.Endings.{going_first, went_plainly}
use Rattle.ng_workers.proofs.pool.PartRuns.{gives_up}
use Rattle.ng_workers.proofs.pool.plainly.plain.Goals as goal

pub returns-in-Ok-clause-plain : goal.returns-in-Ok-clause-plain
returns-in-Ok-clause-plain g c =
    let s = story c.args.core.now in
    let first = subst (Going s c.args.inputs.items s) (sym c.new-unfed.ensures) (going_first s c.args.inputs.items c.know_story.ensures.sound c.requires.running c.requires.idle) in
    subst (WentPlainly s c.args.inputs.items) (sym c.close.ensures.closed)
    (went_plainly s c.args.inputs.items (story c.go_to_the_end.new.core) c.go_to_the_end.new.unfed c.know_story-in-Ok.ensures.sound (c.in-Ok.ensures.going s c.args.inputs.items first))

pub returns-clause-partly : goal.returns-clause-partly
returns-clause-partly g c =
    let s = story c.args.core.now in
    let first = subst (Going s c.args.inputs.items s) (sym c.new-unfed.ensures) (going_first s c.args.inputs.items c.know_story.ensures.sound c.requires.running c.requires.idle) in
    gives_up s c.args.inputs.items (story c.go_to_the_end.new.core) (story c.give_up.new.core) c.give_up.ensures.gave_up (c.in-Err.ensures.partly s c.args.inputs.items first)
