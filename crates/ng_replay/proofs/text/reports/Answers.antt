use Rattle.std.proofs.Common.{◌∙◌, ℕ, ◌<◌, length, None, sym, subst, arith}
use Rattle.std.proofs.lemmas.Grind.{common_steps}
use Rattle.ng_call.proofs.Reports.{line_more, one_line}
use Rattle.ng_core.specs.CoreStory.{setting_of, story}
use Rattle.ng_core.proofs.PortCounts.{ports_stay}
use Rattle.ng_machine.specs.story.Story.{world_of}
use Rattle.ng_replay.proofs.text.reports.Goals as goal

pub loop-i-preserved : goal.loop-i-preserved
loop-i-preserved g c =
    let ports = (world_of (story c.args.core.now)).ports in
    let i = c.loop-i.i in
    let one : i < length c.args.ports.now = omega (arith, c.loop-i-test.true) in
    let two : i < length c.args.cuts.now = omega (arith, c.requires.cuts, one) in
    let there : i < length c.args.core.now.ports = omega (arith, c.requires.there, one) in
    let three : i < length ports = subst (λ (n : ℕ). i < n) (sym (ports_stay (setting_of c.args.core.now) c.args.core.now.journal)) there in
    c.in_ok-push.ensures.items
    ∙ one_line i c.args.ports.now c.args.cuts.now ports c.index-ports-i.result None c.loop-i.made.items _ c.loop-i.invariant
    (grind (arith, common_steps)) (grind (arith, common_steps)) (grind (arith, common_steps))
    ∙ sym (line_more i c.args.ports.now c.args.cuts.now ports c.index-ports-i.result None one two three)
