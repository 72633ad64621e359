use Rattle.std.proofs.Common.{◌∙◌, arith}
use Rattle.std.proofs.lemmas.Grind.{common_steps}
use Rattle.std.proofs.lemmas.Result.{err_from_is_err_and}
use Rattle.ng_outside.proofs.Anew.{more_held, begun_none}
use Rattle.ng_outside.proofs.written.write_file.Goals as goal

pub loop-rest-preserved : goal.loop-rest-preserved
loop-rest-preserved g c = record {
  holds = more_held _ _ _ _ _ _ _ c.loop-rest.invariant.holds c.in_ok-count.ensures.grown (grind (arith, common_steps));
  others = λ other differs. c.in_ok-count.ensures.others other differs ∙ c.loop-rest.invariant.others other differs;
  counts = λ other. omega (arith, c.loop-rest.invariant.counts other, c.append.ensures.counts other);
}

pub returns-in_err-fresh-clause-stopped : goal.returns-in_err-fresh-clause-stopped
returns-in_err-fresh-clause-stopped g c =
    let p = err_from_is_err_and c.from_residual.result c.from_residual.ensures.1 in
    rw p.1 (begun_none _ _ c.args.bytes.now c.in_err-fresh.ensures.stopped)
