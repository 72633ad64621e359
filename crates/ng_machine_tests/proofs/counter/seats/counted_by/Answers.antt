use Rattle.std.proofs.Common.{◌≡◌, ◌+◌, length, rules, arith}
use Rattle.ng_machine_tests.proofs.counter.Rounds.{begun_idle, ended}
use Rattle.ng_machine_tests.proofs.counter.seats.counted_by.Goals as goal

pub spread-passes-requires-clause-idle : goal.spread-passes-requires-clause-idle
spread-passes-requires-clause-idle g c κs within = let made = c.in_ok-counter.ensures in
    begun_idle c.in-Ok.turn c.in-Ok.passes.items c.in_ok-counter.counter (c.args.workers + 1) made.0 made.1 c.in-Ok.ensures.made

pub end-requires : goal.end-requires
end-requires g c = let done = c.spread-passes.ensures.done in let made = c.in-Ok.ensures.made in
    ((search rules), λ k p at. let is = done k p at in (is.0, is.1))

pub returns : goal.returns
returns g c =
    let made = c.in-Ok.ensures.made in
    let len : length c.spread-passes.result.items ≡ c.args.workers + 1 = search rules in
    ended c.in-Ok.turn c.spread-passes.result.items c.end.result (c.args.workers + 1) (λ k. k + 1)
    (omega arith) len made.1 c.spread-passes.ensures.done c.end.ensures
