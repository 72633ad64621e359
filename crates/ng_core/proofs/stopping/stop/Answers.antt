use Rattle.std.proofs.Common.{◌^◌, refl, sym, subst, arith}
use Rattle.ng_queue.specs.declared.tally.tally.Tally.{Tally}
use Rattle.ng_queue.specs.tally.Tally.{HasNumbers}
use Rattle.ng_queue.proofs.tally.LowCounts.{counts_are_low}
use Rattle.ng_core.proofs.Stopped.{all_waits, stands_stopped}
use Rattle.ng_core.proofs.stopping.stop.Goals as goal

fewer : (t : Tally) → HasNumbers (2 ^ 62) t → HasNumbers 0 t
fewer t N = record {
  made = let x = N.made in omega arith;
  settled = let x = N.settled in omega arith;
  applies = let x = N.applies in omega arith;
  frames = let x = N.frames in omega arith;
  ticks = let x = N.ticks in omega arith;
  tagged = let x = N.tagged in omega arith;
  spool = N.spool;
}

pub clear-requires : goal.clear-requires
clear-requires g c = record { waits = all_waits c.args.state.now c.requires.0 c.requires.1 c.requires.2 }

pub stop-requires : goal.stop-requires
stop-requires g c = subst (HasNumbers 0) (sym c.requires.1.items.tally) (fewer _ (counts_are_low.low c.requires.0.world c.requires.3))

pub returns-clause-stands : goal.returns-clause-stands
returns-clause-stands g c = λ a S none. stands_stopped c.args.state.now _ a S none c.clear.ensures.clear c.clear.ensures.lists c.stop.ensures refl refl refl refl
