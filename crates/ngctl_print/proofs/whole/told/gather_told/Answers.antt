use Rattle.std.proofs.Common.{◌≤◌, sym, subst, arith}
use Rattle.std.proofs.lemmas.Result.{err_from_is_err_and}
use Rattle.ng_outside.specs.Write.{none_written}
use Rattle.ngctl_print.specs.whole.Told.{told_text, IsPrintable}
use Rattle.ngctl_print.proofs.whole.Entries.{every_at}
use Rattle.ngctl_print.proofs.whole.Pieces.{stays, one_more, one_stopped, all_gathered, handed_on}
use Rattle.ngctl_print.proofs.whole.told.gather_told.Goals as goal

pub loop-entry-init : goal.loop-entry-init
loop-entry-init g c = record { written = rw c.requires.empty (none_written _ _); counts = omega arith }

pub gather_entry-requires-clause-printable : goal.gather_entry-requires-clause-printable
gather_entry-requires-clause-printable g c =
    subst (IsPrintable c.args.commands.now) (sym c.entry-item.is)
    (every_at (IsPrintable c.args.commands.now) c.args.told.now c.loop-entry.entry-index c.entry-item.result c.loop-entry-test.true c.requires.printable)

pub loop-entry-preserved : goal.loop-entry-preserved
loop-entry-preserved g c =
    let gathers = c.in_ok-gather_entry.ensures _ _ c.loop-entry.invariant.written in
    record {
      written = one_more (told_text c.args.commands.now) c.args.told.now c.loop-entry.entry-index c.entry-item.result c.loop-entry-test.true _ _ _
          (rw (← c.entry-item.is) gathers.whole);
      counts = omega (arith, c.loop-entry.invariant.counts, gathers.counts);
    }

pub returns : goal.returns
returns g c =
    stays _ _ _ _ _ _ c.loop-entry.invariant.counts
    (all_gathered (told_text c.args.commands.now) c.args.told.now c.loop-entry.entry-index _ _ _ c.loop-entry-test.false c.loop-entry.invariant.written)

pub returns-in_err-gather_entry : goal.returns-in_err-gather_entry
returns-in_err-gather_entry g c =
    let p = err_from_is_err_and c.from_residual.result c.from_residual.ensures.1 in
    handed_on _ _ _ _ _ _ _ _ _ p.1 p.2
    (one_stopped (told_text c.args.commands.now) c.args.told.now c.loop-entry.entry-index c.entry-item.result c.loop-entry-test.true _ _ _ _ _ c.in_err-gather_entry.field-0.0 c.gather_entry.new.piece.bytes _ c.loop-entry.invariant.counts
    (rw (← c.entry-item.is) (c.in_err-gather_entry.ensures _ _ c.loop-entry.invariant.written)))
