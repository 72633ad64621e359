use Rattle.std.proofs.lemmas.Result.{err_from_is_err_and}
use Rattle.ngctl_script.specs.declared.verb.Verb.TheVariants.{Config}
use Rattle.ngctl_print.proofs.Printing.{item_printed, item_stopped, all_printed, handed_on}
use Rattle.ngctl_print.specs.whole.Help.{usage_line}
use Rattle.ngctl_print.proofs.whole.help.print_usages.Goals as goal

pub returns : goal.returns
returns g c = all_printed usage_line c.args.verbs.now c.loop-verb.verb-index _ _ _ _ c.loop-verb-test.false c.loop-verb.invariant

pub loop-verb-preserved : goal.loop-verb-preserved
loop-verb-preserved g c =
    item_printed usage_line c.args.verbs.now c.loop-verb.verb-index Config _ _ _ _ _ _ c.loop-verb-test.true c.loop-verb.invariant
    c.in_ok-print_usage.ensures

pub returns-in_err-print_usage : goal.returns-in_err-print_usage
returns-in_err-print_usage g c =
    let p = err_from_is_err_and c.from_residual.result c.from_residual.ensures.1 in
    handed_on _ _ _ _ _ _ _ _ p.1 p.2
    (item_stopped usage_line c.args.verbs.now c.loop-verb.verb-index Config _ _ _ _ _ _ c.in_err-print_usage.field-0.0 c.loop-verb-test.true c.loop-verb.invariant
    c.in_err-print_usage.ensures)
