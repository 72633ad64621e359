use Rattle.std.proofs.Common.{◌∙◌}
use Rattle.ng_path.specs.Faults.{IsFirstFault}
use Rattle.ngctl_script.proofs.Named.{is_ok_path}
use Rattle.ngctl_script.proofs.forms.is_address.Goals as goal

pub returns : goal.returns
returns c =
    c.is_ok.ensures.value
    ∙ is_ok_path c.args.word.now c.read_path.result (IsFirstFault c.args.word.now) c.reads_address.ensures c.read_path.ensures.read c.read_path.ensures.path
