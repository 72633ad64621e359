use Rattle.std.proofs.Common.{sym, ap}
use Rattle.std.specs.declared.option.Option.{Option}
use Rattle.ng_core_apply.specs.orders.Found.{found_by}
use Rattle.ng_path.specs.Address.{Address}
use Rattle.ng_core_apply.proofs.orders.Finding.{no_address}
use Rattle.ng_core_apply.proofs.orders.connecting.find.Goals as goal

pub returns-in_default : goal.returns-in_default
returns-in_default g c = λ w nodes. sym (ap (λ (o : Option Address). found_by w c.args.from o)
    (no_address c.args.address.now c.read_path.result c.in_default.field-0 c.reads_address.ensures c.in_default.is c.read_path.ensures.path))
