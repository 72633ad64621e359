use Rattle.std.proofs.Common.{sym, ◌∙◌}
use Rattle.std.specs.Str.{bytes_eq}
use Rattle.ng_args.proofs.Mapped.{any_mapped}
use Rattle.ng_args.proofs.together.has_port.Goals as goal

pub returns : goal.returns
returns c = c.is_any_named.ensures ∙ sym (any_mapped (λ other. bytes_eq other c.args.name.now) (λ port. port.name) c.args.ports.now)
