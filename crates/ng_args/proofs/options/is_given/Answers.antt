use Rattle.std.proofs.Common.{sym, ◌∙◌}
use Rattle.std.specs.Str.{bytes_eq}
use Rattle.ng_args.specs.Options.{Setting}
use Rattle.ng_args.specs.Settings.{settings_of}
use Rattle.ng_args.proofs.Mapped.{any_mapped}
use Rattle.ng_args.proofs.options.is_given.Goals as goal

pub returns : goal.returns
returns c =
    c.is_among.ensures
    ∙ sym (any_mapped {X = Setting} (λ setting. bytes_eq setting.option c.args.option.now) (λ setting. record { option = setting.option.now; value = setting.value.now }) c.args.settings.now)
    ∙ sym (any_mapped (λ other. bytes_eq other c.args.option.now) (λ setting. setting.option) (settings_of c.args.settings.now))
