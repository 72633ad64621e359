use Rattle.std.proofs.Common.{◌≡◌, drop}
use Rattle.ng_args.specs.Options.{value_of}
use Rattle.ng_args.specs.Settings.{settings_of}
use Rattle.ng_args.proofs.options.value_of.Given as goal

abbrev pub invariant-loop-setting : goal.invariant-loop-setting
invariant-loop-setting l = value_of l.option (settings_of l.settings) ≡ value_of l.option (settings_of (drop l.setting-index l.settings))
