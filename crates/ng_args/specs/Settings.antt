-- The options that code has, as their texts.
use Rattle.std.specs.Prelude.{List, map}
use Rattle.ng_args.specs.declared.options.Setting.{Setting as SettingOfWords}
use Rattle.ng_args.specs.Options.{Setting}

abbrev pub settings_of : List SettingOfWords → List Setting
settings_of settings = map (λ setting. record { option = setting.option.now; value = setting.value.now }) settings
