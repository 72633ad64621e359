-- The option that stands next is refused, or is cut off.
use Rattle.std.proofs.Common.{◌≡◌, List, [], ◌∷◌, ◌++◌, map, string_bytes, ap, sym, subst, ◌∙◌}
use Rattle.ng_args.specs.Names.{is_dashed}
use Rattle.ng_args.specs.Lists.{has_word}
use Rattle.ng_args.specs.Options.{Setting, option_names, cut_words}
use Rattle.ng_args.specs.Settings.{settings_of}
use Rattle.ng_args.proofs.Cuts.{onto, AreGood, refused_here, repeated_here, more_here, good_push, two_words, one_setting_more}
use Rattle.ng_args.proofs.options.cut_words.Goals as goal

pub returns-then-not-is_setting : goal.returns-then-not-is_setting
returns-then-not-is_setting c =
    refused_here (map (λ word. string_bytes word) c.args.words.now) (map (λ word. string_bytes word) c.loop-option.rest.now) (settings_of c.loop-option.settings.items)
    c.as_str-option.result.now c.as_str-value.result.now (map (λ word. string_bytes word) c.in-Some-split_first.others.now) c.loop-option.invariant.cut
    (two_words (λ word. string_bytes word) _ _ _ _ _ _ _ (c.in-Some.ensures.cases.0) (c.in-Some-split_first.ensures.cases.0) c.as_str-option.ensures.value c.as_str-value.ensures.value)
    (ap is_dashed (c.as_str-option.ensures.value ∙ sym c.as_str.ensures.value) ∙ sym c.begins_with_dash.ensures ∙ c.if-not-begins_with_dash.false)
    (sym c.is_setting.ensures ∙ c.if-not-is_setting.true)

pub returns-then-is_given : goal.returns-then-is_given
returns-then-is_given c =
    repeated_here (map (λ word. string_bytes word) c.args.words.now) (map (λ word. string_bytes word) c.loop-option.rest.now) (settings_of c.loop-option.settings.items)
    c.as_str-option.result.now c.as_str-value.result.now (map (λ word. string_bytes word) c.in-Some-split_first.others.now) c.loop-option.invariant.cut
    (two_words (λ word. string_bytes word) _ _ _ _ _ _ _ (c.in-Some.ensures.cases.0) (c.in-Some-split_first.ensures.cases.0) c.as_str-option.ensures.value c.as_str-value.ensures.value)
    (ap is_dashed (c.as_str-option.ensures.value ∙ sym c.as_str.ensures.value) ∙ sym c.begins_with_dash.ensures ∙ c.if-not-begins_with_dash.false)
    (ap (λ settings. has_word (option_names (settings_of settings)) c.as_str-option.result.now) (sym c.deref.ensures.value) ∙ sym c.is_given.ensures ∙ c.if-is_given.true)

pub loop-option-preserved : goal.loop-option-preserved
loop-option-preserved c =
    let pushed : settings_of c.push.new.self.items ≡ settings_of c.loop-option.settings.items ++ record { option = c.as_str-option.result.now; value = c.as_str-value.result.now } ∷ []
    = ap settings_of c.in_ok-push.ensures.items ∙ one_setting_more c.loop-option.settings.items (record { option = c.as_str-option.result; value = c.as_str-value.result }) in
    record {
      cut = more_here (map (λ word. string_bytes word) c.args.words.now) (map (λ word. string_bytes word) c.loop-option.rest.now) (settings_of c.loop-option.settings.items)
          c.as_str-option.result.now c.as_str-value.result.now (map (λ word. string_bytes word) c.in-Some-split_first.others.now) c.loop-option.invariant.cut
          (two_words (λ word. string_bytes word) _ _ _ _ _ _ _ (c.in-Some.ensures.cases.0) (c.in-Some-split_first.ensures.cases.0) c.as_str-option.ensures.value c.as_str-value.ensures.value)
          (ap is_dashed (c.as_str-option.ensures.value ∙ sym c.as_str.ensures.value) ∙ sym c.begins_with_dash.ensures ∙ c.if-not-begins_with_dash.false)
          ∙ ap (λ settings. onto settings (cut_words (map (λ word. string_bytes word) c.in-Some-split_first.others.now))) (sym pushed);
      good = let P : List Setting → Type 0 = λ settings. AreGood settings in
          subst P (sym pushed) (good_push (settings_of c.loop-option.settings.items) (record { option = c.as_str-option.result.now; value = c.as_str-value.result.now }) c.loop-option.invariant.good
          (sym c.is_setting.ensures ∙ c.if-not-is_setting.false)
          (ap (λ settings. has_word (option_names (settings_of settings)) c.as_str-option.result.now) (sym c.deref.ensures.value) ∙ sym c.is_given.ensures ∙ c.if-is_given.false));
    }
