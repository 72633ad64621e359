-- Options that were cut off, in front of those that are still to be.
use Rattle.std.proofs.Common.{◌≡◌, ℕ, true, false, List, [], ◌∷◌, ◌++◌, map, Option, Some, None, refl, sym, ap, ◌∙◌, ⊎_elim}
use Rattle.std.specs.List.{list_all}
use Rattle.std.specs.Str.{bytes_eq}
use Rattle.std.proofs.lemmas.List.{append-nil}
use Rattle.std.proofs.lemmas.List.Folds.{list_all-append, list_any-append}
use Rattle.std.proofs.lemmas.Bool.{and_parts, and_from, and_left, and_right, or_parts, or_from, or_cases, or_left, or_right, not-true, not_from_true, not_from_false, false≢true, cond-true, cond-false}
use Rattle.std.proofs.lemmas.Cmp.{nat_list_eq_equiv}
use Rattle.std.proofs.Math.Seq.{append_snoc}
use Rattle.ng_args.specs.declared.options.Setting.{Setting as SettingOfWords}
use Rattle.ng_args.specs.Settings.{settings_of}
use Rattle.ng_args.specs.Names.{is_dashed}
use Rattle.ng_args.specs.Lists.{has_word, are_undashed}
use Rattle.ng_base.specs.Names.{are_different}
use Rattle.ng_args.specs.Options.{Setting, Cut, option_names, with_setting, cut_words, is_setting, if_cut, cut_of}

abbrev pub onto : List Setting → Option Cut → Option Cut
onto settings None = None
onto settings (Some cut) = Some (record cut { settings = settings ++ cut.settings })

pub onto_nothing : (cut : Option Cut) → cut ≡ onto [] cut
onto_nothing None = refl
onto_nothing (Some cut) = refl

pub onto_more : (settings : List Setting) (setting : Setting) (cut : Option Cut) → onto settings (with_setting setting cut) ≡ onto (settings ++ setting ∷ []) cut
onto_more settings setting None = refl
onto_more settings setting (Some cut) = ap (λ all. Some (record cut { settings = all })) (sym (append_snoc settings setting cut.settings))

-- what is true of the options that were cut off
pub record AreGood (settings : List Setting) : Type 0 where
  pub all : list_all is_setting settings ≡ true
  pub once : are_different (option_names settings) ≡ true

pub none_good : AreGood []
none_good = record { all = refl; once = refl }

names_append : (xs ys : List Setting) → option_names (xs ++ ys) ≡ option_names xs ++ option_names ys
names_append [] ys = refl
names_append (x ∷ xs) ys = ap (λ names. x.option ∷ names) (names_append xs ys)

-- a list of different words stays one with a word that it lacks
different_push : (xs : List (List ℕ)) (w : List ℕ) → are_different xs ≡ true → has_word xs w ≡ false → are_different (xs ++ w ∷ []) ≡ true
different_push [] w once new = refl
different_push (x ∷ xs) w once new =
    let parts = and_parts _ _ once in
    let lacks = or_parts _ _ new in
    let alone : has_word (xs ++ w ∷ []) x ≡ false = list_any-append (λ other. bytes_eq other x) xs (w ∷ [])
    ∙ or_from _ _ (not-true _ (parts.0)) (or_from _ _ (nat_list_eq_equiv.symm w x ∙ lacks.0) refl) in
    and_from _ _ (not_from_false _ alone) (different_push xs w (parts.1) (lacks.1))

-- and is none with a word that it has
twice : (xs : List (List ℕ)) (w : List ℕ) (more : List (List ℕ)) → has_word xs w ≡ true → are_different (xs ++ w ∷ more) ≡ false
twice [] w more there = absurd (false≢true there)
twice (x ∷ xs) w more there = ⊎_elim
    (λ (same : bytes_eq x w ≡ true).
    let again : has_word (xs ++ w ∷ more) x ≡ true = list_any-append (λ other. bytes_eq other x) xs (w ∷ more)
    ∙ or_right _ _ (or_left _ _ (nat_list_eq_equiv.symm w x ∙ same)) in
    and_left _ _ (not_from_true _ again))
    (λ (later : has_word xs w ≡ true). and_right _ _ (twice xs w more later))
    (or_cases _ _ there)

pub good_push : (settings : List Setting) (setting : Setting) → AreGood settings → is_setting setting ≡ true → has_word (option_names settings) setting.option ≡ false
    → AreGood (settings ++ setting ∷ [])
good_push settings setting good is new = record {
  all = list_all-append is_setting settings (setting ∷ []) ∙ and_from _ _ good.all (and_from _ _ is refl);
  once = ap are_different (names_append settings (setting ∷ [])) ∙ different_push (option_names settings) setting.option good.once new;
}

-- a cut with an option that there isn't, and one with an option that stands twice
pub refused : (settings : List Setting) (setting : Setting) (cut : Option Cut) → is_setting setting ≡ false → if_cut (onto settings (with_setting setting cut)) ≡ None
refused settings setting None is = refl
refused settings setting (Some cut) is = cond-false _ _ _ (and_left _ _ (and_left _ _
    (list_all-append is_setting settings (setting ∷ cut.settings) ∙ and_right _ _ (and_left _ _ is))))

pub repeated : (settings : List Setting) (setting : Setting) (cut : Option Cut) → has_word (option_names settings) setting.option ≡ true
    → if_cut (onto settings (with_setting setting cut)) ≡ None
repeated settings setting None there = refl
repeated settings setting (Some cut) there = cond-false _ _ _ (and_left _ _ (and_right _ _
    (ap are_different (names_append settings (setting ∷ cut.settings)) ∙ twice (option_names settings) setting.option (option_names cut.settings) there)))

-- behind the options
abbrev pub rest_of : List (List ℕ) → Cut
rest_of others = record { settings = []; others = others }

pub ended : (settings : List Setting) (others : List (List ℕ)) → AreGood settings → are_undashed others ≡ true
    → if_cut (onto settings (Some (rest_of others))) ≡ Some (record { settings = settings; others = others })
ended settings others good undashed =
    ap (λ all. if_cut (Some (record { settings = all; others = others }))) (append-nil settings)
    ∙ cond-true _ _ _ (and_from _ _ (and_from _ _ good.all good.once) undashed)

pub dashed : (settings : List Setting) (others : List (List ℕ)) → are_undashed others ≡ false → if_cut (onto settings (Some (rest_of others))) ≡ None
dashed settings others not_so = cond-false _ _ _ (and_right _ _ not_so)

-- the words that begin with no dash are no options
pub not_cut : (word : List ℕ) (words : List (List ℕ)) → is_dashed word ≡ false → cut_words (word ∷ words) ≡ Some (rest_of (word ∷ words))
not_cut word [] plain = cond-false _ _ _ plain
not_cut word (next ∷ words) plain = cond-false _ _ _ plain

pub is_cut_off : (word next : List ℕ) (words : List (List ℕ)) → is_dashed word ≡ true → cut_words (word ∷ next ∷ words) ≡ with_setting (record { option = word; value = next }) (cut_words words)
is_cut_off word next words dash = cond-true _ _ _ dash

pub has_no_value : (word : List ℕ) → is_dashed word ≡ true → cut_words (word ∷ []) ≡ None
has_no_value word dash = cond-true _ _ _ dash

-- The option that stands next

pub refused_here : (all rest : List (List ℕ)) (settings : List Setting) (word next : List ℕ) (words : List (List ℕ)) → cut_words all ≡ onto settings (cut_words rest)
    → rest ≡ word ∷ next ∷ words → is_dashed word ≡ true → is_setting (record { option = word; value = next }) ≡ false → cut_of all ≡ None
refused_here all rest settings word next words so_far here dash is =
    ap if_cut (so_far ∙ ap (λ ws. onto settings (cut_words ws)) here ∙ ap (onto settings) (is_cut_off word next words dash))
    ∙ refused settings (record { option = word; value = next }) (cut_words words) is

pub repeated_here : (all rest : List (List ℕ)) (settings : List Setting) (word next : List ℕ) (words : List (List ℕ)) → cut_words all ≡ onto settings (cut_words rest)
    → rest ≡ word ∷ next ∷ words → is_dashed word ≡ true → has_word (option_names settings) word ≡ true → cut_of all ≡ None
repeated_here all rest settings word next words so_far here dash there =
    ap if_cut (so_far ∙ ap (λ ws. onto settings (cut_words ws)) here ∙ ap (onto settings) (is_cut_off word next words dash))
    ∙ repeated settings (record { option = word; value = next }) (cut_words words) there

pub more_here : (all rest : List (List ℕ)) (settings : List Setting) (word next : List ℕ) (words : List (List ℕ)) → cut_words all ≡ onto settings (cut_words rest)
    → rest ≡ word ∷ next ∷ words → is_dashed word ≡ true → cut_words all ≡ onto (settings ++ record { option = word; value = next } ∷ []) (cut_words words)
more_here all rest settings word next words so_far here dash =
    so_far ∙ ap (λ ws. onto settings (cut_words ws)) here ∙ ap (onto settings) (is_cut_off word next words dash)
    ∙ onto_more settings (record { option = word; value = next }) (cut_words words)

-- the texts of two words and of those behind them
pub two_words : {W : Type 0} (text : W → List ℕ) (rest behind others : List W) (option value : W) (word next : List ℕ) → rest ≡ option ∷ behind → behind ≡ value ∷ others
    → word ≡ text option → next ≡ text value → map text rest ≡ word ∷ next ∷ map text others
two_words text rest behind others option value word next first second one other =
    ap (map text) first ∙ ap (λ ws. text option ∷ map text ws) second ∙ ap (λ w. w ∷ text value ∷ map text others) (sym one) ∙ ap (λ w. word ∷ w ∷ map text others) (sym other)

pub one_setting_more : (settings : List SettingOfWords) (setting : SettingOfWords)
    → settings_of (settings ++ setting ∷ []) ≡ settings_of settings ++ record { option = setting.option.now; value = setting.value.now } ∷ []
one_setting_more [] setting = refl
one_setting_more (first ∷ settings) setting = ap (λ all. record { option = first.option.now; value = first.value.now } ∷ all) (one_setting_more settings setting)
