-- The options in front of a command line, each a word of its own with its value behind it.
use Rattle.std.specs.Prelude.{ℕ, Bool, not, ◌&&◌, if◌then◌else◌, List, [], ◌∷◌, codes, map, find, Option, Some, None}
use Rattle.std.specs.List.{list_all}
use Rattle.std.specs.Option.{option_map}
use Rattle.std.specs.Str.{bytes_eq}
use Rattle.ng_args.specs.Names.{is_dashed}
use Rattle.ng_args.specs.Lists.{has_word, are_undashed}
use Rattle.ng_base.specs.Names.{are_different}

pub record Setting : Type 0 where
  pub option : List ℕ
  pub value : List ℕ

-- a command line, cut behind its options
pub record Cut : Type 0 where
  pub settings : List Setting
  pub others : List (List ℕ)

abbrev pub with_setting : Setting → Option Cut → Option Cut
with_setting setting None = None
with_setting setting (Some cut) = Some (record cut { settings = setting ∷ cut.settings })

-- the words in front that begin with a dash, each with the word behind it, and the other words; None where the last
-- of them has no word behind it
abbrev pub cut_words : List (List ℕ) → Option Cut
cut_words [] = Some (record { settings = []; others = [] })
cut_words (word ∷ []) = if is_dashed word then None else Some (record { settings = []; others = word ∷ [] })
cut_words (word ∷ next ∷ words) =
    if is_dashed word then with_setting (record { option = word; value = next }) (cut_words words)
    else Some (record { settings = []; others = word ∷ next ∷ words })

abbrev pub options : List (List ℕ)
options = codes "-w" ∷ codes "-b" ∷ codes "-n" ∷ codes "-j" ∷ codes "-g" ∷ []

-- the option is one that there is, and its value doesn't look like an option
abbrev pub is_setting : Setting → Bool
is_setting setting = has_word options setting.option && not (is_dashed setting.value)

abbrev pub option_names : List Setting → List (List ℕ)
option_names settings = map (λ setting. setting.option) settings

-- each option stands once at the most, and none behind the first other word
abbrev pub is_cut : Cut → Bool
is_cut cut = list_all is_setting cut.settings && are_different (option_names cut.settings) && are_undashed cut.others

abbrev pub if_cut : Option Cut → Option Cut
if_cut None = None
if_cut (Some cut) = if is_cut cut then Some cut else None

-- the options and the other words of a command line
abbrev pub cut_of : List (List ℕ) → Option Cut
cut_of words = if_cut (cut_words words)

-- the value of an option, where it is given
abbrev pub value_of : List ℕ → List Setting → Option (List ℕ)
value_of option settings = option_map (λ setting. setting.value) (find (λ setting. bytes_eq setting.option option) settings)
