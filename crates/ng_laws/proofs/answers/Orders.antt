-- What an order that is read says: names that have room in their fields, and for a question its number.
use Rattle.std.proofs.Common.{◌≡◌, ℕ, ◌==◌, ◌||◌, Bool, true, false, if◌then◌else◌, List, length, take, refl, ◌∙◌}
use Rattle.std.specs.declared.option.Option.{Option}
use Rattle.std.specs.declared.option.Option.TheVariants.{None, Some}
use Rattle.std.specs.declared.result.Result.{Result}
use Rattle.std.specs.declared.result.Result.TheVariants.{Ok, Err}
use Rattle.std.proofs.lemmas.Bool.{eqb-true}
use Rattle.ng_base.specs.Name.{is_name}
use Rattle.ng_base.specs.declared.errno.Errno.{Errno}
use Rattle.ng_message.specs.Numbers.{is_reader_number, shutdown_number, mkpeer_number, connect_number, name_number, rmhook_number}
use Rattle.ng_message.specs.Numbers.{text_config_number, text_status_number, binary2ascii_number, ascii2binary_number}
use Rattle.ng_message.specs.Numbers.{nodeinfo_number, listhooks_number, listnames_number, listnodes_number, listtypes_number}
use Rattle.ng_message.specs.Fields.{field_text}
use Rattle.ng_machine.specs.Words.{is_empty}
use Rattle.ng_machine.specs.Errors.{einval, eopnotsupp}
use Rattle.ng_machine.specs.Arguments.{read_name, text_at}
use Rattle.ng_machine.specs.Order.{Order, Shutdown, Mkpeer, Connect, Rename, Rmhook, Asks, Question, NodeInfo, ListHooks}
use Rattle.ng_machine.specs.Order.{ListNames, ListNodes, ListTypes, mkpeer_of, with_name, with_names, ask, as_order, read_change}
use Rattle.ng_machine.specs.Order.{read_question, read_by_mode, read_order}
use Rattle.ng_laws.proofs.answers.Rows.{IsShort}
use Rattle.ng_laws.proofs.answers.Replies.{text_short}

abbrev pub number_of : Question → ℕ
number_of NodeInfo = nodeinfo_number
number_of ListHooks = listhooks_number
number_of ListNames = listnames_number
number_of ListNodes = listnodes_number
number_of ListTypes = listtypes_number

abbrev pub OrderOwes : ℕ → Order → Type 0
OrderOwes number Shutdown = Unit {0}
OrderOwes number (Mkpeer kind ours theirs) = IsShort ours × IsShort theirs
OrderOwes number (Connect path ours theirs) = IsShort ours × IsShort theirs
OrderOwes number (Rename name) = IsShort name
OrderOwes number (Rmhook hook) = Unit {0}
OrderOwes number (Asks question) = number ≡ number_of question

abbrev pub ResultOwes : ℕ → Result Order Errno → Type 0
ResultOwes number (Ok order) = OrderOwes number order
ResultOwes number (Err errno) = Unit {0}

abbrev ShortName : Option (List ℕ) → Type 0
ShortName None = Unit {0}
ShortName (Some name) = IsShort name

name_read : (args : List ℕ) (at : ℕ) → ShortName (read_name args at)
name_read args at = by (is_name (text_at args at))
  where
    by : (b : Bool) → ShortName (if b then Some (text_at args at) else None)
    by true = text_short args at
    by false = tt

module _ (number : ℕ) where
  either : (b : Bool) (x y : Result Order Errno) → ResultOwes number x → ResultOwes number y
      → ResultOwes number (if b then x else y)
  either true x y hx hy = hx
  either false x y hx hy = hy

  mkpeer_owes : (kind ours theirs : Option (List ℕ)) → ShortName ours → ShortName theirs
      → ResultOwes number (mkpeer_of kind ours theirs)
  mkpeer_owes None ours theirs a b = tt
  mkpeer_owes (Some kind) None theirs a b = tt
  mkpeer_owes (Some kind) (Some ours) None a b = tt
  mkpeer_owes (Some kind) (Some ours) (Some theirs) a b = (a, b)

  connect_owes : (path : List ℕ) (ours theirs : Option (List ℕ)) → ShortName ours → ShortName theirs
      → ResultOwes number (with_names (Connect path) ours theirs)
  connect_owes path None theirs a b = tt
  connect_owes path (Some ours) None a b = tt
  connect_owes path (Some ours) (Some theirs) a b = (a, b)

  rename_owes : (name : Option (List ℕ)) → ShortName name → ResultOwes number (with_name Rename name)
  rename_owes None a = tt
  rename_owes (Some name) a = a

  rmhook_owes : (name : Option (List ℕ)) → ResultOwes number (with_name Rmhook name)
  rmhook_owes None = tt
  rmhook_owes (Some name) = tt

  change_owes : (args : List ℕ) → ResultOwes number (read_change number args)
  change_owes args =
      either (number == shutdown_number) _ _ (either (is_empty args) _ _ tt tt)
      (either (number == mkpeer_number) _ _ (either (length args == 96) _ _
      (mkpeer_owes (read_name args 0) (read_name args 32) (read_name args 64) (name_read args 32) (name_read args 64)) tt)
      (either (number == connect_number) _ _ (either (length args == 576) _ _
      (connect_owes (field_text (take 512 args)) (read_name args 512) (read_name args 544) (name_read args 512)
      (name_read args 544)) tt)
      (either (number == name_number) _ _ (either (length args == 32) _ _ (rename_owes (read_name args 0) (name_read args 0)) tt)
      (either (number == rmhook_number) _ _ (either (length args == 32) _ _ (rmhook_owes (read_name args 0)) tt)
      (either (number == text_config_number) _ _ tt tt)))))

  abbrev QuestionOwes : Result Question Errno → Type 0
  QuestionOwes (Ok question) = number ≡ number_of question
  QuestionOwes (Err errno) = Unit {0}

  asked_by : (k : ℕ) (question : Question) (args : List ℕ) (y : Result Question Errno) → k ≡ number_of question
      → QuestionOwes y → QuestionOwes (if number == k then ask question args else y)
  asked_by k question args y is h = by (number == k) refl
    where
      inner : (b : Bool) → number ≡ k → QuestionOwes (if b then Ok question else Err einval)
      inner true e = e ∙ is
      inner false e = tt

      by : (b : Bool) → (number == k) ≡ b → QuestionOwes (if b then ask question args else y)
      by true e = inner (is_empty args) (eqb-true number k e)
      by false e = h

  no_question : (b : Bool) (x y : Errno) → QuestionOwes (if b then Err x else Err y)
  no_question true x y = tt
  no_question false x y = tt

  question_owes : (args : List ℕ) → QuestionOwes (read_question number args)
  question_owes args =
      asked_by nodeinfo_number NodeInfo args _ refl
      (asked_by listhooks_number ListHooks args _ refl
      (asked_by listnames_number ListNames args _ refl
      (asked_by listnodes_number ListNodes args _ refl
      (asked_by listtypes_number ListTypes args _ refl
      (no_question (number == text_status_number ||
      (number == binary2ascii_number || number == ascii2binary_number)) eopnotsupp einval)))))

  as_owes : (r : Result Question Errno) → QuestionOwes r → ResultOwes number (as_order r)
  as_owes (Ok question) h = h
  as_owes (Err errno) h = tt

  pub order_owes : (args : List ℕ) → ResultOwes number (read_order number args)
  order_owes args = by (is_reader_number number)
    where
      by : (b : Bool) → ResultOwes number (read_by_mode b number args)
      by true = as_owes (read_question number args) (question_owes args)
      by false = change_owes args
