-- The bytes that answer `list`, `show` and `types` are as long as their counts say.
use Rattle.std.proofs.Common.{◌≡◌, ℕ, true, false, List, refl, sym, ◌∙◌, subst}
use Rattle.std.specs.Prelude.{Some, Option}
use Rattle.ng_message.specs.Numbers.{generic_cookie, nodeinfo_number, listhooks_number, listnames_number, listnodes_number, listtypes_number}
use Rattle.ng_machine.specs.declared.command.Command.{Command}
use Rattle.ng_machine.specs.declared.command.What.{What}
use Rattle.ng_machine.specs.declared.command.What.TheVariants.{List as Lists, Show, Types}
use Rattle.ng_machine.specs.Feed.{RunInput, request_of}
use Rattle.ng_table.specs.Message.{Message}
use Rattle.ng_table.specs.Table.{find_number}
use Rattle.ng_table.specs.Generic.{hook_list, node_list, type_list}
use Rattle.ng_laws.specs.answers.Answers.{IsRequestFor, WasAsked, HasLayout, HasRow}
use Rattle.ngctl_print.specs.listing.Fields.{number_at}
use Rattle.ngctl_print.specs.listing.Lists.{IsCounted, IsShown}
use Rattle.ngctl_print.specs.whole.Answers.{FitsAnswer}
use Rattle.ngctl_print.specs.whole.Commands.{asked_by, command_numbered, commands_in}
use Rattle.ng_laws.specs.printable.Printable.{AscendFrom}
use Rattle.ng_laws.proofs.printable.Counted.{node_info_length, node_list_length, type_list_length, hook_list_length}
use Rattle.ng_laws.proofs.printable.Numbered.{finds}

-- the layout of the row that the table has
layout_in : (cookie number n : ℕ) (message : Message) (bytes : List ℕ) → (cookie ≡ generic_cookie) × (number ≡ n)
    → find_number generic_cookie n ≡ Some message → HasRow cookie number bytes → HasLayout message.answer bytes
layout_in cookie number n message bytes is known row =
    let one : find_number generic_cookie number ≡ Some row.row = subst (λ (x : ℕ). find_number x number ≡ Some row.row) is.0 row.found in
    let two : find_number generic_cookie n ≡ Some row.row = subst (λ (x : ℕ). find_number generic_cookie x ≡ Some row.row) is.1 one in
    let three : Some row.row ≡ Some message = sym two ∙ known in
    let same : row.row ≡ message = cc three in
    subst (λ (m : Message). HasLayout m.answer bytes) same row.layout

counted_nodes : (bytes : List ℕ) → HasLayout node_list bytes → IsCounted 72 bytes
unfolding number_at
counted_nodes bytes layout = node_list_length bytes layout

counted_types : (bytes : List ℕ) → HasLayout type_list bytes → IsCounted 36 bytes
unfolding number_at
counted_types bytes layout = type_list_length bytes layout

shown_hooks : (bytes : List ℕ) → HasLayout hook_list bytes → IsShown false bytes
unfolding number_at
shown_hooks bytes layout = hook_list_length bytes layout

abbrev AsksFor : RunInput → What → ℕ → ℕ → Type 0
AsksFor given what cookie number = IsRequestFor given (request_of what) cookie number

-- what answers a command's request fits it
fits_request : (given : RunInput) (what : What) (cookie number : ℕ) (bytes : List ℕ) → AsksFor given what cookie number
    → HasRow cookie number bytes → FitsAnswer (Some what) bytes
fits_request given (Lists true) cookie number bytes is row =
    counted_nodes bytes (layout_in cookie number listnames_number _ bytes is refl row)
fits_request given (Lists false) cookie number bytes is row =
    counted_nodes bytes (layout_in cookie number listnodes_number _ bytes is refl row)
fits_request given (Show true path) cookie number bytes is row =
    node_info_length bytes (layout_in cookie number nodeinfo_number _ bytes is refl row)
fits_request given (Show false path) cookie number bytes is row =
    shown_hooks bytes (layout_in cookie number listhooks_number _ bytes is refl row)
fits_request given Types cookie number bytes is row =
    counted_types bytes (layout_in cookie number listtypes_number _ bytes is refl row)
fits_request given what cookie number bytes is row = tt

-- what answers a command fits what the command of that number asks for
pub fits_command : (given : RunInput) (fed command cookie number : ℕ) (bytes : List ℕ) → AscendFrom 0 (commands_in given.inputs)
    → WasAsked given fed command cookie number → HasRow cookie number bytes
    → FitsAnswer (asked_by (command_numbered (commands_in given.inputs) command)) bytes
fits_command given fed command cookie number bytes ascend asked row =
    let f = (finds (λ request. IsRequestFor given request cookie number) command 0 given.inputs asked.place asked.input ascend asked.there asked.is).1 in
    subst (λ (o : Option Command). FitsAnswer (asked_by o) bytes) (sym f.found)
    (fits_request given f.command.what cookie number bytes f.meets row)
