use Rattle.std.proofs.Common.{◌∙◌, List, ℕ, All, Some, ap, map, subst, sym}
use Rattle.ng_machine.specs.declared.command.Command.{Command}
use Rattle.ngctl_script.specs.declared.make.made.Made.{Made}
use Rattle.ngctl_script.specs.declared.when.When.{When}
use Rattle.ngctl_script.specs.Script.{commands_of}
use Rattle.ng_call.specs.Found.{capture_in}
use Rattle.ng_call.specs.MadeInForm.{IsCapture}
use Rattle.ng_call.proofs.Reading.{made_pass}
use Rattle.ng_call.proofs.made.read_made.Goals as goal

pub captures_of-requires : goal.captures_of-requires
captures_of-requires c =
    let files = c.into_vec.ensures ∙ ap (λ (m : Made). m.captures) c.made.view_is ∙ c.in_ok-made.ensures.captures in
    subst (λ (l : List (List ℕ)). All IsCapture l) (sym files) (c.made_is_in_form.ensures.captures c.args.n c.requires.few)

pub returns-clause-read : goal.returns-clause-read
returns-clause-read c =
    let script = c.deref.ensures.value ∙ ap (λ (m : Made). m.script) c.made.view_is ∙ c.in_ok-made.ensures.script in
    let files = c.into_vec.ensures ∙ ap (λ (m : Made). m.captures) c.made.view_is ∙ c.in_ok-made.ensures.captures in
    made_pass c.args.n _ _ _ (c.in_ok-script.ensures.script ∙ ap commands_of script)
    (c.in_ok-script.ensures.commands ∙ ap (λ (bytes : List ℕ). map (λ (timed : When × Command). timed.1) (commands_of bytes)) script)
    (c.in_ok-captures.ensures.read ∙ ap (map (λ (bytes : List ℕ). capture_in (Some bytes))) files)
    c.in_ok-captures.ensures.writable
