use Rattle.std.proofs.Common.{◌≡◌, ℕ, sym, ◌∙◌}
use Rattle.std.specs.declared.option.Option.TheVariants.{Some}
use Rattle.ng_machine.specs.Feed.{RunInput, ask_at, ask_to}
use Rattle.ng_machine.specs.World.{World}
use Rattle.ng_path.specs.Address.{read_address}
use Rattle.ng_table.specs.reading.Reading.{reading}
use Rattle.ng_core.specs.declared.intake.decided.Decided.{Decided}
use Rattle.ng_core.specs.intake.Decided.{does, refuse_astray}
use Rattle.ng_core.proofs.intake.Leads.{ask_astray, ask_led}
use Rattle.ng_core.proofs.intake.Results.{if_ok}
use Rattle.ng_core.proofs.intake.asking.ask.Goals as goal

pub returns-in-Err : goal.returns-in-Err
returns-in-Err g c = if_ok
    (λ (d : Decided). (w : World) (command : ℕ) → does d w command ≡ refuse_astray c.in-Err.why w command)
    (λ (d : Decided). (given : RunInput) (w : World) → given.reading ≡ reading → w.nodes ≡ c.args.graph.now.nodes
    → does d w c.args.command ≡ ask_at given w c.args.command (read_address c.args.path.now) c.args.name.now c.args.text.now)
    c.refuse_address.result
    (λ d refuses given w r nodes. refuses w c.args.command
    ∙ sym (ask_astray given w c.args.command (read_address c.args.path.now) c.args.name.now c.args.text.now c.in-Err.why (sym (c.find.ensures w nodes) ∙ c.in-Err.is)))
    c.refuse_address.ensures

pub returns-in-Ok : goal.returns-in-Ok
returns-in-Ok g c = if_ok
    (λ (d : Decided). (given : RunInput) (w : World) → given.reading ≡ reading → w.nodes ≡ c.args.graph.now.nodes
    → does d w c.args.command ≡ ask_to given w c.args.command (Some c.in-Ok.to) c.args.name.now c.args.text.now)
    (λ (d : Decided). (given : RunInput) (w : World) → given.reading ≡ reading → w.nodes ≡ c.args.graph.now.nodes
    → does d w c.args.command ≡ ask_at given w c.args.command (read_address c.args.path.now) c.args.name.now c.args.text.now)
    c.ask_node.result
    (λ d asks given w r nodes. asks given w r nodes
    ∙ sym (ask_led given w c.args.command (read_address c.args.path.now) c.args.name.now c.args.text.now c.in-Ok.to (sym (c.find.ensures w nodes) ∙ c.in-Ok.is)))
    c.ask_node.ensures
