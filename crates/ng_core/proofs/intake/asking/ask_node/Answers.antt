use Rattle.std.proofs.Common.{◌≡◌, sym, ap, ◌∙◌}
use Rattle.ng_machine.specs.Feed.{BadArguments, Reads, RunInput, ask_to, send_message}
use Rattle.ng_machine.specs.World.{World, node_at}
use Rattle.std.specs.declared.option.Option.TheVariants.{Some}
use Rattle.ng_table.specs.reading.Reading.{reading, reading_of}
use Rattle.ng_core_state.proofs.SentItems.{kind_node}
use Rattle.ng_core.specs.declared.intake.decided.Decided.{Decided}
use Rattle.ng_core.specs.intake.Decided.{does}
use Rattle.ng_core.proofs.intake.Names.{read_short}
use Rattle.ng_core.proofs.intake.Results.{if_ok}
use Rattle.ng_core.proofs.intake.Rows.{row_read}
use Rattle.ng_core.proofs.intake.asking.ask_node.Goals as goal

pub returns-in-Wrong : goal.returns-in-Wrong
returns-in-Wrong g c = λ given w r nodes.
    let k = kind_node c.args.graph.now.nodes w.nodes c.args.to c.in-Some.kind (sym nodes) (sym c.kind.ensures ∙ c.in-Some.is) in
    sym (row_read given w c.args.command c.args.to k.node c.in-Some.kind c.args.name.now c.args.text.now (BadArguments c.in-Wrong.why) r k.is k.kind_is
    (sym c.in_ok-read_message.ensures ∙ ap reading_of c.in-Wrong.is))

pub returns-in-Message : goal.returns-in-Message
returns-in-Message g c = if_ok
    (λ (d : Decided). (w : World) → does d w c.args.command ≡ send_message w c.args.to (node_at w c.args.to) c.args.command c.in-Message.cookie c.in-Message.number c.args.name.now c.in-Message.args)
    (λ (d : Decided). (given : RunInput) (w : World) → given.reading ≡ reading → w.nodes ≡ c.args.graph.now.nodes → does d w c.args.command ≡ ask_to given w c.args.command (Some c.args.to) c.args.name.now c.args.text.now)
    c.message.result
    (λ d sends given w r nodes.
    let k = kind_node c.args.graph.now.nodes w.nodes c.args.to c.in-Some.kind (sym nodes) (sym c.kind.ensures ∙ c.in-Some.is) in
    sends w ∙ sym (row_read given w c.args.command c.args.to k.node c.in-Some.kind c.args.name.now c.args.text.now (Reads c.in-Message.cookie c.in-Message.number c.in-Message.args) r k.is k.kind_is
    (sym c.in_ok-read_message.ensures ∙ ap reading_of c.in-Message.is)))
    c.message.ensures

pub message-requires : goal.message-requires
message-requires g c =
    read_short c.in-Some.kind c.args.name.now c.args.text.now c.in-Message.cookie c.in-Message.number c.in-Message.args
    (sym c.in_ok-read_message.ensures ∙ ap reading_of c.in-Message.is)
