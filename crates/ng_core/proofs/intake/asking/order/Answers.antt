use Rattle.std.proofs.Common.{◌≡◌, ℕ, List, sym, ap, ◌∙◌}
use Rattle.ng_machine.specs.Feed.{order_at, send_message}
use Rattle.ng_machine.specs.World.{World, node_at}
use Rattle.ng_message.specs.Numbers.{generic_cookie}
use Rattle.ng_path.specs.Address.{read_address}
use Rattle.ng_core.specs.declared.intake.decided.Decided.{Decided}
use Rattle.ng_core.specs.intake.Decided.{does, refuse_astray}
use Rattle.ng_core.proofs.intake.Leads.{order_astray, order_led}
use Rattle.ng_core.proofs.intake.Results.{if_ok}
use Rattle.ng_core.proofs.intake.asking.order.Goals as goal

pub returns-in-Err : goal.returns-in-Err
returns-in-Err g c = if_ok
    (λ (d : Decided). (w : World) (command : ℕ) → does d w command ≡ refuse_astray c.in-Err.why w command)
    (λ (d : Decided). (w : World) → w.nodes ≡ c.args.graph.now.nodes → does d w c.args.command ≡ order_at w c.args.command (read_address c.args.path.now) c.args.number c.args.name.now c.args.args)
    c.refuse_address.result
    (λ d refuses w nodes. refuses w c.args.command
    ∙ sym (order_astray w c.args.command (read_address c.args.path.now) c.args.number c.args.name.now c.args.args c.in-Err.why (sym (c.find.ensures w nodes) ∙ c.in-Err.is)))
    c.refuse_address.ensures

pub returns-in-Ok : goal.returns-in-Ok
returns-in-Ok g c = if_ok
    (λ (d : Decided). (w : World) → does d w c.args.command ≡ send_message w c.in-Ok.to (node_at w c.in-Ok.to) c.args.command generic_cookie c.args.number c.as_bytes.result.now c.args.args)
    (λ (d : Decided). (w : World) → w.nodes ≡ c.args.graph.now.nodes → does d w c.args.command ≡ order_at w c.args.command (read_address c.args.path.now) c.args.number c.args.name.now c.args.args)
    c.message.result
    (λ d sends w nodes. sends w
    ∙ ap (λ (name : List ℕ). send_message w c.in-Ok.to (node_at w c.in-Ok.to) c.args.command generic_cookie c.args.number name c.args.args) c.as_bytes.ensures.value
    ∙ sym (order_led w c.args.command (read_address c.args.path.now) c.args.number c.args.name.now c.args.args c.in-Ok.to (sym (c.find.ensures w nodes) ∙ c.in-Ok.is)))
    c.message.ensures
