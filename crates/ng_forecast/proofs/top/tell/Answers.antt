use Rattle.std.proofs.Common.{◌≡◌, ◌∙◌, ℕ, List, map, ap, refl}
use Rattle.ng_args.specs.declared.port.PortWord.{PortWord}
use Rattle.ng_machine.specs.Spread.{Spread}
use Rattle.ng_forecast.specs.Text.{bag_text}
use Rattle.ng_forecast.proofs.Ending.{ends_stopped, ends_told, ends_untold}
use Rattle.ng_forecast.proofs.top.tell.Goals as goal

-- the text that was put is that of the bag
text_is : (ports all : List PortWord) (packets bag : Spread) (put text : List ℕ) → put ≡ text
    → text ≡ bag_text (map (λ port. port.name) ports) packets → ports ≡ all → packets ≡ bag
    → put ≡ bag_text (map (λ port. port.name) all) bag
text_is ports all packets bag put text same made named held =
    same ∙ (made ∙ (ap (λ (l : List PortWord). bag_text (map (λ port. port.name) l) packets) named
    ∙ ap (bag_text (map (λ port. port.name) all)) held))

pub returns-in_default : goal.returns-in_default
returns-in_default g c = λ kinds old now before after same f.
    rw (c.refused.ensures.status, c.refused.ensures.bag, c.refused.ensures.fault)
    (ends_untold kinds c.args.words.now old now before after c.args.bag same f (g.O.Sink.contents c.args.out.now) (g.O.Sink.contents c.args.out.now)
    (g.O.Sink.faults c.args.out.now) (g.O.Sink.faults c.args.out.now) refl)

pub returns-in-Err : goal.returns-in-Err
returns-in-Err g c = λ kinds old now before after same f.
    rw (c.refused-in-Err.ensures.status, c.refused-in-Err.ensures.bag, c.refused-in-Err.ensures.fault)
    (ends_stopped kinds c.args.words.now old now before after c.args.bag same f (g.O.Sink.contents c.args.out.now) (g.O.Sink.contents c.put_all.new.out)
    (g.O.Sink.faults c.args.out.now) (g.O.Sink.faults c.put_all.new.out) c.deref.result.now
    (text_is _ _ _ _ _ _ c.deref.ensures.value c.in-Ok.ensures c.as_slice.ensures c.as_slice-2.ensures)
    c.in-Err.ensures.prefix c.in-Err.ensures.cause)

pub returns : goal.returns
returns g c = λ kinds old now before after same f.
    ends_told kinds c.args.words.now old now before after c.args.bag same f
    (g.O.Sink.contents c.args.out.now) (g.O.Sink.contents c.put_all.new.out) (g.O.Sink.faults c.args.out.now) (g.O.Sink.faults c.put_all.new.out)
    c.deref.result.now (text_is _ _ _ _ _ _ c.deref.ensures.value c.in-Ok.ensures c.as_slice.ensures c.as_slice-2.ensures)
    c.in_default-put_all.ensures.grown
