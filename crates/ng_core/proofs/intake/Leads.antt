-- What an order and a message do by where their address leads.
use Rattle.std.proofs.Common.{◌≡◌, ℕ, List, Ok, Err, ap}
use Rattle.std.specs.declared.option.Option.{Option}
use Rattle.std.specs.declared.option.Option.TheVariants.{None, Some}
use Rattle.ng_base.specs.declared.ids.NodeId.{NodeId}
use Rattle.ng_machine.specs.Feed.{RunInput, ask_at, ask_to, order_at, order_to, send_message}
use Rattle.ng_machine.specs.Walk.{walk}
use Rattle.ng_machine.specs.World.{World, node_at, own_node}
use Rattle.ng_message.specs.Numbers.{generic_cookie}
use Rattle.ng_path.specs.Address.{Address}
use Rattle.ng_core.specs.declared.intake.leading.Astray.{Astray}
use Rattle.ng_core.specs.declared.intake.leading.Astray.TheVariants.{BadPath, Nowhere}
use Rattle.ng_core.specs.intake.Decided.{led, or_nowhere, refuse_astray}

order_there : (w : World) (command : ℕ) (o : Option NodeId) (number : ℕ) (name args : List ℕ) (to : NodeId) → or_nowhere o ≡ Ok to
    → order_to w command o number name args ≡ send_message w to (node_at w to) command generic_cookie number name args
order_there w command None number name args to e = absurd (cc)
order_there w command (Some id) number name args to e =
    let k : id ≡ to = cc in ap (λ (x : NodeId). send_message w x (node_at w x) command generic_cookie number name args) k

order_nowhere : (w : World) (command : ℕ) (o : Option NodeId) (number : ℕ) (name args : List ℕ) (why : Astray) → or_nowhere o ≡ Err why
    → order_to w command o number name args ≡ refuse_astray why w command
order_nowhere w command None number name args why e = let k : Nowhere ≡ why = cc in ap (λ (x : Astray). refuse_astray x w command) k
order_nowhere w command (Some id) number name args why e = absurd (cc)

pub order_led : (w : World) (command : ℕ) (o : Option Address) (number : ℕ) (name args : List ℕ) (to : NodeId) → led w o ≡ Ok to
    → order_at w command o number name args ≡ send_message w to (node_at w to) command generic_cookie number name args
order_led w command None number name args to e = absurd (cc)
order_led w command (Some address) number name args to e = order_there w command (walk w own_node address) number name args to e

pub order_astray : (w : World) (command : ℕ) (o : Option Address) (number : ℕ) (name args : List ℕ) (why : Astray) → led w o ≡ Err why
    → order_at w command o number name args ≡ refuse_astray why w command
order_astray w command None number name args why e = let k : BadPath ≡ why = cc in ap (λ (x : Astray). refuse_astray x w command) k
order_astray w command (Some address) number name args why e = order_nowhere w command (walk w own_node address) number name args why e

ask_there : (given : RunInput) (w : World) (command : ℕ) (o : Option NodeId) (name text : List ℕ) (to : NodeId) → or_nowhere o ≡ Ok to
    → ask_to given w command o name text ≡ ask_to given w command (Some to) name text
ask_there given w command None name text to e = absurd (cc)
ask_there given w command (Some id) name text to e = let k : id ≡ to = cc in ap (λ (x : NodeId). ask_to given w command (Some x) name text) k

ask_nowhere : (given : RunInput) (w : World) (command : ℕ) (o : Option NodeId) (name text : List ℕ) (why : Astray) → or_nowhere o ≡ Err why
    → ask_to given w command o name text ≡ refuse_astray why w command
ask_nowhere given w command None name text why e = let k : Nowhere ≡ why = cc in ap (λ (x : Astray). refuse_astray x w command) k
ask_nowhere given w command (Some id) name text why e = absurd (cc)

pub ask_led : (given : RunInput) (w : World) (command : ℕ) (o : Option Address) (name text : List ℕ) (to : NodeId) → led w o ≡ Ok to
    → ask_at given w command o name text ≡ ask_to given w command (Some to) name text
ask_led given w command None name text to e = absurd (cc)
ask_led given w command (Some address) name text to e = ask_there given w command (walk w own_node address) name text to e

pub ask_astray : (given : RunInput) (w : World) (command : ℕ) (o : Option Address) (name text : List ℕ) (why : Astray) → led w o ≡ Err why
    → ask_at given w command o name text ≡ refuse_astray why w command
ask_astray given w command None name text why e = let k : BadPath ≡ why = cc in ap (λ (x : Astray). refuse_astray x w command) k
ask_astray given w command (Some address) name text why e = ask_nowhere given w command (walk w own_node address) name text why e
