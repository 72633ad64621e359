-- A run has as many ports in the end as in the beginning.
-- to move to ng_machine
use Rattle.std.proofs.Common.{◌≡◌, ◌∙◌, ℕ, suc, List, [], ◌∷◌, length, map, Bool, true, false, refl, ap}
use Rattle.std.specs.declared.option.Option.{Option}
use Rattle.std.specs.declared.option.Option.TheVariants.{None, Some}
use Rattle.std.specs.List.{find}
use Rattle.ng_base.specs.declared.event.Event.{Event}
use Rattle.ng_base.specs.declared.event.Event.TheVariants.{Feed, Take, Back, Apply, Stop}
use Rattle.ng_base.specs.declared.ids.NodeId.{NodeId}
use Rattle.ng_base.specs.declared.ids.Stamp.{Stamp}
use Rattle.ng_machine.specs.declared.item.Item.{Item}
use Rattle.ng_machine.specs.Body.{has_id}
use Rattle.ng_machine.specs.Change.{Change, Sets, Makes, Retires, Accepts, Posts, Notes, change, change_all, set_node}
use Rattle.ng_machine.specs.Effect.{apply_found, apply_if, effect, finish, is_hook_gone, take_out}
use Rattle.ng_machine.specs.Feed.{RunInput}
use Rattle.ng_machine.specs.Laws.{Setting, start, world_after}
use Rattle.ng_machine.specs.Run.{RunState, after, after_all, beginning, step}
use Rattle.ng_machine.specs.World.{NodeRecord, World, blank_port, is_there, node_at}
use Rattle.ng_machine.proofs.Quieted.{accepts_quietly, fed_next, notes_quietly, posts_quietly}
use Rattle.ng_machine.proofs.Kept.{ports_quietly}
use Rattle.std.specs.Prelude.{slice_get}

set_ports : (w : World) (at : NodeId) (node : NodeRecord) (b : Bool) → length (set_node w at node b).ports ≡ length w.ports
set_ports w at node true = refl
set_ports w at node false = refl

change_ports : (at : NodeId) (stamp : Stamp) (w : World) (c : Change) → length (change at stamp w c).ports ≡ length w.ports
change_ports at stamp w (Sets node) = set_ports w at node (is_there w at)
change_ports at stamp w (Makes kind node) = refl
change_ports at stamp w Retires = refl
change_ports at stamp w (Accepts to body tag) = ports_quietly (accepts_quietly at stamp w to body tag)
change_ports at stamp w (Posts hook packet) = ports_quietly (posts_quietly at stamp w hook packet)
change_ports at stamp w (Notes x) = ports_quietly (notes_quietly at stamp w x)

all_ports : (at : NodeId) (stamp : Stamp) (w : World) (cs : List Change) → length (change_all at stamp w cs).ports ≡ length w.ports
all_ports at stamp w [] = refl
all_ports at stamp w (c ∷ cs) = all_ports at stamp (change at stamp w c) cs ∙ change_ports at stamp w c

applied_ports : (w : World) (item : Item) (gone : Bool) → length (apply_if (take_out w item.id) item gone).ports ≡ length w.ports
applied_ports w item true = refl
applied_ports w item false = let v = finish (take_out w item.id) item.id in all_ports item.to item.stamp v (effect v item (node_at v item.to))

found_ports : (w : World) (o : Option Item) → length (apply_found w o).ports ≡ length w.ports
found_ports w None = refl
found_ports w (Some item) = applied_ports w item (is_hook_gone (node_at w item.to) item.body)

step_ports : (given : RunInput) (w : World) (e : Event) → length (step given w e).ports ≡ length w.ports
step_ports given w Feed = fed_next given w (slice_get given.inputs w.fed) (λ (v : World). length v.ports ≡ length w.ports) refl (λ v q. ports_quietly q)
step_ports given w (Take seat id) = refl
step_ports given w (Back id) = refl
step_ports given w (Apply id) = found_ports w (find (has_id id) w.pending)
step_ports given w Stop = refl

run_ports : (given : RunInput) (a : RunState) (events : List Event) → length (after_all given a events).world.ports ≡ length a.world.ports
run_ports given a [] = refl
run_ports given a (e ∷ events) = run_ports given (after given a e) events ∙ step_ports given a.world e

blank_ports : (names : List (List ℕ)) → length (map (λ (name : List ℕ). blank_port) names) ≡ length names
blank_ports [] = refl
blank_ports (name ∷ names) = ap (λ (n : ℕ). suc n) (blank_ports names)

pub ports_stay : (s : Setting) (journal : List Event) → length (world_after s journal).ports ≡ length s.ports
ports_stay s journal = run_ports s.given (beginning (start s)) journal ∙ blank_ports s.ports
