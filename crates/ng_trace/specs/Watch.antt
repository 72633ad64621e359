-- What is noted of each event of a run, and of all.
use Rattle.std.specs.Prelude.{◌-◌, Bool, true, false, not, ◌&&◌, List, [], ◌∷◌, filter, find, length, Option, Some, None}
use Rattle.std.specs.List.{flat_map}
use Rattle.ng_base.specs.declared.cause.Cause.TheVariants.{NodeGone, Budget}
use Rattle.ng_base.specs.declared.event.Event.{Event}
use Rattle.ng_base.specs.declared.event.Event.TheVariants.{Feed, Take, Back, Apply, Stop}
use Rattle.ng_base.specs.declared.ids.NodeId.{NodeId}
use Rattle.ng_machine.specs.declared.body.Body.{Body}
use Rattle.ng_machine.specs.declared.body.Body.TheVariants.{Msg, Leave}
use Rattle.ng_machine.specs.declared.item.Item.{Item}
use Rattle.ng_machine.specs.Body.{has_id}
use Rattle.ng_machine.specs.Change.{items_of}
use Rattle.ng_machine.specs.Feed.{RunInput}
use Rattle.ng_machine.specs.Laws.{Setting, start}
use Rattle.ng_machine.specs.Run.{RunState, Taken, after, beginning, step}
use Rattle.ng_machine.specs.Tests.{is_taken}
use Rattle.ng_machine.specs.Words.{below}
use Rattle.ng_machine.specs.World.{World, NodeRecord, is_there, node_at, node_id}
use Rattle.ng_trace.specs.declared.ending.Ending.TheVariants.{Dropped}
use Rattle.ng_trace.specs.declared.ending.Spot.{Spot}
use Rattle.ng_trace.specs.Endings.{came_of, endings, has_left, spot_of, spots}
use Rattle.ng_trace.specs.Watched.{Watched, note_drops, note_endings, note_reached, nothing_noted, origin_of, with_items}

-- What waits and isn't taken: where an item takes its node away, and at a Stop, no other item is taken.

abbrev pub is_waiting : List Taken → Item → Bool
is_waiting taken item = not (is_taken taken item.id)

abbrev pub waiting_at : RunState → NodeId → List Item
waiting_at at node = filter (is_waiting at.taken) (items_of at.world node)

abbrev pub all_waiting : RunState → List Item
all_waiting at = flat_map (λ n. waiting_at at (node_id n)) (below (length at.world.nodes))

-- an order takes a node away, or the going of a peer does
abbrev pub may_retire : Body → Bool
may_retire (Msg msg) = true
may_retire (Leave hook link) = true
may_retire _ = false

abbrev pub spots_if : Bool → RunState → NodeId → List Spot
spots_if false at node = []
spots_if true at node = spots at.world.nodes (waiting_at at node)

-- what waited for an item's node, which is gone after the item
abbrev pub gone_spots : RunState → World → Item → List Spot
gone_spots at new item = spots_if (may_retire item.body && not (is_there new item.to)) at item.to

-- Items that are made while an item is applied come of the input of which that item came.

abbrev pub watch_made : World → World → Item → Watched → Watched
watch_made old new item t = with_items (new.next_item - old.next_item) (origin_of t item.id) t

abbrev pub watch_at : RunState → World → Item → NodeRecord → Watched → Watched
watch_at at new item node t =
    note_drops (Dropped NodeGone)
    (note_endings (spot_of item node)
    (note_reached (has_left (came_of node item.body) at.world.lost new.lost) item.id (watch_made at.world new item t))
    (endings (came_of node item.body) at.world.lost new.lost))
    (gone_spots at new item)

abbrev pub watch_item : RunState → World → Item → Option NodeRecord → Watched → Watched
watch_item at new item None t = watch_made at.world new item t
watch_item at new item (Some node) t = watch_at at new item node t

abbrev pub watch_found : RunState → World → Option Item → Watched → Watched
watch_found at new None t = t
watch_found at new (Some item) t = watch_item at new item (node_at at.world item.to) t

-- an input's items come of it
abbrev pub watch_event : RunState → World → Watched → Event → Watched
watch_event at new t Feed = with_items (new.next_item - at.world.next_item) at.world.fed t
watch_event at new t (Take seat id) = t
watch_event at new t (Back id) = t
watch_event at new t (Apply id) = watch_found at new (find (has_id id) at.world.pending) t
watch_event at new t Stop = note_drops (Dropped Budget) t (spots at.world.nodes (all_waiting at))

abbrev pub watch : RunInput → RunState → Watched → Event → Watched
watch given at t event = watch_event at (step given at.world event) t event

abbrev pub watch_all : RunInput → RunState → Watched → List Event → Watched
watch_all given at t [] = t
watch_all given at t (event ∷ events) = watch_all given (after given at event) (watch given at t event) events

-- what is noted of the run of a journal
abbrev pub watched_from : Setting → Watched → List Event → Watched
watched_from s t journal = watch_all s.given (beginning (start s)) t journal

abbrev pub watched_of : Setting → List Event → Watched
watched_of s journal = watched_from s (nothing_noted (length s.given.inputs)) journal
