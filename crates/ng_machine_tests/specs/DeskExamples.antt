-- A worked example of desks: two frames of two links of a bridge are worked on side by side.
use Rattle.std.specs.Prelude.{◌≡◌, ℕ, Bool, true, false, List, [], ◌∷◌, ◌++◌, codes, Option, Some, None}
use Rattle.ng_base.specs.declared.event.Event.{Event}
use Rattle.ng_base.specs.declared.event.Event.TheVariants.{Feed}
use Rattle.ng_machine.specs.declared.body.Body.TheVariants.{Frame, Learn}
use Rattle.ng_machine.specs.declared.body.Door.TheVariants.{Hook as ByHook}
use Rattle.ng_machine.specs.declared.item.Item.{Item}
use Rattle.ng_machine.specs.declared.plan.Plan.{Plan}
use Rattle.ng_machine.specs.declared.plan.Plan.TheVariants.{Bridge}
use Rattle.ng_machine.specs.World.{node_id, link_id, item_id}
use Rattle.ng_machine.specs.Laws.{Setting}
use Rattle.ng_machine.specs.Desk.{Job, Idle, Within, Reads, own_events, desk_of, SeatDesk, job_in}
use Rattle.ng_machine_tests.specs.Commands.{feed_and_serve, serve, take, apply}
use Rattle.ng_machine_tests.specs.TypeCommands.{full_stock, given_bytes}
use Rattle.ng_machine_tests.specs.TypeExamples.{ports, beside_inputs, beside_front, frame, host_a, host_b}

abbrev pub desk_setting : Setting
desk_setting = record { own = codes "ngctl"; ports = ports; stock = full_stock; given = given_bytes beside_inputs; budget = 1000000; seats = 2 }

-- the bridge with two links and no hosts yet
abbrev pub two_links : Plan
two_links = Bridge
    (record { debug_level = 1; loop_timeout = 60; max_staleness = 900; min_stable_age = 1 })
    (record { hook = codes "link0"; mute = 0 } ∷ record { hook = codes "link1"; mute = 0 } ∷ [])
    []

-- the frame that waits at the bridge for the seat 0
abbrev pub first_frame : Item
first_frame = record {
  id = item_id 7;
  to = node_id 4;
  body = Frame (ByHook (codes "link0")) (Some (link_id 1)) (frame host_b host_a 0);
  writer = false;
  tag = None;
  stamp = record { 0 = 1000000000 };
}

-- the second seat took its frame and applied it; the first still has its own, by the plan at its Take
abbrev pub DeskExample : Type 0
DeskExample =
    (own_events beside_front 1 ≡ take 8 1 ∷ apply 8 ∷ [])
    × (job_in desk_setting beside_front 1 ≡ Idle)
    × (job_in desk_setting beside_front 0 ≡ Reads first_frame two_links)
    × (job_in desk_setting (beside_front ++ apply 7 ∷ take 9 1 ∷ []) 0 ≡ Idle)
    × (own_events (take 1 0 ∷ take 2 1 ∷ Feed ∷ apply 2 ∷ take 3 1 ∷ apply 1 ∷ []) 0 ≡ take 1 0 ∷ Feed ∷ apply 1 ∷ [])
    × ((desk_of desk_setting beside_front (false ∷ true ∷ []) None 1).first ≡ None)
    × ((desk_of desk_setting beside_front (false ∷ true ∷ []) None 1).gave_up ≡ true)
    × ((desk_of desk_setting beside_front [] (Some 0) 0).first
    ≡ Some (record { own = codes "ngctl"; ports = ports; stock = full_stock; budget = 1000000; inputs = beside_inputs; waited = true; closed = Some 0 }))
