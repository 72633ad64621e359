-- What only one seat's holding of the shared state may change: its own events, whether it gave up, and what it works on.
use Rattle.std.specs.Prelude.{ℕ, zero, suc, Bool, true, false, ◌&&◌, ◌==◌, if◌then◌else◌, List, [], ◌∷◌, find, slice_index_or, Option, Some, None}
use Rattle.std.specs.List.{list_any}
use Rattle.ng_base.specs.declared.event.Event.{Event}
use Rattle.ng_base.specs.declared.event.Event.TheVariants.{Feed, Take, Back, Apply, Stop}
use Rattle.ng_base.specs.declared.ids.ItemId.{ItemId}
use Rattle.ng_base.specs.declared.kind.Kind.{Kind}
use Rattle.ng_machine.specs.declared.body.Body.{Body}
use Rattle.ng_machine.specs.declared.body.Body.TheVariants.{Frame, Msg, Tick, Learn}
use Rattle.ng_machine.specs.declared.hook.Hook.{Hook}
use Rattle.ng_machine.specs.declared.input.Input.{Input}
use Rattle.ng_machine.specs.declared.item.Item.{Item}
use Rattle.ng_machine.specs.declared.plan.Plan.{Plan}
use Rattle.ng_machine.specs.Body.{has_id}
use Rattle.ng_machine.specs.State.{State, way_of}
use Rattle.ng_machine.specs.World.{World, NodeRecord, node_at, state_of, kind_at, linked_hook}
use Rattle.ng_machine.specs.Effect.{MessageClass, OfKind, class_of, is_hook_gone}
use Rattle.ng_machine.specs.Feed.{RunInput}
use Rattle.ng_machine.specs.Run.{RunState, Taken, is_of, taken_after, after, beginning}
use Rattle.ng_machine.specs.Laws.{Setting, start}
use Rattle.ng_machine.specs.SetUp.{has_waited}

-- What a seat works on

-- nothing; an item that needs no work outside; a packet, by what a plan holds; or a writer, on the state of its node
pub data Job : Type 0 where
  Idle : Job
  Within : Item → Job
  Reads : Item → Plan → Job
  Writes : Item → State → Job

-- a packet is worked on by the plan of its node, and where its kind has none on the node's state
abbrev pub frame_job : Item → State → Option Plan → Job
frame_job item state (Some plan) = Reads item plan
frame_job item state None = Writes item state

-- of messages, those of the kind's own cookie that write
abbrev pub is_of_kind : MessageClass → Bool
is_of_kind OfKind = true
is_of_kind _ = false

abbrev pub writes_if : Bool → Item → State → Job
writes_if true item state = Writes item state
writes_if false item state = Within item

-- what a bridge is to learn, where the hook is there with its link
abbrev pub learn_job : Item → State → Option Hook → Job
learn_job item state None = Within item
learn_job item state (Some hook) = Writes item state

abbrev pub body_job : Item → NodeRecord → Body → Job
body_job item node (Frame door link packet) = frame_job item (state_of node) (way_of (state_of node))
body_job item node (Msg msg) = writes_if (item.writer && is_of_kind (class_of (kind_at node) msg)) item (state_of node)
body_job item node (Tick seconds) = Writes item (state_of node)
body_job item node (Learn hook link addr) = learn_job item (state_of node) (linked_hook node hook link)
body_job item node _ = Within item

-- a packet that will be dropped needs no work
abbrev pub job_unless_gone : Bool → Item → NodeRecord → Job
job_unless_gone true item node = Within item
job_unless_gone false item node = body_job item node item.body

abbrev pub job_at : Item → Option NodeRecord → Job
job_at item None = Within item
job_at item (Some node) = job_unless_gone (is_hook_gone (Some node) item.body) item node

abbrev pub job_of : World → Item → Job
job_of w item = job_at item (node_at w item.to)

abbrev pub job_found : World → Option Item → Job
job_found w None = Idle
job_found w (Some item) = job_of w item

-- Whose an event is: a Take says it, a Back and an Apply are of the seat that took the item, and all else is of the seat 0

abbrev pub has_taken : List Taken → ItemId → ℕ → Bool
has_taken taken id seat = list_any (λ t. is_of id t && t.seat == seat) taken

abbrev pub is_own : List Taken → ℕ → Event → Bool
is_own taken seat Feed = seat == 0
is_own taken seat (Take by id) = by == seat
is_own taken seat (Back id) = has_taken taken id seat
is_own taken seat (Apply id) = has_taken taken id seat
is_own taken seat Stop = seat == 0

abbrev pub add_own : Bool → Event → List Event → List Event
add_own true event events = event ∷ events
add_own false event events = events

-- the events of the seat, in order, where these are taken at the beginning
abbrev pub own_events_from : List Taken → ℕ → List Event → List Event
own_events_from taken seat [] = []
own_events_from taken seat (event ∷ events) = add_own (is_own taken seat event) event (own_events_from (taken_after taken event) seat events)

abbrev pub own_events : List Event → ℕ → List Event
own_events journal seat = own_events_from [] seat journal

-- what the seat works on, by the world at its last Take
abbrev pub job_after : RunState → ℕ → Job → Event → Job
job_after at seat job Feed = job
job_after at seat job (Take by id) = if by == seat then job_found at.world (find (has_id id) at.world.pending) else job
job_after at seat job (Back id) = if has_taken at.taken id seat then Idle else job
job_after at seat job (Apply id) = if has_taken at.taken id seat then Idle else job
job_after at seat job Stop = job

abbrev pub job_from : RunInput → RunState → ℕ → Job → List Event → Job
job_from given at seat job [] = job
job_from given at seat job (event ∷ events) = job_from given (after given at event) seat (job_after at seat job event) events

abbrev pub job_in : Setting → List Event → ℕ → Job
job_in s journal seat = job_from s.given (beginning (start s)) seat Idle journal

-- A desk

-- the desk of the seat 0 beside what each desk has: what the run was made of, what was fed, whether the first packet or
-- tick waited for the set-up, and how many inputs were said to be unfed where it was closed
pub record FirstDesk : Type 0 where
  pub own : List ℕ
  pub ports : List (List ℕ)
  pub stock : List Kind
  pub budget : ℕ
  pub inputs : List Input
  pub waited : Bool
  pub closed : Option ℕ

pub record SeatDesk : Type 0 where
  pub seats : ℕ
  pub own : List Event
  pub gave_up : Bool
  pub job : Job
  pub first : Option FirstDesk

abbrev pub first_desk : Setting → List Event → Option ℕ → ℕ → Option FirstDesk
first_desk s journal closed zero = Some (record {
  own = s.own;
  ports = s.ports;
  stock = s.stock;
  budget = s.budget;
  inputs = s.given.inputs;
  waited = has_waited s journal;
  closed = closed;
})
first_desk s journal closed (suc n) = None

-- the desk of a seat after a journal over the inputs fed, by who gave up and how it was closed
abbrev pub desk_of : Setting → List Event → List Bool → Option ℕ → ℕ → SeatDesk
desk_of s journal gave_up closed seat = record {
  seats = s.seats;
  own = own_events journal seat;
  gave_up = slice_index_or gave_up seat false;
  job = job_in s journal seat;
  first = first_desk s journal closed seat;
}
