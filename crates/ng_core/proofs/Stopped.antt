-- All that waits is dropped.
use Rattle.std.proofs.Common.{◌≡◌, ◌∙◌, ℕ, List, [], ◌∷◌, ◌++◌, length, map, Bool, true, false, refl, sym, ap, subst, true≢false, arith, append-nil, length-append}
use Rattle.ng_base.specs.declared.cause.Cause.TheVariants.{Budget}
use Rattle.ng_machine.specs.Change.{drops_for}
use Rattle.ng_machine.specs.LowRun.{IsLow}
use Rattle.ng_machine.specs.World.{World}
use Rattle.std.specs.declared.option.Option.TheVariants.{Some}
use Rattle.ng_base.specs.declared.event.Event.{Event}
use Rattle.ng_base.specs.declared.event.Event.TheVariants.{Stop}
use Rattle.ng_machine.specs.story.Closing.{stopped_if}
use Rattle.ng_machine.specs.story.DeskLaws.{stop_events}
use Rattle.ng_machine.specs.story.Story.{Story, run_state_of, world_of}
use Rattle.ng_machine.proofs.story.SoundStories.{at_more}
use Rattle.ng_core.specs.Stops.{stopped_run}
use Rattle.ng_machine.specs.declared.item.Item.{Item}
use Rattle.ng_machine.specs.Run.{RunState, Taken, stop}
use Rattle.ng_machine.specs.Words.{Has}
use Rattle.ng_queue.specs.pending.Holds.{in_world}
use Rattle.ng_queue.specs.Queue.{AllWait}
use Rattle.ng_queue.specs.Queues.{list_at}
use Rattle.ng_queue.specs.tally.Tally.{stopped}
use Rattle.ng_queue.proofs.tally.CountsOfWorld.{counts_are_of_world}
use Rattle.ng_queue.specs.tie.Tie.{at, is_out}
use Rattle.ng_queue.proofs.tie.Heads.{all_wait}
use Rattle.ng_topology.specs.OfWorld.{IsOfWorld}
use Rattle.ng_topology.specs.Topology.{Topology}
use Rattle.ng_core_state.specs.declared.state.State.{State}
use Rattle.ng_core_state.specs.Lent.{Lent}
use Rattle.ng_core_state.specs.Stands.{Stands, port_of}

none_out : (id : ℕ) (taken : List Taken) → taken ≡ [] → is_out id taken ≡ false
none_out id taken none = ap (is_out id) none

-- where nothing is taken, all waits
pub all_waits : {B : Type 0} (s : State B) (a : RunState) → Stands s a → a.taken ≡ [] → (n : ℕ) → AllWait (list_at s.pending.queues.lists n)
all_waits s a S none n = subst AllWait (sym (S.items.tied n)) (all_wait a.taken (at n a.world.pending) (λ q h. none_out q.id.0 a.taken none))

none_lent : (t : Topology) (pending : List Item) (taken : List Taken) → taken ≡ [] → Lent t pending taken → Lent t [] taken
none_lent t pending taken none L n node is away = let W = L n node is away in absurd (true≢false (sym W.is_taken ∙ none_out W.item.id.0 taken none))

pub stands_stopped : {B : Type 0} (s t : State B) (a : RunState) → Stands s a → a.taken ≡ [] → ((n : ℕ) → list_at t.pending.queues.lists n ≡ []) → length t.pending.queues.lists ≡ length s.pending.queues.lists
    → t.pending.tally ≡ stopped s.pending.tally → t.pending.out ≡ s.pending.out → t.graph ≡ s.graph → t.told.items ≡ s.told.items → t.ports.items ≡ s.ports.items → Stands t (in_world a (stop a.world))
stands_stopped s t a S none empty lists tally out graph told ports = record {
  items = record {
    sorted = tt;
    below = λ item h. absurd h;
    old = λ x h. absurd (subst (Has x) none h);
    once = S.items.once;
    known = λ item h. absurd h;
    tied = empty;
    tally = tally ∙ ap stopped S.items.tally ∙ sym (counts_are_of_world.stop a.world);
    out = out ∙ S.items.out;
  };
  there = λ item h. absurd h;
  graph = subst (λ (g : Topology). IsOfWorld g (stop a.world)) (sym graph) (record { nodes = S.graph.nodes; stock = S.graph.stock; next_link = S.graph.next_link });
  homes = subst (λ (g : Topology). length g.home ≡ length g.nodes) (sym graph) S.homes;
  lent = subst (λ (g : Topology). Lent g [] a.taken) (sym graph) (none_lent s.graph a.world.pending a.taken none S.lent);
  places = let le = S.places in omega arith;
  told = told ∙ S.told;
  ports = ap (map port_of) ports ∙ S.ports;
}

-- whether the run stopped is nothing that is kept
pub stands_marked : {B : Type 0} (t : State B) (a : RunState) (b : Bool) → Stands t a → Stands t (record a { stopped = b })
stands_marked t a b S = record {
  items = record { sorted = S.items.sorted; below = S.items.below; old = S.items.old; once = S.items.once; known = S.items.known; tied = S.items.tied; tally = S.items.tally; out = S.items.out };
  there = S.there;
  graph = S.graph;
  homes = S.homes;
  lent = S.lent;
  places = S.places;
  told = S.told;
  ports = S.ports;
}

-- the run of a closed story
pub stands_closed : {B : Type 0} (t : State B) (s : Story) (unfed : ℕ) (b : Bool) → Stands t (stopped_run b (run_state_of s)) → Stands t (run_state_of (record (stopped_if b s) { closed = Some unfed }))
stands_closed t s unfed true S = subst (Stands t) (sym (at_more s Stop)) (stands_marked t (stopped_run true (run_state_of s)) true S)
stands_closed t s unfed false S = S

drops_length : (items : List Item) → length (drops_for Budget items) ≡ length items
drops_length [] = refl
drops_length (item ∷ items) = let more = drops_length items in omega arith

-- the numbers of a world are low after a Stop too
low_stopped : (w : World) → IsLow w → IsLow (stop w)
low_stopped w L = record {
  items = L.items;
  settled = let was = L.settled in let join = length-append w.dropped (drops_for Budget w.pending) in let long = drops_length w.pending in omega arith;
  nodes = L.nodes;
  links = L.links;
  applies = L.applies;
  losses = L.losses;
  outside = L.outside;
  spool = L.spool;
}

pub low_closed : (s : Story) (unfed : ℕ) (b : Bool) → IsLow (world_of s) → IsLow (world_of (record (stopped_if b s) { closed = Some unfed }))
low_closed s unfed true L = subst (λ (a : RunState). IsLow a.world) (sym (at_more s Stop)) (low_stopped (world_of s) L)
low_closed s unfed false L = L

pub closed_story : (s : Story) (unfed : ℕ) (b : Bool) → record s { journal = s.journal ++ stop_events b; closed = Some unfed } ≡ record (stopped_if b s) { closed = Some unfed }
closed_story s unfed true = refl
closed_story s unfed false = ap (λ (j : List Event). let x : Story = record s { journal = j; closed = Some unfed } in x) (append-nil s.journal)
