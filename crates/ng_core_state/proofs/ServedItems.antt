-- The item that is next is done at once.
use Rattle.std.proofs.Common.{◌≡◌, ◌⊎◌, ⊎_elim, ◌∙◌, ◌∷◌, [], ◌++◌, ℕ, length, not, refl, sym, ap, arith}
use Rattle.std.specs.Prelude.{◌==◌}
use Rattle.std.specs.declared.option.Option.TheVariants.{Some}
use Rattle.ng_machine.specs.declared.item.Item.{Item}
use Rattle.ng_machine.specs.declared.plan.Plan.{Plan}
use Rattle.ng_machine.specs.Desk.{Job, Reads, Within, Writes, job_at, job_of}
use Rattle.ng_machine.specs.Run.{RunState}
use Rattle.ng_machine.specs.World.{NodeRecord, node_at, state_of}
use Rattle.ng_machine.proofs.Standing.{of_filter}
use Rattle.ng_queue.specs.Queue.{head}
use Rattle.ng_queue.specs.Queues.{IsLeast, list_at}
use Rattle.ng_machine.specs.story.Story.{IsNext}
use Rattle.ng_queue.specs.tie.Tie.{taking}
use Rattle.ng_queue.proofs.tie.SortedItems.{sorted_one}
use Rattle.ng_queue.specs.pending.Holds.{HoldsItems, done_from, with_taken}
use Rattle.ng_queue.proofs.pending.HeldItems.{next_held}
use Rattle.ng_core_state.specs.declared.state.State.{State}
use Rattle.ng_core_state.specs.declared.handed.Tool.{Tool}
use Rattle.ng_core_state.specs.declared.handed.Tool.TheVariants.{Plan as ThePlan, Node, Nothing}
use Rattle.ng_core_state.specs.Handed.{IsJobBy}
use Rattle.ng_core_state.specs.Stands.{Stands, MayLeave}
use Rattle.ng_core_state.proofs.SentItems.{out_but}
use Rattle.ng_core_state.proofs.StandsAfter.{stands_with}
use Rattle.ng_core_state.proofs.TakenItems.{ItemNode, item_node, least_node, writer_more}

-- one item alone is next
pub next_one : {B : Type 0} (s : State B) (a : RunState) (x y : Item) → Stands s a → IsNext a x → IsNext a y → x ≡ y
next_one s a x y S N M = sorted_one 0 a.world.pending x y S.items.sorted N.may.pending M.may.pending (let le = N.least y M.may in let ge = M.least x N.may in omega arith)

-- the node of the head of the queue that is the least
pub head_node : {B : Type 0} (s : State B) (a : RunState) (at : ℕ) (item : Item) → Stands s a → IsLeast s.pending.queues.lists at → head (list_at s.pending.queues.lists at) ≡ Some item → ItemNode s a item
head_node s a at item S least e = item_node s a item S (next_held s.pending a at item S.items least e).0.may.pending

-- no plan works on an item that is worked on with anything else
other_job : (t : Tool) (x item : Item) (node : NodeRecord) (job : Job) (plan : Plan) → (t ≡ Node) ⊎ (t ≡ Nothing) → IsJobBy t x node job → job ≡ Reads item plan → ⊥
other_job ThePlan x item node job plan other by reads = ⊎_elim (λ e. cc) (λ e. cc) other
other_job Node x item node job plan other by reads = let never : Writes x (state_of node) ≡ Reads item plan = sym by ∙ reads in cc
other_job Nothing x item node job plan other by reads = let never : Within x ≡ Reads item plan = sym by ∙ reads in cc

-- no packet for a plan is next where the head is worked on with anything else
pub none_reads : {B : Type 0} (s : State B) (a : RunState) (at : ℕ) (t : Tool) (item : Item) (plan : Plan) → Stands s a → IsLeast s.pending.queues.lists at
    → ((b : RunState) (x : Item) (node : NodeRecord) → Stands s b → head (list_at s.pending.queues.lists at) ≡ Some x → node_at b.world x.to ≡ Some node → IsJobBy t x node (job_at x (Some node)))
    → (t ≡ Node) ⊎ (t ≡ Nothing) → IsNext a item → job_of a.world item ≡ Reads item plan → ⊥
none_reads s a at t item plan S least by other N reads =
    let L = least_node s a at S least in
    let same = next_one s a L.item item S L.next N in
    other_job t L.item item L.at.node (job_at L.item (Some L.at.node)) plan other (by a L.item L.at.node S L.head_is L.at.node_is)
    (sym (ap (job_at L.item) L.at.node_is) ∙ ap (job_of a.world) same ∙ reads)

pub stands_served : {B : Type 0} (s t : State B) (a : RunState) (p : Item) (seat : ℕ) → Stands s a → IsNext a p → MayLeave s.graph p → HoldsItems t.pending (done_from (with_taken a p.id.0 seat) p) → t.graph ≡ s.graph
    → length t.pending.queues.lists ≡ length s.pending.queues.lists → t.told.items ≡ s.told.items → t.ports.items ≡ s.ports.items → Stands t (done_from (with_taken a p.id.0 seat) p)
stands_served s t a p seat S N may H graph lists told ports =
    stands_with s t a (done_from (with_taken a p.id.0 seat) p) S H graph lists told ports (record { nodes = refl; stock = refl; next_link = refl; told = refl; ports = refl })
    (λ q h. S.there q (of_filter (λ (x : Item). not (x.id.0 == p.id.0)) q a.world.pending h).0)
    (λ n node is away. out_but s.graph node a.world.pending (a.taken ++ taking p.id.0 seat ∷ []) p n S.items.sorted N.may.pending may away
    (writer_more node a.world.pending a.taken p.id.0 seat n (S.lent n node is away)))
