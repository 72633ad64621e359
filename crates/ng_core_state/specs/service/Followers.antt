-- What follows of an item: one that waits by itself, as an answer or what a bridge is to learn, and packets that are sent.
use Rattle.std.specs.Prelude.{ℕ, ◌==◌, Bool, true, false, not, nat_lt, List, length, [], ◌∷◌, ◌++◌, Option, Some, None}
use Rattle.ng_base.specs.declared.errno.Errno.{Errno}
use Rattle.ng_base.specs.declared.ids.NodeId.{NodeId}
use Rattle.ng_machine.specs.declared.body.Body.{Body}
use Rattle.ng_machine.specs.declared.body.Body.TheVariants.{Frame, Msg}
use Rattle.ng_machine.specs.declared.body.Door.TheVariants.{Hook as ByHook}
use Rattle.ng_machine.specs.declared.item.Item.{Item}
use Rattle.ng_machine.specs.declared.outcome.Outcome.{Outcome}
use Rattle.ng_machine.specs.Change.{Change, Accepts}
use Rattle.ng_machine.specs.Effect.{answered, counts_unless, exits, is_fine, learns, posts}
use Rattle.ng_machine.specs.Retire.{refuse}
use Rattle.ng_queue.specs.tie.TieLaws.{one}
use Rattle.ng_core_state.specs.declared.service.follower.Follower.{Follower}
use Rattle.ng_core_state.specs.service.Leaving.{arrival_hook, name_or_empty}

abbrev pub accepts_of : Option Follower → List Change
accepts_of None = []
accepts_of (Some x) = Accepts x.to x.body x.tag ∷ []

-- what a packet is to make its own node learn
abbrev pub learned_by : NodeId → Body → Option (List ℕ) → List Change
learned_by at (Frame door link packet) learn = learns at door link learn
learned_by at _ learn = []

-- what follows of an item and waits by itself: the answer of a message, or what a packet is to make its own node learn
abbrev pub followed_by : Item → Body → Option (List ℕ) → Option (List ℕ) → List Change
followed_by item (Msg msg) learn reply = answered item msg reply
followed_by item body learn reply = learned_by item.to body learn

-- an answer whose length its header can say: a number of 32 bits
abbrev pub is_short : Option (List ℕ) → Bool
is_short None = true
is_short (Some bytes) = nat_lt (length bytes) 0x100000000

-- the node that it waits at
abbrev pub target_if : {A : Type 0} → NodeId → Option A → Option NodeId
target_if to None = None
target_if to (Some x) = Some to

abbrev pub target_by : NodeId → Body → Option (List ℕ) → Option (List ℕ) → Option NodeId
target_by at (Msg msg) learn reply = target_if msg.from reply
target_by at (Frame (ByHook hook) (Some link) packet) learn reply = target_if at learn
target_by at _ learn reply = None

-- a node that is to get an item gets one of this number, or not
abbrev pub one_at : Option NodeId → ℕ → ℕ
one_at None n = 0
one_at (Some to) n = one (n == to.0)

abbrev pub target_of : Option Follower → Option NodeId
target_of None = None
target_of (Some x) = Some x.to

-- a message is refused with an error, which is told, and then nothing else follows
abbrev pub is_refused : Body → Errno → Bool
is_refused (Msg msg) errno = not (is_fine errno)
is_refused _ errno = false

abbrev pub follows_if : Bool → Item → Body → Outcome → List Change
follows_if true item body out = refuse item.tag out.errno
follows_if false item body out =
    exits (name_or_empty (arrival_hook body)) out.leaves
    ++ (counts_unless (is_fine out.errno) ++ (followed_by item body out.learn out.answer ++ posts out.sends))

abbrev pub follows : Item → Outcome → List Change
follows item out = follows_if (is_refused item.body out.errno) item item.body out
