-- The numbers of a world, and what each change makes of them.
use Rattle.std.specs.Prelude.{ℕ, ◌+◌, ◌-◌, ◌^◌, ◌<◌, ◌≤◌, Bool, is_some, nat_le, List, length}
use Rattle.ng_base.specs.declared.cause.Cause.{Cause}
use Rattle.ng_base.specs.declared.cause.Cause.TheVariants.{NodeGone, HookGone, Budget}
use Rattle.ng_base.specs.declared.ids.Stamp.{Stamp}
use Rattle.ng_machine.specs.declared.item.Item.{Item}
use Rattle.ng_machine.specs.Words.{times}
use Rattle.ng_machine.specs.Body.{has_frame, has_tick}
use Rattle.ng_machine.specs.Change.{lost_for, most_spool}
use Rattle.ng_machine.specs.Feed.{later}
use Rattle.ng_machine.specs.Totals.{dropped_for}
use Rattle.ng_machine.specs.World.{World}
use Rattle.ng_queue.specs.tie.TieLaws.{one}
use Rattle.ng_queue.specs.declared.tally.tally.Tally.{Tally}

-- a command waits for the item
abbrev pub is_tagged : Item → Bool
is_tagged item = is_some item.tag

-- the numbers of a world
abbrev pub tally_of : World → Tally
tally_of w = record {
  done = length w.done;
  node_gone = dropped_for NodeGone w.dropped;
  hook_gone = dropped_for HookGone w.dropped;
  budget = dropped_for Budget w.dropped;
  lost = w.lost;
  refused = w.refused;
  spool = w.spool;
  fed = w.fed;
  applies = w.applies;
  next_item = w.next_item;
  clock = w.clock;
  command = w.command;
  pending = length w.pending;
  frames = times has_frame w.pending;
  ticks = times has_tick w.pending;
  tagged = times is_tagged w.pending;
}

-- What changes make of the numbers

-- an item is accepted
abbrev pub accepted : Tally → Item → Tally
accepted t item = record t {
  next_item = t.next_item + 1;
  pending = t.pending + 1;
  frames = t.frames + one (has_frame item);
  ticks = t.ticks + one (has_tick item);
  tagged = t.tagged + one (is_tagged item);
}

-- an item is applied, and is no longer pending
abbrev pub applied : Tally → Item → Tally
applied t item = record t {
  applies = t.applies + 1;
  pending = t.pending - 1;
  frames = t.frames - one (has_frame item);
  ticks = t.ticks - one (has_tick item);
  tagged = t.tagged - one (is_tagged item);
}

-- and it is done, or dropped since its hook is gone
abbrev pub done_with : Tally → Item → Tally
done_with t item = record (applied t item) { done = t.done + 1 }

abbrev pub without_hook : Tally → Item → Tally
without_hook t item = record (applied t item) { hook_gone = t.hook_gone + 1 }

-- a node goes, and these items of it
abbrev pub without_node : Tally → List Item → Tally
without_node t items = record t {
  node_gone = t.node_gone + length items;
  pending = t.pending - length items;
  frames = t.frames - times has_frame items;
  ticks = t.ticks - times has_tick items;
  tagged = t.tagged - times is_tagged items;
}

-- all that is pending is dropped at the limit
abbrev pub stopped : Tally → Tally
stopped t = record t { budget = t.budget + t.pending; pending = 0; frames = 0; ticks = 0; tagged = 0 }

abbrev pub lost_by : Tally → Cause → Tally
lost_by t cause = record t { lost = lost_for cause t.lost }

abbrev pub refused_one : Tally → Tally
refused_one t = record t { refused = t.refused + 1 }

-- a packet leaves, where there is room
abbrev pub spool_after : Tally → List ℕ → ℕ
spool_after t packet = t.spool + (16 + length packet)

abbrev pub may_leave : Tally → List ℕ → Bool
may_leave t packet = nat_le (spool_after t packet) most_spool

abbrev pub left_with : Tally → List ℕ → Tally
left_with t packet = record t { spool = spool_after t packet }

-- an input is fed; a command has its number, and a packet its time
abbrev pub fed_one : Tally → Tally
fed_one t = record t { fed = t.fed + 1 }

abbrev pub with_command : Tally → ℕ → Tally
with_command t number = record t { command = number }

abbrev pub with_time : Tally → Stamp → Tally
with_time t stamp = record t { clock = later t.clock stamp }

-- What the changes ask

-- what rises with each accepted, lost or refused packet
abbrev pub made : Tally → ℕ
made t = t.next_item + (t.lost.no_peer + (t.lost.node_gone + (t.lost.full + (t.lost.spool + t.refused))))

-- each item is pending, done or dropped
abbrev pub settled : Tally → ℕ
settled t = t.done + (t.node_gone + (t.hook_gone + (t.budget + t.pending)))

-- the numbers are so far below the ends of their types
pub record HasNumbers (k : ℕ) (t : Tally) : Type 0 where
  pub made : made t + k < 2 ^ 63
  pub settled : settled t + k < 2 ^ 63
  pub applies : t.applies + k < 2 ^ 63
  pub frames : t.frames + k < 2 ^ 63
  pub ticks : t.ticks + k < 2 ^ 63
  pub tagged : t.tagged + k < 2 ^ 63
  pub spool : t.spool ≤ most_spool

-- the items are among those that are counted
pub record HasCounted (t : Tally) (items : List Item) : Type 0 where
  pub pending : length items ≤ t.pending
  pub frames : times has_frame items ≤ t.frames
  pub ticks : times has_tick items ≤ t.ticks
  pub tagged : times is_tagged items ≤ t.tagged

-- and one of them
pub record Counts (t : Tally) (item : Item) : Type 0 where
  pub pending : 1 ≤ t.pending
  pub frames : one (has_frame item) ≤ t.frames
  pub ticks : one (has_tick item) ≤ t.ticks
  pub tagged : one (is_tagged item) ≤ t.tagged
