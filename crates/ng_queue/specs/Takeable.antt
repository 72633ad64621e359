-- Which item may be taken, in the machine's words for one node: it waits and nothing before it does; no writer is out; a
-- writer finds nothing out; and nothing that is out has its lane.
use Rattle.std.specs.Prelude.{◌≡◌, false, List, Some, None}
use Rattle.ng_machine.specs.declared.item.Item.{Item}
use Rattle.ng_machine.specs.Body.{lane_of, share_lane}
use Rattle.ng_machine.specs.Words.{Has}
use Rattle.ng_queue.specs.declared.entry.Mark.{Mark}
use Rattle.ng_queue.specs.declared.entry.Entry.{Entry}
use Rattle.ng_queue.specs.declared.entry.Entry.TheVariants.{Out}
use Rattle.ng_queue.specs.Queue.{head, hold_of}

-- the item of this mark is out
abbrev pub HasMark : Mark → List Entry → Type 0
HasMark mark entries = let entry : Entry = Out mark in Has entry entries

pub record IsTakeable (entries : List Entry) (item : Item) : Type 0 where
  pub first : head entries ≡ Some item
  pub no_writer : (mark : Mark) → HasMark mark entries → mark.writer ≡ false
  pub alone : (mark : Mark) → HasMark mark entries → item.writer ≡ false
  pub other_lanes : (mark : Mark) → HasMark mark entries → share_lane mark.lane (lane_of item.body) ≡ false

-- a queue that holds nothing back lets its head be taken, and the other way round
abbrev pub FreeIsTakeable : Type 0
FreeIsTakeable = (entries : List Entry) (item : Item) → head entries ≡ Some item → hold_of entries ≡ None → IsTakeable entries item

abbrev pub TakeableIsFree : Type 0
TakeableIsFree = (entries : List Entry) (item : Item) → IsTakeable entries item → hold_of entries ≡ None
