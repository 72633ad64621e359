-- The changes of orders by what was found.
use Rattle.std.proofs.Common.{◌≡◌, ℕ, List, Result, Ok, Err, ap}
use Rattle.std.specs.declared.option.Option.{Option}
use Rattle.std.specs.declared.option.Option.TheVariants.{None, Some}
use Rattle.ng_base.specs.declared.errno.Errno.{Errno}
use Rattle.ng_base.specs.declared.ids.NodeId.{NodeId}
use Rattle.ng_machine.specs.declared.item.Item.{Item}
use Rattle.ng_machine.specs.Change.{Change}
use Rattle.ng_machine.specs.Connect.{connect, connect_to, unless}
use Rattle.ng_machine.specs.Errors.{einval, enoent}
use Rattle.ng_machine.specs.Retire.{refuse}
use Rattle.ng_machine.specs.Walk.{walk}
use Rattle.ng_machine.specs.World.{World, NodeRecord}
use Rattle.ng_core_apply.specs.orders.Found.{found_by, or_nowhere}
use Rattle.ng_path.specs.Address.{Address}

same_err : (a b : Errno) → (let r : Result NodeId Errno = Err a in r) ≡ Err b → a ≡ b
same_err a b e = cc

same_ok : (a b : NodeId) → (let r : Result NodeId Errno = Ok a in r) ≡ Ok b → a ≡ b
same_ok a b e = cc

pub connect_refused : (w : World) (item : Item) (node : NodeRecord) (address : Option Address) (ours theirs : List ℕ) (errno : Errno) → found_by w item.to address ≡ Err errno → connect w item node address ours theirs ≡ refuse item.tag errno
connect_refused w item node None ours theirs errno e = ap (refuse item.tag) (same_err einval errno e)
connect_refused w item node (Some address) ours theirs errno e = by (walk w item.to address) e
  where
    by : (o : Option NodeId) → or_nowhere o ≡ Err errno → connect_to w item node o ours theirs ≡ refuse item.tag errno
    by None e = ap (refuse item.tag) (same_err enoent errno e)
    by (Some id) e = absurd (cc)

pub connect_found : (w : World) (item : Item) (node : NodeRecord) (address : Option Address) (ours theirs : List ℕ) (peer : NodeId) → found_by w item.to address ≡ Ok peer → connect w item node address ours theirs ≡ connect_to w item node (Some peer) ours theirs
connect_found w item node None ours theirs peer e = absurd (cc)
connect_found w item node (Some address) ours theirs peer e = by (walk w item.to address) e
  where
    by : (o : Option NodeId) → or_nowhere o ≡ Ok peer → connect_to w item node o ours theirs ≡ connect_to w item node (Some peer) ours theirs
    by None e = absurd (cc)
    by (Some id) e = ap (λ (p : NodeId). connect_to w item node (Some p) ours theirs) (same_ok id peer e)

pub unless_refused : (o : Option Errno) (errno : Errno) (tag : Option ℕ) (changes : List Change) → o ≡ Some errno → unless o tag changes ≡ refuse tag errno
unless_refused o errno tag changes e = ap (λ (p : Option Errno). unless p tag changes) e

pub unless_free : (o : Option Errno) (tag : Option ℕ) (changes : List Change) → o ≡ None → unless o tag changes ≡ changes
unless_free o tag changes e = ap (λ (p : Option Errno). unless p tag changes) e
