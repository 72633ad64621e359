-- One more place under a name.
use Rattle.ng_plan.proofs.lookup.Naming.{indexed-push}
use Rattle.ng_plan.proofs.lookup.by_name.places_of.Goals as goal

pub loop-place-preserved : goal.loop-place-preserved
loop-place-preserved g c =
    indexed-push g.T.Named.name_of c.args.entries.now c.loop-place.place c.index-entries-place.result c.loop-place.places c.put_first.new.places
    c.loop-place-test.true c.index-entries-place.is c.loop-place.invariant (rw c.name.ensures at c.in_ok-put_first.ensures)
