-- Both are six bytes.
use Rattle.ng_plan.proofs.lookup.AddressLemmas.{same_address}
use Rattle.ng_plan.proofs.lookup.key.same_address.Goals as goal

pub returns : goal.returns
returns c = same_address c.args.one.now c.args.other.now c.told-one c.told-other (record { below = c.fits-one }) (record { below = c.fits-other }) c.requires
