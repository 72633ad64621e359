-- Bytes that are no address lead nowhere.
-- to move to ng_path
use Rattle.std.proofs.Common.{◌≡◌, ℕ, List, Result, Ok, Err, IsOkAnd, refl}
use Rattle.std.specs.declared.option.Option.{Option}
use Rattle.std.specs.declared.option.Option.TheVariants.{None, Some}
use Rattle.ng_path.specs.Address.{Address, read_address, ReadsAddress}
use Rattle.ng_path.specs.Grammar.{IsPath}
use Rattle.ng_path.specs.declared.path.Head.{Head}
use Rattle.ng_path.specs.declared.path.Path.{Path}
use Rattle.ng_path.specs.declared.fault.PathFault.{PathFault}

pub no_address : (bytes : List ℕ) (r : Result Path PathFault) (fault : PathFault) → ReadsAddress → r ≡ Err fault
    → ((head : Head) (hooks : List (List ℕ)) → IsPath bytes head hooks → IsOkAnd r (λ path. (path.head ≡ head) × (path.hooks ≡ hooks)))
    → read_address bytes ≡ None
no_address bytes (Ok path) fault law e read = absurd (cc)
no_address bytes (Err other) fault law e read = by (read_address bytes) refl
  where
    by : (o : Option Address) → read_address bytes ≡ o → read_address bytes ≡ None
    by None is = is
    by (Some address) is = absurd (read address.head address.hooks ((law bytes address.head address.hooks).0 is))
