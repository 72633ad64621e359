-- The fields of an order, and entries with their count.
use Rattle.std.proofs.Common.{◌≡◌, ℕ, ◌+◌, ◌-◌, ◌++◌, List, [], ◌∷◌, length, take, drop, map, flat_map, slice_range, ap, refl, arith, ◌∙◌, Option, Some, None, Result, Ok, Err, IfSome, IfNone, sym}
use Rattle.std.proofs.lemmas.List.{length-map}
use Rattle.byteorder.specs.Endian.{little_bytes}
use Rattle.std.specs.Option.{ok_or}
use Rattle.ng_base.specs.declared.errno.Errno.{Errno}
use Rattle.ng_machine.specs.Errors.{einval}
use Rattle.ng_machine.specs.Order as machine
use Rattle.ng_machine.specs.asking.Orders.{order_of, read_as}
use Rattle.ng_machine.specs.declared.asking.order.Order.{Order}
use Rattle.ng_machine.specs.Generic.{with_count}

pub field : (args : List ℕ) (at : ℕ) → slice_range args at (at + 32) ≡ take 32 (drop at args)
field args at = let e : at + 32 - at ≡ 32 = omega arith in ap (λ (n : ℕ). take n (drop at args)) e

-- an order that was read, or einval
pub answered : (read : Option Order) (is : Result machine.Order Errno) (P : Order → Type 0)
    → IfSome read (λ order. (is ≡ Ok (order_of order)) × P order) → IfNone read (is ≡ Err einval)
    → read_as (ok_or read einval) ≡ is
answered None is P some none = sym none
answered (Some order) is P some none = sym some.0

-- what is laid out one by one is what is laid out as one list of entries
pub joined : {X : Type 0} (f : X → List ℕ) (xs : List X) → flat_map (λ entry. entry) (map f xs) ≡ flat_map f xs
joined f [] = refl
joined f (x ∷ xs) = ap (λ (rest : List ℕ). f x ++ rest) (joined f xs)

pub counted : {X : Type 0} (f : X → List ℕ) (xs : List X) → with_count (map f xs) ≡ little_bytes 4 (length xs) ++ flat_map f xs
counted f xs =
    ap (λ (n : ℕ). little_bytes 4 n ++ flat_map (λ entry. entry) (map f xs)) (length-map xs f)
    ∙ ap (λ (rest : List ℕ). little_bytes 4 (length xs) ++ rest) (joined f xs)
