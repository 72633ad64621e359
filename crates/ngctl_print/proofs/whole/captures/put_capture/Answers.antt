use Rattle.std.proofs.Common.{◌≡◌, ℕ, ◌+◌, ◌<◌, List, ◌++◌, length, get_or, take, ap, ◌∙◌, append_assoc, sym}
use Rattle.std.proofs.lemmas.List.{flat_map_more, take_more}
use Rattle.std.specs.List.{flat_map}
use Rattle.ng_pcap.specs.Writing.{written_head, written_packet}
use Rattle.ngctl_print.proofs.whole.captures.put_capture.Goals as goal

-- one packet more
one_more : {X : Type 0} (f : X → List ℕ) (head old now next : List ℕ) (xs : List X) (i : ℕ) (d : X) → i < length xs
    → now ≡ old ++ (head ++ flat_map f (take i xs)) → next ≡ now ++ f (get_or xs i d)
    → next ≡ old ++ (head ++ flat_map f (take (i + 1) xs))
one_more f head old now next xs i d inside so_far more =
    more ∙ ap (λ (l : List ℕ). l ++ f (get_or xs i d)) so_far
    ∙ append_assoc old (head ++ flat_map f (take i xs)) (f (get_or xs i d))
    ∙ ap (λ (l : List ℕ). old ++ l) (flat_map_more f head (take i xs) (get_or xs i d))
    ∙ ap (λ (l : List _). old ++ (head ++ flat_map f l)) (sym (take_more xs i d inside))

pub loop-stamp-preserved : goal.loop-stamp-preserved
loop-stamp-preserved c =
    one_more (λ packet. written_packet packet.0 packet.1) written_head _ _ _ c.args.leaving.now c.loop-stamp.stamp-index
    c.loop-stamp-item.result c.loop-stamp-test.true c.loop-stamp.invariant (rw (← c.loop-stamp-item.is) c.in_ok-write_packet.ensures.ok)
