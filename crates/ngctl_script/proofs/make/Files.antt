-- A file with one packet more.
use Rattle.std.proofs.Common.{◌≡◌, ℕ, ◌+◌, ◌*◌, List, [], ◌∷◌, ◌++◌, map, sym, ap, ◌∙◌, arith}
use Rattle.std.specs.List.{flat_map, range_with_len}
use Rattle.std.proofs.lemmas.List.{append_assoc, append-nil}
use Rattle.std.proofs.lemmas.List.FromFn.{map-range_with_len_more}
use Rattle.ng_base.specs.declared.ids.Stamp.{Stamp}
use Rattle.ng_pcap.specs.Writing.{written_head, written_packet, written_file}
use Rattle.ngctl_script.specs.make.Made.{made_packet, packet_bytes}

one_more : {A B : Type 0} (f : A → List B) (xs : List A) (x : A) → flat_map f (xs ++ x ∷ []) ≡ flat_map f xs ++ f x
one_more f [] x = append-nil (f x)
one_more f (y ∷ xs) x = ap (λ rest. f y ++ rest) (one_more f xs x) ∙ sym (append_assoc (f y) (flat_map f xs) (f x))

file_more : (packets : List (Stamp × List ℕ)) (packet : Stamp × List ℕ) → written_file (packets ++ packet ∷ []) ≡ written_file packets ++ written_packet packet.0 packet.1
file_more packets packet =
    ap (λ rest. written_head ++ rest) (one_more (λ p. written_packet p.0 p.1) packets packet)
    ∙ sym (append_assoc written_head (flat_map (λ p. written_packet p.0 p.1) packets) (written_packet packet.0 packet.1))

pub one_packet_more : (n k : ℕ) → written_file (map (made_packet n) (range_with_len 0 (k + 1)))
    ≡ written_file (map (made_packet n) (range_with_len 0 k)) ++ written_packet (record { 0 = k * 1000 }) (packet_bytes n k)
one_packet_more n k =
    ap written_file (map-range_with_len_more (made_packet n) 0 k k (omega arith))
    ∙ file_more (map (made_packet n) (range_with_len 0 k)) (made_packet n k)
