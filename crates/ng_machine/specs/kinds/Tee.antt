-- ng_tee(4): a packet that comes by right goes out of right2left and then left, and one by left out of left2right and then
-- right; one by right2left goes out of right, and one by left2right out of left. The counters of a hook belong to its name,
-- and stay when the hook goes.
use Rattle.std.specs.Prelude.{ℕ, if◌then◌else◌, List, [], ◌∷◌, ◌++◌, map, length}
use Rattle.std.specs.List.{filter, flat_map}
use Rattle.std.specs.Str.{bytes_eq}
use Rattle.ng_base.specs.Names.{has_name}
use Rattle.ng_machine.specs.declared.body.Door.{Door}
use Rattle.ng_machine.specs.declared.body.Door.TheVariants.{Wire, Hook}
use Rattle.ng_machine.specs.declared.outcome.Outcome.{Outcome}
use Rattle.ng_machine.specs.Names.{left, right, left2right, right2left}
use Rattle.ng_machine.specs.Counters.{Rows, zeros, row_bytes, counts_packet, counts_packets}
use Rattle.ng_machine.specs.Outcome.{nothing, Reply, sets, answers, with_length, by_number}

-- a row is inOctets, inFrames, outOctets and outFrames
abbrev pub blank_tee : Rows
blank_tee = map (λ hook. (hook, zeros 4)) (right ∷ left ∷ right2left ∷ left2right ∷ [])

-- where a packet by this hook goes, as far as the hooks are there
abbrev pub onward : List ℕ → List (List ℕ)
onward hook =
    if bytes_eq hook right then right2left ∷ left ∷ []
    else if bytes_eq hook left then left2right ∷ right ∷ []
    else if bytes_eq hook right2left then right ∷ []
    else left ∷ []

abbrev pub copies : List ℕ → List (List ℕ) → List ℕ → Outcome
copies hook others packet = record nothing {
  sends = map (λ other. (other, packet)) others;
  counts = counts_packet 1 0 hook (length packet) ++ counts_packets 3 2 others (length packet);
}

abbrev pub tees : List (List ℕ) → Door → List ℕ → Outcome
tees hooks (Hook hook) packet = copies hook (filter (has_name hooks) (onward hook)) packet
tees hooks Wire packet = nothing

-- struct ng_tee_stats: right, left, right2left, left2right
abbrev pub tee_bytes : Rows → List ℕ
tee_bytes rows = flat_map (λ row. row_bytes row.1) rows

abbrev pub tee_clear : Rows → Rows
tee_clear rows = map (λ row. (row.0, zeros 4)) rows

-- getstats 1, clrstats 2, getclrstats 3 (NGM_TEE_GET_STATS and so on)
abbrev pub tee_messages : Rows → List ℕ → List (ℕ × Reply Rows)
tee_messages s args =
    (0x20000001, with_length s 0 args (answers s (tee_bytes s)))
    ∷ (2, with_length s 0 args (sets (tee_clear s)))
    ∷ (0x20000003, with_length s 0 args (answers (tee_clear s) (tee_bytes s)))
    ∷ []

abbrev pub tee_message : Rows → ℕ → List ℕ → Reply Rows
tee_message s number args = by_number s number (tee_messages s args)
