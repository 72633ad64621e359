-- A tagged frame is its addresses, its TPID, its tag control information and the rest, each once.
use Rattle.std.proofs.Common.{◌≡◌, ℕ, ◌<◌, ◌≤◌, List, ◌++◌, length, take, drop, get_or, refl, sym, ap, ◌∙◌, append_assoc, inl, inr, arith}
use Rattle.std.specs.Prelude.{slice_range, All}
use Rattle.std.specs.Int.{w16, to_be_bytes}
use Rattle.std.proofs.lemmas.Bool.{cases_lt}
use Rattle.std.proofs.lemmas.List.{take_at, drop_at, take-append-drop, length-take, length-drop, get_or_past}
use Rattle.std.proofs.lemmas.List.Elements.{All-get_or, All-take, All-drop}
use Rattle.std.proofs.lemmas.List.Folds.{drop_split}
use Rattle.std.proofs.lemmas.Nat.{be_bytes_2}
use Rattle.ng_frame.specs.Frame.{tpid, tag_control_of, without_tag, with_tag}
use Rattle.ng_frame.proofs.laws.with_tag_of_without_tag.Goals as goal

-- a list as its front, two parts and its rest
parts : (xs : List ℕ) → xs ≡ take 12 xs ++ (slice_range xs 12 14 ++ (slice_range xs 14 16 ++ drop 16 xs))
parts xs =
    sym (take-append-drop 12 xs)
    ∙ ap (λ (ys : List ℕ). take 12 xs ++ ys) (drop_split xs 12 14 (omega arith))
    ∙ ap (λ (ys : List ℕ). take 12 xs ++ (slice_range xs 12 14 ++ ys)) (drop_split xs 14 16 (omega arith))

-- each element of a list of bytes is a byte, and so is the 0 past its end
byte_at : (xs : List ℕ) → All (λ byte. byte < 256) xs → (i : ℕ) → get_or xs i 0 < 256
byte_at xs bytes i =
    elim (cases_lt i (length xs)) [
      | inl lt ↦ All-get_or (λ byte. byte < 256) xs i 0 lt bytes
      | inr le ↦ rw (get_or_past xs i 0 le) (omega arith)
    ]

-- two bytes, read as a number and written again
control_again : (xs : List ℕ) → 16 ≤ length xs → All (λ byte. byte < 256) xs → to_be_bytes w16 (tag_control_of xs) ≡ slice_range xs 14 16
control_again xs long bytes =
    be_bytes_2 (slice_range xs 14 16) _
    (omega (arith, length-take 2 (drop 14 xs), length-drop 14 xs))
    (byte_at (slice_range xs 14 16) (All-take (λ byte. byte < 256) 2 (drop 14 xs) (All-drop (λ byte. byte < 256) 14 xs bytes)))
    refl

pub returns : goal.returns
returns c kind frame bytes is_tagged =
    let long : 12 ≤ length frame = omega (arith, is_tagged.long) in
    let front_len : length (take 12 frame) ≡ 12 = omega (arith, length-take 12 frame) in
    let front : take 12 (without_tag frame) ≡ take 12 frame = take_at (take 12 frame) (drop 16 frame) 12 front_len in
    let rest : drop 12 (without_tag frame) ≡ drop 16 frame = drop_at (take 12 frame) (drop 16 frame) 12 front_len in
    let control : to_be_bytes w16 (tag_control_of frame) ≡ slice_range frame 14 16 = control_again frame (omega (arith, is_tagged.long)) bytes in
    let whole : with_tag kind (tag_control_of frame) (without_tag frame) ≡ ((take 12 frame ++ slice_range frame 12 14) ++ slice_range frame 14 16) ++ drop 16 frame =
    ap (λ (ys : List ℕ). ((ys ++ tpid kind) ++ to_be_bytes w16 (tag_control_of frame)) ++ drop 12 (without_tag frame)) front
    ∙ ap (λ (ys : List ℕ). ((take 12 frame ++ ys) ++ to_be_bytes w16 (tag_control_of frame)) ++ drop 12 (without_tag frame)) (sym is_tagged.protocol)
    ∙ ap (λ (ys : List ℕ). ((take 12 frame ++ slice_range frame 12 14) ++ ys) ++ drop 12 (without_tag frame)) control
    ∙ ap (λ (ys : List ℕ). ((take 12 frame ++ slice_range frame 12 14) ++ slice_range frame 14 16) ++ ys) rest
    in
    whole ∙ simp append_assoc (sym (parts frame))
