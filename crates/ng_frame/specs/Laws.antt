-- What tags do to frames, over every list of bytes. (IEEE 802.1Q)
use Rattle.std.specs.Prelude.{◌≡◌, ℕ, ◌^◌, ◌<◌, ◌≤◌, List, length, Some, All}
use Rattle.ng_frame.specs.Frame.{ethertype, tag_control, tag_control_of, tag_of, IsTagged, without_tag, with_tag}

-- a frame comes back whole from a tag of any control information
abbrev pub ComesBack : Type 0
ComesBack = (kind control : ℕ) (frame : List ℕ) → 12 ≤ length frame → without_tag (with_tag kind control frame) ≡ frame

-- The tag that was put into a frame is found in it, with the number of its VLAN and the ethertype that the frame had.
abbrev pub IsFoundAgain : Type 0
IsFoundAgain =
    (kind vlan : ℕ) (frame : List ℕ) →
    kind < 2 ^ 16 → vlan < 2 ^ 12 → 14 ≤ length frame
    → tag_of kind (with_tag kind vlan frame) ≡ Some (vlan, ethertype frame)

-- the same of a tag with any priority, and whether or not the frame may be dropped first
abbrev pub IsFoundAtAnyPriority : Type 0
IsFoundAtAnyPriority =
    (kind priority drop_eligible vlan : ℕ) (frame : List ℕ) →
    kind < 2 ^ 16 → priority < 2 ^ 3 → drop_eligible < 2 → vlan < 2 ^ 12 → 14 ≤ length frame →
    tag_of kind (with_tag kind (tag_control priority drop_eligible vlan) frame) ≡ Some (vlan, ethertype frame)

-- a tagged frame is its own tag control information, put into what is left of it without the tag
abbrev pub IsTagOfTheRest : Type 0
IsTagOfTheRest =
    (kind : ℕ) (frame : List ℕ) → All (λ byte. byte < 256) frame → IsTagged kind frame
    → with_tag kind (tag_control_of frame) (without_tag frame) ≡ frame
