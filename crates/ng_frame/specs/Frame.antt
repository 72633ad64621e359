-- An Ethernet frame (IEEE 802.3) is the bytes of its destination, of its source and of its ethertype, and then its
-- data. A tag (IEEE 802.1Q) stands between source and ethertype:
--
--   from byte   bytes   part
--           0       6   destination address
--           6       6   source address
--          12       2   tag protocol identifier (TPID), which says that this is a tag
--          14       2   tag control information (TCI)
--          16       2   the ethertype that the frame has without its tag
use Rattle.std.specs.Prelude.{◌≡◌, ℕ, ◌+◌, ◌*◌, ◌%◌, ◌^◌, ◌≤◌, List, ◌++◌, length, take, drop, slice_range, Option, Some, None, ◌&&◌, nat_le, if◌then◌else◌}
use Rattle.std.specs.Int.{w16, to_be_bytes, from_be_bytes}
use Rattle.std.specs.Str.{bytes_eq}

-- the ethertype of a frame that has no tag
abbrev pub ethertype : List ℕ → List ℕ
ethertype frame = slice_range frame 12 14

-- the two TPIDs: of a customer VLAN tag (C-TAG) and of a service VLAN tag (S-TAG, IEEE 802.1ad)
abbrev pub customer_tag : ℕ
customer_tag = 0x8100

abbrev pub service_tag : ℕ
service_tag = 0x88a8

-- a TPID as its two bytes
abbrev pub tpid : ℕ → List ℕ
tpid kind = to_be_bytes w16 kind

-- The sixteen bits of tag control information: from the highest, three bits of priority (PCP), one bit that says
-- whether the frame may be dropped first (DEI), and twelve bits of VLAN identifier (VID).
abbrev pub tag_control : ℕ → ℕ → ℕ → ℕ
tag_control priority drop_eligible vlan = priority * 2 ^ 13 + drop_eligible * 2 ^ 12 + vlan

-- the VLAN identifier in tag control information
abbrev pub vlan_identifier : ℕ → ℕ
vlan_identifier control = control % 2 ^ 12

-- the frame has room for a tag and an ethertype behind it, and its tag has this TPID
pub record IsTagged (kind : ℕ) (frame : List ℕ) : Type 0 where
  pub long : 18 ≤ length frame
  pub protocol : slice_range frame 12 14 ≡ tpid kind

-- the tag control information of a frame with a tag
abbrev pub tag_control_of : List ℕ → ℕ
tag_control_of frame = from_be_bytes w16 (slice_range frame 14 16)

-- the VLAN identifier of a frame's tag and the ethertype behind it, where the frame has a tag of this TPID
abbrev pub tag_of : ℕ → List ℕ → Option (ℕ × List ℕ)
tag_of kind frame =
    if nat_le 18 (length frame) && bytes_eq (slice_range frame 12 14) (tpid kind)
    then Some (vlan_identifier (tag_control_of frame), slice_range frame 16 18)
    else None

-- the frame without the four bytes of its tag
abbrev pub without_tag : List ℕ → List ℕ
without_tag frame = take 12 frame ++ drop 16 frame

-- the frame with a tag of this TPID and this control information
abbrev pub with_tag : ℕ → ℕ → List ℕ → List ℕ
with_tag kind control frame = take 12 frame ++ tpid kind ++ to_be_bytes w16 control ++ drop 12 frame
