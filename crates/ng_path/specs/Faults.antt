-- What is wrong with bytes that are an invalid address, and which of several faults is told. The rules are those of
-- the grammar, broken; that one fault alone is told, and which, is this project's choice.
use Rattle.std.specs.Prelude.{◌≡◌, ◌≢◌, ◌+◌, ◌<◌, ℕ, ◌⊎◌, List, [], ◌∷◌, ◌++◌, length, sum_by}
use Rattle.ng_base.specs.Name.{IsName}
use Rattle.ng_path.specs.declared.path.Head.{Head}
use Rattle.ng_path.specs.declared.fault.PathFault.{PathFault}
use Rattle.ng_path.specs.declared.fault.PathFault.TheVariants.{TooLong, EmptyNode, SecondColon, TwoDots, BadName}
use Rattle.ng_path.specs.Segments.{cut_at}
use Rattle.ng_path.specs.Grammar.{IsNodeText}

-- what is wrong with a node part: nothing stands there, or what stands there is no node
abbrev pub IsNodeFault : List ℕ → PathFault → Type 0
IsNodeFault node TooLong = ⊥
IsNodeFault node EmptyNode = node ≡ []
IsNodeFault node (SecondColon place) = ⊥
IsNodeFault node (TwoDots place) = ⊥
IsNodeFault node (BadName place) = (place ≡ 0) × ((head : Head) → IsNodeText node head → ⊥)

-- neither empty nor a name
abbrev pub IsBadSegment : List ℕ → Type 0
IsBadSegment segment = (segment ≢ []) × (IsName segment → ⊥)

abbrev pub StartsWithDot : List ℕ → Type 0
StartsWithDot text = (rest : List ℕ) × (text ≡ 0x2e ∷ rest)

-- how many bytes the segments take, each with the dot behind it
abbrev pub dotted_length : List (List ℕ) → ℕ
dotted_length segments = sum_by (λ segment. length segment + 1) segments

-- two dots stand side by side, the first behind `place` bytes
pub record HasTwoDots (text : List ℕ) (place : ℕ) : Type 0 where
  pub front : List ℕ
  pub back : List ℕ
  pub whole : text ≡ front ++ (0x2e ∷ 0x2e ∷ back)
  pub at : place ≡ length front

-- of the segments between the dots, one that begins behind `place` bytes is neither empty nor a name
pub record HasBadSegment (text : List ℕ) (place : ℕ) : Type 0 where
  pub before : List (List ℕ)
  pub segment : List ℕ
  pub after : List (List ℕ)
  pub segments : cut_at 0x2e text ≡ before ++ segment ∷ after
  pub bad : IsBadSegment segment
  pub at : place ≡ dotted_length before

-- what is wrong with a hook part that begins at the place `from`
abbrev pub IsHookFault : ℕ → List ℕ → PathFault → Type 0
IsHookFault from text TooLong = ⊥
IsHookFault from text EmptyNode = ⊥
IsHookFault from text (SecondColon place) = ⊥
IsHookFault from text (TwoDots place) = (n : ℕ) × HasTwoDots text n × (place ≡ from + n)
IsHookFault from text (BadName place) = (n : ℕ) × HasBadSegment text n × (place ≡ from + n)

-- What is wrong with bytes that are cut at their colons. Without a colon they are one hook part, which isn't
-- empty. With a colon a node part comes first and then a hook part; a second colon is a fault itself, and
-- nothing behind it is looked at.
abbrev pub IsFaultOfSegments : List (List ℕ) → PathFault → Type 0
IsFaultOfSegments [] fault = ⊥
IsFaultOfSegments (hooks ∷ []) fault = ((hooks ≡ []) × (fault ≡ BadName 0)) ⊎ IsHookFault 0 hooks fault
IsFaultOfSegments (node ∷ hooks ∷ []) fault = IsNodeFault node fault ⊎ IsHookFault (length node + 1) hooks fault
IsFaultOfSegments (node ∷ hooks ∷ next ∷ others) fault =
    (IsNodeFault node fault ⊎ IsHookFault (length node + 1) hooks fault)
    ⊎ (fault ≡ SecondColon (length node + 1 + length hooks))

-- the bytes have this fault, perhaps beside others
abbrev pub HasFault : List ℕ → PathFault → Type 0
HasFault bytes fault = ((511 < length bytes) × (fault ≡ TooLong)) ⊎ IsFaultOfSegments (cut_at 0x3a bytes) fault

-- the lesser is told: TooLong, then an empty node, whose place is 0, and then by places
abbrev pub fault_rank : PathFault → ℕ
fault_rank TooLong = 0
fault_rank EmptyNode = 1
fault_rank (SecondColon place) = place + 2
fault_rank (TwoDots place) = place + 2
fault_rank (BadName place) = place + 2

-- of the faults that `Has` allows it comes first
pub record IsFirstOf (Has : PathFault → Type 0) (fault : PathFault) : Type 0 where
  pub there : Has fault
  pub first : (other : PathFault) → Has other → (other ≡ fault) ⊎ (fault_rank fault < fault_rank other)

-- the fault that is told of the bytes
abbrev pub IsFirstFault : List ℕ → PathFault → Type 0
IsFirstFault bytes fault = IsFirstOf (HasFault bytes) fault
