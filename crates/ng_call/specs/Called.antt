-- What a call is given, and what stands outside of it before and after, in the words of its clause.
use Rattle.std.specs.Prelude.{ℕ, List, map, Option, String, string_bytes}
use Rattle.ng_base.specs.declared.kind.Kind.{Kind}
use Rattle.ng_machine.specs.State.{State, kind_of}
use Rattle.ng_outside.specs.Contents.{Contents}
use Rattle.ng_call.specs.ending.Outside.{Outside}
use Rattle.ng_call.specs.Parts.{counting, outside, storing}

-- the kinds of the blank nodes
abbrev pub kinds_of : {B : Type 0} → (B → State) → List B → List Kind
kinds_of state stock = map (λ b. kind_of (state b)) stock

-- the bytes of the words
abbrev pub texts : {Z : Type 0} → List (String Z) → List (List ℕ)
texts words = map (λ word. string_bytes word) words

-- a sink and files before the call and after it, with what they hold, where it is told, and their counts of faults
abbrev pub happened : {O F : Type 0} (held : O → Option (List ℕ)) (faults : O → ℕ) (holds : F → List ℕ → Contents)
    (fails : F → List ℕ → ℕ) (out out_now : O) (files files_now : F) → Outside
happened held faults holds fails out out_now files files_now =
    outside (storing (held out) (holds files)) (storing (held out_now) (holds files_now))
    (counting (faults out) (fails files)) (counting (faults out_now) (fails files_now))
