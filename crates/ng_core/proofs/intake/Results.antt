-- What a result says.
use Rattle.std.specs.Prelude.{Result, Ok, Err, IfOk, OnOk, OnErr}

-- what follows for the value
pub if_ok : {A E : Type 0} (P Q : A → Type 0) (r : Result A E) → ((x : A) → P x → Q x) → IfOk r P → IfOk r Q
if_ok P Q (Ok x) f p = f x p
if_ok P Q (Err e) f p = p

pub on_ok : {A E P Q : Type 0} (r : Result A E) → (P → Q) → OnOk r P → OnOk r Q
on_ok (Ok x) f p = f p
on_ok (Err x) f p = p

-- what follows in both cases
pub either_way : {A E P Q R : Type 0} (r : Result A E) → (P → R) → (Q → R) → OnOk r P → OnErr r Q → R
either_way (Ok x) f h p q = f p
either_way (Err x) f h p q = h q
