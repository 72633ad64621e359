-- A message of its node's own type that reads.
use Rattle.std.proofs.Common.{◌≡◌, Bool, true, false, ◌&&◌, ◌==◌, refl}
use Rattle.std.proofs.lemmas.Bool.{eqb-true}
use Rattle.ng_base.specs.Kind.{cookie_of, same_kind}
use Rattle.ng_base.specs.declared.kind.Kind.{Kind}
use Rattle.ng_base.specs.declared.kind.Kind.TheVariants.{Socket}
use Rattle.ng_message.specs.declared.message.Msg.{Msg as Message}
use Rattle.ng_message.specs.Numbers.{generic_cookie}
use Rattle.ng_machine.specs.Effect.{OfKind, class_by, class_of, is_answer}

own_by : (a b c : Bool) → class_by a b c ≡ OfKind → c ≡ true
own_by true b c e = absurd (cc)
own_by false true c e = absurd (cc)
own_by false false true e = refl
own_by false false false e = absurd (cc)

-- its cookie is the type's
pub own_cookie : (kind : Kind) (msg : Message) → class_of kind msg ≡ OfKind → msg.header.typecookie ≡ cookie_of kind
own_cookie kind msg e = eqb-true msg.header.typecookie (cookie_of kind) (own_by (is_answer msg && same_kind kind Socket) (msg.header.typecookie == generic_cookie) (msg.header.typecookie == cookie_of kind) e)
