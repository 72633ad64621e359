-- The cookies of messages. That of the messages which all nodes know is ng_message.h's; the others are this project's own.
use Rattle.std.specs.Prelude.{ℕ, ◌==◌, find, Option}
use Rattle.ng_base.specs.declared.kind.Kind.{Kind}
pub use Rattle.ng_base.specs.Kind.{cookie_of}
use Rattle.ng_base.specs.Kind.{kinds}
pub use Rattle.ng_message.specs.Numbers.{generic_cookie}

-- the type of node with the cookie
abbrev pub kind_with : ℕ → Option Kind
kind_with cookie = find (λ kind. cookie_of kind == cookie) kinds
