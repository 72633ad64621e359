-- No message and no order has a name that is longer than a header has room for.
use Rattle.std.proofs.Common.{◌≡◌, ℕ, ◌≤◌, ◌⊎◌, Bool, true, false, List, [], ◌∷◌, length, Option, Some, None, is_some, refl, sym, subst, ⊎_elim, inl, inr, rules, true≢false}
use Rattle.std.specs.Prelude.{nat_le, option_map}
use Rattle.std.specs.List.{AllByRecursion}
use Rattle.std.specs.Str.{bytes_eq}
use Rattle.std.proofs.lemmas.Bool.{cases_Bool, leb-true}
use Rattle.std.proofs.lemmas.Slice.Eq.{bytes_eq-Decides}
use Rattle.ng_base.specs.declared.kind.Kind.{Kind}
use Rattle.ng_base.specs.declared.kind.Kind.TheVariants.{Hub, Hole, Echo, Tee, Split, One2many, Bridge, Vlan, Patch, Bpf, Ether, Socket, Etf, Macset}
use Rattle.ng_machine.specs.declared.command.What.{What}
use Rattle.ng_machine.specs.declared.command.What.TheVariants.{Bad, Config, Connect, Help, List as Lists, Mkpeer, Msg as Asked, Name, Quit, Rmhook, Show, Shutdown, Status, Types, Write}
use Rattle.ng_machine.specs.Feed.{Reads, request_of}
use Rattle.ng_table.specs.Message.{Message}
use Rattle.ng_table.specs.Cookie.{cookie_of, generic_cookie}
use Rattle.ng_table.specs.Generic.{generic_messages}
use Rattle.ng_table.specs.Table.{either, find_by_name, find_name, messages_of}
use Rattle.ng_table.specs.reading.Reading.{reading, read_by}
use Rattle.ng_core.specs.intake.Asked.{FitsHeader}

abbrev IsShort : Message → Type 0
IsShort m = nat_le (length m.name) 32 ≡ true

found_short : (messages : List Message) (name : List ℕ) → AllByRecursion IsShort messages → is_some (find_by_name messages name) ≡ true → length name ≤ 32
found_short [] name all is = absurd (true≢false (sym is))
found_short (m ∷ ms) name all is = elim (cases_Bool (bytes_eq m.name name)) [
  | inl same ↦ subst (λ (n : List ℕ). length n ≤ 32) ((bytes_eq-Decides m.name name).0 same) (leb-true (length m.name) 32 all.0)
  | inr other ↦ found_short ms name all.1 (rw other at is)
]

own_short : (kind : Kind) → AllByRecursion IsShort (messages_of kind)
own_short Hub = search rules
own_short Hole = search rules
own_short Echo = search rules
own_short Tee = search rules
own_short Split = search rules
own_short One2many = search rules
own_short Bridge = search rules
own_short Vlan = search rules
own_short Patch = search rules
own_short Bpf = search rules
own_short Ether = search rules
own_short Socket = search rules
own_short Etf = search rules
own_short Macset = search rules

generic_short : AllByRecursion IsShort generic_messages
generic_short = search rules

is_found : (o : Option (ℕ × Message)) (text : List ℕ) (cookie number : ℕ) (args : List ℕ) → read_by o text ≡ Reads cookie number args → is_some o ≡ true
is_found None text cookie number args e = absurd (cc)
is_found (Some x) text cookie number args e = refl

either_some : (a b : Option (ℕ × Message)) → is_some (either a b) ≡ true → (is_some a ≡ true) ⊎ (is_some b ≡ true)
either_some None b e = inr e
either_some (Some x) b e = inl refl

mapped_some : (f : Message → ℕ × Message) (o : Option Message) → is_some (option_map f o) ≡ true → is_some o ≡ true
mapped_some f None e = e
mapped_some f (Some m) e = refl

-- to move to ng_table
pub read_short : (kind : Kind) (name text : List ℕ) (cookie number : ℕ) (args : List ℕ) → reading kind name text ≡ Reads cookie number args → length name ≤ 32
read_short kind name text cookie number args e =
    let own : Option (ℕ × Message) = option_map (λ message. (cookie_of kind, message)) (find_by_name (messages_of kind) name) in
    let all : Option (ℕ × Message) = option_map (λ message. (generic_cookie, message)) (find_by_name generic_messages name) in
    ⊎_elim
    (λ (is : is_some own ≡ true). found_short (messages_of kind) name (own_short kind) (mapped_some (λ message. (cookie_of kind, message)) (find_by_name (messages_of kind) name) is))
    (λ (is : is_some all ≡ true). found_short generic_messages name generic_short (mapped_some (λ message. (generic_cookie, message)) (find_by_name generic_messages name) is))
    (either_some own all (is_found (find_name kind name) text cookie number args e))

listed : (named : Bool) → FitsHeader (request_of (Lists named))
listed true = leb-true 9 32 refl
listed false = leb-true 9 32 refl

shown : (brief : Bool) (path : List ℕ) → FitsHeader (request_of (Show brief path))
shown true path = leb-true 8 32 refl
shown false path = leb-true 9 32 refl

pub orders_fit : (what : What) → FitsHeader (request_of what)
orders_fit (Bad why) = tt
orders_fit (Config path args) = leb-true 10 32 refl
orders_fit (Connect path relpath hook peerhook) = leb-true 7 32 refl
orders_fit (Help command) = tt
orders_fit (Lists named) = listed named
orders_fit (Mkpeer path kind_name hook peerhook) = leb-true 6 32 refl
orders_fit (Asked path command args) = tt
orders_fit (Name path name) = leb-true 4 32 refl
orders_fit Quit = tt
orders_fit (Rmhook path hook) = leb-true 6 32 refl
orders_fit (Show brief path) = shown brief path
orders_fit (Shutdown path) = leb-true 8 32 refl
orders_fit (Status path) = leb-true 10 32 refl
orders_fit Types = leb-true 9 32 refl
orders_fit (Write hook bytes) = tt
