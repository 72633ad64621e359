-- Every change of an effect occurs, and what they cost: how many items, packets and notes they bring.
use Rattle.std.proofs.Common.{◌≡◌, ℕ, ◌+◌, ◌≤◌, ◌==◌, ◌||◌, Bool, true, false, not, if◌then◌else◌, cond, List, [], ◌∷◌, ◌++◌, length, refl, sym, ap, ◌∙◌, inl, inr, arith}
use Rattle.std.specs.List.{flat_map, filter}
use Rattle.std.specs.declared.option.Option.{Option}
use Rattle.std.specs.declared.option.Option.TheVariants.{None, Some}
use Rattle.std.specs.declared.result.Result.{Result}
use Rattle.std.specs.declared.result.Result.TheVariants.{Ok, Err}
use Rattle.std.proofs.lemmas.List.{length-map}
use Rattle.ng_base.specs.declared.errno.Errno.{Errno}
use Rattle.ng_base.specs.declared.ids.LinkId.{LinkId}
use Rattle.ng_base.specs.declared.ids.NodeId.{NodeId}
use Rattle.ng_base.specs.declared.kind.Kind.{Kind}
use Rattle.ng_base.specs.Kind.{kind_named}
use Rattle.ng_message.specs.declared.message.Msg.{Msg as Message}
use Rattle.ng_machine.specs.declared.body.Body.{Body}
use Rattle.ng_machine.specs.declared.body.Body.TheVariants.{Frame, Msg, Join2, Join3, Undo, Leave, Rebind, Tick, Learn}
use Rattle.ng_machine.specs.declared.body.Door.{Door}
use Rattle.ng_machine.specs.declared.body.Door.TheVariants.{Wire, Hook as ByHook}
use Rattle.ng_machine.specs.declared.body.Exit.{Exit}
use Rattle.ng_machine.specs.declared.hook.Hook.{Hook}
use Rattle.ng_machine.specs.declared.item.Item.{Item}
use Rattle.ng_machine.specs.declared.outcome.Outcome.{Outcome}
use Rattle.ng_machine.specs.declared.farewell.Farewell.{Farewell}
use Rattle.ng_machine.specs.declared.farewell.Farewell.TheVariants.{Plain, Stay, Bypass}
use Rattle.ng_machine.specs.Words.{Has, Every, times}
use Rattle.ng_machine.specs.Errors.{einval, enoent, enxio}
use Rattle.ng_machine.specs.Body.{is_at, is_writer}
use Rattle.ng_machine.specs.Bounds.{links_of}
use Rattle.ng_machine.specs.KnownRun.{PacketFits}
use Rattle.ng_machine.specs.Rules.{farewell_of}
use Rattle.ng_machine.specs.Case.{outcome_of}
use Rattle.ng_machine.specs.World.{World, NodeRecord, state_of, kind_at, hook_of, is_named, linked_hook, without_hook, hook_names}
use Rattle.ng_path.specs.Address.{Address, read_address}
use Rattle.ng_machine.specs.Walk.{walk}
use Rattle.ng_machine.specs.Change.{Change, Makes, Accepts, Posts, Notes, Refuses, Exits, Links, items_of}
use Rattle.ng_machine.specs.Order.{Order, Shutdown, Mkpeer, Connect, Rename, Rmhook, Asks, read_order}
use Rattle.ng_machine.specs.Retire.{refuse, aftermath, aftermath_of, retiring, leave_steps, leave_step_unless, outward, is_outward, hooks_but, bypass, farewell, stays, cut_to_if}
use Rattle.ng_machine.specs.Connect.{unless, hook_refusal, connect_changes, connect_to, connect, join, settle, undo, rmhook, remove_peer_hook, rebind}
use Rattle.ng_machine.specs.Generic.{mkpeer, mkpeer_refusal, makes, rename_refusal, carry_out, ordered_by}
use Rattle.ng_machine.specs.Effect.{door_name, exits, posts, counts_unless, is_fine, serve, learns, learn, answered, reply_changes_if, told_answer, MessageClass, AnAnswer, AnOrder, OfKind, Foreign, class_of, message_by, effect_at}
use Rattle.ng_machine.proofs.Refusing.{reply_quiet}
use Rattle.ng_machine.proofs.Bounded.{packets_are_bounded}
use Rattle.ng_machine.proofs.Every.{every_join}
use Rattle.ng_machine.proofs.Occurs.{IsOrder, MakesPeer, ByRule, WithPeer, WithHook, Joined, Renamed, Cut, Emptied, Settled, Bound, Peer, Goes, ShutDown, LastRemoved, LastLost, ToLearn, Replied, Answered, ToLeave, ToJoin, ToRebind, HasJoined, HasRefused, HasGone, Fails, Hears, CountsRefused, LetsOut, UsesLink, Occurs, order_writes}
use Rattle.ng_machine.proofs.Standing.{of_find, fewer_filtered}

-- What one change costs

abbrev pub is_join : Body → Bool
is_join (Join2 hook link peer peer_hook) = true
is_join _ = false

abbrev pub has_join : Item → Bool
has_join item = is_join item.body

-- items and packets that it brings, and losses and packets that leave
abbrev pub weight : Change → ℕ
weight (Accepts to body tag) = 1
weight (Posts hook packet) = 1
weight (Notes Refuses) = 1
weight (Notes (Exits exit hook packet)) = 1
weight _ = 0

abbrev pub joins : Change → ℕ
joins (Accepts to body tag) = if is_join body then 1 else 0
joins _ = 0

abbrev pub links : Change → ℕ
links (Notes Links) = 1
links _ = 0

abbrev pub is_make : Change → ℕ
is_make (Makes kind made) = 1
is_make _ = 0

abbrev pub total : (Change → ℕ) → List Change → ℕ
total f [] = 0
total f (c ∷ cs) = f c + total f cs

total_append : (f : Change → ℕ) (xs ys : List Change) → total f (xs ++ ys) ≡ total f xs + total f ys
total_append f [] ys = omega arith
total_append f (x ∷ xs) ys = let more = total_append f xs ys in omega arith

-- how many steps of joins wait
abbrev pub waiting_joins : World → ℕ
waiting_joins w = times has_join w.pending

pub fewer_times : {A : Type 0} (test keep : A → Bool) (xs : List A) → times test (filter keep xs) ≤ times test xs
fewer_times test keep [] = omega arith
fewer_times {A = A} test keep (x ∷ xs) = by (keep x) (fewer_times test keep xs)
  where
    by : (b : Bool) → times test (filter keep xs) ≤ times test xs → times test (cond b (x ∷ filter keep xs) (filter keep xs)) ≤ (if test x then 1 else 0) + times test xs
    by true le = omega arith
    by false le = omega arith

-- Changes that all occur, with bounds of their weight and of how many joins, links and nodes they bring

pub record Brought (w : World) (item : Item) (node : NodeRecord) (body : Body) (a b c d : ℕ) (cs : List Change) : Type 0 where
  pub occurs : Every (Occurs w item node body) cs
  pub weight_is : total weight cs ≤ a
  pub joins_is : total joins cs ≤ b
  pub links_is : total links cs ≤ c
  pub makes_is : total is_make cs ≤ d

module _ {w : World} {item : Item} {node : NodeRecord} {body : Body} where
  none : {a b c d : ℕ} → Brought w item node body a b c d []
  none = record { occurs = tt; weight_is = omega arith; joins_is = omega arith; links_is = omega arith; makes_is = omega arith }

  one : (x : Change) → Occurs w item node body x → Brought w item node body (weight x) (joins x) (links x) (is_make x) (x ∷ [])
  one x o = record { occurs = (o, tt); weight_is = omega arith; joins_is = omega arith; links_is = omega arith; makes_is = omega arith }

  both : {a b c d e f g h : ℕ} {xs ys : List Change} → Brought w item node body a b c d xs → Brought w item node body e f g h ys → Brought w item node body (a + e) (b + f) (c + g) (d + h) (xs ++ ys)
  both {xs = xs} {ys = ys} x y = record {
    occurs = every_join (Occurs w item node body) xs ys x.occurs y.occurs;
    weight_is = let s = total_append weight xs ys in let p = x.weight_is in let q = y.weight_is in omega arith;
    joins_is = let s = total_append joins xs ys in let p = x.joins_is in let q = y.joins_is in omega arith;
    links_is = let s = total_append links xs ys in let p = x.links_is in let q = y.links_is in omega arith;
    makes_is = let s = total_append is_make xs ys in let p = x.makes_is in let q = y.makes_is in omega arith;
  }

  ahead : {a b c d : ℕ} (x : Change) {cs : List Change} → Occurs w item node body x → Brought w item node body a b c d cs
      → Brought w item node body (weight x + a) (joins x + b) (links x + c) (is_make x + d) (x ∷ cs)
  ahead x {cs} o y = both (one x o) y

  within : {a b c d e f g h : ℕ} {cs : List Change} → Brought w item node body a b c d cs → (a ≤ e) × (b ≤ f) × (c ≤ g) × (d ≤ h) → Brought w item node body e f g h cs
  within x le = record {
    occurs = x.occurs;
    weight_is = let p = x.weight_is in let q = le.0 in omega arith;
    joins_is = let p = x.joins_is in let q = le.1 in omega arith;
    links_is = let p = x.links_is in let q = le.2 in omega arith;
    makes_is = let p = x.makes_is in let q = le.3 in omega arith;
  }

-- The walk over an effect

module _ (w : World) (item : Item) (node : NodeRecord) where
  abbrev B : Body → ℕ → ℕ → ℕ → ℕ → List Change → Type 0
  B body a b c d cs = Brought w item node body a b c d cs

  abbrev out_of : Body → Outcome
  out_of body = outcome_of (state_of node) body

  refuse_brings : (body : Body) (tag : Option ℕ) (errno : Errno) → B body 0 0 0 0 (refuse tag errno)
  refuse_brings body None errno = none
  refuse_brings body (Some command) errno = one _ (Fails body command errno)

  unless_brings : {a b c d : ℕ} (body : Body) (e : Option Errno) (cs : List Change) → (e ≡ None → B body a b c d cs) → B body a b c d (unless e item.tag cs)
  unless_brings body None cs h = h refl
  unless_brings body (Some e) cs h = within (refuse_brings body item.tag e) (omega arith, omega arith, omega arith, omega arith)

  exits_bring : (body : Body) (hook : List ℕ) (xs : List (Exit × List ℕ)) → ((x : Exit × List ℕ) → Has x xs → Has x (out_of body).leaves) → B body (length xs) 0 0 0 (exits hook xs)
  exits_bring body hook [] h = none
  exits_bring body hook (x ∷ xs) h = within (ahead _ (LetsOut body x.0 hook x.1 (h x (inl refl))) (exits_bring body hook xs (λ y k. h y (inr k)))) (omega arith, omega arith, omega arith, omega arith)

  posts_bring : (body : Body) (xs : List (List ℕ × List ℕ)) → ((x : List ℕ × List ℕ) → Has x xs → Has x (out_of body).sends) → B body (length xs) 0 0 0 (posts xs)
  posts_bring body [] h = none
  posts_bring body (x ∷ xs) h = within (ahead _ (h x (inl refl)) (posts_bring body xs (λ y k. h y (inr k)))) (omega arith, omega arith, omega arith, omega arith)

  counts_bring : (body : Body) (b : Bool) → B body 1 0 0 0 (counts_unless b)
  counts_bring body true = none
  counts_bring body false = one _ (CountsRefused body)

  learns_bring : (door : Door) (link : Option LinkId) (packet : List ℕ) (addr : Option (List ℕ)) → (out_of (Frame door link packet)).learn ≡ addr → B (Frame door link packet) 1 0 0 0 (learns item.to door link addr)
  learns_bring Wire link packet addr e = none
  learns_bring (ByHook hook) None packet addr e = none
  learns_bring (ByHook hook) (Some link) packet None e = none
  learns_bring (ByHook hook) (Some link) packet (Some addr) e = one _ (ToLearn hook link packet addr e)

  -- the most that comes of an outcome
  abbrev sent : Body → ℕ
  sent body = 2 + (length (out_of body).leaves + length (out_of body).sends)

  serve_brings : (body : Body) (hook : List ℕ) (learned : List Change) → B body 1 0 0 0 learned → B body (sent body) 0 0 0 (serve node body hook (out_of body) learned)
  serve_brings body hook learned l =
      within (ahead _ (ByRule body) (both (exits_bring body hook (out_of body).leaves (λ x h. h)) (both (counts_bring body (is_fine (out_of body).errno)) (both l (posts_bring body (out_of body).sends (λ x h. h)))))) (omega arith, omega arith, omega arith, omega arith)

  answered_brings : (msg : Message) (bytes : Option (List ℕ)) → class_of (kind_at node) msg ≡ OfKind → (out_of (Msg msg)).answer ≡ bytes → B (Msg msg) 1 0 0 0 (answered item msg bytes)
  answered_brings msg None c e = none
  answered_brings msg (Some bytes) c e = one _ (Replied msg bytes c e)

  reply_brings : (msg : Message) (b : Bool) → class_of (kind_at node) msg ≡ OfKind → B (Msg msg) (sent (Msg msg)) 0 0 0 (reply_changes_if node item msg (out_of (Msg msg)) b)
  reply_brings msg false c = within (refuse_brings (Msg msg) item.tag _) (omega arith, omega arith, omega arith, omega arith)
  reply_brings msg true c =
      let out = out_of (Msg msg) in
      within (ahead _ (ByRule (Msg msg)) (both (exits_bring (Msg msg) [] out.leaves (λ x h. h)) (both (answered_brings msg out.answer c refl) (posts_bring (Msg msg) out.sends (λ x h. h))))) (omega arith, omega arith, omega arith, omega arith)

  told_brings : (msg : Message) (tag : Option ℕ) → class_of (kind_at node) msg ≡ AnAnswer → item.tag ≡ tag → B (Msg msg) 0 0 0 0 (told_answer msg tag)
  told_brings msg None c e = none
  told_brings msg (Some command) c e = one _ (Hears msg command c e)

  -- Removal

  leave_brings : (body : Body) (b : Bool) (hook : Hook) → B body 1 0 0 0 (leave_step_unless b hook)
  leave_brings body true hook = none
  leave_brings body false hook = one _ (ToLeave body hook)

  leaves_bring : (body : Body) (hooks : List Hook) → B body (length hooks) 0 0 0 (leave_steps item.to hooks)
  leaves_bring body [] = none
  leaves_bring body (hook ∷ hooks) = within (both (leave_brings body (hook.peer.node.0 == item.to.0) hook) (leaves_bring body hooks)) (omega arith, omega arith, omega arith, omega arith)

  aftermath_brings : (body : Body) (p : Item) (b : Body) → Has p (items_of w item.to) → B body (if is_join b then 1 else 0) 0 0 0 (aftermath_of p b)
  aftermath_brings body p (Msg msg) h = refuse_brings body p.tag enxio
  aftermath_brings body p (Join2 hook link peer peer_hook) h = one _ (HasGone body p link peer peer_hook h)
  aftermath_brings body p _ h = none

  aftermaths_bring : (body : Body) (ps : List Item) → ((p : Item) → Has p ps → Has p (items_of w item.to)) → B body (times has_join ps) 0 0 0 (flat_map aftermath ps)
  aftermaths_bring body [] h = none
  aftermaths_bring body (p ∷ ps) h = both (aftermath_brings body p p.body (h p (inl refl))) (aftermaths_bring body ps (λ q k. h q (inr k)))

  retiring_brings : (body : Body) → Goes node body → B body (waiting_joins w) 0 0 0 (retiring w item)
  retiring_brings body goes =
      let fewer = fewer_times has_join (is_at item.to) w.pending in
      within (ahead _ goes (aftermaths_bring body (items_of w item.to) (λ p h. h))) (omega arith, omega arith, omega arith, omega arith)

  cut_brings : (body : Body) (name : List ℕ) (b : Bool) → stays (without_hook node name) ≡ b → is_writer (kind_at node) body ≡ true → (stays (without_hook node name) ≡ false → Goes node body)
      → B body (waiting_joins w) 0 0 0 (cut_to_if w item (without_hook node name) b)
  cut_brings body name true is writes goes = within (one _ (Cut body name writes)) (omega arith, omega arith, omega arith, omega arith)
  cut_brings body name false is writes goes = retiring_brings body (goes is)

  outward_has : (o : Option Hook) (x : Hook) → outward w item.to o ≡ Some x → o ≡ Some x
  outward_has None x e = absurd (cc e)
  outward_has (Some hook) x e = by (is_outward w item.to hook) e
    where
      by : (b : Bool) → (if b then Some hook else None) ≡ Some x → Some hook ≡ Some x
      by true e = e
      by false e = absurd (cc e)

  found_has : (name : List ℕ) (x : Hook) → outward w item.to (hook_of node name) ≡ Some x → Has x node.hooks
  found_has name x e = (of_find (is_named name) x node.hooks (outward_has (hook_of node name) x e)).0

  bypass_brings : (msg : Message) (a b : List ℕ) (x y : Option Hook) → outward w item.to (hook_of node a) ≡ x → outward w item.to (hook_of node b) ≡ y → B (Msg msg) (2 + length node.hooks) 0 1 0 (bypass w item node a b x y)
  bypass_brings msg a b (Some x) (Some y) ex ey =
      let hx = found_has a x ex in
      let hy = found_has b y ey in
      let fewer = fewer_filtered (λ h. not (is_named a h || is_named b h)) node.hooks in
      within (ahead _ (UsesLink (Msg msg)) (ahead _ (ToRebind msg x y hx hy) (ahead _ (ToRebind msg y x hy hx) (leaves_bring (Msg msg) (hooks_but a b node.hooks))))) (omega arith, omega arith, omega arith, omega arith)
  bypass_brings msg a b None y ex ey = within (leaves_bring (Msg msg) node.hooks) (omega arith, omega arith, omega arith, omega arith)
  bypass_brings msg a b (Some x) None ex ey = within (leaves_bring (Msg msg) node.hooks) (omega arith, omega arith, omega arith, omega arith)

  abbrev by_farewell : ℕ
  by_farewell = 2 + length node.hooks + waiting_joins w

  farewell_brings : (msg : Message) (f : Farewell) → farewell_of (kind_at node) ≡ f → IsOrder node msg Shutdown → B (Msg msg) by_farewell 0 1 0 (farewell w item node f)
  farewell_brings msg Stay is order = within (ahead _ (Emptied msg order) (leaves_bring (Msg msg) node.hooks)) (omega arith, omega arith, omega arith, omega arith)
  farewell_brings msg Plain is order =
      within (both (leaves_bring (Msg msg) node.hooks) (retiring_brings (Msg msg) (ShutDown msg order (λ e. let apart : Stay ≡ Plain = sym e ∙ is in cc apart)))) (omega arith, omega arith, omega arith, omega arith)
  farewell_brings msg (Bypass a b) is order =
      within (both (bypass_brings msg a b _ _ refl refl) (retiring_brings (Msg msg) (ShutDown msg order (λ e. let apart : Stay ≡ Bypass a b = sym e ∙ is in cc apart)))) (omega arith, omega arith, omega arith, omega arith)

  -- Orders

  mkpeer_brings : (msg : Message) (name ours theirs : List ℕ) (kind : Option Kind) → kind_named name ≡ kind → IsOrder node msg (Mkpeer name ours theirs) → B (Msg msg) 0 0 1 1 (mkpeer w item node kind ours theirs)
  mkpeer_brings msg name ours theirs None is order = within (refuse_brings (Msg msg) item.tag enxio) (omega arith, omega arith, omega arith, omega arith)
  mkpeer_brings msg name ours theirs (Some kind) is order = unless_brings (Msg msg) (mkpeer_refusal w node kind ours theirs) (makes w item node kind ours theirs) (λ free. by (record { order = order; kind_is = is; free = free }))
    where
      by : MakesPeer w node msg name ours theirs kind → B (Msg msg) 0 0 1 1 (makes w item node kind ours theirs)
      by made = ahead _ (WithPeer msg name ours theirs kind made) (ahead _ (Peer msg name ours theirs kind made) (one _ (UsesLink (Msg msg))))

  connect_brings : (msg : Message) (path ours theirs : List ℕ) (address : Option Address) → IsOrder node msg (Connect path ours theirs) → B (Msg msg) 1 1 1 0 (connect w item node address ours theirs)
  connect_brings msg path ours theirs None order = within (refuse_brings (Msg msg) item.tag einval) (omega arith, omega arith, omega arith, omega arith)
  connect_brings msg path ours theirs (Some address) order = by (walk w item.to address) refl
    where
      by : (peer : Option NodeId) → walk w item.to address ≡ peer → B (Msg msg) 1 1 1 0 (connect_to w item node peer ours theirs)
      by None e = within (refuse_brings (Msg msg) item.tag enoent) (omega arith, omega arith, omega arith, omega arith)
      by (Some peer) e = unless_brings (Msg msg) (hook_refusal node ours) (connect_changes w item node peer ours theirs)
          (λ _. ahead _ (WithHook msg path ours theirs address peer order e) (ahead _ (ToJoin msg path ours theirs peer order) (one _ (UsesLink (Msg msg)))))

  rmhook_brings : (msg : Message) (name : List ℕ) (hook : Option Hook) → IsOrder node msg (Rmhook name) → B (Msg msg) (1 + waiting_joins w) 0 0 0 (rmhook w item node hook)
  rmhook_brings msg name None order = within (refuse_brings (Msg msg) item.tag enoent) (omega arith, omega arith, omega arith, omega arith)
  rmhook_brings msg name (Some hook) order =
      ahead _ (ToLeave (Msg msg) hook) (cut_brings (Msg msg) hook.name _ refl (order_writes node msg (Rmhook name) order (λ question e. cc e)) (LastRemoved msg name hook.name order))

  -- as many as an item's changes can bring
  abbrev reach : Body → ℕ
  reach (Frame door link packet) = sent (Frame door link packet)
  reach body = sent body + length node.hooks + waiting_joins w

  order_brings : (msg : Message) (order : Order) → IsOrder node msg order → B (Msg msg) (reach (Msg msg)) 1 1 1 (carry_out w item node msg order)
  order_brings msg Shutdown is = within (farewell_brings msg (farewell_of (kind_at node)) refl is) (omega arith, omega arith, omega arith, omega arith)
  order_brings msg (Mkpeer name ours theirs) is = within (mkpeer_brings msg name ours theirs (kind_named name) refl is) (omega arith, omega arith, omega arith, omega arith)
  order_brings msg (Connect path ours theirs) is = within (connect_brings msg path ours theirs (read_address path) is) (omega arith, omega arith, omega arith, omega arith)
  order_brings msg (Rename name) is = unless_brings (Msg msg) (rename_refusal w node name) _ (λ _. within (one _ (Renamed msg name is)) (omega arith, omega arith, omega arith, omega arith))
  order_brings msg (Rmhook name) is = within (rmhook_brings msg name (hook_of node name) is) (omega arith, omega arith, omega arith, omega arith)
  order_brings msg (Asks question) is = within (one _ (Answered msg question is)) (omega arith, omega arith, omega arith, omega arith)

  ordered_brings : (msg : Message) (r : Result Order Errno) → class_of (kind_at node) msg ≡ AnOrder → read_order msg.header.cmd msg.args ≡ r → B (Msg msg) (reach (Msg msg)) 1 1 1 (ordered_by w item node msg r)
  ordered_brings msg (Ok order) c e = order_brings msg order (record { class = c; reads = e })
  ordered_brings msg (Err errno) c e = within (refuse_brings (Msg msg) item.tag errno) (omega arith, omega arith, omega arith, omega arith)

  message_brings : (msg : Message) (class : MessageClass) → class_of (kind_at node) msg ≡ class → B (Msg msg) (reach (Msg msg)) 1 1 1 (message_by w item node msg class)
  message_brings msg AnAnswer c = within (told_brings msg item.tag c refl) (omega arith, omega arith, omega arith, omega arith)
  message_brings msg AnOrder c = ordered_brings msg (read_order msg.header.cmd msg.args) c refl
  message_brings msg OfKind c = within (reply_brings msg (is_fine (out_of (Msg msg)).errno) c) (omega arith, omega arith, omega arith, omega arith)
  message_brings msg Foreign c = within (refuse_brings (Msg msg) item.tag einval) (omega arith, omega arith, omega arith, omega arith)

  -- The steps of joins and removals

  join_brings : (e : Option Errno) (hook : List ℕ) (link : LinkId) (peer : NodeId) (peer_hook : List ℕ) → B (Join2 hook link peer peer_hook) 1 0 0 0 (join item node e hook link peer peer_hook)
  join_brings None hook link peer peer_hook = ahead _ (Joined hook link peer peer_hook) (one _ (HasJoined hook link peer peer_hook))
  join_brings (Some errno) hook link peer peer_hook = one _ (HasRefused hook link peer peer_hook errno)

  settle_brings : (hook : List ℕ) (link : LinkId) (h : Option Hook) → B (Join3 hook link) 0 0 0 0 (settle node h)
  settle_brings hook link None = none
  settle_brings hook link (Some h) = one _ (Settled hook link h.name)

  undo_brings : (body : Body) (h : Option Hook) (errno : Errno) → is_writer (kind_at node) body ≡ true → B body 0 0 0 0 (undo item node h errno)
  undo_brings body None errno writes = none
  undo_brings body (Some h) errno writes = ahead _ (Cut body h.name writes) (refuse_brings body item.tag errno)

  remove_brings : (hook : List ℕ) (link : LinkId) (h : Option Hook) → B (Leave hook link) (waiting_joins w) 0 0 0 (remove_peer_hook w item node h)
  remove_brings hook link None = none
  remove_brings hook link (Some h) = cut_brings (Leave hook link) h.name _ refl refl (LastLost hook link h.name)

  rebind_brings : (hook : List ℕ) (old new : LinkId) (peer : NodeId) (peer_hook : List ℕ) (h : Option Hook) → B (Rebind hook old new peer peer_hook) 0 0 0 0 (rebind node h new peer peer_hook)
  rebind_brings hook old new peer peer_hook None = none
  rebind_brings hook old new peer peer_hook (Some h) = one _ (Bound hook old new peer peer_hook h.name)

  learn_brings : (body : Body) (h : Option Hook) → B body 0 0 0 0 (learn node h body)
  learn_brings body None = none
  learn_brings body (Some h) = one _ (ByRule body)

  pub effect_brings : (body : Body) → B body (reach body) 1 1 1 (effect_at w item node body)
  effect_brings (Frame door link packet) = within (serve_brings (Frame door link packet) (door_name door) _ (learns_bring door link packet _ refl)) (omega arith, omega arith, omega arith, omega arith)
  effect_brings (Msg msg) = message_brings msg (class_of (kind_at node) msg) refl
  effect_brings (Join2 hook link peer peer_hook) = within (join_brings (hook_refusal node hook) hook link peer peer_hook) (omega arith, omega arith, omega arith, omega arith)
  effect_brings (Join3 hook link) = within (settle_brings hook link (linked_hook node hook link)) (omega arith, omega arith, omega arith, omega arith)
  effect_brings (Undo hook link errno) = within (undo_brings (Undo hook link errno) (linked_hook node hook link) errno refl) (omega arith, omega arith, omega arith, omega arith)
  effect_brings (Leave hook link) = within (remove_brings hook link (linked_hook node hook link)) (omega arith, omega arith, omega arith, omega arith)
  effect_brings (Rebind hook old new peer peer_hook) = within (rebind_brings hook old new peer peer_hook (linked_hook node hook old)) (omega arith, omega arith, omega arith, omega arith)
  effect_brings (Tick seconds) = within (serve_brings (Tick seconds) [] [] none) (omega arith, omega arith, omega arith, omega arith)
  effect_brings (Learn hook link addr) = within (learn_brings (Learn hook link addr) (linked_hook node hook link)) (omega arith, omega arith, omega arith, omega arith)

  -- every change of an effect occurs
  pub effect_occurs : (body : Body) → Every (Occurs w item node body) (effect_at w item node body)
  effect_occurs body = (effect_brings body).occurs

  -- and of a packet that is no longer than the longest not much comes
  abbrev pub most : ℕ
  most = 68 + (length node.hooks + links_of node.kept) + waiting_joins w

  pub cost_effect : (body : Body) → PacketFits body → B body most 1 1 1 (effect_at w item node body)
  cost_effect (Frame door link packet) fits =
      let few = (packets_are_bounded (state_of node) door link packet fits).few in
      let names = length-map node.hooks (λ (h : Hook). h.name) in
      within (effect_brings (Frame door link packet)) (omega arith, omega arith, omega arith, omega arith)
  cost_effect (Msg msg) fits =
      let quiet = reply_quiet node.kept (hook_names node) msg.header.cmd msg.args in
      let sent : length (out_of (Msg msg)).sends ≡ 0 = ap length quiet.0 in
      let left : length (out_of (Msg msg)).leaves ≡ 0 = ap length quiet.1 in
      within (effect_brings (Msg msg)) (omega arith, omega arith, omega arith, omega arith)
  cost_effect body fits = within (effect_brings body) (omega arith, omega arith, omega arith, omega arith)
