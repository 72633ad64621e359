-- What is owed holds in each world of a run: each change that owes it keeps it, and each input.
use Rattle.std.proofs.Common.{◌≡◌, ◌≢◌, ℕ, zero, suc, ◌+◌, ◌<◌, ◌≤◌, ◌^◌, Bool, true, false, not, nat_le, nat_lt, List, [], ◌∷◌}
use Rattle.std.proofs.Common.{◌++◌, length, map, set, is_some, slice_get, refl, sym, ap, ◌∙◌, ⊎_elim, subst, arith, true≢false}
use Rattle.std.specs.List.{filter}
use Rattle.std.specs.declared.option.Option.{Option}
use Rattle.std.specs.declared.option.Option.TheVariants.{None, Some}
use Rattle.std.proofs.lemmas.Bool.{cases_eq}
use Rattle.ng_base.specs.Name.{IsName}
use Rattle.ng_base.specs.declared.errno.Errno.{Errno}
use Rattle.ng_base.specs.declared.event.Event.{Event}
use Rattle.ng_base.specs.declared.event.Event.TheVariants.{Feed, Take, Back, Apply, Stop}
use Rattle.ng_base.specs.declared.ids.NodeId.{NodeId}
use Rattle.ng_base.specs.declared.ids.Stamp.{Stamp}
use Rattle.ng_base.specs.declared.kind.Kind.{Kind}
use Rattle.ng_base.specs.declared.kind.Kind.TheVariants.{Ether, Socket}
use Rattle.ng_base.proofs.NameLemmas.{length-name}
use Rattle.ng_message.specs.Numbers.{generic_cookie}
use Rattle.ng_machine.specs.declared.body.Body.{Body}
use Rattle.ng_machine.specs.declared.body.Body.TheVariants.{Frame, Msg, Join2, Join3, Undo, Leave, Rebind, Tick, Learn}
use Rattle.ng_machine.specs.declared.body.Exit.{Exit}
use Rattle.ng_machine.specs.declared.body.Exit.TheVariants.{Wire as ToWire, Host, Reader}
use Rattle.ng_machine.specs.declared.command.Command.{Command as CommandLine}
use Rattle.ng_machine.specs.declared.hook.Hook.{Hook}
use Rattle.ng_machine.specs.declared.input.Input.{Input}
use Rattle.ng_machine.specs.declared.input.Input.TheVariants.{Command, Late, Packet, Tick as Ticks}
use Rattle.ng_machine.specs.declared.item.Item.{Item}
use Rattle.ng_machine.specs.declared.told.Told.{Told}
use Rattle.ng_machine.specs.declared.told.Told.TheVariants.{Line, Refused, Help, Answer, Frame as ToldFrame}
use Rattle.ng_machine.specs.Words.{Has, Every}
use Rattle.ng_machine.specs.Body.{is_writer, is_at, has_id}
use Rattle.ng_machine.specs.World.{World, NodeRecord, blank_node, kind_at, node_at, hook_at, node_id, port_node, port_of}
use Rattle.ng_machine.specs.Change.{Change, Sets, Makes, Retires, Accepts, Posts, Notes, Note, Tells, Refuses, Exits, Links}
use Rattle.ng_machine.specs.Change.{accept, accept_at, arrival, send_if, send_joined, send_by, frames, most_frames, tell, wire_if}
use Rattle.ng_machine.specs.Change.{read_if, leave, spool_with, most_spool, note, set_node, retire, change, change_all}
use Rattle.ng_machine.specs.Effect.{effect, effect_at, is_hook_gone, take_out, finish, apply_if, apply_item, apply_found}
use Rattle.ng_machine.specs.Feed.{RunInput, Request}
use Rattle.ng_machine.specs.Feed.{Orders, Asks, request_of, refuse_line, send_message}
use Rattle.ng_machine.specs.Feed.{begin_command}
use Rattle.ng_machine.specs.Feed.{feed_command, arrive, feed_ticks, feed_input, feed_next}
use Rattle.ng_machine.specs.Run.{RunState, Taken, after, after_all}
use Rattle.ng_machine.specs.Orderly.{AllowedEvent, OrderlyFrom}
use Rattle.ng_machine.specs.Laws.{Setting, start}
use Rattle.ng_machine.proofs.Standing.{in_pushed, of_filter}
use Rattle.ng_machine.proofs.NodeLists.{get, get_here, get_apart, get_before, get_gone, get_last, some_none, given_number}
use Rattle.ng_machine.proofs.NodeLists.{same_row}
use Rattle.ng_machine.proofs.Quieted.{input_quietly}
use Rattle.ng_machine.proofs.Kept.{SoundAt, all_applies, all_fed, applies_quietly, fed_quietly}
use Rattle.ng_machine.proofs.Moves.{KeptAt, kept_event, held_item}
use Rattle.ng_machine.proofs.Requests.{Requested, Refuses, Explains, Ends, ByOrder, ByName, ByHook as BySend, requested}
use Rattle.ng_machine.proofs.Requests.{ticks_keep}
use Rattle.ng_machine.proofs.Every.{every_push, every_imply}
use Rattle.ng_laws.specs.answers.Answers.{IsRequestFor, IsCommandThat, WasFed, WasAsked, HasNames}
use Rattle.ng_laws.proofs.answers.Rows.{IsShort}
use Rattle.ng_laws.proofs.answers.Shapes.{blank_shaped}
use Rattle.ng_laws.proofs.answers.Owing.{IsShapedNode, BodyOwes, ToldOwes, NoteOwes, Owes, more_node, IsReady, owes_effect}

-- What was fed stays fed

still_fed : (given : RunInput) (f g : ℕ) (P : Request → Type 0) (number : ℕ) → f ≤ g → WasFed given f P number
    → WasFed given g P number
still_fed given f g P number le h = record {
  place = h.place;
  input = h.input;
  below = let lt = h.below in omega arith;
  there = h.there;
  is = h.is;
}

still_owed : (Presumed : Type 0) (given : RunInput) (f g : ℕ) (tag : Option ℕ) (body : Body) → f ≤ g
    → BodyOwes Presumed given f tag body → BodyOwes Presumed given g tag body
still_owed Presumed given f g tag (Msg msg) le h = record
    { command = h.command; is = h.is; asked = still_fed given f g _ h.command le h.asked; row = h.row }
still_owed Presumed given f g tag (Frame door link packet) le h = tt
still_owed Presumed given f g tag (Join2 hook link peer peer_hook) le h = h
still_owed Presumed given f g tag (Join3 hook link) le h = tt
still_owed Presumed given f g tag (Undo hook link errno) le h = tt
still_owed Presumed given f g tag (Leave hook link) le h = tt
still_owed Presumed given f g tag (Rebind hook old new peer peer_hook) le h = h
still_owed Presumed given f g tag (Tick seconds) le h = tt
still_owed Presumed given f g tag (Learn hook link addr) le h = h

still_told : (Presumed : Type 0) (given : RunInput) (f g : ℕ) → f ≤ g → (told : Told) → ToldOwes Presumed given f told
    → ToldOwes Presumed given g told
still_told Presumed given f g le (Answer command from cookie number bytes) h = (still_fed given f g _ command le h.0, h.1)
still_told Presumed given f g le (Help command) h = still_fed given f g _ command le h
still_told Presumed given f g le (Line command) h = tt
still_told Presumed given f g le (Refused command errno why) h = tt
still_told Presumed given f g le (ToldFrame hook packet) h = tt

-- Worlds

pub record InShape (Presumed : Type 0) (given : RunInput) (fed n : ℕ) (w : World) : Type 0 where
  pub nodes : (m : ℕ) (node : NodeRecord) → get w.nodes m ≡ Some node → IsShapedNode Presumed n node
  pub waits : (p : Item) → Has p w.pending → BodyOwes Presumed given fed p.tag p.body
  pub told : Every (ToldOwes Presumed given fed) w.told

shape_more : (Presumed : Type 0) (given : RunInput) (f g n m : ℕ) (w : World) → f ≤ g → n ≤ m
    → InShape Presumed given f n w → InShape Presumed given g m w
shape_more Presumed given f g n m w le few H = record {
  nodes = λ k node is. more_node Presumed n m node few (H.nodes k node is);
  waits = λ p h. still_owed Presumed given f g p.tag p.body le (H.waits p h);
  told = every_imply (ToldOwes Presumed given f) (ToldOwes Presumed given g) (still_told Presumed given f g le) w.told H.told;
}

module _ (Presumed : Type 0) (given : RunInput) (fed n : ℕ) where
  abbrev H : World → Type 0
  H w = InShape Presumed given fed n w

  -- nothing of it is different
  shape_same : (w v : World) → v.nodes ≡ w.nodes → v.pending ≡ w.pending → v.told ≡ w.told → H w → H v
  shape_same w v nodes pending told h = record {
    nodes = λ m node is. h.nodes m node (ap (λ (x : List (Option NodeRecord)). get x m) (sym nodes) ∙ is);
    waits = λ p k. h.waits p (subst (λ (ps : List Item). Has p ps) pending k);
    told = subst (Every (ToldOwes Presumed given fed)) (sym told) h.told;
  }

  shape_accept : (w : World) (to : NodeId) (kind : Kind) (body : Body) (tag : Option ℕ) (stamp : Stamp)
      → BodyOwes Presumed given fed tag body → H w → H (accept w to kind body tag stamp)
  shape_accept w to kind body tag stamp owes h =
      let x : Item = record {
        id = record { 0 = w.next_item };
        to = to;
        body = body;
        writer = is_writer kind body;
        tag =
            tag;
        stamp = stamp;
      } in record {
        nodes = h.nodes;
        waits = λ p k. ⊎_elim (λ (was : Has p w.pending). h.waits p was)
            (λ (e : p ≡ x). subst (λ (y : Item). BodyOwes Presumed given fed y.tag y.body) (sym e) owes)
            (in_pushed p x w.pending k);
        told = h.told;
      }

  shape_accept_at : (w : World) (to : NodeId) (o : Option NodeRecord) (body : Body) (tag : Option ℕ) (stamp : Stamp)
      → BodyOwes Presumed given fed tag body → H w → H (accept_at w to o body tag stamp)
  shape_accept_at w to None body tag stamp owes h = h
  shape_accept_at w to (Some node) body tag stamp owes h = shape_accept w to (kind_at node) body tag stamp owes h

  shape_send : (w : World) (hook : Hook) (o : Option NodeRecord) (room : Bool) (packet : List ℕ) (stamp : Stamp) → H w
      → H (send_if w hook o room packet stamp)
  shape_send w hook None room packet stamp h = shape_same w _ refl refl refl h
  shape_send w hook (Some node) false packet stamp h = shape_same w _ refl refl refl h
  shape_send w hook (Some node) true packet stamp h = shape_accept w hook.peer.node (kind_at node)
      (arrival hook packet) None stamp tt h

  shape_joined : (w : World) (hook : Hook) (b : Bool) (packet : List ℕ) (stamp : Stamp) → H w
      → H (send_joined w hook b packet stamp)
  shape_joined w hook false packet stamp h = shape_same w _ refl refl refl h
  shape_joined w hook true packet stamp h = shape_send w hook (node_at w hook.peer.node)
      (nat_lt (frames w) most_frames) packet stamp h

  shape_send_by : (w : World) (o : Option Hook) (packet : List ℕ) (stamp : Stamp) → H w → H (send_by w o packet stamp)
  shape_send_by w None packet stamp h = shape_same w _ refl refl refl h
  shape_send_by w (Some hook) packet stamp h = shape_joined w hook hook.joined packet stamp h

  shape_tell : (w : World) (told : Told) → ToldOwes Presumed given fed told → H w → H (tell w told)
  shape_tell w told owes h = record {
    nodes = h.nodes;
    waits = h.waits;
    told =
        every_push (ToldOwes Presumed given fed) w.told told h.told owes;
  }

  shape_wire : (w : World) (port : ℕ) (b : Bool) (packet : List ℕ) (stamp : Stamp) → H w → H (wire_if w port b packet stamp)
  shape_wire w port false packet stamp h = shape_same w _ refl refl refl h
  shape_wire w port true packet stamp h = shape_same w _ refl refl refl h

  shape_read : (w : World) (b : Bool) (hook packet : List ℕ) → H w → H (read_if w b hook packet)
  shape_read w false hook packet h = shape_same w _ refl refl refl h
  shape_read w true hook packet h = record {
    nodes = h.nodes;
    waits = h.waits;
    told =
        every_push (ToldOwes Presumed given fed) w.told (ToldFrame hook packet) h.told tt;
  }

  shape_leave : (w : World) (at : NodeId) (stamp : Stamp) (exit : Exit) (hook packet : List ℕ) → H w
      → H (leave w at stamp exit hook packet)
  shape_leave w at stamp ToWire hook packet h = shape_wire w (port_of at) (nat_le (spool_with w packet) most_spool) packet stamp h
  shape_leave w at stamp Host hook packet h = shape_same w _ refl refl refl h
  shape_leave w at stamp Reader hook packet h = shape_read w (nat_le (spool_with w packet) most_spool) hook packet h

  shape_note : (w : World) (at : NodeId) (stamp : Stamp) (x : Note) → NoteOwes Presumed given fed x → H w → H (note w at stamp x)
  shape_note w at stamp (Tells told) owes h = shape_tell w told owes h
  shape_note w at stamp Refuses owes h = shape_same w _ refl refl refl h
  shape_note w at stamp (Exits exit hook packet) owes h = shape_leave w at stamp exit hook packet h
  shape_note w at stamp Links owes h = shape_same w _ refl refl refl h

  -- nodes

  shape_set : (w : World) (at : NodeId) (now : NodeRecord) (o : Option NodeRecord) → node_at w at ≡ o
      → IsShapedNode Presumed n now → H w → H (set_node w at now (is_some o))
  shape_set w at now None is shaped h = h
  shape_set w at now (Some old) is shaped h = record {
    nodes = λ m x here. ⊎_elim
        (λ (e : m ≡ at.0).
        let was : x ≡ now = same_row x now (sym here ∙ ap (get (set w.nodes at.0 (Some now))) e
        ∙ get_here w.nodes at.0 (Some now) (given_number w.nodes at.0 old is)) in
        subst (IsShapedNode Presumed n) (sym was) shaped)
        (λ (a : m ≢ at.0). h.nodes m x (sym (get_apart w.nodes at.0 m (Some now) a) ∙ here))
        (cases_eq m at.0);
    waits = h.waits;
    told = h.told;
  }

  shape_make : (w v : World) (made : NodeRecord) → v.nodes ≡ w.nodes ++ Some made ∷ [] → v.pending ≡ w.pending
      → v.told ≡ w.told → IsShapedNode Presumed n made → H w → H v
  shape_make w v made nodes pending told shaped h = record {
    nodes = λ m x here.
        let was : get (w.nodes ++ Some made ∷ []) m ≡ Some x =
        ap (λ (ns : List (Option NodeRecord)). get ns m) (sym nodes) ∙ here in
        ⊎_elim
        (λ (e : m ≡ length w.nodes). subst (IsShapedNode Presumed n)
        (sym (same_row x made (sym was ∙ get_last w.nodes m (Some made) e))) shaped)
        (λ (a : m ≢ length w.nodes). h.nodes m x (sym (get_before w.nodes m (Some made) a) ∙ was))
        (cases_eq m (length w.nodes));
    waits = λ p k. h.waits p (subst (λ (ps : List Item). Has p ps) pending k);
    told = subst (Every (ToldOwes Presumed given fed)) (sym told) h.told;
  }

  shape_retire : (w : World) (at : NodeId) → H w → H (retire w at)
  shape_retire w at h = record {
    nodes = λ m x here. ⊎_elim
        (λ (e : m ≡ at.0). absurd (some_none x (sym here ∙ ap (get (set w.nodes at.0 None)) e ∙ get_gone w.nodes at.0)))
        (λ (a : m ≢ at.0). h.nodes m x (sym (get_apart w.nodes at.0 m None a) ∙ here))
        (cases_eq m at.0);
    waits = λ p k. h.waits p (of_filter (λ q. not (is_at at q)) p w.pending k).0;
    told = h.told;
  }

  -- a change, and a list of them

  shape_change : (at : NodeId) (stamp : Stamp) (w : World) (c : Change) → Owes Presumed given fed n c → H w
      → H (change at stamp w c)
  shape_change at stamp w (Sets now) o h = shape_set w at now (node_at w at) refl o h
  shape_change at stamp w (Makes kind made) o h = shape_make w (change at stamp w (Makes kind made)) made refl refl refl o h
  shape_change at stamp w Retires o h = shape_retire w at h
  shape_change at stamp w (Accepts to body tag) o h = shape_accept_at w to (node_at w to) body tag stamp o h
  shape_change at stamp w (Posts hook packet) o h = shape_send_by w (hook_at (node_at w at) hook) packet stamp h
  shape_change at stamp w (Notes x) o h = shape_note w at stamp x o h

  pub shape_change_all : (at : NodeId) (stamp : Stamp) (w : World) (cs : List Change)
      → Every (Owes Presumed given fed n) cs → H w → H (change_all at stamp w cs)
  shape_change_all at stamp w [] o h = h
  shape_change_all at stamp w (c ∷ cs) o h = shape_change_all at stamp (change at stamp w c) cs o.1
      (shape_change at stamp w c o.0 h)

  -- Inputs: the command of this number was fed, and requests this

  shape_refusal : (w : World) (command : ℕ) (errno : Errno) (why : List ℕ) → H w → H (refuse_line w command errno why)
  shape_refusal w command errno why h = shape_tell w _ tt h

  shape_message : (w : World) (to : NodeId) (o : Option NodeRecord) (command cookie number : ℕ) (name args : List ℕ)
      → WasAsked given fed command cookie number → H w → H (send_message w to o command cookie number name args)
  shape_message w to o command cookie number name args asked h =
      shape_accept_at w to o _ (Some command) w.clock (record
      { command = command; is = refl; asked = asked; row = λ is presumed. absurd (true≢false (sym is)) }) h

  -- the command of this number requests what meets P
  abbrev Fed : (Request → Type 0) → ℕ → Type 0
  Fed P command = WasFed given fed P command

  command_that : (P Q : Request → Type 0) (number : ℕ) → ((r : Request) → P r → Q r) → (input : Input)
      → IsCommandThat P number input → IsCommandThat Q number input
  command_that P Q number f (Command line) h = (h.0, f (request_of line.what) h.1)
  command_that P Q number f (Late line) h = (h.0, f (request_of line.what) h.1)
  command_that P Q number f (Packet port stamp packet) h = absurd h
  command_that P Q number f (Ticks seconds) h = absurd h

  fed_that : (P Q : Request → Type 0) (number : ℕ) → ((r : Request) → P r → Q r) → Fed P number → Fed Q number
  fed_that P Q number f h = record {
    place = h.place;
    input = h.input;
    below = h.below;
    there = h.there;
    is =
        command_that P Q number f h.input h.is;
  }

  shape_request : (w : World) (command : ℕ) {r : Request} {v : World} → Requested given w command r v → Fed (λ q. q ≡ r) command
      → H w → H v
  shape_request w command (Refuses r errno why) was h = shape_refusal w command _ _ h
  shape_request w command Explains was h = shape_tell w _ was h
  shape_request w command Ends was h = h
  shape_request w command (ByOrder path name args number to o there) was h =
      shape_message w to o command generic_cookie number name args
      (fed_that (λ q. q ≡ Orders path number name args) (λ q. IsRequestFor given q generic_cookie number) command
      (λ q e. subst (λ (x : Request). IsRequestFor given x generic_cookie number) (sym e) (refl, refl)) was) h
  shape_request w command (ByName path name text args cookie number to node there reads) was h =
      shape_message w to (Some node) command cookie number name args
      (fed_that (λ q. q ≡ Asks path name text) (λ q. IsRequestFor given q cookie number) command
      (λ q e. subst (λ (x : Request). IsRequestFor given x cookie number) (sym e) (kind_at node, args, reads)) was) h
  shape_request w command (BySend name bytes hook node there) was h =
      shape_accept w hook.peer.node (kind_at node) (arrival hook bytes) None w.clock tt h

  shape_line : (w : World) (line : CommandLine) → Fed (λ q. q ≡ request_of line.what) line.number → H w
      → H (feed_command given w line)
  shape_line w line was h = shape_request (begin_command w line.number) line.number (requested given (begin_command w line.number) line.number (request_of line.what)) was
      (shape_tell (record w { command = line.number }) (Line line.number) tt (shape_same w _ refl refl refl h))

  shape_ticks : (w : World) (seconds m : ℕ) (nodes : List (Option NodeRecord)) → H w → H (feed_ticks w seconds m nodes)
  shape_ticks w seconds m nodes h = ticks_keep H seconds
      (λ v k was. shape_accept_at v (node_id k) (node_at v (node_id k)) _ None v.clock tt was) w m nodes h

  pub shape_input : (w : World) (place : ℕ) (input : Input) → place < fed → slice_get given.inputs place ≡ Some input
      → H w → H (feed_input given w input)
  shape_input w place (Command line) lt e h = shape_line w line
      (record { place = place; input = Command line; below = lt; there = e; is = (refl, refl) }) h
  shape_input w place (Late line) lt e h = shape_line w line
      (record { place = place; input = Late line; below = lt; there = e; is = (refl, refl) }) h
  shape_input w place (Packet port stamp packet) lt e h =
      shape_accept_at (arrive w port stamp) (port_node port) _ _ None stamp tt
      (shape_same w (arrive w port stamp) refl refl refl h)
  shape_input w place (Ticks seconds) lt e h = shape_ticks w seconds 0 w.nodes h

-- Events

abbrev pub InShapeAt : Type 0 → RunInput → World → Type 0
InShapeAt Presumed given w = InShape Presumed given w.fed w.applies w

module _ (Presumed : Type 0) (given : RunInput) where
  -- an item is applied where its node is there
  shape_effect : (w : World) (p : Item) (node : NodeRecord) → (Presumed → w.applies < 2 ^ 32)
      → (Presumed → length w.nodes < 2 ^ 32) → Has p w.pending → get w.nodes p.to.0 ≡ Some node → InShapeAt Presumed given w
      → (v : World) → v ≡ finish (take_out w p.id) p.id
      → InShapeAt Presumed given (change_all p.to p.stamp v (effect_at v p node p.body))
  shape_effect w p node few nodes hp is h v e =
      let n = w.applies in
      let same_nodes : v.nodes ≡ w.nodes = ap (λ (x : World). x.nodes) e in
      let pending : v.pending ≡ filter (λ q. not (has_id p.id q)) w.pending = ap (λ (x : World). x.pending) e in
      let told : v.told ≡ w.told = ap (λ (x : World). x.told) e in
      let fed : v.fed ≡ w.fed = ap (λ (x : World). x.fed) e in
      let applies : v.applies ≡ suc n = ap (λ (x : World). x.applies) e ∙ omega arith in
      let R : IsReady Presumed given w.fed n v p node = record {
        own = h.nodes p.to.0 node is;
        names = λ presumed m x here. (h.nodes m x (ap (λ (ns : List (Option NodeRecord)). get ns m) (sym same_nodes)
            ∙ here)).named presumed;
        few = few;
        nodes = λ presumed. let lt = nodes presumed in let size = ap length same_nodes in omega arith;
      } in
      let O = owes_effect Presumed given w.fed n v p node R p.body (h.waits p hp) in
      let G : InShape Presumed given w.fed (suc n) v = record {
        nodes = λ m x here. more_node Presumed n (suc n) x (omega arith)
            (h.nodes m x (ap (λ (ns : List (Option NodeRecord)). get ns m) (sym same_nodes) ∙ here));
        waits = λ q k. h.waits q (of_filter (λ q. not (has_id p.id q)) q w.pending
            (subst (λ (ps : List Item). Has q ps) pending k)).0;
        told = subst (Every (ToldOwes Presumed given w.fed)) (sym told) h.told;
      } in
      let cs = effect_at v p node p.body in
      let M = shape_change_all Presumed given w.fed (suc n) p.to p.stamp v cs O G in
      subst (λ (f : ℕ). InShape Presumed given f (change_all p.to p.stamp v cs).applies (change_all p.to p.stamp v cs))
      (sym (all_fed p.to p.stamp v cs ∙ fed))
      (subst (λ (a : ℕ). InShape Presumed given w.fed a (change_all p.to p.stamp v cs))
      (sym (all_applies p.to p.stamp v cs ∙ applies)) M)

  shape_apply : (w : World) (taken : List Taken) (p : Item) → (Presumed → w.applies < 2 ^ 32)
      → (Presumed → length w.nodes < 2 ^ 32) → SoundAt w taken → Has p w.pending → InShapeAt Presumed given w
      → InShapeAt Presumed given (apply_item w p)
  shape_apply w taken p few nodes S hp h = by (is_hook_gone (node_at w p.to) p.body)
    where
      at : (o : Option NodeRecord) → node_at w p.to ≡ o
          → InShapeAt Presumed given (change_all p.to p.stamp (finish (take_out w p.id) p.id)
          (effect (finish (take_out w p.id) p.id) p o))
      at None e = let t = S.there p hp in absurd (some_none t.0 (sym t.1 ∙ e))
      at (Some node) e = shape_effect w p node few nodes hp e h (finish (take_out w p.id) p.id) refl

      by : (b : Bool) → InShapeAt Presumed given (apply_if (take_out w p.id) p b)
      by true = record {
        nodes = λ m x here. more_node Presumed w.applies (w.applies + 1) x (omega arith) (h.nodes m x here);
        waits = λ q k. h.waits q (of_filter (λ q. not (has_id p.id q)) q w.pending k).0;
        told = h.told;
      }
      by false = at (node_at w p.to) refl

  shape_event : (budget seats : ℕ) (at : RunState) (e : Event) → (Presumed → budget < 2 ^ 32)
      → (Presumed → length at.world.nodes < 2 ^ 32) → AllowedEvent given budget seats at e → KeptAt budget at
      → InShapeAt Presumed given at.world
      → InShapeAt Presumed given (after given at e).world
  shape_event budget seats at Feed few nodes a K h = by (slice_get given.inputs at.world.fed) refl
    where
      by : (o : Option Input) → slice_get given.inputs at.world.fed ≡ o → InShapeAt Presumed given (feed_next given at.world o)
      by None e = h
      by (Some input) e =
          let w = record (at.world) { fed = at.world.fed + 1 } in
          let quiet = input_quietly given w input in
          let more = shape_more Presumed given at.world.fed
          (at.world.fed + 1) at.world.applies at.world.applies at.world (omega arith) (omega arith) h in
          let M = shape_input Presumed given (at.world.fed + 1) at.world.applies w at.world.fed input (omega arith) e
          (shape_same Presumed given (at.world.fed + 1) at.world.applies at.world w refl refl refl more) in
          subst (λ (f : ℕ). InShape Presumed given f (feed_input given w input).applies (feed_input given w input))
          (sym (fed_quietly quiet))
          (subst (λ (k : ℕ). InShape Presumed given (at.world.fed + 1) k (feed_input given w input))
          (sym (applies_quietly quiet)) M)
  shape_event budget seats at (Take seat id) few nodes a K h = h
  shape_event budget seats at (Back id) few nodes a K h = h
  shape_event budget seats at (Apply id) few nodes a K h =
      let t = held_item at.world at.taken id K.sound a in
      subst (λ (o : Option Item). InShapeAt Presumed given (apply_found at.world o)) (sym t.found)
      (shape_apply at.world at.taken t.item (λ presumed. let lt = few presumed in let room = K.room in
      omega arith) nodes K.sound t.is_pending h)
  shape_event budget seats at Stop few nodes a K h = record { nodes = h.nodes; waits = λ p k. absurd k; told = h.told }

  pub shape_run : (budget seats : ℕ) (at : RunState) (j : List Event) → (Presumed → budget < 2 ^ 32)
      → ((more rest : List Event) → j ≡ more ++ rest → Presumed → length (after_all given at more).world.nodes < 2 ^ 32)
      → OrderlyFrom given budget seats at j → KeptAt budget at → InShapeAt Presumed given at.world
      → InShapeAt Presumed given (after_all given at j).world
  shape_run budget seats at [] few nodes o K h = h
  shape_run budget seats at (e ∷ es) few nodes o K h =
      shape_run budget seats (after given at e) es few (λ more rest is. nodes (e ∷ more) rest
      (ap (λ (x : List Event). e ∷ x) is)) o.1 (kept_event given budget seats at e o.0.1 K)
      (shape_event budget seats at e few (nodes [] (e ∷ es) refl) o.0.1 K h)

-- The beginning

blank_node_shaped : (Presumed : Type 0) (name : List ℕ) (kind : Kind) → (Presumed → IsShort name)
    → IsShapedNode Presumed 0 (blank_node (Some name) kind)
blank_node_shaped Presumed name kind short = record { named = short; hooks = tt; few = omega arith; kept = blank_shaped kind }

ports_shaped : (Presumed : Type 0) (names : List (List ℕ)) → (Presumed → Every IsShort names)
    → (m : ℕ) (node : NodeRecord) → get (map (λ name. Some (blank_node (Some name) Ether)) names) m ≡ Some node
    → IsShapedNode Presumed 0 node
ports_shaped Presumed [] short m node e = absurd (some_none node (sym e))
ports_shaped Presumed (name ∷ names) short zero node e =
    subst (IsShapedNode Presumed 0) (same_row (blank_node (Some name) Ether) node e)
    (blank_node_shaped Presumed name Ether (λ presumed. (short presumed).0))
ports_shaped Presumed (name ∷ names) short (suc m) node e = ports_shaped Presumed names (λ presumed. (short presumed).1) m node e

pub start_shaped : (Presumed : Type 0) (s : Setting) → (Presumed → HasNames s) → InShapeAt Presumed s.given (start s)
start_shaped Presumed s names = record { nodes = first; waits = λ p h. absurd h; told = tt }
  where
    name_short : (name : List ℕ) → IsName name → IsShort name
    name_short name is = let le = length-name name is in omega arith

    first : (m : ℕ) (node : NodeRecord) → get (start s).nodes m ≡ Some node → IsShapedNode Presumed 0 node
    first zero node e = absurd (some_none node (sym e))
    first (suc zero) node e = subst (IsShapedNode Presumed 0) (same_row (blank_node (Some s.own) Socket) node e)
        (blank_node_shaped Presumed s.own Socket (λ presumed. name_short s.own (names presumed).own))
    first (suc (suc m)) node e = ports_shaped Presumed s.ports
        (λ presumed. every_imply IsName IsShort name_short s.ports (names presumed).ports) m node e
