-- A scan of the entries, one place after another.
use Rattle.std.proofs.Common.{◌≡◌, ℕ, ◌+◌, ◌<◌, ◌≤◌, zero, suc, Bool, true, false, cond, List, [], ◌∷◌, length, drop, get_or, slice_get, refl, sym, ap, ◌∙◌, subst, arith}
use Rattle.std.specs.Prelude.{◌==◌, Option, Some, None}
use Rattle.std.proofs.lemmas.List.{drop_more}
use Rattle.ng_base.specs.declared.ids.ItemId.{ItemId}
use Rattle.ng_machine.specs.declared.body.Lane.{Lane}
use Rattle.ng_machine.specs.declared.item.Item.{Item}
use Rattle.ng_machine.specs.Body.{lane_of, share_lane}
use Rattle.ng_queue.specs.declared.entry.Mark.{Mark}
use Rattle.ng_queue.specs.declared.entry.Entry.{Entry}
use Rattle.ng_queue.specs.declared.entry.Entry.TheVariants.{Waiting, Out}
use Rattle.ng_queue.specs.declared.entry.Hold.TheVariants.{Empty}
use Rattle.ng_queue.specs.Places.{IsHeadAt, WaitsAs, IsOutAt, OutAs}
use Rattle.ng_queue.specs.Queue.{AllWait, IsOut, head, out_count, writer_out, lane_out, hold_of, hold_from, hold_unless, readers_in, same_hook}

pub drop_read : (es : List Entry) (i : ℕ) (e : Entry) → i < length es → e ≡ get_or es i e → drop i es ≡ e ∷ drop (i + 1) es
drop_read es i e lt is = drop_more es i e lt ∙ ap (λ (x : Entry). x ∷ drop (i + 1) es) (sym is)

pub out_read : (es : List Entry) (i : ℕ) (m : Mark) → i < length es → Out m ≡ get_or es i (Out m) → out_count (drop i es) ≡ suc (out_count (drop (i + 1) es))
out_read es i m lt is = ap out_count (drop_read es i (Out m) lt is)

pub out_pass : (es : List Entry) (i : ℕ) (p : Item) → i < length es → Waiting p ≡ get_or es i (Waiting p) → out_count (drop i es) ≡ out_count (drop (i + 1) es)
out_pass es i p lt is = ap out_count (drop_read es i (Waiting p) lt is)

pub writer_read : (es : List Entry) (i : ℕ) (m : Mark) → i < length es → Out m ≡ get_or es i (Out m) → writer_out (drop i es) ≡ cond m.writer (Some m.id) (writer_out (drop (i + 1) es))
writer_read es i m lt is = ap writer_out (drop_read es i (Out m) lt is)

pub writer_pass : (es : List Entry) (i : ℕ) (p : Item) → i < length es → Waiting p ≡ get_or es i (Waiting p) → writer_out (drop i es) ≡ writer_out (drop (i + 1) es)
writer_pass es i p lt is = ap writer_out (drop_read es i (Waiting p) lt is)

pub lane_read : (lane : Option Lane) (es : List Entry) (i : ℕ) (m : Mark) → i < length es → Out m ≡ get_or es i (Out m) → lane_out lane (drop i es) ≡ cond (share_lane m.lane lane) (Some m.id) (lane_out lane (drop (i + 1) es))
lane_read lane es i m lt is = ap (lane_out lane) (drop_read es i (Out m) lt is)

pub lane_pass : (lane : Option Lane) (es : List Entry) (i : ℕ) (p : Item) → i < length es → Waiting p ≡ get_or es i (Waiting p) → lane_out lane (drop i es) ≡ lane_out lane (drop (i + 1) es)
lane_pass lane es i p lt is = ap (lane_out lane) (drop_read es i (Waiting p) lt is)

pub head_read : (es : List Entry) (i : ℕ) (m : Mark) → i < length es → Out m ≡ get_or es i (Out m) → head (drop i es) ≡ head (drop (i + 1) es)
head_read es i m lt is = ap head (drop_read es i (Out m) lt is)

-- nothing is out in a list that waits
pub out_none : (es : List Entry) → AllWait es → out_count es ≡ 0
out_none [] w = refl
out_none (Waiting p ∷ es) w = out_none es w
out_none (Out m ∷ es) w = absurd w

pub writer_none : (es : List Entry) → AllWait es → writer_out es ≡ None
writer_none [] w = refl
writer_none (Waiting p ∷ es) w = writer_none es w
writer_none (Out m ∷ es) w = absurd w

pub lane_none : (lane : Option Lane) (es : List Entry) → AllWait es → lane_out lane es ≡ None
lane_none lane [] w = refl
lane_none lane (Waiting p ∷ es) w = lane_none lane es w
lane_none lane (Out m ∷ es) w = absurd w

head_first : (es : List Entry) → AllWait es → WaitsAs (head es) (slice_get es 0)
head_first [] w = refl
head_first (Waiting p ∷ es) w = refl
head_first (Out m ∷ es) w = absurd w

get_drop : (es : List Entry) (k : ℕ) → slice_get (drop k es) 0 ≡ slice_get es k
get_drop es zero = refl
get_drop [] (suc k) = refl
get_drop (e ∷ es) (suc k) = get_drop es k

-- the head of the rest is the head
pub head_at : (es : List Entry) (k : ℕ) → AllWait (drop k es) → head (drop k es) ≡ head es → IsHeadAt es k
head_at es k w same = subst (λ (o : Option Entry). WaitsAs (head es) o) (get_drop es k) (subst (λ (h : Option Item). WaitsAs h (slice_get (drop k es) 0)) same (head_first (drop k es) w))

get_read : (es : List Entry) (i : ℕ) (e : Entry) → i < length es → e ≡ get_or es i e → slice_get es i ≡ Some e
get_read es i e lt is = sym (get_drop es i) ∙ ap (λ (xs : List Entry). slice_get xs 0) (drop_read es i e lt is)

pub head_here : (es : List Entry) (i : ℕ) (p : Item) → i < length es → Waiting p ≡ get_or es i (Waiting p) → head (drop i es) ≡ head es → IsHeadAt es i
head_here es i p lt is same = subst (λ (o : Option Entry). WaitsAs (head es) o) (sym (get_read es i (Waiting p) lt is)) (sym same ∙ ap head (drop_read es i (Waiting p) lt is))

-- THE ONE OF A NUMBER

pub id_pass : (id : ItemId) (es : List Entry) (i : ℕ) (p : Item) → i < length es → Waiting p ≡ get_or es i (Waiting p) → IsOut id (drop i es) → IsOut id (drop (i + 1) es)
id_pass id es i p lt is o = subst (IsOut id) (drop_read es i (Waiting p) lt is) o

id_at : (id : ItemId) (m : Mark) (es : List Entry) (b : Bool) → (m.id.0 == id.0) ≡ b → b ≡ false → cond b (Unit {0}) (IsOut id es) → IsOut id es
id_at id m es false e no_id o = o
id_at id m es true e no_id o = absurd (cc)

pub id_read : (id : ItemId) (es : List Entry) (i : ℕ) (m : Mark) → i < length es → Out m ≡ get_or es i (Out m) → (m.id.0 == id.0) ≡ false → IsOut id (drop i es) → IsOut id (drop (i + 1) es)
id_read id es i m lt is other o = let s : IsOut id (Out m ∷ drop (i + 1) es) = subst (IsOut id) (drop_read es i (Out m) lt is) o in id_at id m (drop (i + 1) es) (m.id.0 == id.0) refl other s

same_id : (a b : ItemId) → a.0 ≡ b.0 → a ≡ b
same_id a b is = ap (λ (n : ℕ). let id : ItemId = record { 0 = n } in id) is

pub out_here : (id : ItemId) (es : List Entry) (i : ℕ) (m : Mark) → i < length es → Out m ≡ get_or es i (Out m) → m.id.0 ≡ id.0 → IsOutAt es id i
out_here id es i m lt is same = subst (λ (o : Option Entry). OutAs id o) (sym (get_read es i (Out m) lt is)) (same_id m.id id same)

pub id_none : (id : ItemId) (es : List Entry) → AllWait es → IsOut id es → ⊥
id_none id [] w o = o
id_none id (Waiting p ∷ es) w o = id_none id es w o
id_none id (Out m ∷ es) w o = w

-- WHY NOTHING CAN BE TAKEN

get_past : (es : List Entry) (k : ℕ) → length es ≤ k → slice_get es k ≡ None
get_past [] k le = refl
get_past (e ∷ es) zero le = absurd (omega arith)
get_past (e ∷ es) (suc k) le = get_past es k (omega arith)

pub hold_empty : (es : List Entry) (at : ℕ) → length es ≤ at → IsHeadAt es at → hold_of es ≡ Some Empty
hold_empty es at le h = let n : head es ≡ None = subst (WaitsAs (head es)) (get_past es at le) h in ap (λ (o : Option Item). hold_from o es) n

pub head_is : (es : List Entry) (at : ℕ) (p : Item) → at < length es → Waiting p ≡ get_or es at (Waiting p) → IsHeadAt es at → head es ≡ Some p
head_is es at p lt is h = subst (WaitsAs (head es)) (get_read es at (Waiting p) lt is) h

pub head_not : (es : List Entry) (at : ℕ) (m : Mark) → at < length es → Out m ≡ get_or es at (Out m) → IsHeadAt es at → ⊥
head_not es at m lt is h = subst (WaitsAs (head es)) (get_read es at (Out m) lt is) h

pub hold_head : (es : List Entry) (at : ℕ) (p : Item) → at < length es → Waiting p ≡ get_or es at (Waiting p) → IsHeadAt es at → hold_of es ≡ hold_unless (writer_out es) p.writer (lane_of p.body) es
hold_head es at p lt is h = ap (λ (o : Option Item). hold_from o es) (head_is es at p lt is h)

pub head_none : (es : List Entry) (at : ℕ) → length es ≤ at → IsHeadAt es at → head es ≡ None
head_none es at le h = subst (WaitsAs (head es)) (get_past es at le) h

pub hold_none : (es : List Entry) (writer : Bool) (lane : Option Lane) → AllWait es → hold_unless (writer_out es) writer lane es ≡ None
hold_none es true lane w = ap (λ (o : Option ItemId). hold_unless o true lane es) (writer_none es w) ∙ ap readers_in (out_none es w)
hold_none es false lane w = ap (λ (o : Option ItemId). hold_unless o false lane es) (writer_none es w) ∙ ap same_hook (lane_none lane es w)
