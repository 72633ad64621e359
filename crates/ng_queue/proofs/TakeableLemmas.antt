-- A queue holds nothing back exactly where its head may be taken.
use Rattle.std.proofs.Common.{◌≡◌, inl, inr, Bool, true, false, cond, List, [], ◌∷◌, refl, sym, ap, ◌∙◌}
use Rattle.std.specs.Prelude.{Option, Some, None}
use Rattle.ng_base.specs.declared.ids.ItemId.{ItemId}
use Rattle.ng_machine.specs.declared.body.Lane.{Lane}
use Rattle.ng_machine.specs.declared.item.Item.{Item}
use Rattle.ng_machine.specs.Body.{lane_of, share_lane}
use Rattle.ng_queue.specs.declared.entry.Mark.{Mark}
use Rattle.ng_queue.specs.declared.entry.Entry.{Entry}
use Rattle.ng_queue.specs.declared.entry.Entry.TheVariants.{Waiting, Out}
use Rattle.ng_queue.specs.Queue.{head, out_count, writer_out, lane_out, hold_of, hold_from, hold_unless, hold_beside, readers_in, same_hook}
use Rattle.ng_queue.specs.Takeable.{IsTakeable, HasMark}

-- no writer is out where none is found
no_writer_at : (m n : Mark) (es : List Entry) (b : Bool) → n.writer ≡ b → cond b (Some n.id) (writer_out es) ≡ None → (writer_out es ≡ None → HasMark m es → m.writer ≡ false) → HasMark m (Out n ∷ es) → m.writer ≡ false
no_writer_at m n es true is none rest out = absurd (cc)
no_writer_at m n es false is none rest (inl e) = let same : m ≡ n = cc in ap (λ (x : Mark). x.writer) same ∙ is
no_writer_at m n es false is none rest (inr out) = rest none out

no_writer : (m : Mark) (es : List Entry) → writer_out es ≡ None → HasMark m es → m.writer ≡ false
no_writer m [] none out = absurd out
no_writer m (Waiting p ∷ es) none (inl e) = absurd (cc)
no_writer m (Waiting p ∷ es) none (inr out) = no_writer m es none out
no_writer m (Out n ∷ es) none out = no_writer_at m n es n.writer refl none (no_writer m es) out

none_out : (m : Mark) (es : List Entry) → readers_in (out_count es) ≡ None → HasMark m es → ⊥
none_out m [] none out = out
none_out m (Waiting p ∷ es) none (inl e) = absurd (cc)
none_out m (Waiting p ∷ es) none (inr out) = none_out m es none out
none_out m (Out n ∷ es) none out = absurd (cc)

no_lane_at : (lane : Option Lane) (m n : Mark) (es : List Entry) (b : Bool) → share_lane n.lane lane ≡ b → cond b (Some n.id) (lane_out lane es) ≡ None → (lane_out lane es ≡ None → HasMark m es → share_lane m.lane lane ≡ false) → HasMark m (Out n ∷ es) → share_lane m.lane lane ≡ false
no_lane_at lane m n es true is none rest out = absurd (cc)
no_lane_at lane m n es false is none rest (inl e) = let same : m ≡ n = cc in ap (λ (x : Mark). share_lane x.lane lane) same ∙ is
no_lane_at lane m n es false is none rest (inr out) = rest none out

no_lane : (lane : Option Lane) (m : Mark) (es : List Entry) → lane_out lane es ≡ None → HasMark m es → share_lane m.lane lane ≡ false
no_lane lane m [] none out = absurd out
no_lane lane m (Waiting p ∷ es) none (inl e) = absurd (cc)
no_lane lane m (Waiting p ∷ es) none (inr out) = no_lane lane m es none out
no_lane lane m (Out n ∷ es) none out = no_lane_at lane m n es (share_lane n.lane lane) refl none (no_lane lane m es) out

no_hook : (o : Option ItemId) → same_hook o ≡ None → o ≡ None
no_hook None e = refl
no_hook (Some id) e = absurd (cc)

free_beside : (es : List Entry) (item : Item) (w : Bool) → item.writer ≡ w → head es ≡ Some item → writer_out es ≡ None → hold_beside w (lane_of item.body) es ≡ None → IsTakeable es item
free_beside es item true is first none free = record {
  first = first;
  no_writer = λ m out. no_writer m es none out;
  alone = λ m out. absurd (none_out m es free out);
  other_lanes = λ m out. absurd (none_out m es free out);
}
free_beside es item false is first none free = record {
  first = first;
  no_writer = λ m out. no_writer m es none out;
  alone = λ m out. is;
  other_lanes = λ m out. no_lane (lane_of item.body) m es (no_hook (lane_out (lane_of item.body) es) free) out;
}

free_unless : (es : List Entry) (item : Item) (o : Option ItemId) → writer_out es ≡ o → head es ≡ Some item → hold_unless o item.writer (lane_of item.body) es ≡ None → IsTakeable es item
free_unless es item None none first free = free_beside es item item.writer refl first none free
free_unless es item (Some id) some first free = absurd (cc)

pub free_takeable : (es : List Entry) (item : Item) → head es ≡ Some item → hold_of es ≡ None → IsTakeable es item
free_takeable es item first free =
    free_unless es item (writer_out es) refl first (sym (ap (λ (o : Option Item). hold_from o es) first) ∙ free)

-- and the other way round

writer_none_at : (n : Mark) (es : List Entry) (b : Bool) → n.writer ≡ b → n.writer ≡ false → writer_out es ≡ None → cond b (Some n.id) (writer_out es) ≡ None
writer_none_at n es true is other rest = let never : true ≡ false = sym is ∙ other in absurd (cc)
writer_none_at n es false is other rest = rest

writer_none : (es : List Entry) → ((m : Mark) → HasMark m es → m.writer ≡ false) → writer_out es ≡ None
writer_none [] h = refl
writer_none (Waiting p ∷ es) h = writer_none es (λ m out. h m (inr out))
writer_none (Out n ∷ es) h = writer_none_at n es n.writer refl (h n (inl refl)) (writer_none es (λ m out. h m (inr out)))

lane_none_at : (lane : Option Lane) (n : Mark) (es : List Entry) (b : Bool) → share_lane n.lane lane ≡ b → share_lane n.lane lane ≡ false → lane_out lane es ≡ None → cond b (Some n.id) (lane_out lane es) ≡ None
lane_none_at lane n es true is other rest = let never : true ≡ false = sym is ∙ other in absurd (cc)
lane_none_at lane n es false is other rest = rest

lane_none : (lane : Option Lane) (es : List Entry) → ((m : Mark) → HasMark m es → share_lane m.lane lane ≡ false) → lane_out lane es ≡ None
lane_none lane [] h = refl
lane_none lane (Waiting p ∷ es) h = lane_none lane es (λ m out. h m (inr out))
lane_none lane (Out n ∷ es) h = lane_none_at lane n es (share_lane n.lane lane) refl (h n (inl refl)) (lane_none lane es (λ m out. h m (inr out)))

out_none : (w : Bool) → w ≡ true → (es : List Entry) → ((m : Mark) → HasMark m es → w ≡ false) → out_count es ≡ 0
out_none w is [] h = refl
out_none w is (Waiting p ∷ es) h = out_none w is es (λ m out. h m (inr out))
out_none w is (Out n ∷ es) h = let no : w ≡ false = h n (inl refl) in absurd (cc)

beside_none : (es : List Entry) (item : Item) (w : Bool) → item.writer ≡ w → IsTakeable es item → hold_beside w (lane_of item.body) es ≡ None
beside_none es item true is takeable = ap readers_in (out_none item.writer is es takeable.alone)
beside_none es item false is takeable = ap same_hook (lane_none (lane_of item.body) es takeable.other_lanes)

pub takeable_free : (es : List Entry) (item : Item) → IsTakeable es item → hold_of es ≡ None
takeable_free es item takeable =
    ap (λ (o : Option Item). hold_from o es) takeable.first
    ∙ ap (λ (o : Option ItemId). hold_unless o item.writer (lane_of item.body) es) (writer_none es takeable.no_writer)
    ∙ beside_none es item item.writer refl takeable
