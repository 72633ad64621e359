-- The captures that leave, one behind the other.
use Rattle.std.proofs.Common.{◌≡◌, ◌≢◌, inl, inr, ◌∙◌, ℕ, zero, suc, ◌+◌, ◌≤◌, ◌<◌, if◌then◌else◌, List, [], ◌∷◌, ◌++◌, length, drop, slice_get, Option, Some, refl, sym, ap, subst, arith}
use Rattle.std.specs.Io.KnownBytes.{Appends}
use Rattle.std.proofs.lemmas.Option.{get_or_from_slice_get}
use Rattle.ng_base.specs.declared.event.Event.{Event}
use Rattle.ng_machine.specs.World.{Port, blank_port}
use Rattle.ng_args.specs.Together.{is_file}
use Rattle.ng_args.specs.declared.port.PortWord.{PortWord}
use Rattle.ng_outside.specs.Count.{Rose}
use Rattle.ng_outside.specs.Contents.{Contents, HoldsNow, KeptOrBegun}
use Rattle.ng_call.specs.ending.Outside.{Stored, Outside, Place, ToSink, ToFile, PlaceRose}
use Rattle.ng_call.specs.ending.Writes.{Write, Writes, WritesAll, StopsAt, StopsFor}
use Rattle.ng_call.proofs.ending.Lists.{stops_within, writes_behind, stops_in_front, stops_behind}
use Rattle.ng_call.proofs.ending.Counts.{rose_since}
use Rattle.ng_journal.specs.Journal.{journal_text}
use Rattle.ngctl_print.specs.whole.Captures.{left_of}
use Rattle.ng_call.specs.declared.ended.Fault.{Fault}
use Rattle.ng_call.specs.declared.ended.Fault.TheVariants.{NoMemory, WriteFault}
use Rattle.ng_call.specs.declared.ended.Which.TheVariants.{Leaving}
use Rattle.ng_call.specs.Run.{port_at}
use Rattle.ng_call.specs.Writes.{text_write, out_write, out_writes, journal_writes}
use Rattle.ng_call.specs.Parts.{of_files, storing, outside, counting}

-- a list from a place on
pub drop_at : {X : Type 0} (k : ℕ) (xs : List X) → k < length xs → (x : X) × (slice_get xs k ≡ Some x) × (drop k xs ≡ x ∷ drop (k + 1) xs)
drop_at k [] within = absurd (omega (arith, within))
drop_at zero (x ∷ xs) within = (x, refl, refl)
drop_at (suc k) (x ∷ xs) within =
    let next = drop_at k xs (omega (arith, within)) in
    (next.0, next.1, next.2 ∙ ap (λ (n : ℕ). next.0 ∷ drop n (x ∷ xs)) (let e : suc (k + 1) ≡ suc k + 1 = omega arith in e))

pub port_is : (k : ℕ) (ports : List Port) (within : k < length ports) → port_at ports k ≡ (drop_at k ports within).0
port_is k ports within = get_or_from_slice_get ports k (drop_at k ports within).0 blank_port (drop_at k ports within).1

if_empty : {X : Type 0} (f : List ℕ) (a : X) (b : List ℕ → X) → f ≡ [] → (if is_file f then b f else a) ≡ a
if_empty f a b e = ap (λ (g : List ℕ). if is_file g then b g else a) e

if_some : {X : Type 0} (f : List ℕ) (a : X) (b : List ℕ → X) → f ≢ [] → (if is_file f then b f else a) ≡ b f
if_some [] a b some = absurd (some refl)
if_some (x ∷ f) a b some = refl

module _ (k : ℕ) (word : PortWord) (others : List PortWord) (ports : List Port) (within : k < length ports) where
  pub skips : word.out_file ≡ [] → out_writes k (word ∷ others) (drop k ports) ≡ out_writes (k + 1) others (drop (k + 1) ports)
  skips none =
      let at = drop_at k ports within in
      ap (λ (ps : List Port). out_writes k (word ∷ others) ps) at.2
      ∙ if_empty word.out_file (out_writes (k + 1) others (drop (k + 1) ports)) (λ f. out_write k f at.0 ∷ out_writes (k + 1) others (drop (k + 1) ports)) none

  pub takes : word.out_file ≢ [] → out_writes k (word ∷ others) (drop k ports) ≡ out_write k word.out_file (drop_at k ports within).0 ∷ out_writes (k + 1) others (drop (k + 1) ports)
  takes some =
      let at = drop_at k ports within in
      ap (λ (ps : List Port). out_writes k (word ∷ others) ps) at.2
      ∙ if_some word.out_file (out_writes (k + 1) others (drop (k + 1) ports)) (λ f. out_write k f at.0 ∷ out_writes (k + 1) others (drop (k + 1) ports)) some

  -- memory ran out for the bytes of this port
  pub runs_out : (o : Outside) (sink : Option (List ℕ)) (files : List ℕ → Contents) → word.out_file ≢ []
      → StopsAt (StopsFor NoMemory o NoMemory) (out_writes k (word ∷ others) (drop k ports)) (storing sink files) (storing sink files)
  runs_out o sink files some =
      subst (λ (ws : List (Write Fault)). StopsAt (StopsFor NoMemory o NoMemory) ws (storing sink files) (storing sink files)) (sym (takes some))
      (inl (inl refl, (inl refl, record { sink = refl; files = λ other differs. refl })))

  module _ (sink : Option (List ℕ)) (old mid : List ℕ → Contents) (others_stay : (other : List ℕ) → other ≢ word.out_file → mid other ≡ old other) (some : word.out_file ≢ []) where
    -- the write of this port failed
    pub fails : (before after : List ℕ → ℕ) (bytes : List ℕ) → bytes ≡ left_of (drop_at k ports within).0
        → KeptOrBegun (old word.out_file) (mid word.out_file) bytes → Rose (before word.out_file) (after word.out_file)
        → StopsAt (StopsFor NoMemory (of_files old mid before after) (WriteFault (Leaving k))) (out_writes k (word ∷ others) (drop k ports)) (storing sink old) (storing sink mid)
    fails before after bytes is front rose =
        subst (λ (ws : List (Write Fault)). StopsAt (StopsFor NoMemory (of_files old mid before after) (WriteFault (Leaving k))) ws (storing sink old) (storing sink mid)) (sym (takes some))
        (inl (inr (refl, rose), (subst (λ (b : List ℕ). KeptOrBegun (old word.out_file) (mid word.out_file) b) is front, record { sink = refl; files = others_stay })))

    module _ (last : List ℕ → Contents) (bytes : List ℕ) (is : bytes ≡ left_of (drop_at k ports within).0) (held : HoldsNow (old word.out_file) (mid word.out_file) bytes) where
      this : Writes (ToFile word.out_file) (left_of (drop_at k ports within).0) (storing sink old) (storing sink mid)
      this = (subst (λ (b : List ℕ). HoldsNow (old word.out_file) (mid word.out_file) b) is held, record { sink = refl; files = others_stay })

      pub whole : WritesAll (out_writes (k + 1) others (drop (k + 1) ports)) (storing sink mid) (storing sink last) → WritesAll (out_writes k (word ∷ others) (drop k ports)) (storing sink old) (storing sink last)
      whole rest = subst (λ (ws : List (Write Fault)). WritesAll ws (storing sink old) (storing sink last)) (sym (takes some)) (storing sink mid, this, rest)

      cause : (before middle after : List ℕ → ℕ) (fault : Fault) → ((other : List ℕ) → before other ≤ middle other) → (w : Write Fault)
          → StopsFor NoMemory (of_files mid last middle after) fault w → StopsFor NoMemory (of_files old last before after) fault w
      cause before middle after fault counts w (inl memory) = inl memory
      cause before middle after fault counts w (inr (is_failed, rose)) = inr (is_failed, placed w.place rose)
        where
          placed : (place : _) → PlaceRose (of_files mid last middle after) place → PlaceRose (of_files old last before after) place
          placed ToSink rose = rose
          placed (ToFile name) rose = rose_since (before name) (middle name) (after name) (counts name) rose

      pub later : (before middle after : List ℕ → ℕ) (fault : Fault) → ((other : List ℕ) → before other ≤ middle other)
          → StopsAt (StopsFor NoMemory (of_files mid last middle after) fault) (out_writes (k + 1) others (drop (k + 1) ports)) (storing sink mid) (storing sink last)
          → StopsAt (StopsFor NoMemory (of_files old last before after) fault) (out_writes k (word ∷ others) (drop k ports)) (storing sink old) (storing sink last)
      later before middle after fault counts rest =
          subst (λ (ws : List (Write Fault)). StopsAt (StopsFor NoMemory (of_files old last before after) fault) ws (storing sink old) (storing sink last)) (sym (takes some))
          (inr (
            storing sink mid,
            this,
            stops_within (StopsFor NoMemory (of_files mid last middle after) fault) (StopsFor NoMemory (of_files old last before after) fault)
                (λ w c. cause before middle after fault counts w c) (out_writes (k + 1) others (drop (k + 1) ports)) (storing sink mid) (storing sink last) rest,
          ))

-- the journal's file
pub journal_written : (given : Option (List ℕ)) (name : List ℕ) (journal : List Event) (bytes : List ℕ) (sink : Option (List ℕ)) (old mid : List ℕ → Contents) → given ≡ Some name → bytes ≡ journal_text journal
    → HoldsNow (old name) (mid name) bytes → ((other : List ℕ) → other ≢ name → mid other ≡ old other) → WritesAll (journal_writes given journal) (storing sink old) (storing sink mid)
journal_written given name journal bytes sink old mid is text held stay =
    subst (λ (g : Option (List ℕ)). WritesAll (journal_writes g journal) (storing sink old) (storing sink mid)) (sym is)
    (storing sink mid, (subst (λ (b : List ℕ). HoldsNow (old name) (mid name) b) text held, record { sink = refl; files = stay }), record { sink = refl; files = refl })

-- counts that rose in a part of the call rose in the call
placed : (before middle after : List ℕ → ℕ) (sb sa : ℕ) (a b c d : Stored) (x y : List ℕ → Contents) → ((other : List ℕ) → before other ≤ middle other) → (place : Place)
    → PlaceRose (of_files x y middle after) place → PlaceRose (outside a b (counting sb before) (counting sa after)) place
placed before middle after sb sa a b c d x y counts ToSink rose = absurd (omega (arith, rose))
placed before middle after sb sa a b c d x y counts (ToFile name) rose = rose_since (before name) (middle name) (after name) (counts name) rose

causes : (before middle after : List ℕ → ℕ) (sb sa : ℕ) (a b : Stored) (x y : List ℕ → Contents) (fault : Fault) → ((other : List ℕ) → before other ≤ middle other) → (w : Write Fault)
    → StopsFor NoMemory (of_files x y middle after) fault w → StopsFor NoMemory (outside a b (counting sb before) (counting sa after)) fault w
causes before middle after sb sa a b x y fault counts w (inl memory) = inl memory
causes before middle after sb sa a b x y fault counts w (inr (is_failed, rose)) = inr (is_failed, placed before middle after sb sa a b a b x y counts w.place rose)

module _ (text : List ℕ) (outs journal : List (Write Fault)) (sink next : Option (List ℕ)) (files : List ℕ → Contents) (appended : Appends sink next text) where
  pub all_written : (mid last : List ℕ → Contents) → WritesAll outs (storing next files) (storing next mid) → WritesAll journal (storing next mid) (storing next last)
      → WritesAll (text_write text ∷ (outs ++ journal)) (storing sink files) (storing next last)
  all_written mid last first second = (storing next files, (appended, refl), writes_behind outs journal (storing next files) (storing next mid) (storing next last) first second)

  pub outs_stop : (last : List ℕ → Contents) (before after : List ℕ → ℕ) (sb sa : ℕ) (fault : Fault)
      → StopsAt (StopsFor NoMemory (of_files files last before after) fault) outs (storing next files) (storing next last)
      → StopsAt (StopsFor NoMemory (outside (storing sink files) (storing next last) (counting sb before) (counting sa after)) fault) (text_write text ∷ (outs ++ journal)) (storing sink files) (storing next last)
  outs_stop last before after sb sa fault stops =
      inr (
        storing next files,
        (appended, refl),
        stops_in_front (StopsFor NoMemory (outside (storing sink files) (storing next last) (counting sb before) (counting sa after)) fault) outs journal (storing next files) (storing next last)
            (stops_within (StopsFor NoMemory (of_files files last before after) fault) (StopsFor NoMemory (outside (storing sink files) (storing next last) (counting sb before) (counting sa after)) fault)
            (λ w c. causes before before after sb sa (storing sink files) (storing next last) files last fault (λ other. omega arith) w c) outs (storing next files) (storing next last) stops),
      )

  pub journal_stops : (mid last : List ℕ → Contents) (before middle after : List ℕ → ℕ) (sb sa : ℕ) (fault : Fault) → ((other : List ℕ) → before other ≤ middle other)
      → WritesAll outs (storing next files) (storing next mid)
      → StopsAt (StopsFor NoMemory (of_files mid last middle after) fault) journal (storing next mid) (storing next last)
      → StopsAt (StopsFor NoMemory (outside (storing sink files) (storing next last) (counting sb before) (counting sa after)) fault) (text_write text ∷ (outs ++ journal)) (storing sink files) (storing next last)
  journal_stops mid last before middle after sb sa fault counts first stops =
      inr (
        storing next files,
        (appended, refl),
        stops_behind (StopsFor NoMemory (outside (storing sink files) (storing next last) (counting sb before) (counting sa after)) fault) outs journal (storing next files) (storing next mid) (storing next last) first
            (stops_within (StopsFor NoMemory (of_files mid last middle after) fault) (StopsFor NoMemory (outside (storing sink files) (storing next last) (counting sb before) (counting sa after)) fault)
            (λ w c. causes before middle after sb sa (storing sink files) (storing next last) mid last fault counts w c) journal (storing next mid) (storing next last) stops),
      )

-- the same since before the files were read
pub since : (ws : List (Write Fault)) (sink next : Option (List ℕ)) (old last : List ℕ → Contents) (before middle after : List ℕ → ℕ) (sb sa : ℕ) (fault : Fault) → ((other : List ℕ) → before other ≤ middle other)
    → StopsAt (StopsFor NoMemory (outside (storing sink old) (storing next last) (counting sb middle) (counting sa after)) fault) ws (storing sink old) (storing next last)
    → StopsAt (StopsFor NoMemory (outside (storing sink old) (storing next last) (counting sb before) (counting sa after)) fault) ws (storing sink old) (storing next last)
since ws sink next old last before middle after sb sa fault counts stops =
    stops_within (StopsFor NoMemory (outside (storing sink old) (storing next last) (counting sb middle) (counting sa after)) fault) (StopsFor NoMemory (outside (storing sink old) (storing next last) (counting sb before) (counting sa after)) fault)
    cause ws (storing sink old) (storing next last) stops
  where
    rise : (place : Place) → PlaceRose (outside (storing sink old) (storing next last) (counting sb middle) (counting sa after)) place → PlaceRose (outside (storing sink old) (storing next last) (counting sb before) (counting sa after)) place
    rise ToSink rose = rose
    rise (ToFile name) rose = rose_since (before name) (middle name) (after name) (counts name) rose

    cause : (w : Write Fault) → StopsFor NoMemory (outside (storing sink old) (storing next last) (counting sb middle) (counting sa after)) fault w → StopsFor NoMemory (outside (storing sink old) (storing next last) (counting sb before) (counting sa after)) fault w
    cause w (inl memory) = inl memory
    cause w (inr (is_failed, rose)) = inr (is_failed, rise w.place rose)

pub stops_since : (ws : List (Write Fault)) (sink next : Option (List ℕ)) (old mid last : List ℕ → Contents) (before middle after : List ℕ → ℕ) (sb sa : ℕ) (fault : Fault) → mid ≡ old → ((other : List ℕ) → before other ≤ middle other)
    → StopsAt (StopsFor NoMemory (outside (storing sink mid) (storing next last) (counting sb middle) (counting sa after)) fault) ws (storing sink mid) (storing next last)
    → StopsAt (StopsFor NoMemory (outside (storing sink old) (storing next last) (counting sb before) (counting sa after)) fault) ws (storing sink old) (storing next last)
stops_since ws sink next old mid last before middle after sb sa fault same counts stops =
    since ws sink next old last before middle after sb sa fault counts
    (subst (λ (f : List ℕ → Contents). StopsAt (StopsFor NoMemory (outside (storing sink f) (storing next last) (counting sb middle) (counting sa after)) fault) ws (storing sink f) (storing next last)) same stops)
