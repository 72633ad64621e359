-- The laws of what is printed.
use Rattle.std.proofs.Common.{ℕ, ◌<◌, List, [], ◌∷◌, refl, inl, inr, arith, Ok, Err, IsOk, Result}
use Rattle.ng_base.specs.declared.event.Event.{Event}
use Rattle.ng_base.specs.declared.ids.Stamp.{Stamp}
use Rattle.ng_shape.specs.Shape.{Shape}
use Rattle.ng_shape.specs.Decoding.{value_from, ◌>>=◌}
use Rattle.ng_parse.specs.Printing.{print}
use Rattle.ng_parse.specs.Texts.{text_of_bytes}
use Rattle.ng_machine.specs.declared.told.Told.{Told}
use Rattle.ng_machine.specs.declared.told.Told.TheVariants.{Line, Refused, Help, Answer, Frame}
use Rattle.ng_machine.specs.Bounds.{Fits}
use Rattle.ng_machine.specs.KnownRun.{ToldFits, PortFits}
use Rattle.ng_machine.specs.Laws.{Setting, IsJournal, world_after}
use Rattle.ng_machine.specs.LowRun.{IsModest}
use Rattle.ng_machine.specs.Words.{Has, Every}
use Rattle.ng_machine.specs.World.{Port}
use Rattle.ng_machine.proofs.Knowing.{runs_are_known}
use Rattle.ng_pcap.specs.Writing.{IsWritable}
use Rattle.ng_laws.specs.answers.Answers.{HasNames, HasLayout}
use Rattle.ng_laws.proofs.answers.Runs.{answers_have_rows}
use Rattle.ngctl_print.specs.whole.Captures.{AreWritable}
use Rattle.ngctl_print.specs.whole.Commands.{commands_in}
use Rattle.ngctl_print.specs.whole.Told.{IsPrintable}
use Rattle.ng_laws.specs.printable.Printable.{AscendFrom, end_of_time, ToldIsPrintable, AnswersHaveText, LeftIsWritable}
use Rattle.ng_laws.proofs.printable.Fitting.{fits_command}
use Rattle.ng_laws.proofs.printable.Timed.{LeftBefore, left_before}

-- what holds of each element that stands in a list, and of that element otherwise
every_has : {A : Type 0} (P Q : A → Type 0) (xs : List A) → ((x : A) → Has x xs → Q x → P x) → Every Q xs → Every P xs
every_has P Q [] each all = tt
every_has P Q (x ∷ xs) each all = (each x (inl refl) all.0, every_has P Q xs (λ y h. each y (inr h)) all.1)

-- Entries

entry_printable : (s : Setting) (journal : List Event) → IsJournal s journal → IsModest s → HasNames s
    → AscendFrom 0 (commands_in s.given.inputs) → (told : Told) → Has told (world_after s journal).told → ToldFits told
    → IsPrintable (commands_in s.given.inputs) told
entry_printable s journal o modest names numbered (Line command) h fits = tt
entry_printable s journal o modest names numbered (Refused command errno why) h fits = tt
entry_printable s journal o modest names numbered (Help command) h fits = tt
entry_printable s journal o modest names numbered (Answer command from cookie number bytes) h fits =
    let answer = (answers_have_rows s journal o modest names).told command from cookie number bytes h in
    fits_command s.given (world_after s journal).fed command cookie number bytes numbered answer.asked answer.row
entry_printable s journal o modest names numbered (Frame hook packet) h fits = fits

pub told_is_printable : ToldIsPrintable
told_is_printable s journal o modest names numbered =
    every_has (IsPrintable (commands_in s.given.inputs)) ToldFits (world_after s journal).told
    (entry_printable s journal o modest names numbered) (runs_are_known s journal o modest.fits).told

-- Texts

ok_bind : {A B E : Type 0} (r : Result A E) (f : A → B) → IsOk r → IsOk (r >>= λ x. Ok (f x))
ok_bind (Ok x) f ok = refl
ok_bind (Err e) f ok = cc

text_of_layout : (s : Shape) (bytes : List ℕ) → HasLayout s bytes → IsOk (text_of_bytes s bytes)
unfolding text_of_bytes
text_of_layout s bytes layout = ok_bind (value_from s bytes) (λ v. print s v) layout

pub answers_have_text : AnswersHaveText
answers_have_text s journal command from cookie number bytes o modest names h =
    let row = ((answers_have_rows s journal o modest names).told command from cookie number bytes h).row in
    record { row = row.row; found = row.found; text = text_of_layout row.row.answer bytes row.layout }

-- Captures

writable : (leaving : List (Stamp × List ℕ)) → Every (λ (x : Stamp × List ℕ). Fits x.1) leaving
    → Every (λ (x : Stamp × List ℕ). x.0.0 < end_of_time) leaving → Every IsWritable leaving
writable [] fits before = tt
writable (x ∷ xs) fits before =
    (record { in_seconds = before.0; in_length = fits.0 }, writable xs fits.1 before.1)

all_writable : (ports : List Port) → Every PortFits ports → Every (LeftBefore end_of_time) ports
    → Every (λ (port : Port). AreWritable port.leaving) ports
all_writable [] fits before = tt
all_writable (port ∷ ports) fits before = (writable port.leaving fits.0 before.0, all_writable ports fits.1 before.1)

pub left_is_writable : LeftIsWritable
left_is_writable s journal o fit timed =
    all_writable (world_after s journal).ports (runs_are_known s journal o fit).left (left_before end_of_time s journal (omega arith) timed)
