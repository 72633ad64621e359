-- An orderly journal keeps the laws.
use Rattle.std.proofs.Common.{◌≡◌, ◌≢◌, ◌∷◌, ◌++◌, List, sym, subst}
use Rattle.ng_base.specs.declared.event.Event.{Event}
use Rattle.ng_base.specs.declared.event.Event.TheVariants.{Take}
use Rattle.ng_machine.specs.declared.item.Item.{Item}
use Rattle.ng_machine.specs.Lawful.{OrderlyIsLawful}
use Rattle.ng_machine.specs.Laws.{Setting, IsGone, IsJournal, start, world_after}
use Rattle.ng_machine.specs.Run.{beginning}
use Rattle.ng_machine.specs.Words.{Has}
use Rattle.ng_machine.proofs.Counted.{once}
use Rattle.ng_machine.proofs.Ordering.{alone, in_order, orderly_front, serial}
use Rattle.ng_machine.proofs.Stilled.{still}
use Rattle.ng_machine.proofs.Vanished.{retired}

-- what is in front of an orderly journal's rest is orderly
front : (s : Setting) (journal before rest : List Event) → IsJournal s journal → journal ≡ before ++ rest → IsJournal s before
front s journal before rest J e = orderly_front s.given s.budget s.seats (beginning (start s)) before rest (subst (IsJournal s) e J)

pub keeps_laws : OrderlyIsLawful
keeps_laws s journal J = record {
  accounted = (once s journal J).0;
  once = (once s journal J).1;
  in_order = λ before rest a b e. in_order s before rest a b (subst (IsJournal s) e J);
  writer_alone = λ before rest a b i j e. alone s before a b i j (front s journal before rest J e);
  still = λ before more rest item seat e. still s before more item seat (front s journal (before ++ Take seat item.id ∷ more) rest J e);
  retired = λ before rest id e gone.
      subst (λ (j : List Event). IsGone (world_after s j) id × ((item : Item) → Has item (world_after s j).pending → item.to ≢ id)) (sym e) (retired s before rest id (subst (IsJournal s) e J) gone);
  serial = λ before rest id e. serial s before rest id (subst (IsJournal s) e J);
}
