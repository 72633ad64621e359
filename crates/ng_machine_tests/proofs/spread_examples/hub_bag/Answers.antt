use Rattle.std.proofs.Common.{◌≡◌, ◌++◌, List, [], ℕ, refl, sym, ◌∙◌, subst, true}
use Rattle.ng_machine.specs.declared.item.Item.{Item}
use Rattle.ng_machine.specs.Words.{Has, Every}
use Rattle.ng_machine.specs.Body.{has_frame}
use Rattle.ng_machine.specs.Laws.{IsJournal, start, world_after}
use Rattle.ng_machine.specs.Run.{beginning}
use Rattle.ng_machine.specs.Tests.{is_orderly_from}
use Rattle.ng_laws.specs.still_graph.Bag.{IsTraffic, inputs_from}
use Rattle.ng_machine_tests.specs.SpreadExamples.{hub_setting, hub_before, hub_more}
use Rattle.ng_machine.proofs.Tested.{orderly_by_test}
use Rattle.ng_machine_tests.proofs.spread_examples.hub_bag.Goals as goal

full_before : (world_after hub_setting hub_before).lost.full ≡ 0
full_before = refl

spool_before : (world_after hub_setting hub_before).lost.spool ≡ 0
spool_before = refl

fed_before : (world_after hub_setting hub_before).fed ≡ 3
fed_before = refl

none_before : (world_after hub_setting hub_before).pending ≡ []
none_before = refl

full_after : (world_after hub_setting (hub_before ++ hub_more)).lost.full ≡ 0
full_after = refl

spool_after : (world_after hub_setting (hub_before ++ hub_more)).lost.spool ≡ 0
spool_after = refl

tested : is_orderly_from hub_setting.given hub_setting.budget hub_setting.seats (beginning (start hub_setting)) (hub_before ++ hub_more) ≡ true
tested = refl

is_journal : IsJournal hub_setting (hub_before ++ hub_more)
is_journal = (orderly_by_test hub_setting.given hub_setting.budget hub_setting.seats (beginning (start hub_setting)) (hub_before ++ hub_more)).0 tested

pub returns : goal.returns
returns c = (
  record {
    orderly = is_journal;
    frames = subst (λ (ps : List Item). (item : Item) → Has item ps → has_frame item ≡ true) (sym none_before) (λ item h. absurd h);
    traffic = subst (λ (k : ℕ). Every IsTraffic (inputs_from hub_setting.given k hub_more)) (sym fed_before) (tt, (tt, tt));
    unstopped = refl;
  },
  record { full = full_after ∙ sym full_before; spool = spool_after ∙ sym spool_before },
  refl,
  refl,
  refl,
)
