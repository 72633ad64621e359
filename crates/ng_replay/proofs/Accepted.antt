-- The journal of a run is accepted by its replay.
use Rattle.std.proofs.Common.{◌≡◌, ◌∙◌, ℕ, ◌+◌, List, [], ◌∷◌, length, map, Option, refl, sym, ap, subst}
use Rattle.ng_base.specs.declared.event.Event.{Event}
use Rattle.ng_base.specs.declared.kind.Kind.{Kind}
use Rattle.ng_journal.proofs.Written.{written_is_read}
use Rattle.ng_machine.specs.Laws.{Setting, world_after}
use Rattle.ng_table.specs.reading.Reading.{given}
use Rattle.ng_pcap.specs.declared.capture.Capture.{Capture}
use Rattle.ngctl_script.specs.Script.{commands_of}
use Rattle.ngctl_print.specs.whole.Text.{PortShown, world_text}
use Rattle.ng_args.specs.declared.port.PortWord.{PortWord}
use Rattle.ng_args.specs.declared.words.ReplayWords.{ReplayWords}
use Rattle.ng_args.specs.declared.words.Words.{Words}
use Rattle.ng_args.specs.Run.{ports_from}
use Rattle.ng_call.specs.Found.{Found, captures_in}
use Rattle.ng_call.specs.Run.{inputs_in, setting_in}
use Rattle.ng_call.specs.Writes.{is_stopped, shown_by, shown_ports, text_in}
use Rattle.ng_replay.specs.judge.Verdict.{IsVerdict}
use Rattle.ng_replay.specs.declared.judge.verdict.Verdict.TheVariants as says
use Rattle.ng_replay.specs.Accepted.{IsReplayOf, RunsAreAccepted, port_names, read_again}
use Rattle.ng_replay.specs.Call.{events_if, events_in, run_of, text_write}

-- the setting of a run, by what its words say of it
abbrev setting_by : List Kind → Found → List ℕ → List (List ℕ) → ℕ → ℕ → Setting
setting_by kinds found own ports budget workers = record {
  own = own;
  ports = ports;
  stock = kinds;
  given = given (inputs_in found);
  budget = budget;
  seats = workers + 1;
}

same_setting : (kinds : List Kind) (words : Words) (found : Found) (replayed : ReplayWords) → IsReplayOf words replayed
    → setting_in kinds (run_of replayed) found ≡ setting_in kinds words found
same_setting kinds words found replayed of =
    ap (λ (own : List ℕ). setting_by kinds found own (port_names replayed.ports) replayed.budget replayed.workers) of.own_name
    ∙ ap (λ (ports : List (List ℕ)). setting_by kinds found words.own_name ports replayed.budget replayed.workers) of.names
    ∙ ap (λ (budget : ℕ). setting_by kinds found words.own_name (port_names (ports_from words.source)) budget replayed.workers) of.budget
    ∙ ap (λ (workers : ℕ). setting_by kinds found words.own_name (port_names (ports_from words.source)) words.budget workers) of.workers

-- ports of the same names are shown alike
same_shown : (a b : List PortWord) (cuts : List (Option ℕ)) → port_names a ≡ port_names b → shown_by a cuts ≡ shown_by b cuts
same_shown [] [] cuts same = refl
same_shown [] (y ∷ b) cuts same = absurd (cc same)
same_shown (x ∷ a) [] cuts same = absurd (cc same)
same_shown (x ∷ a) (y ∷ b) [] same = refl
same_shown (x ∷ a) (y ∷ b) (cut ∷ cuts) same =
    let name : x.name ≡ y.name = cc same in
    let names : port_names a ≡ port_names b = cc same in
    ap (λ (n : List ℕ). let shown : PortShown = record { name = n; cut = cut } in shown ∷ shown_by a cuts) name
    ∙ ap (λ (l : List PortShown). let shown : PortShown = record { name = y.name; cut = cut } in shown ∷ l) (same_shown a b cuts names)

-- the text of a run, by the ports that it shows and by its setting
abbrev text_by : Found → List Event → List PortShown → Setting → List ℕ
text_by found journal shown s =
    world_text (map (λ timed. timed.1) (commands_of found.script)) shown (length (inputs_in found)) (world_after s journal) (is_stopped journal)

same_text : (kinds : List Kind) (words : Words) (found : Found) (journal : List Event) (replayed : ReplayWords) → IsReplayOf words replayed
    → text_in kinds (run_of replayed) found journal ≡ text_in kinds words found journal
same_text kinds words found journal replayed of =
    ap (λ (shown : List PortShown). text_by found journal shown (setting_in kinds (run_of replayed) found))
    (same_shown replayed.ports (ports_from words.source) (map (λ (capture : Capture). capture.cut) (captures_in found.captures)) of.names)
    ∙ ap (text_by found journal (shown_ports (ports_from words.source) (captures_in found.captures))) (same_setting kinds words found replayed of)

pub runs_are_accepted : RunsAreAccepted
runs_are_accepted kinds words found journal replayed of ran fits =
    let events : events_in (read_again found journal) ≡ journal = ap events_if (written_is_read journal fits) in
    record {
      yes =
          subst (λ (l : List Event). IsVerdict (setting_in kinds (run_of replayed) found) l says.Yes) (sym events)
          (subst (λ (s : Setting). IsVerdict s journal says.Yes) (sym (same_setting kinds words found replayed of)) (ran.orderly, ran.whole));
      text =
          ap (λ (l : List Event). text_write (text_in kinds (run_of replayed) found l) ∷ []) events
          ∙ ap (λ (text : List ℕ). text_write text ∷ []) (same_text kinds words found journal replayed of);
    }
