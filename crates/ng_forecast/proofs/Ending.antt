-- How the parts of a forecast make its end.
use Rattle.std.proofs.Common.{◌≡◌, ◌⊎◌, inl, inr, ◌∙◌, ℕ, List, [], ◌∷◌, map, Bool, true, false, if◌then◌else◌, refl, sym, ap, subst}
use Rattle.std.specs.Io.KnownBytes.{Appends}
use Rattle.std.specs.declared.option.Option.{Option}
use Rattle.std.specs.declared.option.Option.TheVariants.{None, Some}
use Rattle.ng_base.specs.declared.event.Event.{Event}
use Rattle.ng_base.specs.declared.kind.Kind.{Kind}
use Rattle.ng_machine.specs.Laws.{world_after}
use Rattle.ng_machine.specs.World.{NodeRecord}
use Rattle.ng_machine.specs.Spread.{Spread, Flight, spread_all, spread_in}
use Rattle.ng_machine.proofs.Reached.{plain_is_there}
use Rattle.ng_outside.specs.Contents.{Contents}
use Rattle.ng_outside.specs.Count.{Rose}
use Rattle.ng_outside.specs.Write.{AppendsPrefix}
use Rattle.ng_pcap.specs.declared.capture.Capture.{Capture as ReadCapture}
use Rattle.ngctl_script.specs.feed.Inputs.{Timed}
use Rattle.ng_args.specs.declared.words.ForecastWords.{ForecastWords}
use Rattle.ng_call.specs.ending.Outside.{Outside, Same}
use Rattle.ng_call.specs.ending.Steps.{Checks, first_fault, Refuses}
use Rattle.ng_call.proofs.ending.Lists.{first_behind, refuses_behind, refuses_in_front, refuses_within}
use Rattle.ng_call.specs.Parts.{counting, of_files, outside, storing}
use Rattle.ng_forecast.specs.declared.ended.ForecastFault.{ForecastFault}
use Rattle.ng_forecast.specs.declared.ended.ForecastFault.TheVariants.{Usage, WriteFault, Restless, NoMemory}
use Rattle.ng_forecast.specs.Packets.{packet_fault}
use Rattle.ng_forecast.specs.Steps.{IsRun, flights_in, flights_of, forecast_steps, late_steps, read_steps, restless, setting_in, setting_of}
use Rattle.ng_call.specs.Writes.{is_stopped}
use Rattle.ngctl_script.specs.Script.{commands_of}
use Rattle.ng_forecast.specs.Text.{bag_text}
use Rattle.ng_forecast.specs.Call.{fault_status, world_in}
use Rattle.ng_forecast.specs.Ends.{ForecastEnds}
use Rattle.ng_forecast.proofs.Reading.{memory_stops}
use Rattle.ng_forecast.specs.Parts.{IsForetold, IsForetoldOf, IsNotForetold, IsReadIn, IsRefusedOf, ReadStops, untold}

-- checks read no file
checks_alone : (files : List ℕ → Contents) (a b : Option ForecastFault) → first_fault files (Checks a ∷ Checks b ∷ []) ≡ first_fault untold (Checks a ∷ Checks b ∷ [])
checks_alone files None None = refl
checks_alone files None (Some b) = refl
checks_alone files (Some a) b = refl

checks_refuse : (o : Outside) (a b : Option ForecastFault) (fault : ForecastFault) → first_fault untold (Checks a ∷ Checks b ∷ []) ≡ Some fault → Refuses o (Checks a ∷ Checks b ∷ []) fault
checks_refuse o None None fault e = absurd (cc e)
checks_refuse o None (Some b) fault e = let same : b ≡ fault = cc e in sym same
checks_refuse o (Some a) b fault e = let same : a ≡ fault = cc e in sym same

-- what was not read isn't foretold
pub unread : (kinds : List Kind) (o : Outside) (words : ForecastWords) (fault : ForecastFault) → ReadStops o words fault → IsNotForetold kinds o words fault
unread kinds o words fault (found, is_found, stops) =
    let plain = plain_is_there (setting_in kinds words found) in
    record {
      found = found;
      is_found = is_found;
      journal = plain.0;
      is_run = plain.1;
      stops = by plain.0 stops;
    }
  where
    by : (journal : List Event) → (fault ≡ NoMemory) ⊎ Refuses o (read_steps words found) fault
        → (fault ≡ NoMemory) ⊎ Refuses o (forecast_steps (world_in kinds words found journal) journal words found) fault
    by journal (inl memory) = inl memory
    by journal (inr r) = inr (refuses_in_front o (read_steps words found) (late_steps (world_in kinds words found journal) journal words.hops _) fault r)

module _ (kinds : List Kind) (old : List ℕ → Contents) (words : ForecastWords) (script : Timed) (captures : List ReadCapture) (r : IsReadIn old words script captures) where
  of_found : (bag : Spread) → IsForetoldOf kinds words script (flights_of captures) bag → IsForetoldOf kinds words (commands_of r.found.script) (flights_in r.found) bag
  of_found bag f =
      subst (λ (c : List ReadCapture). IsForetoldOf kinds words (commands_of r.found.script) (flights_of c) bag) r.captures_are
      (subst (λ (t : Timed). IsForetoldOf kinds words t (flights_of captures) bag) r.script_is f)

  pub foretold : (bag : Spread) → IsForetoldOf kinds words script (flights_of captures) bag → IsForetold kinds old words bag
  foretold bag f =
      let g = of_found bag f in
      record {
        found = r.found;
        is_found = r.is_found;
        journal = g.journal;
        is_run = g.is_run;
        fine =
            first_behind old (read_steps words r.found) (late_steps (world_in kinds words r.found g.journal) g.journal words.hops (flights_in r.found)) r.fine
            ∙ checks_alone old (restless g.journal) (packet_fault (world_in kinds words r.found g.journal).nodes words.hops (flights_in r.found))
            ∙ g.fine;
        bag_is = g.bag_is;
      }

  refused_found : (fault : ForecastFault) → IsRefusedOf kinds words script (flights_of captures) fault → IsRefusedOf kinds words (commands_of r.found.script) (flights_in r.found) fault
  refused_found fault f =
      subst (λ (c : List ReadCapture). IsRefusedOf kinds words (commands_of r.found.script) (flights_of c) fault) r.captures_are
      (subst (λ (t : Timed). IsRefusedOf kinds words t (flights_of captures) fault) r.script_is f)

  pub not_foretold : (last : List ℕ → Contents) (before after : List ℕ → ℕ) (fault : ForecastFault) → IsRefusedOf kinds words script (flights_of captures) fault
      → IsNotForetold kinds (of_files old last before after) words fault
  not_foretold last before after fault f =
      let g = refused_found fault f in
      record { found = r.found; is_found = r.is_found; journal = g.journal; is_run = g.is_run; stops = by g.journal g.cause }
    where
      by : (journal : List Event) → (fault ≡ NoMemory) ⊎ (first_fault untold (late_steps (world_in kinds words r.found journal) journal words.hops (flights_in r.found)) ≡ Some fault)
          → (fault ≡ NoMemory) ⊎ Refuses (of_files old last before after) (forecast_steps (world_in kinds words r.found journal) journal words r.found) fault
      by journal (inl memory) = inl memory
      by journal (inr e) =
          inr (refuses_behind (of_files old last before after) (read_steps words r.found) (late_steps (world_in kinds words r.found journal) journal words.hops (flights_in r.found)) fault r.fine
          (checks_refuse (of_files old last before after) (restless journal) (packet_fault (world_in kinds words r.found journal).nodes words.hops (flights_in r.found)) fault e))

-- a run of the commands that refuses
pub memory_refuses : (kinds : List Kind) (words : ForecastWords) (script : Timed) (flights : List Flight) → IsRefusedOf kinds words script flights NoMemory
memory_refuses kinds words script flights =
    let plain = plain_is_there (setting_of kinds words script) in record { journal = plain.0; is_run = plain.1; cause = inl refl }

pub restless_refuses : (kinds : List Kind) (words : ForecastWords) (script : Timed) (flights : List Flight) (journal : List Event) → IsRun (setting_of kinds words script) journal
    → is_stopped journal ≡ true → IsRefusedOf kinds words script flights Restless
restless_refuses kinds words script flights journal run stopped = record {
  journal = journal;
  is_run = run;
  cause = inr (ap (λ (b : Bool). first_fault untold (Checks (if b then Some Restless else None)
      ∷ Checks (packet_fault (world_after (setting_of kinds words script) journal).nodes words.hops flights) ∷ [])) stopped);
}

calm_first : (b : Bool) (later : Option ForecastFault) → b ≡ false → first_fault untold (Checks (if b then Some Restless else None) ∷ Checks later ∷ []) ≡ first_fault untold (Checks later ∷ [])
calm_first b later calm = ap (λ (b : Bool). first_fault untold (Checks (if b then Some Restless else None) ∷ Checks later ∷ [])) calm

pub packets_refuse : (kinds : List Kind) (words : ForecastWords) (script : Timed) (flights : List Flight) (journal : List Event) (nodes : List (Option NodeRecord)) (fault : ForecastFault)
    → IsRun (setting_of kinds words script) journal → is_stopped journal ≡ false → nodes ≡ (world_after (setting_of kinds words script) journal).nodes
    → (fault ≡ NoMemory) ⊎ (packet_fault nodes words.hops flights ≡ Some fault) → IsRefusedOf kinds words script flights fault
packets_refuse kinds words script flights journal nodes fault run calm world cause = record { journal = journal; is_run = run; cause = by cause }
  where
    by : (fault ≡ NoMemory) ⊎ (packet_fault nodes words.hops flights ≡ Some fault)
        → (fault ≡ NoMemory) ⊎ (first_fault untold (late_steps (world_after (setting_of kinds words script) journal) journal words.hops flights) ≡ Some fault)
    by (inl memory) = inl memory
    by (inr e) =
        inr (calm_first (is_stopped journal) (packet_fault (world_after (setting_of kinds words script) journal).nodes words.hops flights) calm
        ∙ ap (λ (o : Option ForecastFault). first_fault untold (Checks o ∷ [])) (ap (λ (n : List (Option NodeRecord)). packet_fault n words.hops flights) (sym world) ∙ e))

pub packets_foretold : (kinds : List Kind) (words : ForecastWords) (script : Timed) (flights : List Flight) (journal : List Event) (nodes : List (Option NodeRecord)) (bag : Spread)
    → IsRun (setting_of kinds words script) journal → is_stopped journal ≡ false → nodes ≡ (world_after (setting_of kinds words script) journal).nodes
    → packet_fault nodes words.hops flights ≡ None → spread_all (λ f. spread_in nodes words.hops f) flights ≡ Some bag → IsForetoldOf kinds words script flights bag
packets_foretold kinds words script flights journal nodes bag run calm world fine bag_is = record {
  journal = journal;
  is_run = run;
  fine =
      calm_first (is_stopped journal) (packet_fault (world_after (setting_of kinds words script) journal).nodes words.hops flights) calm
      ∙ ap (λ (o : Option ForecastFault). first_fault untold (Checks o ∷ [])) (ap (λ (n : List (Option NodeRecord)). packet_fault n words.hops flights) (sym world) ∙ fine);
  bag_is = ap (λ (n : List (Option NodeRecord)). spread_all (λ f. spread_in n words.hops f) flights) (sym world) ∙ bag_is;
}

-- The end

-- nothing was written
pub ends_refused : (kinds : List Kind) (words : ForecastWords) (old now : List ℕ → Contents) (before after : List ℕ → ℕ) (fault : ForecastFault)
    → now ≡ old → IsNotForetold kinds (of_files old now before after) words fault
    → (sink : Option (List ℕ)) (sb sa : ℕ) → ForecastEnds kinds (Some words) (outside (storing sink old) (storing sink now) (counting sb before) (counting sa after)) (fault_status fault) [] (Some fault)
ends_refused kinds words old now before after fault same f sink sb sa = record {
  made = [];
  ends = record {
    input = record { found = f.found; journal = f.journal };
    is_found = (f.is_found, f.is_run);
    ends = inl (record { nothing = refl; same = record { sink = refl; files = same }; cause = by f.stops });
    status_is = refl;
  };
  bag_is = refl;
  unwritten = λ memory. record { sink = refl; files = same };
}
  where
    by : (fault ≡ NoMemory) ⊎ Refuses (of_files old now before after) (forecast_steps (world_in kinds words f.found f.journal) f.journal words f.found) fault
        → (fault ≡ NoMemory) ⊎ Refuses (outside (storing sink old) (storing sink now) (counting sb before) (counting sa after)) (forecast_steps (world_in kinds words f.found f.journal) f.journal words f.found) fault
    by (inl memory) = inl memory
    by (inr r) =
        inr (refuses_within (of_files old now before after) (outside (storing sink old) (storing sink now) (counting sb before) (counting sa after)) refl (λ name rose. rose)
        (forecast_steps (world_in kinds words f.found f.journal) f.journal words f.found) fault r)

module _ (kinds : List Kind) (words : ForecastWords) (old now : List ℕ → Contents) (before after : List ℕ → ℕ) (bag : Spread) (same : now ≡ old) (f : IsForetold kinds old words bag)
    (sink last : Option (List ℕ)) (sb sa : ℕ) where
  -- memory ran out for the text
  pub ends_untold : last ≡ sink → ForecastEnds kinds (Some words) (outside (storing sink old) (storing last now) (counting sb before) (counting sa after)) (fault_status NoMemory) [] (Some NoMemory)
  ends_untold is = record {
    made = [];
    ends = record {
      input = record { found = f.found; journal = f.journal };
      is_found = (f.is_found, f.is_run);
      ends = inl (record { nothing = refl; same = record { sink = is; files = same }; cause = inl refl });
      status_is = refl;
    };
    bag_is = refl;
    unwritten = λ memory. record { sink = is; files = same };
  }

  -- the text was not written whole
  pub ends_stopped : (text : List ℕ) → text ≡ bag_text (map (λ port. port.name) words.ports) bag → AppendsPrefix sink last text → Rose sb sa
      → ForecastEnds kinds (Some words) (outside (storing sink old) (storing last now) (counting sb before) (counting sa after)) (fault_status WriteFault) [] (Some WriteFault)
  ends_stopped text is prefix rose = record {
    made = bag;
    ends = record {
      input = record { found = f.found; journal = f.journal };
      is_found = (f.is_found, f.is_run);
      ends = inr (inr (record { passed = f.fine; ran = f.bag_is; stops = inl (inr (refl, rose), (subst (λ (t : List ℕ). AppendsPrefix sink last t) is prefix, same)) }));
      status_is = refl;
    };
    bag_is = refl;
    unwritten = λ memory. cc memory;
  }

  -- all was done
  pub ends_told : (text : List ℕ) → text ≡ bag_text (map (λ port. port.name) words.ports) bag → Appends sink last text
      → ForecastEnds kinds (Some words) (outside (storing sink old) (storing last now) (counting sb before) (counting sa after)) 0 bag None
  ends_told text is whole = record {
    made = bag;
    ends = record {
      input = record { found = f.found; journal = f.journal };
      is_found = (f.is_found, f.is_run);
      ends = record {
        passed = f.fine;
        ran = f.bag_is;
        written = (storing last now, (subst (λ (t : List ℕ). Appends sink last t) is whole, same), record { sink = refl; files = refl });
      };
      status_is = refl;
    };
    bag_is = refl;
    unwritten = λ memory. cc memory;
  }

-- words that are not in form, and memory that ran out before they were known
pub ends_unread : (kinds : List Kind) (said : Option ForecastWords) (o : Outside) → Same o.old o.now → ForecastEnds kinds said o 71 [] (Some NoMemory)
ends_unread kinds None o same = record {
  made = [];
  ends = record { nothing = refl; same = same; cause = inr refl; status_is = refl };
  bag_is = refl;
  unwritten = λ memory. same;
}
ends_unread kinds (Some words) o same =
    let r = memory_stops o words in
    let f = unread kinds o words NoMemory r in
    record {
      made = [];
      ends = record {
        input = record { found = f.found; journal = f.journal };
        is_found = (f.is_found, f.is_run);
        ends = inl (record { nothing = refl; same = same; cause = inl refl });
        status_is = refl;
      };
      bag_is = refl;
      unwritten = λ memory. same;
    }

pub ends_usage : (kinds : List Kind) (said : Option ForecastWords) (o : Outside) → said ≡ None → Same o.old o.now → ForecastEnds kinds said o 64 [] (Some Usage)
ends_usage kinds None o none same = record {
  made = [];
  ends = record { nothing = refl; same = same; cause = inl refl; status_is = refl };
  bag_is = refl;
  unwritten = λ memory. same;
}
ends_usage kinds (Some words) o none same = absurd (cc none)
