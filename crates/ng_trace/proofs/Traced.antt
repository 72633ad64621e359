-- The text that was made is that of the run of the journal; and lines end where packets or what became of them do.
use Rattle.std.proofs.Common.{◌≡◌, ◌⊎◌, ℕ, ◌<◌, ◌≤◌, min, List, [], ◌∷◌, ◌++◌, length, map, replicate, drop, refl, sym, ap, ◌∙◌, inl, inr, ⊎_elim, arith}
use Rattle.std.proofs.lemmas.Bool.{cases_lt}
use Rattle.std.proofs.lemmas.List.{append-nil, drop_all, take-map}
use Rattle.std.specs.Prelude.{take}
use Rattle.std.specs.declared.option.Option.{Option}
use Rattle.ng_base.specs.declared.event.Event.{Event}
use Rattle.ng_machine.specs.declared.input.Input.{Input}
use Rattle.ng_machine.specs.Laws.{Setting, world_after}
use Rattle.ng_machine.specs.Run.{RunState}
use Rattle.ng_machine.specs.story.SoundStory.{IsSoundStory}
use Rattle.ng_machine.specs.story.Story.{Story, begun, world_of}
use Rattle.ng_replay.specs.judge.Following.{StandsAfter, all_with}
use Rattle.ng_trace.specs.declared.arrived.Arrived.{Arrived}
use Rattle.ng_trace.specs.Arrivals.{arrived_of}
use Rattle.ng_trace.specs.Text.{packet_lines, trace_text}
use Rattle.ng_trace.specs.Trace.{trace_of}
use Rattle.ng_trace.specs.Watch.{watched_of}
use Rattle.ng_trace.specs.Watched.{Journey, Watched}
use Rattle.ng_trace.proofs.EventsMore.{no_inputs}

-- WHERE LINES END

no_journeys : (names : List (List ℕ)) (counts : List ℕ) (arrivals : List (Option Arrived)) → packet_lines names counts arrivals [] ≡ []
no_journeys names counts [] = refl
no_journeys names counts (a ∷ arrivals) = refl

none_left : (names : List (List ℕ)) (counts : List ℕ) (arrivals : List (Option Arrived)) (journeys : List Journey) (i : ℕ) → (length arrivals ≤ i) ⊎ (length journeys ≤ i)
    → packet_lines names counts (drop i arrivals) (drop i journeys) ≡ []
none_left names counts arrivals journeys i (inl le) = ap (λ (l : List (Option Arrived)). packet_lines names counts l (drop i journeys)) (drop_all i arrivals le)
none_left names counts arrivals journeys i (inr le) =
    ap (packet_lines names counts (drop i arrivals)) (drop_all i journeys le) ∙ no_journeys names counts (drop i arrivals)

either : (a b m i : ℕ) → m ≡ min a b → m ≤ i → (a ≤ i) ⊎ (b ≤ i)
either a b m i is le =
    ⊎_elim
    (λ (lt : a < b). inl (omega (arith, is, le, lt)))
    (λ (ge : b ≤ a). inr (omega (arith, is, le, ge)))
    (cases_lt a b)

pub lines_end : (names : List (List ℕ)) (counts : List ℕ) (arrivals : List (Option Arrived)) (journeys : List Journey) (m i : ℕ) (out goal : List ℕ)
    → m ≡ min (length arrivals) (length journeys) → m ≤ i → out ++ packet_lines names counts (drop i arrivals) (drop i journeys) ≡ goal → out ≡ goal
lines_end names counts arrivals journeys m i out goal is le all =
    sym (append-nil out)
    ∙ ap (λ (l : List ℕ). out ++ l) (sym (none_left names counts arrivals journeys i (either (length arrivals) (length journeys) m i is le)))
    ∙ all

-- THE TEXT

empty : {A : Type 0} (xs ys : List A) → length xs ≡ 0 → xs ++ ys ≡ ys
empty [] ys e = refl
empty (x ∷ xs) ys e = absurd (omega (arith, e))

pub text_is : (s t : Story) (setting : Setting) (names : List (List ℕ)) (inputs left : List Input) (journal : List Event) (arrived : List (Option Arrived)) (w : Watched) (n : ℕ) (text : List ℕ)
    → s ≡ begun setting → IsSoundStory s → StandsAfter (all_with s inputs) journal t left → n ≡ (world_of t).fed → arrived ≡ map arrived_of inputs → w ≡ watched_of (all_with s inputs) journal
    → text ≡ trace_text names (replicate (length names) 0) (take n arrived) w → text ≡ trace_of names (all_with s inputs) journal
text_is s t setting names inputs left journal arrived w n text is sound stands fed came noted made =
    let zeros = replicate (length names) 0 in
    let all : s.setting.given.inputs ++ inputs ≡ inputs = empty s.setting.given.inputs inputs (no_inputs s setting is sound) in
    let now : n ≡ (world_after (all_with s inputs) journal).fed = fed ∙ sym (ap (λ (a : RunState). a.world.fed) stands.run) in
    made
    ∙ ap (λ (l : List (Option Arrived)). trace_text names zeros (take n l) w) (came ∙ ap (map arrived_of) (sym all))
    ∙ ap (λ (k : ℕ). trace_text names zeros (take k (map arrived_of (s.setting.given.inputs ++ inputs))) w) now
    ∙ ap (λ (l : List (Option Arrived)). trace_text names zeros l w) (take-map arrived_of (world_after (all_with s inputs) journal).fed (s.setting.given.inputs ++ inputs))
    ∙ ap (λ (x : Watched). trace_text names zeros (map arrived_of (take (world_after (all_with s inputs) journal).fed (s.setting.given.inputs ++ inputs))) x) noted
