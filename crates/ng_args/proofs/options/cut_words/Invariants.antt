use Rattle.std.proofs.Common.{◌≡◌, map, length, string_bytes}
use Rattle.ng_args.specs.Options.{cut_words}
use Rattle.ng_args.specs.Settings.{settings_of}
use Rattle.ng_args.proofs.Cuts.{onto, AreGood}
use Rattle.ng_args.proofs.options.cut_words.Given as goal

abbrev pub invariant-loop-option : goal.invariant-loop-option
invariant-loop-option l = record {
  cut : cut_words (map (λ word. string_bytes word) l.words) ≡ onto (settings_of l.settings.items) (cut_words (map (λ word. string_bytes word) l.rest));
  good : AreGood (settings_of l.settings.items);
}

abbrev pub decreases-loop-option : goal.decreases-loop-option
decreases-loop-option l = length l.rest
