-- Words that are names of commands, and words that are addresses.
use Rattle.std.proofs.Common.{◌≡◌, ℕ, false, List, Option, Some, None, Result, Ok, Err, MatchResult, IsOkAnd, is_ok, is_some, find, filter, refl, sym, ap, ◌∙◌}
use Rattle.std.specs.Str.{bytes_eq}
use Rattle.ng_path.specs.Address.{Address, read_address, ReadsAddress}
use Rattle.ng_path.specs.Grammar.{IsPath}
use Rattle.ng_path.specs.declared.path.Head.{Head}
use Rattle.ng_path.specs.declared.path.Path.{Path}
use Rattle.ng_path.specs.declared.fault.PathFault.{PathFault}
use Rattle.ngctl_script.specs.declared.verb.Verb.{Verb}
use Rattle.ngctl_script.specs.declared.refusal.Refusal.{Refusal}
use Rattle.ngctl_script.specs.Commands.{verbs, verb_text, is_prefix, only, or_prefix, named}
use Rattle.ngctl_script.specs.Refusals.{refusal_words}
use Rattle.ngctl_script.specs.Forms.{is_path}

pub named_by_prefix : (word : List ℕ) (r : Result Verb Refusal) → find (λ verb. bytes_eq (verb_text verb) word) verbs ≡ None
    → MatchResult r (λ verb. only (filter (is_prefix word) verbs) ≡ Ok verb) (λ why. only (filter (is_prefix word) verbs) ≡ Err (refusal_words why))
    → MatchResult r (λ verb. named word ≡ Ok verb) (λ why. named word ≡ Err (refusal_words why))
named_by_prefix word (Ok verb) none is = ap (or_prefix word) none ∙ is
named_by_prefix word (Err why) none is = ap (or_prefix word) none ∙ is

no_address : (bytes : List ℕ) → ReadsAddress → ((head : Head) (hooks : List (List ℕ)) → IsPath bytes head hooks → ⊥)
    → (found : Option Address) → read_address bytes ≡ found → is_some found ≡ false
no_address bytes law none None e = refl
no_address bytes law none (Some address) e = absurd (none address.head address.hooks ((law bytes address.head address.hooks).0 e))

pub is_ok_path : (bytes : List ℕ) (r : Result Path PathFault) (Told : PathFault → Type 0) → ReadsAddress
    → MatchResult r (λ path. IsPath bytes path.head path.hooks) Told
    → ((head : Head) (hooks : List (List ℕ)) → IsPath bytes head hooks → IsOkAnd r (λ path. (path.head ≡ head) × (path.hooks ≡ hooks)))
    → is_ok r ≡ is_path bytes
is_ok_path bytes (Ok path) Told law is read = sym (ap is_some ((law bytes path.head path.hooks).1 is))
is_ok_path bytes (Err fault) Told law is read = sym (no_address bytes law (λ head hooks p. read head hooks p) (read_address bytes) refl)
