-- What was read is what the files tell.
use Rattle.std.proofs.Common.{◌≡◌, ◌∙◌, ℕ, List, [], ◌∷◌, Option, Some, None, refl, sym, ap}
use Rattle.ng_outside.specs.Contents.{Contents, NotTold, NoFile, Holds}
use Rattle.ng_args.specs.declared.port.PortWord.{PortWord}
use Rattle.ng_args.specs.declared.words.Source.{Source}
use Rattle.ng_args.specs.declared.words.Source.TheVariants.{FromFiles, Made}
use Rattle.ng_call.specs.Call.{IsFound, Tell}
use Rattle.ng_call.specs.Found.{Found, IsRead, AreRead, IsTold, TellPorts}

pub told_is : (contents : Contents) (a b : List ℕ) → IsRead contents a → IsTold contents b → a ≡ b
told_is NotTold a b read told = absurd told
told_is NoFile a b read told = read ∙ sym told
told_is (Holds held) a b read told = sym read ∙ told

joined : {X : Type 0} (x y : X) (xs ys : List X) → x ≡ y → xs ≡ ys → x ∷ xs ≡ y ∷ ys
joined x y xs ys first rest = cc

captures_are : (files : List ℕ → Contents) (ports : List PortWord) (a b : List (Option (List ℕ))) → AreRead files ports a
    → TellPorts files ports b → a ≡ b
captures_are files [] [] [] read told = refl
captures_are files [] [] (y ∷ b) read told = absurd told
captures_are files [] (x ∷ a) b read told = absurd read
captures_are files (port ∷ ports) [] b read told = absurd read
captures_are files (port ∷ ports) (x ∷ a) [] read told = absurd told
captures_are files (port ∷ ports) (None ∷ a) (None ∷ b) read told = joined None None a b refl (captures_are files ports a b read.1 told.1)
captures_are files (port ∷ ports) (None ∷ a) (Some y ∷ b) read told = absurd (told.0 read.0)
captures_are files (port ∷ ports) (Some x ∷ a) (None ∷ b) read told = absurd (read.0 told.0)
captures_are files (port ∷ ports) (Some x ∷ a) (Some y ∷ b) read told =
    joined (Some x) (Some y) a b (ap (λ (l : List ℕ). Some l) (told_is (files port.in_file) x y read.1 told.1))
    (captures_are files ports a b read.2 told.2)

abbrev found_in : List ℕ → List (Option (List ℕ)) → Found
found_in script captures = record { script = script; captures = captures }

found_eq : (a b : Found) → a.script ≡ b.script → a.captures ≡ b.captures → a ≡ b
found_eq a b one other =
    ap (λ (s : List ℕ). found_in s a.captures) one
    ∙ ap (λ (c : List (Option (List ℕ))). found_in b.script c) other

pub found_is : (files : List ℕ → Contents) (source : Source) (a b : Found) → IsFound files source a → Tell files source b → a ≡ b
found_is files (FromFiles script ports) a b is told =
    found_eq a b (told_is (files script) a.script b.script is.0 told.0) (captures_are files ports a.captures b.captures is.1 told.1)
found_is files (Made packets) a b is told = is ∙ sym told
