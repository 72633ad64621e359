-- The files that are written differ, and stand apart from those that are read.
use Rattle.std.proofs.Common.{◌≡◌, ◌++◌, ◌∷◌, List, ℕ, true, map, ap, sym, ◌∙◌, ◌&&◌}
use Rattle.ng_args.specs.Lists.{are_apart}
use Rattle.ng_base.specs.Names.{are_different}
use Rattle.ng_args.specs.Run.{listed}
use Rattle.ng_args.specs.Together.{ins, outs, are_files}
use Rattle.ng_args.proofs.run.are_files_apart.Goals as goal

-- once the first list is one of different words
apart_alone : (lone read : List (List ℕ)) → are_different lone ≡ true → are_apart lone read ≡ are_files lone read
apart_alone lone read different = ap (λ b. b && are_apart lone read) (sym different)

pub returns : goal.returns
returns c =
    let written : List (List ℕ) = outs c.args.ports.now ++ listed c.args.journal.now in
    let lone : map (λ file. file.now) c.deref-2.result.now ≡ written = ap (λ files. map (λ file. file.now) files) c.deref-2.ensures.value ∙ c.in_ok-written.ensures in
    let first : map (λ file. file.now) c.deref.result.now ≡ written = ap (λ files. map (λ file. file.now) files) c.deref.ensures.value ∙ c.in_ok-written.ensures in
    let read : map (λ file. file.now) c.deref-3.result.now ≡ c.args.script.now ∷ ins c.args.ports.now = ap (λ files. map (λ file. file.now) files) c.deref-3.ensures.value ∙ c.in_ok-read.ensures in
    c.are_apart.ensures
    ∙ ap (λ files. are_apart files (map (λ file. file.now) c.deref-3.result.now)) lone
    ∙ ap (λ files. are_apart written files) read
    ∙ apart_alone written (c.args.script.now ∷ ins c.args.ports.now) (ap are_different (sym first) ∙ sym c.are_different.ensures ∙ c.if-not-are_different.false)
