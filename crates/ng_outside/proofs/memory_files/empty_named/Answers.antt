use Rattle.std.proofs.Common.{[], ap, ◌∙◌, rules}
use Rattle.ng_outside.specs.declared.memory_files.MemFile.{MemFile}
use Rattle.ng_outside.specs.Memory.{file_state}
use Rattle.ng_outside.proofs.Changes.{place_is, changed, changed_at, no_place, none_is_no, some_is_yes}
use Rattle.ng_outside.proofs.memory_files.empty_named.Goals as goal

pub returns-in_default-clause-there : goal.returns-in_default-clause-there
returns-in_default-clause-there c =
    none_is_no _ (no_place c.args.files.now.items c.args.name.now (grind rules))

pub returns-clause-there : goal.returns-clause-there
returns-clause-there c =
    some_is_yes _ _ (place_is c.args.files.now.items c.args.name.now c.in-Some.place c.empty.new.file (grind rules))

pub returns-clause-changed : goal.returns-clause-changed
returns-clause-changed c = λ _.
    changed_at c.args.files.now.items c.args.name.now (λ _. []) c.in-Some.place c.empty.new.file _ (grind rules)
    (c.empty.ensures.changed ∙ ap (λ (file : MemFile). changed (λ _. []) (file_state file)) c.index_mut.ensures.value)
