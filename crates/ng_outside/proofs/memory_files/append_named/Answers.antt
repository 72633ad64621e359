use Rattle.std.proofs.Common.{ap, sym, ◌∙◌, ◌++◌, take, length, rules, Option, Some}
use Rattle.ng_outside.specs.declared.memory_files.MemFile.{MemFile}
use Rattle.ng_outside.specs.Memory.{FileState, file_state, taken_count}
use Rattle.ng_outside.proofs.Changes.{place_is, place_inside, changed, changed_at, none_changed, same_at, no_place}
use Rattle.ng_outside.proofs.memory_files.append_named.Goals as goal

pub returns-in_default-clause-number : goal.returns-in_default-clause-number
returns-in_default-clause-number c =
    sym (ap (λ found. taken_count found (length c.args.bytes.now)) (no_place c.args.files.now.items c.args.name.now (grind rules)))

pub returns-clause-number : goal.returns-clause-number
returns-clause-number c =
    c.take_bytes.ensures.number
    ∙ ap (λ (file : MemFile). taken_count (Some (file_state file)) (length c.args.bytes.now)) c.index_mut.ensures.value
    ∙ sym (ap (λ (found : Option FileState). taken_count found (length c.args.bytes.now))
    (place_is c.args.files.now.items c.args.name.now c.in-Some.place _ (grind rules)))

pub returns-clause-changed : goal.returns-clause-changed
returns-clause-changed c = λ _.
    changed_at c.args.files.now.items c.args.name.now (λ now. now ++ take c.take_bytes.result c.args.bytes.now) c.in-Some.place c.take_bytes.new.file _
    (grind rules)
    (c.take_bytes.ensures.changed
    ∙ ap (λ (file : MemFile). changed (λ now. now ++ take c.take_bytes.result c.args.bytes.now) (file_state file)) c.index_mut.ensures.value)

pub returns-clause-same : goal.returns-clause-same
returns-clause-same c = λ none.
    same_at c.args.files.now.items c.in-Some.place c.take_bytes.new.file _
    (place_inside c.args.files.now.items c.args.name.now c.in-Some.place c.take_bytes.new.file (grind rules))
    (none_changed _ _ c.args.bytes.now c.take_bytes.result none c.take_bytes.ensures.changed ∙ ap file_state c.index_mut.ensures.value)
