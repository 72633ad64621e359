use Rattle.std.proofs.Common.{◌<◌, ◌∙◌, ◌≤◌, length, ap, arith, vec_len}
use Rattle.std.proofs.lemmas.Grind.{common_steps}
use Rattle.std.proofs.lemmas.List.Elements.{All-set}
use Rattle.ng_outside.specs.Memory.{file_state, HasRoom}
use Rattle.ng_outside.proofs.Moves.{map-set_same, below_more_set, names_hold}
use Rattle.ng_outside.proofs.memory_files.MemFiles.new.Goals as goal

pub loop-i-preserved : goal.loop-i-preserved
loop-i-preserved c =
    let files = c.loop-i.files.items in
    let room : HasRoom c.reserve_room.new.file = c.in_ok-reserve_room.ensures.room in
    let in_list : c.loop-i.i < length files = grind (arith, common_steps) in
    let same = c.in_ok-reserve_room.ensures.same ∙ ap file_state c.index_mut.ensures.value in
    record {
      same = map-set_same file_state files _ _ _ same in_list ∙ c.loop-i.invariant.same;
      fits = All-set (λ file. vec_len file.bytes ≤ file.room) files _ _ room.fits c.loop-i.invariant.fits;
      room = below_more_set HasRoom files _ _ in_list room c.loop-i.invariant.room;
    }

pub returns-clause-contents : goal.returns-clause-contents
returns-clause-contents c = names_hold c.args.initial.items c.requires.names _ c.loop-i.invariant.same
