-- The words of the replay are those behind the first.
use Rattle.std.proofs.Common.{ℕ, List, subst}
use Rattle.ng_call.specs.Called.{happened, kinds_of}
use Rattle.ng_args.specs.Replay.{replay_words_of}
use Rattle.ng_replay.specs.Behaves.{IsReplayCall}
use Rattle.ng_top.proofs.top.replay.Goals as goal

pub returns : goal.returns
returns g c = record {
  did =
      subst
      (λ (words : List (List ℕ)). IsReplayCall (kinds_of g.B.Node.state c.args.stock.items) (replay_words_of words)
      (happened g.O.Sink.contents g.O.Sink.faults g.F.Files.contents g.F.Files.faults c.args.out.now c.ngreplay.new.out c.args.files.now c.ngreplay.new.files)
      c.ngreplay.result)
      c.behind_first.ensures c.ngreplay.ensures;
}
