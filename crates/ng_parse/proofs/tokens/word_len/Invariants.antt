use Rattle.std.proofs.Common.{◌≡◌, ◌+◌, length, drop}
use Rattle.ng_parse.specs.Tokens.{word}
use Rattle.ng_parse.proofs.tokens.word_len.Given as goal

abbrev pub invariant-loop-byte : goal.invariant-loop-byte
invariant-loop-byte l = record {
  at : l.len ≡ l.byte-index;
  rest : l.len + length (word (drop l.byte-index l.text)) ≡ length (word l.text);
}
