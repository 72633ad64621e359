-- Both headers are what is read of the bytes.
use Rattle.std.proofs.Common.{sym, ap, ◌∙◌, drop}
use Rattle.ng_message.proofs.Headers.{header_at, header_at-header_bytes, drop-header_bytes}
use Rattle.ng_message.proofs.laws.one_header.Goals as goal

pub returns : goal.returns
returns c = λ a b x y a_fits b_fits same. (
  sym (header_at-header_bytes a x a_fits) ∙ ap header_at same ∙ header_at-header_bytes b y b_fits,
  sym (drop-header_bytes a x a_fits) ∙ ap (drop 56) same ∙ drop-header_bytes b y b_fits,
)
