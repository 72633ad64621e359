-- The header that is read begins the bytes, and the tests find its first fault.
use Rattle.std.proofs.Common.{◌≡◌, length, refl, sym, ap, ◌∙◌, inr, rules, Ok}
use Rattle.std.proofs.lemmas.Result.{err_from_is_err_and}
use Rattle.ng_message.specs.Layout.{header_bytes}
use Rattle.ng_message.specs.Message.{IsAnswer}
use Rattle.ng_message.proofs.Decoding.{fault-bad_length, fault-bad_version, fault-no_nul, fault-none, header_and_rest, only_the_message}
use Rattle.ng_message.proofs.codec.decode.Goals as goal

pub returns-then-header-ne-VERSION-clause-answer :
    goal.returns-then-header-ne-VERSION-clause-answer
returns-then-header-ne-VERSION-clause-answer c =
    let header = c.header_of-header.result in
    let rest = c.split_at.result.1.now in
    let whole = header_and_rest (header_bytes header) c.args.bytes.now _ rest c.split_at.ensures.front c.split_at.ensures.back c.header_of-header.ensures.bytes in
    inr (header, rest, c.header_of-header.ensures.header, whole, fault-bad_version header (length rest) c.if-header-ne-VERSION.true)

pub returns-then-header-rest-clause-answer : goal.returns-then-header-rest-clause-answer
returns-then-header-rest-clause-answer c =
    let header = c.header_of-header.result in
    let rest = c.split_at.result.1.now in
    let whole = header_and_rest (header_bytes header) c.args.bytes.now _ rest c.split_at.ensures.front c.split_at.ensures.back c.header_of-header.ensures.bytes in
    inr (header, rest, c.header_of-header.ensures.header, whole, fault-bad_length header (length rest) c.if-header-ne-VERSION.false c.if-header-rest.true)

pub returns-then-not-contains-clause-answer : goal.returns-then-not-contains-clause-answer
returns-then-not-contains-clause-answer c =
    let header = c.header_of-header.result in
    let rest = c.split_at.result.1.now in
    let whole = header_and_rest (header_bytes header) c.args.bytes.now _ rest c.split_at.ensures.front c.split_at.ensures.back c.header_of-header.ensures.bytes in
    inr (header, rest, c.header_of-header.ensures.header, whole, fault-no_nul header (length rest) c.if-header-ne-VERSION.false c.if-header-rest.false (search rules))

pub returns-then-not-contains-clause-only : goal.returns-then-not-contains-clause-only
returns-then-not-contains-clause-only c = only_the_message _ _ _ (returns-then-not-contains-clause-answer c)

pub returns-in_err-from_slice-clause-answer : goal.returns-in_err-from_slice-clause-answer
returns-in_err-from_slice-clause-answer c =
    let header = c.header_of-header.result in
    let rest = c.split_at.result.1.now in
    let whole = header_and_rest (header_bytes header) c.args.bytes.now _ rest c.split_at.ensures.front c.split_at.ensures.back c.header_of-header.ensures.bytes in
    let p = err_from_is_err_and c.from_residual.result c.from_residual.ensures.1 in
    rw (p.1, p.2) (inr (header, rest, c.header_of-header.ensures.header, whole, fault-none header (length rest) c.if-header-ne-VERSION.false c.if-header-rest.false (search rules)))

pub returns-clause-only : goal.returns-clause-only
returns-clause-only c =
    let header = c.header_of-header.result in
    let args = c.in_ok-from_slice.field-0.items in
    let same = c.in_ok-from_slice.ensures.items in
    let whole = header_and_rest (header_bytes header) c.args.bytes.now _ args c.split_at.ensures.front (same ∙ c.split_at.ensures.back) c.header_of-header.ensures.bytes in
    let arglen : header.arglen ≡ length args = c.if-header-rest.false ∙ ap length (sym same) in
    let answer : IsAnswer c.args.from c.args.bytes.now (Ok (record { from = c.args.from; header = header; args = args })) =
    inr (header, args, c.header_of-header.ensures.header, whole, (fault-none header (length args) c.if-header-ne-VERSION.false arglen (search rules), refl)) in
    only_the_message _ _ _ answer
