use Rattle.std.proofs.Common.{◌≡◌, true, refl, rules}
use Rattle.graphql_spec.specs.Tokens.{is_int}
use Rattle.juniper_tokens.proofs.Decoding.{decoded_ok, decoded_err}
use Rattle.juniper_tokens.proofs.number.decode_int.Goals as goal

pub returns-in-Ok : goal.returns-in-Ok
returns-in-Ok c =
    let whole : is_int c.args.word.now ≡ true = search rules in
    decoded_ok c.args.word.now c.in-Ok.value whole c.in-Ok.ensures.value.0.0.1 c.in-Ok.ensures.value.0.1

pub returns-in-Err : goal.returns-in-Err
returns-in-Err c =
    let whole : is_int c.args.word.now ≡ true = search rules in
    (refl, decoded_err c.args.word.now whole c.in-Err.ensures.value.0)
