use Rattle.std.proofs.Common.{nat_eq, ap, ◌∙◌}
use Rattle.std.specs.List.{starts_with}
use Rattle.juniper_tokens.specs.Strings.{three_quotes}
use Rattle.juniper_tokens.proofs.StringTokens.{three_len, none_len, open_len, closed_len, closed_bounds}
use Rattle.juniper_tokens.proofs.string.string_len.Goals as goal

pub returns-then-starts_with : goal.returns-then-starts_with
returns-then-starts_with c = three_len c.args.text.now (c.if-starts_with.ensures.value ∙ ap (λ x. starts_with nat_eq x three_quotes) c.as_bytes.ensures.value)

pub returns-in-None : goal.returns-in-None
returns-in-None c =
    none_len c.args.text.now (c.if-starts_with.ensures.value ∙ ap (λ x. starts_with nat_eq x three_quotes) c.as_bytes.ensures.value) c.in-None.ensures

pub overflow_sub-result : goal.overflow_sub-result
overflow_sub-result c = (closed_bounds c.args.text.now c.in-Some.behind.now c.in-Ok.left.now c.in-Some.ensures c.in-Ok.ensures).1

pub returns-in-Ok : goal.returns-in-Ok
returns-in-Ok c =
    closed_len c.args.text.now c.in-Some.behind.now c.in-Ok.left.now
    (c.if-starts_with.ensures.value ∙ ap (λ x. starts_with nat_eq x three_quotes) c.as_bytes.ensures.value) c.in-Some.ensures
    c.in-Ok.ensures

pub returns-in-Err : goal.returns-in-Err
returns-in-Err c =
    open_len c.args.text.now c.in-Some.behind.now (c.if-starts_with.ensures.value ∙ ap (λ x. starts_with nat_eq x three_quotes) c.as_bytes.ensures.value)
    c.in-Some.ensures c.in-Err.ensures
