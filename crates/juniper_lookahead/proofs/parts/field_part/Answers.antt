use Rattle.std.proofs.Common.{sym, ◌∙◌}
use Rattle.juniper_lookahead.specs.Choosing.{choice_of}
use Rattle.juniper_lookahead.proofs.Holding.{field-left-out, field-taken}
use Rattle.juniper_lookahead.proofs.parts.field_part.Goals as goal

pub returns-then-is_admitted : goal.returns-then-is_admitted
returns-then-is_admitted g c = λ on n size.
    field-taken g.S.ScalarValue.shown (choice_of g.S.ScalarValue.shown g.M.Meets.met c.args.choosing.now) on c.args.field n size (sym c.is_admitted.ensures ∙ c.if-is_admitted.true)

pub returns-else-is_admitted : goal.returns-else-is_admitted
returns-else-is_admitted g c = λ on n size.
    field-left-out g.S.ScalarValue.shown (choice_of g.S.ScalarValue.shown g.M.Meets.met c.args.choosing.now) on _ _ n size (sym c.is_admitted.ensures ∙ c.if-is_admitted.false)
