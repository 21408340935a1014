use Rattle.std.proofs.Common.{ap, sym, ◌∙◌}
use Rattle.juniper_syntax.specs.DocumentView.{view_selections}
use Rattle.juniper_lookahead.specs.Choosing.{choice_of}
use Rattle.juniper_lookahead.proofs.Holding.{inline-left-out, inline-apart, inline-applies}
use Rattle.juniper_lookahead.proofs.parts.inline_part.Goals as goal

pub returns-then-not-is_admitted : goal.returns-then-not-is_admitted
returns-then-not-is_admitted g c = λ size less.
    inline-left-out g.S.ScalarValue.shown (choice_of g.S.ScalarValue.shown g.M.Meets.met c.args.choosing.now) _ _ _ c.args.spreads_left size
    (sym c.is_admitted.ensures ∙ c.if-not-is_admitted.true)

pub returns-then-applies : goal.returns-then-applies
returns-then-applies g c = λ size less.
    inline-applies g.S.ScalarValue.shown (choice_of g.S.ScalarValue.shown g.M.Meets.met c.args.choosing.now) _ _ _ c.args.spreads_left size c.deref.result c.nearest-within.result
    (ap (view_selections g.S.ScalarValue.shown) (sym c.deref.ensures.value)) (sym c.is_admitted.ensures ∙ c.if-not-is_admitted.false)
    (sym c.applies.ensures ∙ c.if-applies.true) c.nearest-within.ensures (rw c.deref.ensures.value less)

pub returns-else-applies : goal.returns-else-applies
returns-else-applies g c = λ size less.
    inline-apart g.S.ScalarValue.shown (choice_of g.S.ScalarValue.shown g.M.Meets.met c.args.choosing.now) _ _ _ c.args.spreads_left size
    (sym c.is_admitted.ensures ∙ c.if-not-is_admitted.false) (sym c.applies.ensures ∙ c.if-applies.false)
