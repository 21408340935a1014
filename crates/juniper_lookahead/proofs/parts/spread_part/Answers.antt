use Rattle.std.proofs.Common.{ap, refl, sym, ◌∙◌, arith}
use Rattle.juniper_syntax.specs.DocumentView.{view_selections}
use Rattle.juniper_lookahead.specs.Choices.{Core}
use Rattle.juniper_lookahead.specs.Nesting.{view_core}
use Rattle.juniper_lookahead.specs.Choosing.{choice_of}
use Rattle.juniper_lookahead.proofs.ByName.{found-fragment, no-fragment}
use Rattle.juniper_lookahead.proofs.Holding.{spread-left-out, spread-unknown, spread-none-left, spread-apart, spread-applies}
use Rattle.juniper_lookahead.proofs.parts.spread_part.Goals as goal

pub returns-then-spreads_left-eq0 : goal.returns-then-spreads_left-eq0
returns-then-spreads_left-eq0 g c = λ size.
    spread-none-left g.S.ScalarValue.shown (choice_of g.S.ScalarValue.shown g.M.Meets.met c.args.choosing.now) _ c.requires.acyclic _ c.args.spreads_left size (omega arith)

pub returns-then-not-is_admitted : goal.returns-then-not-is_admitted
returns-then-not-is_admitted g c = λ size.
    spread-left-out g.S.ScalarValue.shown (choice_of g.S.ScalarValue.shown g.M.Meets.met c.args.choosing.now) _ c.requires.acyclic _ c.args.spreads_left size
    (sym c.is_admitted.ensures ∙ c.if-not-is_admitted.true)

pub returns-then-meets : goal.returns-then-meets
returns-then-meets g c = λ size.
    let shown = g.S.ScalarValue.shown in
    let h = choice_of shown g.M.Meets.met c.args.choosing.now in
    let found = found-fragment _ (view_core shown c.in-Some.fragment.now) c.in-Some.ensures.found in
    spread-applies shown h _ c.requires.acyclic _ c.args.spreads_left size found.fragment c.deref.result c.args.applies_for (omega arith)
    (ap (λ (k : Core). k.selections) found.counts ∙ ap (view_selections shown) (sym c.deref.ensures.value))
    (sym c.is_admitted.ensures ∙ c.if-not-is_admitted.false) found.is
    (ap (λ (k : Core). h.meets k.condition.item) found.counts ∙ (sym c.meets.ensures ∙ c.if-meets.true)) refl
    (rw c.deref.ensures.value c.in-Some.ensures.nested)

pub returns-else-meets : goal.returns-else-meets
returns-else-meets g c = λ size.
    let shown = g.S.ScalarValue.shown in
    let h = choice_of shown g.M.Meets.met c.args.choosing.now in
    let found = found-fragment _ (view_core shown c.in-Some.fragment.now) c.in-Some.ensures.found in
    spread-apart shown h _ c.requires.acyclic _ c.args.spreads_left size found.fragment found.is
    (ap (λ (k : Core). h.meets k.condition.item) found.counts ∙ (sym c.meets.ensures ∙ c.if-meets.false))

pub returns-in-None : goal.returns-in-None
returns-in-None g c = λ size.
    spread-unknown g.S.ScalarValue.shown (choice_of g.S.ScalarValue.shown g.M.Meets.met c.args.choosing.now) _ c.requires.acyclic _ c.args.spreads_left size
    (no-fragment _ c.in-None.ensures.found)
