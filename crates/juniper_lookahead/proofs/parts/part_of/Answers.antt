use Rattle.juniper_lookahead.specs.Choosing.{choice_of}
use Rattle.juniper_lookahead.proofs.Holding.{selected-field, selected-spread, selected-inline}
use Rattle.juniper_lookahead.proofs.parts.part_of.Goals as goal

pub returns-in-Field : goal.returns-in-Field
returns-in-Field g c =
    selected-field g.S.ScalarValue.shown (choice_of g.S.ScalarValue.shown g.M.Meets.met c.args.choosing.now) _ c.args.selection.now c.in-Field.field c.args.spreads_left
    c.field_part.result c.in-Field.is (c.field_part.ensures _)

pub returns-in-FragmentSpread : goal.returns-in-FragmentSpread
returns-in-FragmentSpread g c =
    selected-spread g.S.ScalarValue.shown (choice_of g.S.ScalarValue.shown g.M.Meets.met c.args.choosing.now) _ c.args.selection.now c.in-FragmentSpread.spread
    c.args.spreads_left c.spread_part.result c.in-FragmentSpread.is c.spread_part.ensures

pub returns-in-InlineFragment : goal.returns-in-InlineFragment
returns-in-InlineFragment g c =
    selected-inline g.S.ScalarValue.shown (choice_of g.S.ScalarValue.shown g.M.Meets.met c.args.choosing.now) _ c.args.selection.now c.in-InlineFragment.inline
    c.args.spreads_left c.inline_part.result c.in-InlineFragment.is c.inline_part.ensures
