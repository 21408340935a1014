use Rattle.std.proofs.Common.{sym, ap, ◌∙◌}
use Rattle.juniper_lookahead.specs.ShownValues.{first_named}
use Rattle.juniper_lookahead.specs.ValueView.{view_look_argument}
use Rattle.juniper_lookahead.proofs.FirstNamed.{named-found, named-further}
use Rattle.juniper_lookahead.proofs.selection.LookAheadSelection.argument.Goals as goal

pub returns-then-is_named : goal.returns-then-is_named
returns-then-is_named g c =
    let wanted = c.args.name.now in
    let a = view_look_argument g.S.ScalarValue.shown c.in-Some.argument in
    named-found wanted a _ _ _ c.in-Some.ensures.steps c.loop-argument.invariant.2 (sym c.is_named.ensures ∙ c.if-is_named.true)

pub loop-argument-preserved : goal.loop-argument-preserved
loop-argument-preserved g c =
    let wanted = c.args.name.now in
    let a = view_look_argument g.S.ScalarValue.shown c.in-Some.argument in
    let further = named-further wanted a _ _ _ c.in-Some.ensures.steps c.loop-argument.invariant.2 (sym c.is_named.ensures ∙ c.if-is_named.false) in
    (record {}, record {}, further)

pub returns : goal.returns
unfolding first_named
returns g c = sym (ap (first_named c.args.name.now) c.in-None.ensures.steps.0) ∙ c.loop-argument.invariant.2
