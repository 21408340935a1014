use Rattle.std.proofs.Common.{◌∙◌, ap}
use Rattle.graphql_spec.specs.Arguments.{with_defaults}
use Rattle.graphql_spec.specs.Constants.{no_members}
use Rattle.juniper_values.specs.ArgumentView.{meant, meant_lent, members_onto, view_declared}
use Rattle.juniper_values.proofs.arguments.Arguments.new.Goals as goal

pub returns : goal.returns
returns g c =
    let shown = g.S.ScalarValue.shown in
    let own = c.or_empty.result.entries in
    c.in_ok-put_defaults.ensures
    ∙ (ap (λ ds. with_defaults ds (members_onto (meant shown) (members_onto (meant_lent shown) no_members c.new.result.entries) own)) c.or_none.ensures
    ∙ ap (with_defaults (view_declared shown c.args.declared))
    (ap (λ es. members_onto (meant shown) (members_onto (meant_lent shown) no_members es) own) c.new.ensures.empty ∙ c.or_empty.ensures))
