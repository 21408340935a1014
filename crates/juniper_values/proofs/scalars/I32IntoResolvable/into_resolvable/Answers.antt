use Rattle.std.proofs.Common.{◌≡◌, rules, ap, sym, ◌∙◌}
use Rattle.graphql_spec.specs.Resolvers.{answered, leaf}
use Rattle.graphql_spec.specs.Shown.{int}
use Rattle.juniper_values.proofs.Resolutions.{view-Scalar}
use Rattle.juniper_values.proofs.scalars.I32IntoResolvable.into_resolvable.Goals as goal

pub returns : goal.returns
returns g c =
    let shown : g.S.ScalarValue.shown c.from_int.result ≡ int c.args.self = search rules in
    ap (λ s. answered (leaf s)) (sym shown) ∙ sym (ap answered (view-Scalar g.S.ScalarValue.shown c.from_int.result))
