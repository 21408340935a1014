use Rattle.std.proofs.Common.{ap, sym, ◌∙◌, arith, length, zip}
use Rattle.juniper_syntax.specs.FieldWords.{names}
use Rattle.juniper_syntax.proofs.FirstKeys.{same-names, zip-long, first-values}
use Rattle.juniper_syntax.proofs.fields.Fields.with_values.Goals as goal

pub invariant_of-result : goal.invariant_of-result
invariant_of-result g c =
    let long = zip-long c.self.inside.keys.value c.self.inside.values.items c.self.invariant in
    omega (arith, c.requires, long, ap length c.self.view_is, c.self.invariant, ap length c.in_ok-keys.ensures.cases)

pub returns-clause-keys : goal.returns-clause-keys
returns-clause-keys g c =
    let ks = c.self.inside.keys.value in
    let vs = c.self.inside.values.items in
    let ws = c.args.values.items in
    let long = c.requires ∙ ap length (sym c.self.view_is) ∙ zip-long ks vs c.self.invariant in
    ap (λ ns. names (zip ns ws)) c.in_ok-keys.ensures.cases ∙ same-names ks vs ws long ∙ ap names c.self.view_is

pub returns-clause-values : goal.returns-clause-values
returns-clause-values g c =
    let long = zip-long c.self.inside.keys.value c.self.inside.values.items c.self.invariant in
    first-values c.in_ok-keys.keys.value c.args.values.items
    (omega (arith, c.requires, long, ap length c.self.view_is, c.self.invariant, ap length c.in_ok-keys.ensures.cases))
