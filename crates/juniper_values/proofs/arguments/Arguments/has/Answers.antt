use Rattle.std.proofs.Common.{refl}
use Rattle.graphql_spec.specs.Constants.{no_members}
use Rattle.juniper_values.specs.ArgumentView.{meant, meant_lent, members_onto}
use Rattle.juniper_values.proofs.ArgumentMembers.{there, there-alone}
use Rattle.juniper_values.proofs.arguments.Arguments.has.Goals as goal

pub returns-then-contains_key : goal.returns-then-contains_key
returns-then-contains_key g c =
    let shown = g.S.ScalarValue.shown in
    let all = c.args.self.now in
    let lent = members_onto (meant_lent shown) no_members all.lent.items.entries in
    rw (there (meant shown) lent all.items c.args.name.now, ← c.contains_key.ensures, c.if-contains_key.true) refl

pub returns-else-contains_key : goal.returns-else-contains_key
returns-else-contains_key g c =
    let shown = g.S.ScalarValue.shown in
    let all = c.args.self.now in
    let lent = members_onto (meant_lent shown) no_members all.lent.items.entries in
    rw (
      there (meant shown) lent all.items c.args.name.now,
      ← c.contains_key.ensures,
      c.if-contains_key.false,
      there-alone (meant_lent shown) all.lent.items c.args.name.now,
      ← c.contains_key-else-contains_key.ensures,
    )
    refl
