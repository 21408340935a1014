use Rattle.std.proofs.Common.{sym, subst, take}
use Rattle.juniper_syntax.specs.Indexes.{AreSame}
use Rattle.juniper_syntax.proofs.Indexes.{empty-index, same-distinct, same-first, keys_equiv}
use Rattle.indexmap.proofs.MapLemmas.{distinct-take}
use Rattle.juniper_syntax.proofs.keys.Keys.first.Goals as goal

pub invariant_of-result : goal.invariant_of-result
invariant_of-result c =
    let ks = c.self.inside.names.items in
    let ls = c.in_ok-names.names.items in
    let n = c.args.count in
    let same = subst (AreSame (take n ks)) (sym c.truncate.ensures.items) (same-first n ks ls c.in_ok-names.ensures.cases.0) in (
      same-distinct (take n ks) c.truncate.new.self.items same (distinct-take keys_equiv n ks c.self.invariant.0),
      empty-index c.new.result _ c.new.ensures.number,
    )

pub returns : goal.returns
returns c =
    let ks = c.self.inside.names.items in
    let ls = c.in_ok-names.names.items in
    let n = c.args.count in
    subst (λ ms. AreSame (take n ms) c.truncate.new.self.items) c.self.view_is
    (subst (AreSame (take n ks)) (sym c.truncate.ensures.items) (same-first n ks ls c.in_ok-names.ensures.cases.0))
