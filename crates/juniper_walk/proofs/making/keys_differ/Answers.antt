use Rattle.std.proofs.Common.{◌∙◌, [], ◌∷◌, ◌++◌, ap, map, subst, sym, take}
use Rattle.std.proofs.lemmas.List.{take_all}
use Rattle.std.proofs.lemmas.Simd.{map-map}
use Rattle.std.specs.List.Sorted.{IsPermutation}
use Rattle.graphql_spec.specs.Documents.{response_key}
use Rattle.juniper_lookahead.specs.declared.occurrences.Occurrence.{Occurrence}
use Rattle.juniper_walk.specs.FieldWords.{head_of}
use Rattle.juniper_walk.proofs.Slices.{taken-one}
use Rattle.juniper_syntax.specs.NameNumbers.{name_number}
use Rattle.juniper_walk.specs.PlanLists.{rises}
use Rattle.juniper_walk.proofs.Alone.{sorted-differ}
use Rattle.juniper_walk.proofs.making.keys_differ.Goals as goal

pub loop-occurrence-init : goal.loop-occurrence-init
loop-occurrence-init g c = c.in_ok-numbers.ensures.items

pub loop-occurrence-preserved : goal.loop-occurrence-preserved
loop-occurrence-preserved g c =
    let f = λ (o : Occurrence g.row.S.Denot). name_number (response_key (head_of g.S.ScalarValue.shown o.field.now)) in
    let i = c.loop-occurrence.occurrence-index in
    c.in_ok-push.ensures.items
    ∙ (ap (λ l. l ++ c.name_number.result ∷ []) c.loop-occurrence.invariant
    ∙ (ap (λ n. map f (take i c.args.fields.now) ++ n ∷ []) (c.name_number.ensures ∙ ap name_number c.response_key.ensures)
    ∙ sym (taken-one f c.args.fields.now i c.occurrence-item.result c.loop-occurrence-test.true c.occurrence-item.is)))

pub returns : goal.returns
returns g c = λ rise.
    let shown = g.S.ScalarValue.shown in
    let key = λ (o : Occurrence g.row.S.Denot). response_key (head_of shown o.field.now) in
    let fields = c.args.fields.now in
    let made = c.loop-occurrence.invariant
    ∙ (ap (map (λ o. name_number (key o))) (take_all c.loop-occurrence.occurrence-index fields c.loop-occurrence-test.false)
    ∙ sym (map-map name_number key fields)) in
    sorted-differ (map key fields) c.sort_unstable.new.self.items
    (subst (λ l. IsPermutation l c.sort_unstable.new.self.items) made c.sort_unstable.ensures.permutation)
    (ap rises (sym c.deref.ensures.value) ∙ (sym c.do_rise.ensures ∙ rise))
