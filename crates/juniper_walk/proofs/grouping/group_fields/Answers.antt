use Rattle.std.proofs.Common.{ap, ◌∙◌, arith}
use Rattle.std.proofs.lemmas.List.{take_all}
use Rattle.std.proofs.lemmas.Grind.{text_groups}
use Rattle.std.specs.List.{filter}
use Rattle.std.specs.Str.{bytes_eq}
use Rattle.graphql_spec.specs.Documents.{response_key}
use Rattle.juniper_lookahead.specs.declared.occurrences.Occurrence.{Occurrence}
use Rattle.juniper_walk.specs.FieldWords.{head_of}
use Rattle.juniper_walk.proofs.grouping.group_fields.Goals as goal

pub loop-occurrence-preserved : goal.loop-occurrence-preserved
loop-occurrence-preserved g c = grind (arith, text_groups)

pub returns : goal.returns
returns g c = λ q.
    let test = λ (o : Occurrence g.row.S.Denot). bytes_eq q (response_key (head_of g.S.ScalarValue.shown o.field.now)) in
    c.loop-occurrence.invariant q ∙ ap (filter test) (take_all c.loop-occurrence.occurrence-index c.args.fields.now c.loop-occurrence-test.false)
