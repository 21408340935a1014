use Rattle.std.proofs.Common.{ap, sym, ◌∙◌, ◌++◌}
use Rattle.std.proofs.lemmas.List.{append-nil}
use Rattle.juniper_rules.specs.Listing.{view_listed_on_types}
use Rattle.juniper_syntax.proofs.Lists.{seen-push}
use Rattle.juniper_syntax.specs.DocumentView.{view_definition, view_fragment}
use Rattle.juniper_written.specs.WrittenView.{has_name}
use Rattle.juniper_explain.specs.Parts.{view_each, where_reached}
use Rattle.juniper_explain.proofs.Reached.{fails, passes}
use Rattle.juniper_explain.proofs.parts.push_reached.Goals as goal

pub returns-in-Operation : goal.returns-in-Operation
unfolding where_reached
returns-in-Operation g c =
    let shown = g.S.ScalarValue.shown in
    let old = view_each shown c.args.parts.now.items in
    sym (append-nil old) ∙ ap (λ x. old ++ where_reached (has_name c.args.names.now) (view_definition shown x) (view_listed_on_types shown c.args.part.now))
    (sym c.in-Operation.is)

pub returns-in_ok-push-in-Fragment : goal.returns-in_ok-push-in-Fragment
returns-in_ok-push-in-Fragment g c =
    let shown = g.S.ScalarValue.shown in
    let test = has_name c.args.names.now in
    let old = view_each shown c.args.parts.now.items in
    let f = view_fragment shown c.in-Fragment.fragment in
    let v = view_listed_on_types shown c.args.part.now in
    seen-push (λ p. view_listed_on_types shown p.now) c.args.parts.now.items c.push.new.self.items _ c.in_ok-push-in-Fragment.ensures.items
    ∙ (ap (λ l. old ++ l) (passes test f v (sym c.contains.ensures ∙ c.if-contains.true))
    ∙ ap (λ x. old ++ where_reached test (view_definition shown x) v) (sym c.in-Fragment.is))

pub returns-else-contains : goal.returns-else-contains
returns-else-contains g c =
    let shown = g.S.ScalarValue.shown in
    let test = has_name c.args.names.now in
    let old = view_each shown c.args.parts.now.items in
    let f = view_fragment shown c.in-Fragment.fragment in
    let v = view_listed_on_types shown c.args.part.now in
    sym (append-nil old) ∙ (ap (λ l. old ++ l) (fails test f v (sym c.contains.ensures ∙ c.if-contains.false))
    ∙ ap (λ x. old ++ where_reached test (view_definition shown x) v) (sym c.in-Fragment.is))
