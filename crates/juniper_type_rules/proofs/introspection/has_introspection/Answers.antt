use Rattle.std.proofs.Common.{◌<◌, ◌≤◌, length, arith, sym, ◌∙◌}
use Rattle.graphql_spec.specs.Rules.{is_introspection}
use Rattle.juniper_syntax.specs.DocumentView.{view_field}
use Rattle.juniper_written.proofs.Deciding.{open-first, open-next, one-passes, none-passes}
use Rattle.juniper_type_rules.proofs.introspection.has_introspection.Goals as goal

pub loop-index-init : goal.loop-index-init
loop-index-init g c = open-first (λ f. view_field g.S.ScalarValue.shown f.now) (λ h. is_introspection h.name.item) c.args.written.now.fields.items

pub loop-index-preserved : goal.loop-index-preserved
loop-index-preserved g c =
    let fs = c.args.written.now.fields in
    let below : c.loop-index.index < length fs.items = omega (arith, c.loop-index-test.true, c.len-index-end.ensures, fs.ok.0) in
    open-next (λ f. view_field g.S.ScalarValue.shown f.now) (λ h. is_introspection h.name.item) fs.items c.loop-index.index c.index-field.result.now below
    c.index-field.ensures
    (sym c.is_introspection.ensures ∙ c.if-is_introspection.false) c.loop-index.invariant

pub returns : goal.returns
returns g c =
    let fs = c.args.written.now.fields in
    let past : length fs.items ≤ c.loop-index.index = omega (arith, c.loop-index-test.false, c.len-index-end.ensures, fs.ok.0) in
    none-passes (λ f. view_field g.S.ScalarValue.shown f.now) (λ h. is_introspection h.name.item) fs.items c.loop-index.index past c.loop-index.invariant

pub returns-then-is_introspection : goal.returns-then-is_introspection
returns-then-is_introspection g c =
    let fs = c.args.written.now.fields in
    let below : c.loop-index.index < length fs.items = omega (arith, c.loop-index-test.true, c.len-index-end.ensures, fs.ok.0) in
    one-passes (λ f. view_field g.S.ScalarValue.shown f.now) (λ h. is_introspection h.name.item) fs.items c.loop-index.index c.index-field.result.now below
    c.index-field.ensures
    (sym c.is_introspection.ensures ∙ c.if-is_introspection.true) c.loop-index.invariant
