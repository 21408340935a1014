use Rattle.std.proofs.Common.{◌≡◌, true, false, sym, ◌∙◌}
use Rattle.juniper_written.specs.WrittenView.{named, view_names}
use Rattle.juniper_written.proofs.Looking.{got}
use Rattle.juniper_written.proofs.Grouping.{told-true, told-false}
use Rattle.juniper_written.proofs.groups.told.Goals as goal

pub returns-then-has_one_of : goal.returns-then-has_one_of
returns-then-has_one_of c = λ fs groups b e.
    let is = got c.get.result (named c.args.groups.now c.args.name.now) c.in-Some.root c.get.ensures c.in-Some.is in
    let same : true ≡ b = cc e in
    sym same ∙ told-true fs c.args.groups.now groups (view_names c.args.names.now) c.args.name.now c.in-Some.root.now is
    (sym c.has_one_of.ensures ∙ c.if-has_one_of.true)

pub returns-then-greatest-root : goal.returns-then-greatest-root
returns-then-greatest-root c = λ fs groups b e.
    let is = got c.get.result (named c.args.groups.now c.args.name.now) c.in-Some.root c.get.ensures c.in-Some.is in
    let same : false ≡ b = cc e in
    sym same ∙ told-false fs c.args.groups.now groups (view_names c.args.names.now) c.args.name.now c.in-Some.root.now is c.greatest.result
    c.greatest.ensures c.if-greatest-root.true
