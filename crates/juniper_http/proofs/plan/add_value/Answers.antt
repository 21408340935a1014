use Rattle.std.proofs.Common.{◌≡◌, ◌++◌, false, map, refl, sym, ap, subst, ◌∙◌, append-nil, IfOk}
use Rattle.std.proofs.lemmas.Bool.{both_ways}
use Rattle.juniper_http.specs.Accept.{view_range}
use Rattle.juniper_http.proofs.Ranges.{hidden_line, visible_line}
use Rattle.juniper_http.proofs.plan.add_value.Goals as goal

pub returns-in-Ok : goal.returns-in-Ok
returns-in-Ok c =
    subst (λ ranges. IfOk c.add_ranges.result (λ made. map view_range made.items ≡ map view_range c.args.ranges.items ++ ranges))
    (visible_line c.args.value.now c.in-Ok.text.now (c.in-Ok.ensures.succeeds.0 refl) c.in-Ok.ensures.ok) c.add_ranges.ensures

pub returns-in-Err : goal.returns-in-Err
returns-in-Err c =
    sym (append-nil (map view_range c.args.ranges.items))
    ∙ ap (λ ranges. map view_range c.args.ranges.items ++ ranges) (hidden_line c.args.value.now (λ visible. both_ways false refl (c.in-Err.ensures.succeeds.1 visible)))
