use Rattle.std.proofs.Common.{rules, ◌≡◌, ◌++◌, true, false, [], ◌∷◌, map, bytes_eq, sym, ap, ◌∙◌}
use Rattle.std.proofs.lemmas.List.{map-append}
use Rattle.juniper_json.specs.Each.{view_refused}
use Rattle.juniper_syntax.specs.RuleView.{view_rule_error}
use Rattle.juniper_syntax.specs.DocumentView.{view_variable}
use Rattle.juniper_syntax.specs.Scalars.{default_shown}
use Rattle.juniper_endpoint.proofs.Looking.{any_seen, refused_none, refused_one}
use Rattle.juniper_endpoint.specs.Replied.{is_refused}
use Rattle.juniper_endpoint.proofs.look.push_refused.Goals as goal

pub returns-in_ok-push : goal.returns-in_ok-push
returns-in_ok-push c =
    let refused = map view_refused c.args.refused.now in
    let v = view_variable default_shown c.args.variable.now in
    let before = c.args.errors.now.items in
    let test : is_refused refused v ≡ true =
    any_seen (λ r. bytes_eq v.name.item r.0) view_refused c.args.refused.now ∙ (sym c.is_refused.ensures ∙ c.if-is_refused.true) in
    ap (map view_rule_error) c.in_ok-push.ensures.items ∙ (map-append view_rule_error before (c.in_ok-unfitting.field-0 ∷ [])
    ∙ ap (λ es. map view_rule_error before ++ es) (ap (λ e. e ∷ []) c.in_ok-unfitting.ensures ∙ sym (refused_one refused v test)))

pub returns-else-is_refused : goal.returns-else-is_refused
returns-else-is_refused c =
    let refused = map view_refused c.args.refused.now in
    let v = view_variable default_shown c.args.variable.now in
    let test : is_refused refused v ≡ false =
    any_seen (λ r. bytes_eq v.name.item r.0) view_refused c.args.refused.now ∙ (sym c.is_refused.ensures ∙ c.if-is_refused.false) in
    let none = refused_none refused v test in
    search (rules, none)
