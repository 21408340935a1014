use Rattle.std.proofs.Common.{◌≡◌, option_map, sym, ap, ◌∙◌, arith, w32, to_z, of_z, to_z-of_z}
use Rattle.graphql_spec.specs.Shown.{int}
use Rattle.juniper_field_graph.specs.CallParts.{a_scalar, view_part}
use Rattle.juniper_field_graph.proofs.CallValues.{shows-boolean, shows-int, shows-one, shows-text}
use Rattle.juniper_field_graph.proofs.call_parts.part_of_scalar.Goals as goal

pub returns-in-Some : goal.returns-in-Some
unfolding view_part
returns-in-Some g c =
    let n = c.in-Some.int in
    let shows : g.S.ScalarValue.shown c.args.scalar.now ≡ int n = shows-int (g.S.ScalarValue.shown c.args.scalar.now) n
    (sym c.try_to_int.ensures ∙ c.in-Some.is) in
    let same : to_z w32 (of_z w32 n) ≡ n = grind (arith, to_z-of_z) in
    ap (λ m. a_scalar (int m)) same ∙ ap a_scalar (sym shows)

pub returns-in-Some-try_to_bool : goal.returns-in-Some-try_to_bool
unfolding view_part
returns-in-Some-try_to_bool g c =
    ap a_scalar (sym (shows-boolean (g.S.ScalarValue.shown c.args.scalar.now) c.in-Some-try_to_bool.truth
    (sym c.try_to_bool.ensures ∙ c.in-Some-try_to_bool.is)))

pub returns-in-Some-try_to_str : goal.returns-in-Some-try_to_str
unfolding view_part
returns-in-Some-try_to_str g c =
    ap a_scalar (sym (shows-text (g.S.ScalarValue.shown c.args.scalar.now) c.in-Some-try_to_str.text.now
    (sym c.try_to_str.ensures ∙ ap (option_map (λ t. t.now)) c.in-Some-try_to_str.is)))

pub returns-in-None-try_to_str : goal.returns-in-None-try_to_str
returns-in-None-try_to_str g c =
    absurd (shows-one (g.S.ScalarValue.shown c.args.scalar.now) (sym c.try_to_int.ensures ∙ c.in-None.is) (sym c.try_to_bool.ensures ∙ c.in-None-try_to_bool.is)
    (sym c.try_to_str.ensures ∙ ap (option_map (λ t. t.now)) c.in-None-try_to_str.is))
