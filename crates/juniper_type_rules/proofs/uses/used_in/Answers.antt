use Rattle.std.proofs.Common.{ap, ◌∙◌}
use Rattle.std.specs.List.{flat_map, list_any}
use Rattle.juniper_schema.specs.SchemaView.{view_schema}
use Rattle.juniper_syntax.specs.DocumentView.{view_definition}
use Rattle.juniper_type_rules.specs.Positions.{places_in_call, places_used, uses_of_places}
use Rattle.juniper_type_rules.specs.UsesView.{usage_of, view_places}
use Rattle.juniper_type_rules.specs.Variables.{names_of_words, words_given, words_used}
use Rattle.juniper_type_rules.proofs.Parts.{same-usage}
use Rattle.juniper_type_rules.proofs.PlacesIn.{used-uses}
use Rattle.juniper_type_rules.proofs.WordsIn.{used-names}
use Rattle.juniper_type_rules.proofs.uses.used_in.Goals as goal

pub returns : goal.returns
unfolding usage_of words_used places_used
returns g c = λ same_lists same_calls.
    let s = view_schema g.S.ScalarValue.shown c.args.schema.now in
    let x = view_definition g.S.ScalarValue.shown c.args.definition.now in
    let words = c.in_ok-words.ensures ∙ ap (flat_map (flat_map words_given)) same_lists in
    let places = ap view_places c.deref.ensures.value ∙ (c.in_ok-places.ensures ∙ ap (flat_map (places_in_call s)) same_calls) in
    same-usage _ _ _ _ _ _ c.fragment_name.ensures
    (λ test. c.in_ok-names.ensures test ∙ ap (list_any test) (c.in_ok-names_of_words.ensures ∙ (ap names_of_words words ∙ used-names x)))
    (λ test. c.in_ok-uses.ensures test ∙ ap (list_any test) (c.in_ok-uses_of_places.ensures ∙ (ap uses_of_places places ∙ used-uses s x)))
