use Rattle.std.proofs.Common.{◌≡◌, [], ◌∷◌, Some, not, ap, sym, ◌∙◌, length, string_bytes, refl}
use Rattle.std.specs.List.{position}
use Rattle.std.specs.String.{string_eq}
use Rattle.juniper_syntax.specs.FieldWords.{is_key, texts}
use Rattle.std.proofs.lemmas.List.{map-append}
use Rattle.juniper_syntax.proofs.Columns.{place_of}
use Rattle.juniper_syntax.proofs.FirstKeys.{any-texts, position-texts}
use Rattle.juniper_syntax.proofs.Indexes.{absent, none-position, some-position}
use Rattle.juniper_syntax.proofs.keys.Keys.insert_full.Goals as goal

pub returns-in-Some-clause-added : goal.returns-in-Some-clause-added
returns-in-Some-clause-added c =
    let key = string_bytes c.args.key in
    let names = c.args.self.now in
    let place = c.in-Some.place in
    let same = ap (λ text. position (is_key text) names) c.as_str.ensures.value in
    let at : position (is_key key) names ≡ Some place = sym same ∙ sym c.get_index_of.ensures.index ∙ c.in-Some.is in (
      sym (ap not (sym (any-texts key names) ∙ some-position (is_key key) names place at)),
      sym (place_of (is_key key) names place at) ∙ position-texts key names,
      refl,
    )

pub push-requires : goal.push-requires
push-requires c =
    let same = ap (λ text. position (is_key text) c.args.self.now) c.as_str.ensures.value in
    none-position (string_eq c.args.key) c.args.self.now (sym same ∙ sym c.get_index_of.ensures.index ∙ c.in_default.is)

pub returns-clause-added : goal.returns-clause-added
returns-clause-added c =
    let key = string_bytes c.args.key in
    let names = c.args.self.now in
    let same = ap (λ text. position (is_key text) names) c.as_str.ensures.value in
    let gone = none-position (is_key key) names (sym same ∙ sym c.get_index_of.ensures.index ∙ c.in_default.is) in (
      sym (ap not (sym (any-texts key names) ∙ gone)),
      c.len-place.ensures ∙ c.self.inside.names.ok.0 ∙ ap length c.self.view_is ∙ sym (absent (is_key key) names gone) ∙ position-texts key names,
      ap texts c.in_ok-push.ensures.ok ∙ map-append string_bytes names (c.args.key ∷ []),
    )
