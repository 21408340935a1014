-- Errors with a code.
use Rattle.std.proofs.Common.{◌≡◌, codes, Result, Ok, Err, IfOk, refl, ap, ap₂, ◌∙◌}
use Rattle.graphql_spec.specs.Shown.{Shown, Text, text}
use Rattle.graphql_spec.specs.Values as values
use Rattle.graphql_spec.specs.Values.{put}
use Rattle.juniper_conversions.specs.ErrorView.{view_error}
use Rattle.juniper_conversions.specs.declared.field_error.FieldError.{FieldError}
use Rattle.juniper_syntax.proofs.Values.{view-Object, view-Scalar}
use Rattle.juniper_syntax.specs.ValueView.{view_object, view_value}
use Rattle.juniper_syntax.specs.declared.value.Object.{Object}
use Rattle.juniper_syntax.specs.declared.value.Value.{Scalar, Object as ObjectOf}
use Rattle.juniper_words.specs.Replies.{error_with_code}

module _ {S : Type 0} (shown : S → Shown) where
  -- an object with the code alone
  pub code_alone : (empty made : Object S) (s : S) (t : Text) → view_object shown empty ≡ values.no_entries →
      view_object shown made ≡ put (codes "code") (view_value shown (Scalar s)) (view_object shown empty) → shown s ≡ text t →
      view_value shown (ObjectOf made) ≡ values.object (values.entry (codes "code") (values.scalar (text t)) values.no_entries)
  unfolding put
  code_alone empty made s t none is told = view-Object shown made ∙ ap values.object (is ∙ rw (none, view-Scalar shown s, told) refl)

  -- an error of these parts
  pub coded : {E : Type 0} (r : Result (FieldError S) E) (message code : Text) (v : values.Value) →
      IfOk r (λ e. (view_error shown e).message ≡ message) → IfOk r (λ e. (view_error shown e).extensions ≡ v) →
      v ≡ values.object (values.entry (codes "code") (values.scalar (text code)) values.no_entries) →
      IfOk r (λ e. view_error shown e ≡ error_with_code message code)
  coded (Ok e) message code v said more is = ap₂ (λ m x. record { message = m; extensions = x }) said (more ∙ is)
  coded (Err e) message code v said more is = tt
