-- Each text is read, and each request has an outcome.
use Rattle.std.proofs.Common.{◌≡◌, ◌∙◌, None, Some, refl, ap, inl, inr}
use Rattle.std.specs.Prelude.{option_map}
use Rattle.std.proofs.lemmas.Bool.{cases_Bool}
use Rattle.graphql_spec.specs.Grammar.{before_all}
use Rattle.graphql_spec.proofs.Existing.{outcome-exists}
use Rattle.graphql_spec.proofs.Keeping.{options}
use Rattle.graphql_spec.specs.Introspection.{rooted_service, user}
use Rattle.graphql_spec.specs.Outcomes.{Service, Steps}
use Rattle.graphql_spec.specs.SeenServices.{seen_steps}
use Rattle.graphql_spec.specs.Shown.{Name}
use Rattle.juniper_language.proofs.DocumentLaws.{fault_spells, nothing_read, spells_alone}
use Rattle.juniper_language.specs.Reading as read
use Rattle.juniper_tokens.specs.Lexing.{is_whole, lexed}
use Rattle.juniper.specs.Ends.{AllEnd, RequestsEnd, TextsAreRead}
use Rattle.juniper.proofs.FullOutcomes.{full-outcome}

-- reading finds nothing; or it finds a document, at the end of the text or before
pub texts-are-read : TextsAreRead
texts-are-read text = elim (options (read.document (before_all (lexed text).tokens))) [
  | inl none ↦ (None, nothing_read text (lexed text) refl none)
  | inr (found, is) ↦ (elim (cases_Bool (is_whole (lexed text).ending)) [
    | inl ends ↦ (Some found.0, spells_alone text (lexed text) found.0 found.1 refl ends is)
    | inr fault ↦ (None, fault_spells text (lexed text) refl fault)
  ])
]

pub requests-end : {C N : Type 0} (S : Service C N) → RequestsEnd S
requests-end S steps q c = let r = texts-are-read q.text in ((outcome-exists S steps q r.0 r.1 c).0, full-outcome S steps q r.0 r.1 c)

-- with introspection mutations have steps where the service's own have some
pub rooted-end : {C N : Type 0} (S : Service C N) (m : Steps C N) → S.mutation ≡ option_map (λ (T : Name). m) S.schema.mutation → AllEnd (rooted_service S)
unfolding rooted_service
rooted-end S m is =
    requests-end (rooted_service S) (λ T has. (seen_steps user m, ap (option_map (seen_steps user)) (is ∙ ap (option_map (λ (U : Name). m)) has)))
