-- `==` of request errors compares what they show.
use Rattle.std.proofs.Common.{rules, ◌≡◌, List, [], ◌∷◌, map, Bool, true, false, ◌&&◌, string_bytes, bytes_eq, refl, sym, ap, ap₂, subst}
use Rattle.std.specs.Cmp.Lexicographic.{pointwise}
use Rattle.std.proofs.lemmas.Bool.{both_ways, and_parts, and_from}
use Rattle.graphql_spec.specs.Positions.{Spanned, same_position}
use Rattle.graphql_spec.specs.Rules as rule_views
use Rattle.graphql_spec.proofs.Equality.{same_position-refl, same_position-true}
use Rattle.graphql_spec.proofs.Lists.{same_true, same_refl}
use Rattle.juniper_syntax.specs.Positions.{view_position, view_spanning}
use Rattle.juniper_syntax.specs.Refusals.{Refusal, view_refusal}
use Rattle.juniper_syntax.specs.declared.error.ParseError.{ParseError}
use Rattle.juniper_syntax.specs.declared.position.Span.{Span}
use Rattle.juniper_syntax.specs.declared.position.Spanning.{Spanning}
use Rattle.juniper_syntax.specs.contracts.error.ParseErrorPartialEq.TheImpl as refusal
use Rattle.juniper_syntax.specs.RuleView.{view_rule_error}
use Rattle.juniper_syntax.specs.declared.rule.RuleError.{RuleError}
use Rattle.juniper_syntax.specs.contracts.rule.RuleErrorPartialEq.TheImpl as rule
use Rattle.juniper.specs.RequestErrors.{view_request_error}
use Rattle.juniper.specs.declared.error.GraphQLError.{GraphQLError}
use Rattle.juniper.specs.declared.error.GraphQLError.TheVariants as code
use Rattle.juniper.specs.contracts.error.GraphQLErrorPartialEq.TheImpl as errors

-- ## Errors of rules

rule_equal : (x y : RuleError) → (rule.ghosts).eq x y ≡ true → view_rule_error x ≡ view_rule_error y
unfolding same_position
rule_equal x y e =
    let p = and_parts (bytes_eq (string_bytes x.message) (string_bytes y.message)) (same_position (view_position x.location) (view_position y.location)) e in
    λ i. record {
      message = same_true (string_bytes x.message) (string_bytes y.message) p.0 i;
      start = same_position-true (view_position x.location) (view_position y.location) p.1 i;
    }

rule_same : (x y : RuleError) → view_rule_error x ≡ view_rule_error y → (rule.ghosts).eq x y ≡ true
unfolding same_position
rule_same x y e =
    and_from (bytes_eq (string_bytes x.message) (string_bytes y.message)) (same_position (view_position x.location) (view_position y.location))
    (subst (λ (r : rule_views.RuleError). bytes_eq (string_bytes x.message) r.message ≡ true) e (same_refl (string_bytes x.message)))
    (subst (λ (r : rule_views.RuleError). same_position (view_position x.location) r.start ≡ true) e (same_position-refl (view_position x.location)))

first : rule_views.RuleError → List rule_views.RuleError → rule_views.RuleError
first r [] = r
first r (x ∷ xs) = x

rest : List rule_views.RuleError → List rule_views.RuleError
rest [] = []
rest (x ∷ xs) = xs

is_there : List rule_views.RuleError → Bool
is_there [] = false
is_there (x ∷ xs) = true

pub rules_equal : (xs ys : List RuleError) → pointwise (rule.ghosts).eq xs ys ≡ true → map view_rule_error xs ≡ map view_rule_error ys
rules_equal [] [] e = refl
rules_equal [] (y ∷ ys) e = absurd (both_ways false refl e)
rules_equal (x ∷ xs) [] e = absurd (both_ways false refl e)
rules_equal (x ∷ xs) (y ∷ ys) e =
    let p = and_parts ((rule.ghosts).eq x y) (pointwise (rule.ghosts).eq xs ys) e in
    ap₂ (λ r rs. r ∷ rs) (rule_equal x y p.0) (rules_equal xs ys p.1)

pub rules_same : (xs ys : List RuleError) → map view_rule_error xs ≡ map view_rule_error ys → pointwise (rule.ghosts).eq xs ys ≡ true
unfolding first rest is_there
rules_same [] [] e = refl
rules_same [] (y ∷ ys) e = absurd (both_ways true (ap is_there (sym e)) refl)
rules_same (x ∷ xs) [] e = absurd (both_ways true (ap is_there e) refl)
rules_same (x ∷ xs) (y ∷ ys) e =
    and_from ((rule.ghosts).eq x y) (pointwise (rule.ghosts).eq xs ys)
    (rule_same x y (ap (first (view_rule_error x)) e)) (rules_same xs ys (ap rest e))

-- ## Errors of the parser

refusal_equal : (x y : ParseError) → (refusal.ghosts).eq x y ≡ true → view_refusal x ≡ view_refusal y
refusal_equal x y = search rules

refusal_same : (x y : ParseError) → view_refusal x ≡ view_refusal y → (refusal.ghosts).eq x y ≡ true
refusal_same x y = search rules

abbrev span_eq : Span → Span → Bool
span_eq s t = same_position (view_position s.start) (view_position t.start) && same_position (view_position s.end) (view_position t.end)

abbrev spanned_eq : Spanning ParseError Span → Spanning ParseError Span → Bool
spanned_eq x y = (refusal.ghosts).eq x.item y.item && span_eq x.span y.span

abbrev view_spanned : Spanning ParseError Span → Spanned Refusal
view_spanned = view_spanning view_refusal

spanned_equal : (x y : Spanning ParseError Span) → spanned_eq x y ≡ true → view_spanned x ≡ view_spanned y
spanned_equal x y e =
    let p = and_parts ((refusal.ghosts).eq x.item y.item) (span_eq x.span y.span) e in
    let q = and_parts (same_position (view_position x.span.start) (view_position y.span.start))
    (same_position (view_position x.span.end) (view_position y.span.end)) p.1 in
    λ i. record {
      item = refusal_equal x.item y.item p.0 i;
      span = record {
        start = same_position-true (view_position x.span.start) (view_position y.span.start) q.0 i;
        end = same_position-true (view_position x.span.end) (view_position y.span.end) q.1 i;
      };
    }

spanned_same : (x y : Spanning ParseError Span) → view_spanned x ≡ view_spanned y → spanned_eq x y ≡ true
spanned_same x y e =
    and_from ((refusal.ghosts).eq x.item y.item) (span_eq x.span y.span) (refusal_same x.item y.item (ap (λ (s : Spanned Refusal). s.item) e))
    (and_from (same_position (view_position x.span.start) (view_position y.span.start))
    (same_position (view_position x.span.end) (view_position y.span.end))
    (subst (λ (s : Spanned Refusal). same_position (view_position x.span.start) s.span.start ≡ true) e (same_position-refl (view_position x.span.start)))
    (subst (λ (s : Spanned Refusal). same_position (view_position x.span.end) s.span.end ≡ true) e (same_position-refl (view_position x.span.end))))

-- ## Errors of requests

pub request_equal : (a b : GraphQLError) → (errors.ghosts).eq a b ≡ true → view_request_error a ≡ view_request_error b
unfolding same_position
request_equal (code.ParseError x) b = search (rules, spanned_equal)
request_equal (code.ValidationError x) b = search (rules, rules_equal)
request_equal code.NoOperationProvided b = search rules
request_equal code.MultipleOperationsProvided b = search rules
request_equal code.UnknownOperationName b = search rules
request_equal code.IsSubscription b = search rules
request_equal code.NotSubscription b = search rules
request_equal code.MutationNotSupported b = search rules
request_equal (code.VariableNotConstant x) b = search (rules, same_true)
request_equal code.OutOfMemory b = search rules

pub request_same : (a b : GraphQLError) → view_request_error a ≡ view_request_error b → (errors.ghosts).eq a b ≡ true
unfolding same_position
request_same (code.ParseError x) b = search (rules, spanned_same)
request_same (code.ValidationError x) b = search (rules, rules_same)
request_same code.NoOperationProvided b = search rules
request_same code.MultipleOperationsProvided b = search rules
request_same code.UnknownOperationName b = search rules
request_same code.IsSubscription b = search rules
request_same code.NotSubscription b = search rules
request_same code.MutationNotSupported b = search rules
request_same (code.VariableNotConstant x) b = search (rules, same_refl)
request_same code.OutOfMemory b = search rules
