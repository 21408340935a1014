-- A value that does not fit its type has reasons, and one that fits has none.
use Rattle.std.proofs.Common.{◌≡◌, ℕ, ◌+◌, Bool, true, false, not, ◌&&◌, ◌||◌, cond, List, [], ◌∷◌, ◌++◌, Option, Some, None, refl, sym, ap, ap₂, ◌∙◌}
use Rattle.std.specs.List.{flat_map}
use Rattle.std.specs.Option.{is_some, is_none}
use Rattle.graphql_spec.specs.Shown.{Name, Text}
use Rattle.graphql_spec.specs.Fields.{declaration_in, type_named}
use Rattle.graphql_spec.specs.Fits.{all_fit, all_written, fields_fit, fits, fits_declared, has_field, input_object_fits, size_met, through}
use Rattle.graphql_spec.specs.Inputs.{Input, null, scalar, enumerated, variable, list, object, InputItems, no_items, item, InputFields, no_fields, input_field}
use Rattle.graphql_spec.specs.Inputs.{count_items}
use Rattle.graphql_spec.specs.Rules.{must_be_written}
use Rattle.graphql_spec.specs.Schema.{InputDeclaration, Schema, Shape, scalar_type, enum_type, object_type, interface_type, union_type, input_object_type}
use Rattle.graphql_spec.specs.Schema.{list_type, nullable_type, placeholder}
use Rattle.graphql_spec.specs.Types.{TypeRef, named, list_of, innermost, required}
use Rattle.graphql_spec.specs.VariableUses.{input_fields, item_type}
use Rattle.juniper_explain.specs.Explanations.{has_any}
use Rattle.juniper_explain.specs.Reasons.{at_declaration, declared_at, field_path, is_list, item_path, missing_at, missing_field, reasons}
use Rattle.juniper_explain.specs.Reasons.{reasons_in_fields, reasons_in_items, repeated_at, repeated_names, size_of, takes_fields, text_unless, texts_unless}
use Rattle.juniper_explain.specs.Reasons.{value_reasons, wrong_size}
use Rattle.juniper_type_rules.proofs.Behind.{or-assoc}
use Rattle.juniper_explain.proofs.Joined.{has-append}

-- ## Texts of tests

pub has-text : (b : Bool) (x : Text) → has_any (text_unless b x) ≡ not b
unfolding has_any text_unless
has-text true x = refl
has-text false x = refl

pub has-texts : (b : Bool) (xs : List Text) → (b ≡ false → has_any xs ≡ true) → has_any (texts_unless b xs) ≡ not b
unfolding has_any texts_unless
has-texts true xs has = refl
has-texts false xs has = has refl

not-twice : (b : Bool) → not (not b) ≡ b
not-twice true = refl
not-twice false = refl

or-nots : (a b : Bool) → (not a || not b) ≡ not (a && b)
or-nots true b = refl
or-nots false b = refl

-- ## Lists

has-size : (size : Option ℕ) (n : ℕ) (p : Text) → has_any (wrong_size size n p) ≡ not (size_met size n)
unfolding has_any wrong_size size_met
has-size None n p = refl
has-size (Some m) n p = has-text _ _

-- ## Objects

and-assoc : (a b c : Bool) → (a && (b && c)) ≡ ((a && b) && c)
and-assoc true b c = refl
and-assoc false b c = refl

shape-both : (f : List InputDeclaration → Bool) (x : Option Shape) → input_object_fits f x ≡ (input_object_fits (λ ds. true) x && f (input_fields x))
unfolding input_object_fits input_fields
shape-both f None = refl
shape-both f (Some (input_object_type ds)) = refl
shape-both f (Some (scalar_type k u)) = refl
shape-both f (Some (enum_type vs)) = refl
shape-both f (Some (object_type os is)) = refl
shape-both f (Some (interface_type os is)) = refl
shape-both f (Some (union_type ms)) = refl
shape-both f (Some (list_type n t)) = refl
shape-both f (Some (nullable_type t)) = refl
shape-both f (Some placeholder) = refl

-- an object stands at an input object whose fields pass the test
through-both : (x : Name → Option Shape) (f : List InputDeclaration → Bool) (t : TypeRef) →
    through (λ n. input_object_fits f (x n)) t ≡ (through (λ n. input_object_fits (λ ds. true) (x n)) t && f (input_fields (x (innermost t))))
unfolding through innermost
through-both x f (named r n) = shape-both f (x n)
through-both x f (list_of r size t) = ap (λ b. size_met size 1 && b) (through-both x f t) ∙ and-assoc (size_met size 1) _ _

written-has : (m h : Bool) → not (not (m && not h)) ≡ not (not m || h)
written-has true true = refl
written-has true false = refl
written-has false h = refl

has-missing : (fs : InputFields) (T : Name) (p : Text) (ds : List InputDeclaration) →
    has_any (flat_map (missing_field fs T p) ds) ≡ not (all_written fs ds)
unfolding has_any missing_field all_written must_be_written
has-missing fs T p [] = refl
has-missing fs T p (d ∷ ds) =
    has-append (missing_field fs T p d) (flat_map (missing_field fs T p) ds)
    ∙ (ap₂ (λ a b. a || b) (has-text _ _ ∙ written-has (required d.of_type && is_none d.default) (has_field d.name fs)) (has-missing fs T p ds)
    ∙ or-nots (not (required d.of_type && is_none d.default) || has_field d.name fs) (all_written fs ds))

has-missing-at : (s : Schema) (fs : InputFields) (t : TypeRef) (p : Text) → has_any (missing_at s fs t p) ≡ not (all_written fs (declared_at s t))
unfolding missing_at
has-missing-at s fs t p = has-missing fs (innermost t) p (declared_at s t)

at-has : (x : Text) (f : TypeRef → List Text) (test : TypeRef → Bool) (o : Option InputDeclaration) → ((t : TypeRef) → has_any (f t) ≡ not (test t)) →
    has_any (at_declaration x f o) ≡ not (fits_declared test o)
unfolding has_any at_declaration fits_declared
at-has x f test None has = refl
at-has x f test (Some d) has = has d.of_type

one-has : (o : Option InputDeclaration) (h : Bool) (test : TypeRef → Bool) →
    ((is_some o && h) || not (fits_declared test o)) ≡ not (not h && fits_declared test o)
unfolding fits_declared
one-has None true test = refl
one-has None false test = refl
one-has (Some d) true test = refl
one-has (Some d) false test = refl

four : (a r b f : Bool) → ((a || r) || (b || f)) ≡ ((a || b) || (r || f))
four true r b f = refl
four false true true f = refl
four false true false f = refl
four false false b f = refl

or-swap : (a b : Bool) → (a || b) ≡ (b || a)
or-swap true true = refl
or-swap true false = refl
or-swap false true = refl
or-swap false false = refl

object-has : (takes fit : Bool) (xs : List Text) (x : Text) → has_any xs ≡ not fit → (takes && fit) ≡ false → has_any (cond takes xs (x ∷ [])) ≡ true
unfolding has_any
object-has true fit xs x has misfits = has ∙ ap not misfits
object-has false fit xs x has misfits = refl

-- ## Values

module _ (s : Schema) where
  object-fits : (fs : InputFields) (t : TypeRef) →
      fits s true (object fs) t ≡ (takes_fields s t && (all_written fs (declared_at s t) && fields_fit s true fs (declared_at s t)))
  unfolding fits takes_fields declared_at
  object-fits fs t = through-both (type_named s) (λ ds. all_written fs ds && fields_fit s true fs ds) t

  -- what is wrong with the fields, where this is what is wrong with those that are written
  has-object : (fs : InputFields) (t : TypeRef) (p : Text) →
      (has_any (repeated_at s fs t p) || has_any (reasons_in_fields s fs t p)) ≡ not (fields_fit s true fs (declared_at s t)) →
      has_any (repeated_at s fs t p ++ (reasons_in_fields s fs t p ++ missing_at s fs t p))
      ≡ not (all_written fs (declared_at s t) && fields_fit s true fs (declared_at s t))
  has-object fs t p inside =
      has-append (repeated_at s fs t p) _ ∙ (ap (λ b. has_any (repeated_at s fs t p) || b) (has-append (reasons_in_fields s fs t p) (missing_at s fs t p))
      ∙ (or-assoc (has_any (repeated_at s fs t p)) (has_any (reasons_in_fields s fs t p)) (has_any (missing_at s fs t p))
      ∙ (ap₂ (λ a b. a || b) inside (has-missing-at s fs t p)
      ∙ (or-swap (not (fields_fit s true fs (declared_at s t))) (not (all_written fs (declared_at s t)))
      ∙ or-nots (all_written fs (declared_at s t)) (fields_fit s true fs (declared_at s t))))))

  mutual
    unfolding reasons fits has_any is_list item_type size_of repeated_at repeated_names

    has-reasons : (v : Input) (t : TypeRef) (p : Text) → fits s true v t ≡ false → has_any (reasons s v t p) ≡ true
    has-reasons null t p misfits = refl
    has-reasons (scalar x) t p misfits = refl
    has-reasons (enumerated e) t p misfits = refl
    has-reasons (variable x) t p misfits = refl
    has-reasons (list is) (named r n) p misfits = refl
    has-reasons (list is) (list_of r size t) p misfits =
        has-append (wrong_size size (count_items is) p) (reasons_in_items s is t p 0)
        ∙ (ap₂ (λ a b. a || b) (has-size size (count_items is) p) (has-items is t p 0)
        ∙ (or-nots (size_met size (count_items is)) (all_fit s true is t) ∙ ap not misfits))
    has-reasons (object fs) t p misfits = object-has (takes_fields s t) _ _ _ (has-object fs t p (has-fields fs t p)) (sym (object-fits fs t) ∙ misfits)

    has-items : (is : InputItems) (t : TypeRef) (p : Text) (i : ℕ) → has_any (reasons_in_items s is t p i) ≡ not (all_fit s true is t)
    has-items no_items t p i = refl
    has-items (item v at rest) t p i =
        has-append (texts_unless (fits s true v t) (reasons s v t (item_path p i))) (reasons_in_items s rest t p (i + 1))
        ∙ (ap₂ (λ a b. a || b) (has-texts (fits s true v t) (reasons s v t (item_path p i)) (has-reasons v t (item_path p i))) (has-items rest t p (i + 1))
        ∙ or-nots (fits s true v t) (all_fit s true rest t))

    has-fields : (fs : InputFields) (t : TypeRef) (p : Text) →
        (has_any (repeated_at s fs t p) || has_any (reasons_in_fields s fs t p)) ≡ not (fields_fit s true fs (declared_at s t))
    has-fields no_fields t p = refl
    has-fields (input_field k k_at v v_at rest) t p =
        let o = declaration_in (declared_at s t) k in
        let h = has_field k rest in
        let fit : Bool = fits_declared (λ u. fits s true v u) o in
        ap₂ (λ a b. a || b) (has-append (text_unless (not (is_some o && h)) _) (repeated_at s rest t p))
        (has-append (at_declaration _ (λ u. texts_unless (fits s true v u) (reasons s v u (field_path p k))) o) (reasons_in_fields s rest t p))
        ∙ (four _ (has_any (repeated_at s rest t p)) _ (has_any (reasons_in_fields s rest t p))
        ∙ (ap₂ (λ a b. a || b)
        (ap₂ (λ a b. a || b) (has-text (not (is_some o && h)) _ ∙ not-twice (is_some o && h))
        (at-has _ _ (λ u. fits s true v u) o (λ u. has-texts (fits s true v u) (reasons s v u (field_path p k)) (has-reasons v u (field_path p k))))
        ∙ one-has o h (λ u. fits s true v u))
        (has-fields rest t p)
        ∙ or-nots (not h && fit) (fields_fit s true rest (declared_at s t))))

  -- there are reasons exactly where the value does not fit
  pub has-value : (v : Input) (t : TypeRef) (p : Text) → has_any (value_reasons s v t p) ≡ not (fits s true v t)
  unfolding value_reasons
  has-value v t p = has-texts (fits s true v t) (reasons s v t p) (has-reasons v t p)
