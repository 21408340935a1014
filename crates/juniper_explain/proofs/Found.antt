-- What one rule finds: whether it finds anything, and of which rule that is.
use Rattle.std.proofs.Common.{◌≡◌, Bool, true, false, not, List, [], ◌∷◌, ◌++◌, refl, ap, ◌∙◌}
use Rattle.std.specs.List.{flat_map}
use Rattle.graphql_spec.specs.Shown.{Text}
use Rattle.graphql_spec.specs.Positions.{Position}
use Rattle.graphql_spec.specs.Documents.{Definition}
use Rattle.graphql_spec.specs.Rules.{reported}
use Rattle.juniper_explain.specs.Explanations.{Explanation, error_of, found, has_any, rule_text}
use Rattle.juniper_explain.specs.declared.rule.Rule.{Rule}

pub has-found : (b : Bool) (r : Rule) (p : Position) (t : Text) → has_any (found b r p t) ≡ b
unfolding has_any found
has-found true r p t = refl
has-found false r p t = refl

-- all are of the rule
abbrev pub AreOf : Rule → List Explanation → Type 0
AreOf r [] = Unit {0}
AreOf r (e ∷ es) = (e.rule ≡ r) × AreOf r es

pub of-found : (b : Bool) (r : Rule) (p : Position) (t : Text) → AreOf r (found b r p t)
unfolding found
of-found true r p t = (refl, tt)
of-found false r p t = tt

pub of-append : (r : Rule) (xs ys : List Explanation) → AreOf r xs → AreOf r ys → AreOf r (xs ++ ys)
of-append r [] ys a b = b
of-append r (x ∷ xs) ys a b = (a.0, of-append r xs ys a.1 b)

pub of-each : {A : Type 0} (r : Rule) (f : A → List Explanation) → ((x : A) → AreOf r (f x)) → (xs : List A) → AreOf r (flat_map f xs)
of-each r f are [] = tt
of-each r f are (x ∷ xs) = of-append r (f x) (flat_map f xs) (are x) (of-each r f are xs)

-- the error that is listed
pub error-is : (r : Rule) (x : Definition) (es : List Explanation) (b : Bool) → AreOf r es → has_any es ≡ b → error_of x es ≡ reported b (rule_text r) x
unfolding has_any error_of reported
error-is r x [] b are is = ap (λ c. reported c (rule_text r) x) is
error-is r x (e ∷ es) b are is =
    ap (λ q. error_of x (record e { rule = q } ∷ es)) are.0 ∙ ap (λ c. reported c (rule_text r) x) is

pub not-twice : (b : Bool) → not (not b) ≡ b
not-twice true = refl
not-twice false = refl
