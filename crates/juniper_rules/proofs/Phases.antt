-- What is found at a definition, rule by rule.
use Rattle.std.proofs.Common.{◌≡◌, Bool, List, [], ◌∷◌, ◌++◌, codes, sym, append-nil, append_assoc, ◌∙◌}
use Rattle.graphql_spec.specs.Documents.{Definition, Document}
use Rattle.graphql_spec.specs.Rules.{RuleError, cannot_merge, has_other_condition, has_other_variable, has_unknown_argument, has_unknown_directive}
use Rattle.graphql_spec.specs.Rules.{has_unknown_field, has_unknown_type, has_wrong_argument, has_wrong_default, has_wrong_set, is_not_alone, lacks_argument}
use Rattle.graphql_spec.specs.Rules.{looks_at_schema, misuses_variable, name_errors, repeats_argument, repeats_fragment, repeats_input_field, repeats_operation}
use Rattle.graphql_spec.specs.Rules.{repeats_variable, reported, spreads_itself, spreads_unknown, type_errors, use_errors, uses_undefined}
use Rattle.graphql_spec.specs.Schema.{Schema}

-- lists one behind the other, taken from the left and from the right
abbrev from-left : List RuleError → List (List RuleError) → List RuleError
from-left front [] = front
from-left front (x ∷ xs) = from-left (front ++ x) xs

abbrev from-right : List (List RuleError) → List RuleError
from-right [] = []
from-right (x ∷ xs) = x ++ from-right xs

same-list : (front : List RuleError) (xs : List (List RuleError)) → front ++ from-right xs ≡ from-left front xs
same-list front [] = append-nil front
same-list front (x ∷ xs) = sym (append_assoc front x (from-right xs)) ∙ same-list (front ++ x) xs

-- the rules on names
pub names-found : (s : Schema) (disabled : Bool) (d : Document) (earlier : List Definition) (x : Definition) (a b c e f g h i j k : Bool) →
    a ≡ repeats_operation earlier x → b ≡ is_not_alone d x → c ≡ repeats_fragment earlier x → e ≡ spreads_unknown d x → f ≡ spreads_itself d x →
    g ≡ repeats_variable x → h ≡ repeats_argument x → i ≡ repeats_input_field x → j ≡ has_unknown_directive x → k ≡ has_unknown_type s x →
    reported a (codes "Operation name is not unique") x
    ++ (reported b (codes "Anonymous operation is not alone") x
    ++ (reported c (codes "Fragment name is not unique") x
    ++ (reported e (codes "Unknown fragment") x
    ++ (reported f (codes "Fragment spreads itself") x
    ++ (reported g (codes "Variable name is not unique") x
    ++ (reported h (codes "Argument name is not unique") x
    ++ (reported i (codes "Input field name is not unique") x
    ++ (reported j (codes "Unknown directive") x
    ++ (reported k (codes "Unknown type") x ++ [])))))))))
    ≡ name_errors s disabled d earlier x
unfolding name_errors
names-found s disabled d earlier x a b c e f g h i j k p1 p2 p3 p4 p5 p6 p7 p8 p9 p10 = rw (p1, p2, p3, p4, p5, p6, p7, p8, p9, p10)
    (same-list (reported (repeats_operation earlier x) (codes "Operation name is not unique") x) (
    reported (is_not_alone d x) (codes "Anonymous operation is not alone") x
    ∷ reported (repeats_fragment earlier x) (codes "Fragment name is not unique") x
    ∷ reported (spreads_unknown d x) (codes "Unknown fragment") x
    ∷ reported (spreads_itself d x) (codes "Fragment spreads itself") x
    ∷ reported (repeats_variable x) (codes "Variable name is not unique") x
    ∷ reported (repeats_argument x) (codes "Argument name is not unique") x
    ∷ reported (repeats_input_field x) (codes "Input field name is not unique") x
    ∷ reported (has_unknown_directive x) (codes "Unknown directive") x
    ∷ reported (has_unknown_type s x) (codes "Unknown type") x ∷ []))

-- the rules on types
pub types-found : (s : Schema) (disabled : Bool) (d : Document) (earlier : List Definition) (x : Definition) (a b c e f g h i : Bool) →
    a ≡ has_other_condition s x → b ≡ has_other_variable s x → c ≡ has_unknown_field s x → e ≡ has_wrong_set s x →
    f ≡ has_unknown_argument s x → g ≡ lacks_argument s x → h ≡ has_wrong_argument s x → i ≡ has_wrong_default s x →
    reported a (codes "Fragment on a type without fields") x
    ++ (reported b (codes "Variable is not of an input type") x
    ++ (reported c (codes "Unknown field") x
    ++ (reported e (codes "Selection set does not fit the field") x
    ++ (reported f (codes "Unknown argument") x
    ++ (reported g (codes "Argument is missing") x
    ++ (reported h (codes "Argument does not fit its type") x
    ++ (reported i (codes "Default value does not fit its type") x ++ [])))))))
    ≡ type_errors s disabled d earlier x
unfolding type_errors
types-found s disabled d earlier x a b c e f g h i p1 p2 p3 p4 p5 p6 p7 p8 = rw (p1, p2, p3, p4, p5, p6, p7, p8)
    (same-list (reported (has_other_condition s x) (codes "Fragment on a type without fields") x) (
    reported (has_other_variable s x) (codes "Variable is not of an input type") x
    ∷ reported (has_unknown_field s x) (codes "Unknown field") x
    ∷ reported (has_wrong_set s x) (codes "Selection set does not fit the field") x
    ∷ reported (has_unknown_argument s x) (codes "Unknown argument") x
    ∷ reported (lacks_argument s x) (codes "Argument is missing") x
    ∷ reported (has_wrong_argument s x) (codes "Argument does not fit its type") x
    ∷ reported (has_wrong_default s x) (codes "Default value does not fit its type") x ∷ []))

-- the rules on variables, merging and introspection
pub uses-found : (s : Schema) (disabled : Bool) (d : Document) (earlier : List Definition) (x : Definition) (a b c e : Bool) →
    a ≡ uses_undefined s d x → b ≡ misuses_variable s d x → c ≡ cannot_merge s d x → e ≡ looks_at_schema s disabled x →
    reported a (codes "Variable is not defined") x
    ++ (reported b (codes "Variable may not stand here") x
    ++ (reported c (codes "Fields cannot be merged") x
    ++ (reported e (codes "Introspection is disabled") x ++ [])))
    ≡ use_errors s disabled d earlier x
unfolding use_errors
uses-found s disabled d earlier x a b c e p1 p2 p3 p4 = rw (p1, p2, p3, p4)
    (same-list (reported (uses_undefined s d x) (codes "Variable is not defined") x) (
    reported (misuses_variable s d x) (codes "Variable may not stand here") x
    ∷ reported (cannot_merge s d x) (codes "Fields cannot be merged") x
    ∷ reported (looks_at_schema s disabled x) (codes "Introspection is disabled") x ∷ []))
