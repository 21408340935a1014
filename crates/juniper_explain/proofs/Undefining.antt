-- Variables that are not defined, with their places.
use Rattle.std.proofs.Common.{◌≡◌, Bool, true, false, not, ◌&&◌, ◌||◌, cond, List, [], ◌∷◌, Option, Some, refl, ap, ◌∙◌}
use Rattle.std.specs.List.{flat_map, list_all, list_any}
use Rattle.std.specs.Option.{is_none, is_some}
use Rattle.std.specs.Str.{bytes_eq}
use Rattle.graphql_spec.specs.Shown.{Name}
use Rattle.graphql_spec.specs.Documents.{Definition, operation, fragment, Document, Operation, VariableDefinition, Word, variables_of}
use Rattle.graphql_spec.specs.Rules as rules
use Rattle.graphql_spec.specs.Schema.{Schema}
use Rattle.graphql_spec.specs.VariableUses.{all_defined, definition_of, names_used, parts}
use Rattle.juniper_written.proofs.Deciding.{any-seen}
use Rattle.juniper_type_rules.specs.Variables.{words_used}
use Rattle.juniper_type_rules.proofs.WordsIn.{names-flat, used-names}
use Rattle.juniper_explain.specs.declared.rule.Rule.TheVariants as rule
use Rattle.juniper_explain.specs.Explanations.{has_any, named}
use Rattle.juniper_explain.specs.Nodes.{undefined_name, undefined_variables}
use Rattle.juniper_explain.proofs.Found.{AreOf, has-found, of-each, of-found}
use Rattle.juniper_explain.proofs.Joined.{has-each}

-- ## Definitions of variables

either-none : (b c : Bool) (v : VariableDefinition) (o : Option VariableDefinition) → is_none o ≡ not c → is_none (cond b (Some v) o) ≡ not (b || c)
either-none true c v o is = refl
either-none false c v o is = is

-- none of a name is defined
pub none-defined : (vs : List VariableDefinition) (n : Name) → is_none (definition_of vs n) ≡ not (list_any (λ v. bytes_eq n v.name.item) vs)
unfolding definition_of
none-defined [] n = refl
none-defined (v ∷ vs) n = either-none (bytes_eq n v.name.item) (list_any (λ w. bytes_eq n w.name.item) vs) v (definition_of vs n) (none-defined vs n)

-- ## Whether there is any

not-both : (a b : Bool) → (not a || not b) ≡ not (a && b)
not-both true b = refl
not-both false b = refl

pub some-not : {A : Type 0} (p : A → Bool) (xs : List A) → list_any (λ x. not (p x)) xs ≡ not (list_all p xs)
some-not p [] = refl
some-not p (x ∷ xs) = ap (λ b. not (p x) || b) (some-not p xs) ∙ not-both (p x) (list_all p xs)

name-has : (o : Operation) (w : Word) → has_any (undefined_name o w) ≡ is_none (definition_of (variables_of o) w.item)
unfolding undefined_name named
name-has o w = has-found _ _ _ _

operation-has : (d : Document) (o : Operation) → has_any (undefined_variables d (operation o)) ≡ not (all_defined d o)
unfolding undefined_variables all_defined
operation-has d o =
    let test : Name → Bool = λ n. is_none (definition_of (variables_of o) n) in
    let ws = flat_map words_used (parts d o) in
    has-each (undefined_name o) (λ (w : Word). test w.item) (name-has o) ws
    ∙ (any-seen (λ (w : Word). w.item) test ws ∙ (ap (list_any test) (names-flat words_used names_used used-names (parts d o))
    ∙ some-not (λ n. is_some (definition_of (variables_of o) n)) (flat_map names_used (parts d o))))

pub second : (a b : Bool) → (a && b) ≡ true → b ≡ true
second true b is = is
second false b is = cc is

-- where the rule is violated
pub undefined-has : (s : Schema) (d : Document) (x : Definition) → rules.uses_undefined s d x ≡ true → has_any (undefined_variables d x) ≡ true
unfolding rules.uses_undefined
undefined-has s d (operation o) is = operation-has d o ∙ second (rules.has_root s o) (not (all_defined d o)) is
undefined-has s d (fragment f) is = cc is

-- all of them are of the rule
name-of : (o : Operation) (w : Word) → AreOf rule.NoUndefinedVariables (undefined_name o w)
unfolding undefined_name named
name-of o w = of-found _ _ _ _

pub undefined-of : (d : Document) (x : Definition) → AreOf rule.NoUndefinedVariables (undefined_variables d x)
unfolding undefined_variables
undefined-of d (operation o) = of-each _ (undefined_name o) (name-of o) (flat_map words_used (parts d o))
undefined-of d (fragment f) = tt
