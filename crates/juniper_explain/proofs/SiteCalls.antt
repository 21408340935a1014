-- Fields and directives with their arguments are the calls whose arguments are tested.
use Rattle.std.proofs.Common.{◌≡◌, Bool, List, [], ◌∷◌, ◌++◌, Option, Some, None, map, refl, ap, ap₂, ◌∙◌}
use Rattle.std.specs.List.{flat_map, list_any}
use Rattle.std.proofs.lemmas.List.{map-append}
use Rattle.graphql_spec.specs.Documents.{Directive, Definition, written}
use Rattle.graphql_spec.specs.Schema.{Schema, FieldDeclaration, DirectiveDeclaration}
use Rattle.graphql_spec.specs.Placed.{Call, Placed, calls, directive_calls, directive_named, directives_placed, field_calls, placed_in}
use Rattle.juniper_explain.specs.Sites.{Site, directive_site, field_site, sites}
use Rattle.juniper_written.proofs.Deciding.{any-seen}

-- the arguments of a field or directive, with their declarations
abbrev pub call_of : Site → Call
call_of i = record { declared = i.declared; given = i.given }

field-call : (p : Placed) (o : Option FieldDeclaration) (cs : List Call) →
    map call_of (field_site p o) ++ cs ≡ elim o [ None ↦ cs | Some d ↦ record { declared = d.arguments; given = written p.head.arguments } ∷ cs ]
unfolding field_site
field-call p None cs = refl
field-call p (Some d) cs = refl

fields-are : (s : Schema) (ps : List Placed) → map call_of (flat_map (λ p. field_site p p.declared) ps) ≡ field_calls s ps
unfolding field_calls
fields-are s [] = refl
fields-are s (p ∷ ps) =
    map-append call_of (field_site p p.declared) (flat_map (λ q. field_site q q.declared) ps)
    ∙ (ap (λ l. map call_of (field_site p p.declared) ++ l) (fields-are s ps) ∙ field-call p p.declared (field_calls s ps))

directive-call : (x : Directive) (o : Option DirectiveDeclaration) (cs : List Call) →
    map call_of (directive_site x o) ++ cs ≡ elim o [ None ↦ cs | Some d ↦ record { declared = d.arguments; given = written x.arguments } ∷ cs ]
unfolding directive_site
directive-call x None cs = refl
directive-call x (Some d) cs = refl

directives-are : (xs : List Directive) → map call_of (flat_map (λ y. directive_site y (directive_named y.name.item)) xs) ≡ directive_calls xs
unfolding directive_calls
directives-are [] = refl
directives-are (x ∷ xs) =
    map-append call_of (directive_site x (directive_named x.name.item)) (flat_map (λ y. directive_site y (directive_named y.name.item)) xs)
    ∙ (ap (λ l. map call_of (directive_site x (directive_named x.name.item)) ++ l) (directives-are xs)
    ∙ directive-call x (directive_named x.name.item) (directive_calls xs))

pub calls-are : (s : Schema) (x : Definition) → map call_of (sites s x) ≡ calls s x
unfolding sites calls
calls-are s x =
    map-append call_of (flat_map (λ p. field_site p p.declared) (placed_in s x))
    (flat_map (λ y. directive_site y (directive_named y.name.item)) (directives_placed s x))
    ∙ ap₂ (λ a b. a ++ b) (fields-are s (placed_in s x)) (directives-are (directives_placed s x))

-- one of the calls passes a test where one of these does
pub any-call : (s : Schema) (x : Definition) (test : Call → Bool) → list_any (λ i. test (call_of i)) (sites s x) ≡ list_any test (calls s x)
any-call s x test = any-seen call_of test (sites s x) ∙ ap (list_any test) (calls-are s x)
