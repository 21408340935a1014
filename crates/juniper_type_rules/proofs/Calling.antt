-- The calls of fields and directives, one after the other.
use Rattle.std.proofs.Common.{◌≡◌, List, [], ◌∷◌, ◌++◌, Option, Some, None, refl, sym, ap, ap₂, ◌∙◌}
use Rattle.std.proofs.lemmas.List.{append-nil}
use Rattle.std.specs.List.{flat_map}
use Rattle.graphql_spec.specs.Documents.{Directive}
use Rattle.graphql_spec.specs.Schema.{Schema}
use Rattle.graphql_spec.specs.Placed.{Placed, Call, field_calls, directive_calls, directive_named}
use Rattle.juniper_type_rules.specs.Placing.{Parts, calls_of, call_of_field, call_of_directive, field_call, directive_call, list_of}

maybe-first : {A B : Type 0} (f : A → B) (xs : List B) (o : Option A) → elim o [ None ↦ xs | Some d ↦ f d ∷ xs ] ≡ list_of f o ++ xs
unfolding list_of
maybe-first f xs None = refl
maybe-first f xs (Some d) = refl

fields-flat : (s : Schema) (xs : List Placed) → field_calls s xs ≡ flat_map call_of_field xs
unfolding field_calls call_of_field
fields-flat s [] = refl
fields-flat s (x ∷ xs) = maybe-first (field_call x.head) (field_calls s xs) x.declared ∙ ap (λ l. call_of_field x ++ l) (fields-flat s xs)

directives-flat : (xs : List Directive) → directive_calls xs ≡ flat_map call_of_directive xs
unfolding directive_calls call_of_directive
directives-flat [] = refl
directives-flat (x ∷ xs) =
    maybe-first (directive_call x) (directive_calls xs) (directive_named x.name.item) ∙ ap (λ l. call_of_directive x ++ l) (directives-flat xs)

-- those of the fields, then those of the directives
pub all-calls : (s : Schema) (p : Parts) (none first all : List Call) → none ≡ [] → first ≡ none ++ flat_map call_of_field p.fields →
    all ≡ first ++ flat_map call_of_directive p.directives → all ≡ calls_of s p
unfolding calls_of
all-calls s p none first all is one two =
    two ∙ ap₂ (λ a b. a ++ b) (one ∙ (ap (λ l. l ++ flat_map call_of_field p.fields) is ∙ sym (fields-flat s p.fields))) (sym (directives-flat p.directives))

-- one more, where there is something
pub adds-some : {A B : Type 0} (f : A → B) (o : Option A) (x : A) (old new : List B) → o ≡ Some x → new ≡ old ++ f x ∷ [] → new ≡ old ++ list_of f o
unfolding list_of
adds-some f o x old new is e = e ∙ ap (λ y. old ++ list_of f y) (sym is)

pub adds-none : {A B : Type 0} (f : A → B) (o : Option A) (old : List B) → o ≡ None → old ≡ old ++ list_of f o
unfolding list_of
adds-none f o old is = sym (append-nil old) ∙ ap (λ y. old ++ list_of f y) (sym is)
