-- The text of a schema without fault is of the grammar.
use Rattle.std.proofs.Common.{◌≡◌, ℕ, Bool, true, false, ◌&&◌, List, [], ◌∷◌, ◌++◌, map, Option, Some, None, cond, codes, refl, ap, sym, ◌∙◌, inl, inr}
use Rattle.std.proofs.Common.{subst}
use Rattle.std.proofs.lemmas.Bool.{and_parts, cases_Bool}
use Rattle.std.proofs.lemmas.Option.{none-some}
use Rattle.std.specs.List.{flat_map}
use Rattle.std.specs.Option.{option_or}
use Rattle.graphql_spec.specs.Schema.{Entry, Schema, Shape}
use Rattle.graphql_spec.specs.Shown.{Name}
use Rattle.graphql_spec.specs.Tokens.{continues_name, is_blank, is_mark, is_name, mark_text, starts_name}
use Rattle.graphql_spec.specs.TypeList.{type_list}
use Rattle.juniper_schema.specs.MadeTypes.{concrete}
use Rattle.juniper_schema.specs.SchemaView.{meta_of}
use Rattle.juniper_sdl.specs.Definitions.{is_left_out, meta_text, mutation_text, root_text, schema_text}
use Rattle.juniper_sdl.specs.Faults.{Fault, first_fault, has_parts, mutation_fault, name_fault, named_fault, names_are_written, sdl_fault}
use Rattle.juniper_sdl.specs.Faults.{type_fault}
use Rattle.juniper_sdl.specs.Grammar.{Each, IsListedType, IsRoot, IsSchemaDefinition, Mark, Opt, Part, SpellsSchema, own_name, written_types}
use Rattle.juniper_sdl.specs.Grammar.{◌then◌}
use Rattle.juniper_sdl.proofs.Reading.{Follows, Reads, always, as_part, before, both, follow_each, follows, follows_nothing, mark, nothing, then_blanks}
use Rattle.juniper_sdl.proofs.Reading.{whole, word}
use Rattle.juniper_sdl.proofs.Spelled.{behind_colon, behind_nothing, below, colon_stops, in_line, line_stops, space_stops, spaced, type_definition}

-- ## What has no fault

no_fault : (a b : Option Fault) → option_or a b ≡ None → (a ≡ None) × (b ≡ None)
no_fault None b e = (refl, e)
no_fault (Some x) b e = absurd (none-some x (sym e))

passes : (test : Bool) (f : Fault) → cond test None (Some f) ≡ None → test ≡ true
passes true f e = refl
passes false f e = absurd (none-some f (sym e))

both_pass : (p q : Bool) (f g : Fault) → cond p (cond q None (Some f)) (Some g) ≡ None → (p ≡ true) × (q ≡ true)
both_pass true q f g e = (refl, passes q f e)
both_pass false q f g e = absurd (none-some g (sym e))

name_is : (n : Name) → name_fault n ≡ None → is_name n ≡ true
unfolding name_fault
name_is n e = passes (is_name n) _ e

type_is : (n : Name) (x : Shape) → type_fault n x ≡ None → (has_parts x ≡ true) × (is_name n ≡ true) × (names_are_written x ≡ true)
unfolding type_fault
type_is n x e =
    let parts = both_pass (has_parts x) (is_name n && names_are_written x) _ _ e in
    let names = and_parts (is_name n) (names_are_written x) parts.1 in
    (parts.0, names.0, names.1)

kept : (n : Name) (x : Shape) → is_left_out n ≡ false → named_fault n x ≡ None → type_fault n x ≡ None
unfolding named_fault
kept n x e none = sym (ap (λ b. cond b None (type_fault n x)) e) ∙ none

-- ## Root types

root : (operation : List ℕ) → is_name operation ≡ true → (n : Name) → is_name n ≡ true → Reads (IsRoot operation n) (operation ++ 58 ∷ 32 ∷ n)
root operation is n named = both (word operation is) (behind_colon (word n named)) (follows 58 colon_stops)

closing : Reads (Mark 125) (codes "}\n")
unfolding is_mark mark_text
closing = in_line (always (mark 125 refl refl))

mutation : (m : Option Name) → mutation_fault m ≡ None → Reads (Opt (IsRoot (codes "mutation")) m then Mark 125) (mutation_text m ++ codes "}\n")
unfolding mutation_fault is_blank is_name starts_name continues_name
mutation None e = behind_nothing closing
mutation (Some n) e = before (then_blanks 10 [] refl line_stops (spaced (spaced (root (codes "mutation") refl n (name_is n e))))) closing

-- the query type's name, in front of what is behind it
query : (n : Name) → is_name n ≡ true → {P : Part} {bytes : List ℕ} → Reads P bytes →
    Reads (IsRoot (codes "query") n then P) (codes "query: " ++ (n ++ 10 ∷ bytes))
unfolding is_name starts_name continues_name
query n named reads =
    as_part (λ s t p. (p.2.2.0, (p.0, p.1, (p.2.0, p.2.1, p.2.2.1)), p.2.2.2))
    (both (word (codes "query") refl) (behind_colon (both (word n named) (below reads) (follows 10 line_stops))) (follows 58 colon_stops))

roots : (s : Schema) → name_fault s.query ≡ None → mutation_fault s.mutation ≡ None → Reads (IsSchemaDefinition s.query s.mutation) (root_text s)
unfolding is_mark mark_text is_name starts_name continues_name
roots s q m =
    let named = query s.query (name_is s.query q) (mutation s.mutation m) in
    both (word (codes "schema") refl) (spaced (before (mark 123 refl refl) (below (spaced (spaced named))))) (follows 32 space_stops)

-- ## Types

follow_if : (b : Bool) (bytes : List ℕ) → Follows (cond b [] (10 ∷ bytes))
follow_if true bytes = follows_nothing
follow_if false bytes = follows 10 line_stops

follow_types : (es : List Entry) → Follows (flat_map (λ e. meta_text (meta_of e)) es)
follow_types es = follow_each (λ e. meta_text (meta_of e)) es (λ e. follow_if (is_left_out (own_name e)) _)

types : (es : List Entry) → first_fault (map (λ e. concrete (meta_of e)) es) ≡ None →
    Reads (Each IsListedType (written_types es)) (flat_map (λ e. meta_text (meta_of e)) es)
types [] none = always nothing
types (e ∷ es) none =
    let parts = no_fault (named_fault (own_name e) e.shape) (first_fault (map (λ x. concrete (meta_of x)) es)) none in
    elim (cases_Bool (is_left_out (own_name e))) [
      | inl out ↦ rw out (types es parts.1)
      | inr in_it ↦
          let is = type_is (own_name e) e.shape (kept (own_name e) e.shape in_it parts.0) in
          rw in_it (both (type_definition (own_name e) e.description e.shape is.1 is.0 is.2) (types es parts.1) (follow_types es))
    ]

pub schema_is_spelled : (s : Schema) → sdl_fault s ≡ None → SpellsSchema (schema_text s) s
unfolding sdl_fault
schema_is_spelled s none =
    let listed = no_fault (option_or (name_fault s.query) (mutation_fault s.mutation)) (first_fault (map (λ e. concrete (meta_of e)) (type_list s))) none in
    let names = no_fault (name_fault s.query) (mutation_fault s.mutation) listed.0 in
    whole (both (roots s names.0 names.1) (types (type_list s) listed.1) (follow_types (type_list s)))

-- the same of what is such a text
pub spelled_text : (s : Schema) (text : List ℕ) → text ≡ schema_text s → None ≡ sdl_fault s → SpellsSchema text s
spelled_text s text same none = subst (λ t. SpellsSchema t s) (sym same) (schema_is_spelled s (sym none))
