-- The entry of a name, as it is found.
use Rattle.std.proofs.Common.{◌≡◌, false, List, [], ◌∷◌, ◌++◌, Option, Some, None, option_map, refl, sym, ap, ◌∙◌}
use Rattle.std.proofs.lemmas.Option.{none-some, same_Some}
use Rattle.graphql_spec.specs.Shown.{Name}
use Rattle.graphql_spec.specs.Schema.{Entry, Schema}
use Rattle.graphql_spec.specs.Fields.{entry_in}
use Rattle.graphql_spec.specs.Executable.{is_reserved}
use Rattle.juniper_meta.specs.MetaView.{Meta, entry_at}
use Rattle.juniper_schema.specs.SchemaView.{meta_named, meta_of}
use Rattle.juniper_schema.specs.Searching.{entries_at, entry_list}
use Rattle.juniper_schema.proofs.BuiltNames.{entry_key, free_entry}

found : (s : Schema) (n : Name) (o : Option Meta) → is_reserved n ≡ false → o ≡ meta_named s n → o ≡ option_map meta_of (entry_in s.entries n)
found s n o free is = is ∙ ap (option_map meta_of) (free_entry s n free)

none_listed : (o : Option Entry) → None ≡ option_map meta_of o → entry_list o ≡ []
unfolding entry_list
none_listed None is = refl
none_listed (Some e) is = absurd (none-some (meta_of e) is)

one_listed : (n : Name) (m : Meta) (o : Option Entry) → ((e : Entry) → o ≡ Some e → e.key ≡ n) → Some m ≡ option_map meta_of o → entry_list o
    ≡ entry_at n m ∷ []
unfolding entry_list
one_listed n m None key is = absurd (none-some m (sym is))
one_listed n m (Some e) key is = let same = same_Some m (meta_of e) is in rw (same, ← key e refl) refl

-- nothing is found
pub none_at : (s : Schema) (n : Name) → is_reserved n ≡ false → None ≡ meta_named s n → entries_at s n ≡ []
none_at s n free is = rw free (none_listed (entry_in s.entries n) (found s n None free is))

-- a declaration is found
pub one_at : (s : Schema) (n : Name) (m : Meta) → is_reserved n ≡ false → Some m ≡ meta_named s n → entries_at s n ≡ entry_at n m ∷ []
one_at s n m free is = rw free (one_listed n m (entry_in s.entries n) (entry_key s.entries n) (found s n (Some m) free is))

nil_behind : {X : Type 0} (xs : List X) → xs ≡ xs ++ []
nil_behind [] = refl
nil_behind (x ∷ xs) = ap (λ r. x ∷ r) (nil_behind xs)

-- nothing is put in
pub none_pushed : {X : Type 0} (xs l : List X) → l ≡ [] → xs ≡ xs ++ l
none_pushed xs l is = nil_behind xs ∙ ap (λ r. xs ++ r) (sym is)
