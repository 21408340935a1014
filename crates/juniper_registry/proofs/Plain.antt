-- What is made of parts that are known to be equal to others.
use Rattle.std.proofs.Common.{◌≡◌, List, [], None, Option, ℕ, true, String, Global, string_bytes, rules}
use Rattle.graphql_spec.specs.Shown.{Name}
use Rattle.graphql_spec.specs.Types.{TypeRef, named}
use Rattle.graphql_spec.specs.Schema.{FieldDeclaration, InputDeclaration, current, list_type, nullable_type, plain_field, plain_input}
use Rattle.juniper_meta.specs.MetaView.{Meta, unnamed_meta, view_type}
use Rattle.juniper_syntax.specs.declared.types.«Type».{NonNullNamed, the_lemmas}

pub same_field : (f : FieldDeclaration) (b n : Name) (t u : TypeRef) → f ≡ plain_field b [] t → b ≡ n → t ≡ u → f ≡ plain_field n [] u
same_field f b n t u e p q = cc

-- a field that is made of its parts
pub made_field : (b n : Name) (as' bs : List InputDeclaration) (t u : TypeRef) → b ≡ n → as' ≡ bs → t ≡ u →
    record { name = b; description = None; arguments = as'; of_type = t; deprecation = current } ≡ plain_field n bs u
unfolding plain_field
made_field b n as' bs t u e p q = cc

pub same_input : (a : InputDeclaration) (b n : Name) (t u : TypeRef) → a ≡ plain_input b t → b ≡ n → t ≡ u → a ≡ plain_input n u
same_input a b n t u e p q = cc

pub same_list : (m : Meta) (size : Option ℕ) (t u : TypeRef) → m ≡ unnamed_meta (list_type size t) → t ≡ u → m ≡ unnamed_meta (list_type size u)
same_list m size t u e q = rw (← q) e

pub same_nullable : (m : Meta) (t u : TypeRef) → m ≡ unnamed_meta (nullable_type t) → t ≡ u → m ≡ unnamed_meta (nullable_type u)
same_nullable m t u e q = rw (← q) e

pub seen_named : (n : String Global) → view_type (NonNullNamed n) ≡ named true (string_bytes n)
seen_named n = search (rules, the_lemmas)
