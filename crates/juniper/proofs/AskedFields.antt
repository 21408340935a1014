-- A field that an executor is for may be asked of a resolver (6.4.2).
use Rattle.std.proofs.Common.{◌≡◌, ◌∙◌, sym, ap, subst, refl}
use Rattle.std.proofs.lemmas.Option.{same_Some}
use Rattle.std.specs.declared.cmp.PartialEq.{Ghosts as Equality}
use Rattle.std.specs.declared.fmt.Debug.{Ghosts as Shows}
use Rattle.graphql_spec.specs.Schema.{FieldDeclaration}
use Rattle.graphql_spec.specs.Shown.{Shown}
use Rattle.graphql_spec.specs.Types.{innermost}
use Rattle.juniper_meta.specs.MetaView.{Meta}
use Rattle.juniper_schema.specs.MadeTypes.{around, view_made}
use Rattle.juniper_schema.specs.SchemaView.{meta_named, view_schema}
use Rattle.juniper_syntax.specs.declared.scalar.ScalarValue.{Ghosts as Scalars}
use Rattle.juniper_types.specs.ExecutorView.{IsAskedFor, IsDeclaredType, concrete_of, schema_of, type_of}
use Rattle.juniper_types.specs.declared.executor.Executor.{Executor}
use Rattle.juniper.specs.AskedFields.{IsOfField, asked_arguments, asked_name}

module _ {C S : Type 0} {scalar : Scalars S} {equality : Equality S} {shows : Shows S} (shown : S → Shown) (e : Executor C S scalar equality shows) where
  -- a field has one declaration, and a name one meaning
  one-type : (f : FieldDeclaration) (m : Meta) → IsOfField shown e f m →
      IsDeclaredType shown (view_schema shown (schema_of e)) (concrete_of e) (asked_name shown e) (type_of e)
  one-type f m is other meant declared known =
      let s = view_schema shown (schema_of e) in
      let same : f ≡ other = same_Some f other (sym is.declared ∙ declared) in
      let one : m ≡ meant = same_Some m meant (sym is.known ∙ ap (λ (d : FieldDeclaration). meta_named s (innermost d.of_type)) same ∙ known) in
      subst (λ d. view_made shown (type_of e) ≡ around meant d.of_type) same
      (subst (λ n. view_made shown (type_of e) ≡ around n f.of_type) one is.shows_type)

  pub asked-for : (f : FieldDeclaration) (m : Meta) → IsOfField shown e f m → IsAskedFor shown e (asked_name shown e) (asked_arguments shown e)
  asked-for f m is =
      record {
        is_named = refl;
        is_given = refl;
        first = is.first;
        whole = is.whole;
        shows_type = one-type f m is;
        is_placed = is.placed;
        executable = is.executable;
      }
