-- What was walked of a field is added to its object.
use Rattle.std.proofs.Common.{◌≡◌, Bool, true, false, ◌&&◌, List, ◌++◌, map, append_assoc, refl, sym, ap, ◌∙◌, subst}
use Rattle.std.proofs.lemmas.List.{map-append}
use Rattle.graphql_spec.specs.Shown.{Shown, Name}
use Rattle.graphql_spec.specs.Values.{Value, Entries, is_null}
use Rattle.graphql_spec.specs.Errors.{Listed}
use Rattle.graphql_spec.specs.Selections.{Occurrence, occurrences}
use Rattle.graphql_spec.specs.Skeletons.{Skeleton, fill}
use Rattle.graphql_spec.specs.Walks.{joined_in}
use Rattle.juniper_syntax.specs.declared.position.Spanning.{Spanning}
use Rattle.juniper_syntax.specs.declared.position.Span.{Span}
use Rattle.juniper_syntax.specs.DocumentView.{view_selections, view_set}
use Rattle.juniper_syntax.specs.declared.ast.Field.{Field as FieldType, out-Field}
use Rattle.juniper_syntax.specs.declared.ast.Selection.{Selection}
use Rattle.juniper_assemble.specs.Keyed.{IsSettled, is_keyed}
use Rattle.juniper_assemble.specs.SkeletonView.{IsFilledFrom}
use Rattle.juniper_lookahead.specs.Collected.{expansion, view_collected}
use Rattle.juniper_lookahead.specs.declared.collecting.Collector.{Collector}
use Rattle.juniper_twin.specs.Walking.{IsAdded, all_keyed}
use Rattle.juniper_twin.proofs.FilledKeys.{fill-keyed}

pub appended : {A : Type 0} (view : A → Listed) (errors one all xs ys : List A) → one ≡ errors ++ xs → all ≡ one ++ ys →
    map view all ≡ map view errors ++ (map view xs ++ map view ys)
appended view errors one all xs ys a b =
    ap (map view) (b ∙ ap (λ l. l ++ ys) a) ∙ (map-append view (errors ++ xs) ys
    ∙ (ap (λ l. l ++ map view ys) (map-append view errors xs) ∙ append_assoc (map view errors) (map view xs) (map view ys)))

pub value-keyed : (s : Skeleton) (vs ws left : List Value) (v : Value) → all_keyed vs ≡ true → ws ≡ vs → IsFilledFrom (fill s ws) v left → is_keyed v ≡ true
value-keyed s vs ws left v k e f = ap is_keyed (f.value ∙ ap (λ l. (fill s l).value) e) ∙ (fill-keyed s vs k).0

module _ (k : Name) (r : Bool) (s : Skeleton) (vs ws left : List Value) (v : Value) (more : List Listed) (es : Entries) (errors all : List Listed)
    (same : ws ≡ vs) (filled : IsFilledFrom (fill s ws) v left) (listed : all ≡ errors ++ more) where
  value-is : v ≡ (fill s vs).value
  value-is = filled.value ∙ ap (λ l. (fill s l).value) same

  pub added-rising : (rises : Bool) → rises ≡ (is_null v && r) → rises ≡ true → IsAdded k r s vs more true es es errors all
  added-rising rises a b = record {
    errors_are = listed;
    rising = sym b ∙ (a ∙ ap (λ x. is_null x && r) value-is);
    put_in = λ e. cc;
    keyed = λ e. cc;
  }

  pub added-kept : (rises : Bool) (made : Entries) → rises ≡ (is_null v && r) → rises ≡ false → IsSettled k v es made →
      IsAdded k r s vs more false es made errors all
  added-kept rises made a b settled = record {
    errors_are = listed;
    rising = sym b ∙ (a ∙ ap (λ x. is_null x && r) value-is);
    put_in = λ e. settled.is ∙ ap (λ x. joined_in k x es) value-is;
    keyed = λ e. settled.keyed;
  }

-- ## Fields below a field

module _ {S P : Type 0} (shown : S → Shown) (c : Collector S P) (f : Spanning (FieldType S) Span) where
  below-is : (view_collected shown c f).below ≡ expansion shown c (view_set shown (out-Field S f.item).selection_set)
  unfolding view_collected
  below-is = refl

  -- what is collected of the selections of a field
  pub collected-below : (os : List Occurrence) (possible may : Name → Name → Bool) (T : Name) (ss : List (Selection S)) → possible ≡ may →
      view_selections shown ss ≡ view_set shown (out-Field S f.item).selection_set →
      os ≡ occurrences possible T (expansion shown c (view_selections shown ss)) → os ≡ occurrences may T (view_collected shown c f).below
  collected-below os possible may T ss same is e = e ∙ (ap (λ p. occurrences p T (expansion shown c (view_selections shown ss))) same
      ∙ (ap (λ l. occurrences may T (expansion shown c l)) is ∙ ap (occurrences may T) (sym below-is)))

pub settled-at : (k j : Name) (v : Value) (es made : Entries) → k ≡ j → IsSettled k v es made → IsSettled j v es made
settled-at k j v es made e s = subst (λ i. IsSettled i v es made) e s
