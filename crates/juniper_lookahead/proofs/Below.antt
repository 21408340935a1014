-- What is below a field, where it has selections and where it has none; and of children those that pass a test.
use Rattle.std.proofs.Common.{◌≡◌, Bool, true, false, cond, List, [], ◌∷◌, ◌++◌, map, filter, length, Option, Some, None, Vec, Global, refl, ap, sym, ◌∙◌}
use Rattle.std.proofs.lemmas.List.{length-map}
use Rattle.graphql_spec.specs.Shown.{Shown, Name}
use Rattle.graphql_spec.specs.Documents.{Selections}
use Rattle.graphql_spec.specs.Selections.{Child}
use Rattle.juniper_syntax.specs.DocumentView.{view_selections, view_set}
use Rattle.juniper_syntax.specs.declared.position.Spanning.{Spanning}
use Rattle.juniper_syntax.specs.declared.position.Span.{Span}
use Rattle.juniper_syntax.specs.declared.ast.Field.{Field, out-Field}
use Rattle.juniper_syntax.specs.declared.ast.Selection.{Selection}
use Rattle.juniper_lookahead.specs.Choices.{Choice, expanded_by, found}
use Rattle.juniper_lookahead.specs.Expansion.{FragmentsByName, VariableMap, child_at, expanded, fragments_among, named_fragment, unplaced, unplaced_head}
use Rattle.juniper_lookahead.specs.ChildrenView.{children_of}
use Rattle.juniper_lookahead.specs.Choosing.{any_type}
use Rattle.juniper_lookahead.specs.Parts.{child_of}
use Rattle.juniper_lookahead.proofs.Chosen.{chosen-children}
use Rattle.juniper_lookahead.proofs.Gathering.{none-left}

pub count-among : {S : Type 0} (shown : S → Shown) (m : FragmentsByName S) → length m.entries ≡ length (fragments_among shown m)
unfolding fragments_among
count-among shown m = sym (length-map m.entries (named_fragment shown))

pub child-unplaced : {S : Type 0} (shown : S → Shown) (vars : VariableMap S) (m : FragmentsByName S) (h : Choice) → any_type shown vars m ≡ h →
    (f : Spanning (Field S) Span) (on : Option Name) → child_at shown vars m f.item on ≡ unplaced (child_of shown h f on)
unfolding child_at child_of unplaced unplaced_head expanded expanded_by
child-unplaced shown vars m h is f on = ap (λ (k : Choice). unplaced (child_of shown k f on)) is

module _ {S : Type 0} (shown : S → Shown) (vars : VariableMap S) (m : FragmentsByName S) (f : Field S) (on : Option Name) where
  abbrev set : Option (Vec (Selection S) Global)
  set = (out-Field S f).selection_set

  abbrev ahead : Selections → List Child
  ahead s = map unplaced (found (any_type shown vars m) None s)

  all-below : ahead (view_set shown set) ≡ children_of (child_at shown vars m f on)
  unfolding children_of child_at found expanded expanded_by
  all-below = ap (map unplaced) (chosen-children None (expanded shown vars m (view_set shown set)))

  pub some-below : (v : Vec (Selection S) Global) (lent : List (Selection S)) (old new : List Child) → set ≡ Some v → lent ≡ v.items → old ≡ [] →
      new ≡ old ++ ahead (view_selections shown lent) → new ≡ children_of (child_at shown vars m f on)
  some-below v lent old new has is empty adds =
      adds ∙ (ap (λ l. l ++ ahead (view_selections shown lent)) empty ∙ (ap (λ l. ahead (view_selections shown l)) is
      ∙ (sym (ap (λ o. ahead (view_set shown o)) has) ∙ all-below)))

  pub none-below : (new : List Child) → set ≡ None → new ≡ [] → new ≡ children_of (child_at shown vars m f on)
  none-below new has empty = empty ∙ (sym (none-left shown (any_type shown vars m) None [] Child unplaced)
      ∙ (sym (ap (λ o. ahead (view_set shown o)) has) ∙ all-below))

-- a test of what is seen
module _ {A B : Type 0} (view : A → B) (test : B → Bool) where
  first-seen : (b : Bool) (x : A) (ys : List A) → map view (cond b (x ∷ ys) ys) ≡ cond b (view x ∷ map view ys) (map view ys)
  first-seen true x ys = refl
  first-seen false x ys = refl

  pub seen-filter : (xs : List A) → map view (filter (λ x. test (view x)) xs) ≡ filter test (map view xs)
  seen-filter [] = refl
  seen-filter (x ∷ xs) = first-seen (test (view x)) x (filter (λ y. test (view y)) xs) ∙ ap (λ l. cond (test (view x)) (view x ∷ l) l) (seen-filter xs)
