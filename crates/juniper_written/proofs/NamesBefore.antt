-- One more definition behind the earlier ones.
use Rattle.std.proofs.Common.{◌≡◌, Bool, true, false, ◌||◌, cond, List, [], ◌∷◌, ◌++◌, Option, Some, None, refl, sym, ap, ◌∙◌}
use Rattle.std.specs.List.{list_any}
use Rattle.std.specs.Option.{is_some}
use Rattle.std.specs.Str.{bytes_eq}
use Rattle.std.proofs.lemmas.List.Folds.{list_any-append}
use Rattle.graphql_spec.specs.Shown.{Name}
use Rattle.graphql_spec.specs.Documents.{Definition, Operation, Fragment, operation, fragment, operations, fragments, word_name}
use Rattle.graphql_spec.specs.Fragments.{fragment_of}
use Rattle.graphql_spec.specs.Rules.{has_name, names_operation, repeats_operation}
use Rattle.graphql_spec.proofs.Lists.{same_sym}
use Rattle.juniper_written.proofs.Known.{some-first, or-false}

-- ## Lists

operations-append : (ds es : List Definition) → operations (ds ++ es) ≡ operations ds ++ operations es
unfolding operations
operations-append [] es = refl
operations-append (operation o ∷ ds) es = ap (λ l. o ∷ l) (operations-append ds es)
operations-append (fragment f ∷ ds) es = operations-append ds es

fragments-append : (ds es : List Definition) → fragments (ds ++ es) ≡ fragments ds ++ fragments es
unfolding fragments
fragments-append [] es = refl
fragments-append (operation o ∷ ds) es = fragments-append ds es
fragments-append (fragment f ∷ ds) es = ap (λ l. f ∷ l) (fragments-append ds es)

or-moves : (a b c : Bool) → (a || (b || c)) ≡ ((a || b) || c)
or-moves true b c = refl
or-moves false b c = refl

found-append : (fs gs : List Fragment) (n : Name) → is_some (fragment_of (fs ++ gs) n) ≡ (is_some (fragment_of fs n) || is_some (fragment_of gs n))
unfolding fragment_of
found-append [] gs n = refl
found-append (f ∷ fs) gs n =
    let b : Bool = bytes_eq n f.name.item in
    some-first b f (fragment_of (fs ++ gs) n) ∙ (ap (λ c. b || c) (found-append fs gs n) ∙ (or-moves b (is_some (fragment_of fs n)) (is_some (fragment_of gs n))
    ∙ ap (λ c. c || is_some (fragment_of gs n)) (sym (some-first b f (fragment_of fs n)))))

-- ## One more name

or-flips : (a b : Bool) → cond a true b ≡ (b || a)
or-flips true true = refl
or-flips true false = refl
or-flips false true = refl
or-flips false false = refl

-- the names with one more
pub with-name : (has now : Name → Bool) (k : Name) → ((n : Name) → now n ≡ cond (bytes_eq k n) true (has n)) → (n : Name) → now n ≡ (has n || bytes_eq n k)
with-name has now k more n = more n ∙ (or-flips (bytes_eq k n) (has n) ∙ ap (λ b. has n || b) (same_sym k n))

module _ (ds : List Definition) (n : Name) where
  pub names-more : (x : Definition) → names_operation (ds ++ x ∷ []) n ≡ (names_operation ds n || names_operation (x ∷ []) n)
  unfolding names_operation
  names-more x = ap (list_any (λ o. has_name n (word_name o.name))) (operations-append ds (x ∷ []))
      ∙ list_any-append (λ o. has_name n (word_name o.name)) (operations ds) (operations (x ∷ []))

  pub names-named : (o : Operation) (k : Name) → word_name o.name ≡ Some k → names_operation (ds ++ operation o ∷ []) n ≡ (names_operation ds n || bytes_eq n k)
  unfolding names_operation operations has_name
  names-named o k is = names-more (operation o) ∙ ap (λ b. names_operation ds n || b) (or-false (has_name n (word_name o.name)) ∙ ap (has_name n) is)

  pub names-nameless : (o : Operation) → word_name o.name ≡ None → names_operation (ds ++ operation o ∷ []) n ≡ names_operation ds n
  unfolding names_operation operations has_name
  names-nameless o is = names-more (operation o) ∙ (ap (λ b. names_operation ds n || b) (or-false (has_name n (word_name o.name)) ∙ ap (has_name n) is)
      ∙ or-false (names_operation ds n))

  pub names-fragment : (f : Fragment) → names_operation (ds ++ fragment f ∷ []) n ≡ names_operation ds n
  unfolding names_operation operations
  names-fragment f = names-more (fragment f) ∙ or-false (names_operation ds n)

  pub found-operation : (o : Operation) → is_some (fragment_of (fragments (ds ++ operation o ∷ [])) n) ≡ is_some (fragment_of (fragments ds) n)
  unfolding fragments fragment_of
  found-operation o = ap (λ fs. is_some (fragment_of fs n)) (fragments-append ds (operation o ∷ []))
      ∙ (found-append (fragments ds) [] n ∙ or-false (is_some (fragment_of (fragments ds) n)))

  pub found-fragment : (f : Fragment) → is_some (fragment_of (fragments (ds ++ fragment f ∷ [])) n)
      ≡ (is_some (fragment_of (fragments ds) n) || bytes_eq n f.name.item)
  unfolding fragments fragment_of
  found-fragment f =
      ap (λ fs. is_some (fragment_of fs n)) (fragments-append ds (fragment f ∷ [])) ∙ (found-append (fragments ds) (f ∷ []) n
      ∙ ap (λ b. is_some (fragment_of (fragments ds) n) || b) (some-first (bytes_eq n f.name.item) f None ∙ or-false (bytes_eq n f.name.item)))

-- ## What the rules find

pub repeats-named : (ds : List Definition) (o : Operation) (k : Name) → word_name o.name ≡ Some k → names_operation ds k ≡ repeats_operation ds (operation o)
unfolding repeats_operation
repeats-named ds o k is = ap (λ (w : Option Name). elim w as (λ x. Bool) [ None ↦ false | Some n ↦ names_operation ds n ]) (sym is)

pub repeats-nameless : (ds : List Definition) (o : Operation) → word_name o.name ≡ None → false ≡ repeats_operation ds (operation o)
unfolding repeats_operation
repeats-nameless ds o is = ap (λ (w : Option Name). elim w as (λ x. Bool) [ None ↦ false | Some n ↦ names_operation ds n ]) (sym is)
