-- How many fields are made, and how many may still be entered.
use Rattle.std.proofs.Common.{ℕ, zero, suc, ◌≡◌, ◌+◌, ◌≤◌, ◌<◌, List, [], ◌∷◌, ◌++◌, length, set, get_or, take, drop, Option, Some, None}
use Rattle.std.proofs.Common.{true, is_some, refl, sym, ap, ◌∙◌, arith}
use Rattle.std.specs.List.{drop-map}
use Rattle.std.proofs.lemmas.List.{length-append, map-append}
use Rattle.graphql_spec.specs.Shown.{Name, Shown}
use Rattle.graphql_spec.specs.Skeletons.{Skeleton, fill}
use Rattle.graphql_spec.specs.Values.{Value, object, put}
use Rattle.juniper_syntax.specs.declared.value.Object.{Object}
use Rattle.juniper_syntax.specs.ValueView.{view_object, view_value}
use Rattle.juniper_walk.specs.declared.walked.Walked.{Walked}
use Rattle.juniper_walk.specs.Budget.{fields_in, fields_in_all, fields_in_entries}
use Rattle.juniper_walk.specs.declared.rows.Row.{Row}
use Rattle.juniper_walk.specs.declared.rows.Column.{Column}
use Rattle.juniper_walk.specs.declared.preparing.Taken.{Taken}
use Rattle.juniper_walk.specs.declared.preparing.Taken.TheVariants as taken
use Rattle.juniper_walk.specs.Rows.{AreFresh, IsFresh, IsPutIn, row_fields, so_far, values_of}
use Rattle.juniper_walk.proofs.Budget.{append-fields, leaf-counted, put-left, taken-fields}

module _ {S : Type 0} (shown : S → Shown) where
  one-fields : (v : Value) → fields_in_all (v ∷ []) ≡ fields_in v
  unfolding fields_in_all
  one-fields v = omega arith

  -- one object more
  pub added-one : (done more : List (Walked S)) (w : Walked S) → more ≡ done ++ w ∷ [] →
      fields_in_all (values_of shown more) ≡ fields_in_all (values_of shown done) + fields_in (view_value shown w.value)
  added-one done more w is =
      let seen : values_of shown more ≡ values_of shown done ++ view_value shown w.value ∷ [] =
      ap (values_of shown) is ∙ map-append (λ x. view_value shown x.value) done (w ∷ []) in
      let split = append-fields (values_of shown done) (view_value shown w.value ∷ []) in
      let last = one-fields (view_value shown w.value) in
      let whole = ap fields_in_all seen in
      omega (arith, split, last, whole)

  pub none-done : (done : List (Walked S)) → done ≡ [] → fields_in_all (values_of shown done) ≡ 0
  unfolding fields_in_all
  none-done done is = ap (λ l. fields_in_all (values_of shown l)) is

  so-far-none : (r : Row S) → IsFresh shown r → fields_in (so_far shown r.object) ≡ 0
  unfolding so_far fields_in
  so-far-none r fresh = ap (λ o. fields_in (so_far shown o)) fresh.stands ∙ ap (λ es. fields_in (object es)) fresh.empty

  -- rows that begin have none
  pub fresh-fields : (n : ℕ) (rows : List (Row S)) → AreFresh shown n rows → row_fields shown rows ≡ 0
  unfolding fields_in_all
  fresh-fields zero [] fresh = refl
  fresh-fields zero (r ∷ rows) fresh = absurd fresh
  fresh-fields (suc n) [] fresh = absurd fresh
  fresh-fields (suc n) (r ∷ rows) fresh = omega (arith, so-far-none r fresh.0, fresh-fields n rows fresh.1)

  -- another row at a place
  pub row-set : (rows : List (Row S)) (i : ℕ) (r new : Row S) → i < length rows → r ≡ get_or rows i r →
      row_fields shown (set rows i new) + fields_in (so_far shown r.object) ≡ row_fields shown rows + fields_in (so_far shown new.object)
  unfolding fields_in_all
  row-set [] i r new below is = absurd (omega (arith, below))
  row-set (q ∷ rows) zero r new below is = let same = ap (λ x. fields_in (so_far shown x.object)) is in omega (arith, same)
  row-set (q ∷ rows) (suc i) r new below is = let rest = row-set rows i r new (omega (arith, below)) is in omega (arith, rest)

  object-seen : (x : Option (Object S)) (o : Object S) → x ≡ Some o → fields_in (so_far shown x) ≡ fields_in_entries (view_object shown o)
  unfolding so_far fields_in
  object-seen x o is = ap (λ y. fields_in (so_far shown y)) is

  none-seen : (x : Option (Object S)) → x ≡ None → fields_in (so_far shown x) ≡ 0
  unfolding so_far fields_in
  none-seen x is = ap (λ y. fields_in (so_far shown y)) is

  -- what a node answers: a scalar in its object, or an answer that waits
  pub put-taken : {N : Type 0} (i : ℕ) (taken : Taken N S) (o : Object S) (r new : Row S) (c more : Column N S) → r.object ≡ Some o →
      IsPutIn shown i taken o r new c more →
      fields_in (so_far shown new.object) + length more.opened.items ≤ suc (fields_in (so_far shown r.object) + length c.opened.items)
  put-taken {N = N} i (taken.Leaf k x) o r new c more stands put =
      let old = object-seen r.object o stands in
      let now = object-seen new.object put.0.made put.0.stands in
      let leaf = leaf-counted k.now (shown x) (view_object shown o) (view_object shown put.0.made) put.0.holds in
      let same = ap (λ (d : Column N S). length d.opened.items) put.1 in
      omega (arith, old, now, leaf, same)
  put-taken {N = N} i (taken.Apart p) o r new c more stands put =
      let same = ap (λ (q : Row S). fields_in (so_far shown q.object)) put.same in
      let longer = ap length put.list ∙ length-append c.opened.items (put.opened ∷ []) in
      omega (arith, same, longer)

  -- an answer that was filled, in its object or risen
  pub row-kept : (k : Name) (s : Skeleton) (n : ℕ) (ws left : List (Walked S)) (o made : Object S) (old new : Option (Object S)) → old ≡ Some o → new ≡ Some made →
      view_object shown made ≡ put k (fill s (take n (values_of shown ws))).value (view_object shown o) → left ≡ drop n ws →
      fields_in (so_far shown new) + fields_in_all (values_of shown left) ≤ suc (fields_in (so_far shown old) + fields_in_all (values_of shown ws))
  row-kept k s n ws left o made old new stands kept puts is =
      let was = object-seen old o stands in
      let now = object-seen new made kept in
      let rest : values_of shown left ≡ drop n (values_of shown ws) = ap (values_of shown) is ∙ sym (drop-map (λ w. view_value shown w.value) n ws) in
      let gone = ap fields_in_all rest in
      let filled = put-left k s n (values_of shown ws) (view_object shown o) (view_object shown made) puts in
      omega (arith, was, now, gone, filled)

  pub row-lost : (n : ℕ) (ws left : List (Walked S)) (old new : Option (Object S)) → new ≡ None → left ≡ drop n ws →
      fields_in (so_far shown new) + fields_in_all (values_of shown left) ≤ suc (fields_in (so_far shown old) + fields_in_all (values_of shown ws))
  row-lost n ws left old new lost is =
      let now = none-seen new lost in
      let rest : values_of shown left ≡ drop n (values_of shown ws) = ap (values_of shown) is ∙ sym (drop-map (λ w. view_value shown w.value) n ws) in
      let gone = ap fields_in_all rest in
      let taken = taken-fields n (values_of shown ws) in
      omega (arith, now, gone, taken)

pub some-of : {A : Type 0} (o : Option A) → is_some o ≡ true → (x : A) × (o ≡ Some x)
some-of None e = absurd cc
some-of (Some x) e = (x, refl)
