-- Parts that loops put: those of items one behind the other, and those of members in the order of their names.
use Rattle.std.specs.Prelude.{ℕ, List, [], ◌∷◌, ◌++◌, ◌≡◌, ◌+◌, ◌-◌, ◌<◌, ◌≤◌, Vec, drop, get_or, length}
use Rattle.std.specs.Borrow.{Bor}
use Rattle.std.specs.BTreeMap.{insert_entry}
use Rattle.std.specs.Cmp.Lexicographic.{slice_cmp}
use Rattle.std.specs.Ordering.{match_ordering, nat_cmp}
use Rattle.std.specs.declared.alloc.Global.{Global}
use Rattle.std.proofs.lemmas.List.{append_assoc, drop_all, map-append}
use Rattle.std.proofs.Common.{Ordering, Equal, Greater, Less, refl, sym, ap, ◌∙◌, arith}
use Rattle.graphql_spec.specs.Constants.{Constant, Members, insert, meaning, meanings, member, members, no_members}
use Rattle.graphql_spec.specs.Arguments.{written_meaning}
use Rattle.graphql_spec.specs.Documents.{Head, written}
use Rattle.graphql_spec.specs.Inputs.{InputFields}
use Rattle.graphql_spec.specs.Shown.{Name, Shown}
use Rattle.juniper_syntax.specs.InputView.{view_input, view_items}
use Rattle.juniper_syntax.specs.declared.input.InputValue.{InputValue}
use Rattle.juniper_syntax.specs.declared.position.Span.{Span}
use Rattle.juniper_syntax.specs.declared.position.Spanning.{Spanning}
use Rattle.juniper_syntax.proofs.Lists.{left-is, seen-push}
use Rattle.juniper_field_graph.specs.CallParts.{Part, a_key, a_name, call_parts, item_parts, joined_parts, listed_parts, member_parts, put_in_order, the_end}
use Rattle.juniper_field_graph.specs.CallParts.{value_parts, view_members, view_part, view_parts}
use Rattle.juniper_field_graph.specs.NamedValues.{as_fields, view_named}
use Rattle.juniper_field_graph.proofs.SameArguments.{meaning-as}
use Rattle.juniper_field_graph.specs.declared.calls.Part.{Part as CodePart}
use Rattle.juniper_field_graph.specs.declared.calls.Part.TheVariants as code

-- ## Members in order

listed-insert : (k : Name) (u : Constant) (ms : Members) → listed_parts (insert k u ms) ≡ put_in_order k (value_parts u) (listed_parts ms)
unfolding listed_parts insert
listed-insert k u no_members = refl
listed-insert k u (member l w ms) = go (slice_cmp nat_cmp k l) (listed-insert k u ms)
  where
    go : (o : Ordering) → listed_parts (insert k u ms) ≡ put_in_order k (value_parts u) (listed_parts ms) →
        listed_parts (match_ordering o (member k u (member l w ms)) (member l u ms) (member l w (insert k u ms)))
        ≡ match_ordering o ((k, value_parts u) ∷ (l, value_parts w) ∷ listed_parts ms) ((l, value_parts u) ∷ listed_parts ms)
        ((l, value_parts w) ∷ put_in_order k (value_parts u) (listed_parts ms))
    go Less again = refl
    go Equal again = refl
    go Greater again = ap (λ es. (l, value_parts w) ∷ es) again

pub joined-listed : (ms : Members) → joined_parts (listed_parts ms) ≡ member_parts ms
unfolding joined_parts listed_parts value_parts
joined-listed no_members = refl
joined-listed (member k u ms) = ap (λ ps. a_name k ∷ (value_parts u ++ ps)) (joined-listed ms)

abbrev Entry : Type 0
Entry = Bor Name × Vec CodePart Global

pub view-insert : (es : List Entry) (k : Bor Name) (v : Vec CodePart Global) →
    view_members (insert_entry (λ x y. slice_cmp nat_cmp x.now y.now) es k v) ≡ put_in_order k.now (view_parts v.items) (view_members es)
view-insert [] k v = refl
view-insert (e ∷ es) k v = go (slice_cmp nat_cmp k.now e.0.now) (view-insert es k v)
  where
    go : (o : Ordering) →
        view_members (insert_entry (λ x y. slice_cmp nat_cmp x.now y.now) es k v) ≡ put_in_order k.now (view_parts v.items) (view_members es) →
        view_members (match_ordering o ((k, v) ∷ e ∷ es) ((e.0, v) ∷ es) (e ∷ insert_entry (λ x y. slice_cmp nat_cmp x.now y.now) es k v))
        ≡ match_ordering o ((k.now, view_parts v.items) ∷ (e.0.now, view_parts e.1.items) ∷ view_members es) ((e.0.now, view_parts v.items) ∷ view_members es)
        ((e.0.now, view_parts e.1.items) ∷ put_in_order k.now (view_parts v.items) (view_members es))
    go Less again = refl
    go Equal again = refl
    go Greater again = ap (λ ms. (e.0.now, view_parts e.1.items) ∷ ms) again

-- ## A list from its end

turn-back : {A : Type 0} (xs : List A) (t : ℕ) (x : A) → t < length xs → x ≡ get_or xs (length xs - 1 - t) x →
    drop (length xs - (t + 1)) xs ≡ x ∷ drop (length xs - t) xs
turn-back xs t x below is =
    let j : ℕ = length xs - (t + 1) in
    let one : length xs - 1 - t ≡ j = omega (arith, below) in
    let next : j + 1 ≡ length xs - t = omega (arith, below) in
    left-is xs j x (omega (arith, below)) (is ∙ ap (λ m. get_or xs m x) one) ∙ ap (λ m. x ∷ drop m xs) next

module _ {N S : Type 0} (text : N → Name) (shown : S → Shown) where
  abbrev Named : Type 0
  Named = Spanning N Span × Spanning (InputValue S) Span

  -- the members of the last values
  abbrev pub last_members : List Named → ℕ → Members
  last_members xs t = members (view_named text shown (drop (length xs - t) xs))

  pub members-none : (xs : List Named) (es : List Entry) → es ≡ [] → view_members es ≡ listed_parts (last_members xs 0)
  unfolding view_named members listed_parts
  members-none xs es none =
      let rest : drop (length xs - 0) xs ≡ [] = drop_all (length xs - 0) xs (omega arith) in
      rw (none, rest) refl

  pub members-more : (xs : List Named) (t : ℕ) (x : Named) (es more : List Entry) (v : List Part) → t < length xs →
      x ≡ get_or xs (length xs - 1 - t) x → v ≡ value_parts (meaning (view_input shown x.1.item)) →
      view_members more ≡ put_in_order (text x.0.item) v (view_members es) →
      view_members es ≡ listed_parts (last_members xs t) → view_members more ≡ listed_parts (last_members xs (t + 1))
  unfolding view_named members
  members-more xs t x es more v below is value put before =
      let k = text x.0.item in
      let u = meaning (view_input shown x.1.item) in
      put ∙ ((λ j. put_in_order k (value j) (before j)) ∙ (sym (listed-insert k u (last_members xs t))
      ∙ ap (λ ys. listed_parts (members (view_named text shown ys))) (sym (turn-back xs t x below is))))

  pub members-all : (xs : List Named) (t : ℕ) (es : List Entry) → length xs ≤ t → view_members es ≡ listed_parts (last_members xs t) →
      view_members es ≡ listed_parts (members (view_named text shown xs))
  members-all xs t es past before =
      let none : length xs - t ≡ 0 = omega (arith, past) in before ∙ ap (λ n. listed_parts (members (view_named text shown (drop n xs)))) none

  -- joined behind other parts
  pub members-joined : (xs : List Named) (t : ℕ) (es : List Entry) (ps qs : List Part) → length xs ≤ t → view_members es ≡ listed_parts (last_members xs t) →
      qs ≡ ps ++ joined_parts (view_members es) → qs ≡ ps ++ member_parts (members (view_named text shown xs))
  members-joined xs t es ps qs past before joined =
      joined ∙ ap (λ rs. ps ++ rs) (ap joined_parts (members-all xs t es past before) ∙ joined-listed (members (view_named text shown xs)))

-- ## Items

module _ {S : Type 0} (shown : S → Shown) where
  abbrev Item : Type 0
  Item = Spanning (InputValue S) Span

  pub items-more : (xs : List Item) (i : ℕ) (x : Item) (ps qs whole : List Part) → i < length xs → x ≡ get_or xs i x →
      qs ≡ ps ++ value_parts (meaning (view_input shown x.item)) → ps ++ item_parts (meanings (view_items shown (drop i xs))) ≡ whole →
      qs ++ item_parts (meanings (view_items shown (drop (i + 1) xs))) ≡ whole
  unfolding value_parts meaning
  items-more xs i x ps qs whole below at_i put before =
      let v = value_parts (meaning (view_input shown x.item)) in
      let rest = item_parts (meanings (view_items shown (drop (i + 1) xs))) in
      ap (λ rs. rs ++ rest) put ∙ (append_assoc ps v rest
      ∙ (ap (λ ys. ps ++ item_parts (meanings (view_items shown ys))) (sym (left-is xs i x below at_i)) ∙ before))

  pub items-done : (xs : List Item) (i : ℕ) (ps qs whole : List Part) → length xs ≤ i → qs ≡ ps ++ the_end ∷ [] →
      ps ++ item_parts (meanings (view_items shown (drop i xs))) ≡ whole → qs ≡ whole
  unfolding value_parts meaning
  items-done xs i ps qs whole past put before =
      put ∙ (ap (λ ys. ps ++ item_parts (meanings (view_items shown ys))) (sym (drop_all i xs past)) ∙ before)

-- ## A map's members

pub joined-more : (ps qs : List CodePart) (k : Bor Name) (v : Vec CodePart Global) (s t : List Entry) (whole : List Part) →
    qs ≡ (ps ++ code.Name k ∷ []) ++ v.items → s ≡ (k, v) ∷ t → view_parts ps ++ joined_parts (view_members s) ≡ whole →
    view_parts qs ++ joined_parts (view_members t) ≡ whole
unfolding joined_parts view_part
joined-more ps qs k v s t whole put is before =
    let rest = joined_parts (view_members t) in
    let name = a_name k.now in
    let one : view_parts qs ≡ (view_parts ps ++ name ∷ []) ++ view_parts v.items =
    ap view_parts put ∙ (map-append view_part (ps ++ code.Name k ∷ []) v.items
    ∙ ap (λ rs. rs ++ view_parts v.items) (map-append view_part ps (code.Name k ∷ []))) in
    let two : view_parts qs ≡ view_parts ps ++ (name ∷ view_parts v.items) = one ∙ append_assoc (view_parts ps) (name ∷ []) (view_parts v.items) in
    ap (λ rs. rs ++ rest) two ∙ (append_assoc (view_parts ps) (name ∷ view_parts v.items) rest
    ∙ (ap (λ es. view_parts ps ++ joined_parts (view_members es)) (sym is) ∙ before))

pub joined-done : (ps qs : List CodePart) (s : List Entry) (whole : List Part) → qs ≡ ps ++ code.End ∷ [] → s ≡ [] →
    view_parts ps ++ joined_parts (view_members s) ≡ whole → view_parts qs ≡ whole
unfolding joined_parts view_part
joined-done ps qs s whole put none before =
    seen-push view_part ps qs code.End put ∙ (ap (λ es. view_parts ps ++ joined_parts (view_members es)) (sym none) ∙ before)

-- ## A field's parts

-- the number of a response key, a name, and members behind them
pub call-put : (k : ℕ) (h : Head) (fs : InputFields) (ps qs rs : List CodePart) (whole : List Part) (name : Bor Name) → ps ≡ [] →
    name.now ≡ h.name.item → qs ≡ ps ++ code.Key k ∷ [] → rs ≡ qs ++ code.Name name ∷ [] → fs ≡ as_fields (written h.arguments) →
    whole ≡ view_parts rs ++ member_parts (members fs) → whole ≡ call_parts k h
unfolding call_parts view_part
call-put k h fs ps qs rs whole name none word first second arguments put =
    let one : view_parts qs ≡ a_key k ∷ [] = ap view_parts (first ∙ ap (λ xs. xs ++ code.Key k ∷ []) none) in
    let two : view_parts rs ≡ a_key k ∷ a_name name.now ∷ [] = seen-push view_part qs rs (code.Name name) second
    ∙ ap (λ xs. xs ++ a_name name.now ∷ []) one in
    let rest : members fs ≡ written_meaning (written h.arguments) = ap members arguments ∙ sym (meaning-as (written h.arguments)) in
    put ∙ (ap (λ xs. xs ++ member_parts (members fs)) two ∙ (λ i. a_key k ∷ a_name (word i) ∷ member_parts (rest i)))
