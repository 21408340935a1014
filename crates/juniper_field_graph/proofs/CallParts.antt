-- Calls with the same parts have one name and the same arguments.
use Rattle.std.specs.Prelude.{ℕ, List, [], ◌∷◌, ◌++◌, ◌≡◌}
use Rattle.std.proofs.lemmas.List.{append-nil, append_assoc}
use Rattle.std.proofs.Common.{refl, sym, ap, ◌∙◌}
use Rattle.graphql_spec.specs.Shown.{Name, Shown}
use Rattle.graphql_spec.specs.Arguments.{written_meaning}
use Rattle.graphql_spec.specs.Constants.{Constant, Constants, Members, constant, enumerated, list, member, no_constants, no_members, null, object}
use Rattle.graphql_spec.specs.Constants.{scalar, variable}
use Rattle.graphql_spec.specs.Documents.{Head, written}
use Rattle.juniper_field_graph.specs.CallParts.{Part, a_key, a_list, a_name, a_null, a_scalar, a_variable, an_enum, an_object, the_end}
use Rattle.juniper_field_graph.specs.CallParts.{call_parts, item_parts, member_parts, value_parts}

-- ## Where two lists of parts are the same

rest-same : (p q : Part) (xs ys : List Part) → p ∷ xs ≡ q ∷ ys → xs ≡ ys
rest-same p q xs ys e = cc

same-scalars : (s t : Shown) (xs ys : List Part) → a_scalar s ∷ xs ≡ a_scalar t ∷ ys → s ≡ t
same-scalars s t xs ys e = cc

same-enums : (s t : Name) (xs ys : List Part) → an_enum s ∷ xs ≡ an_enum t ∷ ys → s ≡ t
same-enums s t xs ys e = cc

same-variables : (s t : Name) (xs ys : List Part) → a_variable s ∷ xs ≡ a_variable t ∷ ys → s ≡ t
same-variables s t xs ys e = cc

same-names : (s t : Name) (xs ys : List Part) → a_name s ∷ xs ≡ a_name t ∷ ys → s ≡ t
same-names s t xs ys e = cc

-- no value begins with an end
never-end : (v : Constant) (xs ys : List Part) → the_end ∷ xs ≡ value_parts v ++ ys → ⊥
unfolding value_parts
never-end null xs ys e = cc
never-end (scalar s) xs ys e = cc
never-end (enumerated s) xs ys e = cc
never-end (variable s) xs ys e = cc
never-end (list us) xs ys e = cc
never-end (object ms) xs ys e = cc

-- what follows a list of parts and another
behind : (as' bs xs : List Part) (ys : List Part) → (as' ++ bs) ++ xs ≡ ys → as' ++ (bs ++ xs) ≡ ys
behind as' bs xs ys e = sym (append_assoc as' bs xs) ∙ e

-- ## Values, whatever follows them

mutual
  unfolding value_parts

  value-told : (u v : Constant) (xs ys : List Part) → value_parts u ++ xs ≡ value_parts v ++ ys → (u ≡ v) × (xs ≡ ys)
  value-told null null xs ys e = (refl, rest-same a_null a_null xs ys e)
  value-told (scalar s) (scalar t) xs ys e = (ap scalar (same-scalars s t xs ys e), rest-same (a_scalar s) (a_scalar t) xs ys e)
  value-told (enumerated s) (enumerated t) xs ys e = (ap enumerated (same-enums s t xs ys e), rest-same (an_enum s) (an_enum t) xs ys e)
  value-told (variable s) (variable t) xs ys e = (ap variable (same-variables s t xs ys e), rest-same (a_variable s) (a_variable t) xs ys e)
  value-told (list us) (list vs) xs ys e =
      let r = items-told us vs xs ys (rest-same a_list a_list (item_parts us ++ xs) (item_parts vs ++ ys) e) in (ap list r.0, r.1)
  value-told (object us) (object vs) xs ys e =
      let r = members-told us vs xs ys (rest-same an_object an_object (member_parts us ++ xs) (member_parts vs ++ ys) e) in (ap object r.0, r.1)
  value-told u v xs ys e = cc

  items-told : (us vs : Constants) (xs ys : List Part) → item_parts us ++ xs ≡ item_parts vs ++ ys → (us ≡ vs) × (xs ≡ ys)
  items-told no_constants no_constants xs ys e = (refl, rest-same the_end the_end xs ys e)
  items-told no_constants (constant v vs) xs ys e =
      absurd (never-end v xs (item_parts vs ++ ys) (sym (behind (value_parts v) (item_parts vs) ys (the_end ∷ xs) (sym e))))
  items-told (constant u us) no_constants xs ys e =
      absurd (never-end u ys (item_parts us ++ xs) (sym (behind (value_parts u) (item_parts us) xs (the_end ∷ ys) e)))
  items-told (constant u us) (constant v vs) xs ys e =
      let f : value_parts u ++ (item_parts us ++ xs) ≡ value_parts v ++ (item_parts vs ++ ys) =
      sym (behind (value_parts v) (item_parts vs) ys (value_parts u ++ (item_parts us ++ xs))
      (sym (behind (value_parts u) (item_parts us) xs ((value_parts v ++ item_parts vs) ++ ys) e))) in
      let one = value-told u v (item_parts us ++ xs) (item_parts vs ++ ys) f in
      let more = items-told us vs xs ys one.1 in
      ((λ i. constant (one.0 i) (more.0 i)), more.1)

  members-told : (us vs : Members) (xs ys : List Part) → member_parts us ++ xs ≡ member_parts vs ++ ys → (us ≡ vs) × (xs ≡ ys)
  members-told no_members no_members xs ys e = (refl, rest-same the_end the_end xs ys e)
  members-told no_members (member l v vs) xs ys e = cc
  members-told (member k u us) no_members xs ys e = cc
  members-told (member k u us) (member l v vs) xs ys e =
      let name : k ≡ l = same-names k l ((value_parts u ++ member_parts us) ++ xs) ((value_parts v ++ member_parts vs) ++ ys) e in
      let d = rest-same (a_name k) (a_name l) ((value_parts u ++ member_parts us) ++ xs) ((value_parts v ++ member_parts vs) ++ ys) e in
      let f : value_parts u ++ (member_parts us ++ xs) ≡ value_parts v ++ (member_parts vs ++ ys) =
      sym (behind (value_parts v) (member_parts vs) ys (value_parts u ++ (member_parts us ++ xs))
      (sym (behind (value_parts u) (member_parts us) xs ((value_parts v ++ member_parts vs) ++ ys) d))) in
      let one = value-told u v (member_parts us ++ xs) (member_parts vs ++ ys) f in
      let more = members-told us vs xs ys one.1 in
      ((λ i. member (name i) (one.0 i) (more.0 i)), more.1)

-- ## Calls

pub calls-told : (k l : ℕ) (g h : Head) → call_parts k g ≡ call_parts l h →
    (g.name.item ≡ h.name.item) × (written_meaning (written g.arguments) ≡ written_meaning (written h.arguments))
unfolding call_parts
calls-told k l g h e =
    let us = written_meaning (written g.arguments) in
    let vs = written_meaning (written h.arguments) in
    let d : a_name g.name.item ∷ member_parts us ≡ a_name h.name.item ∷ member_parts vs =
    rest-same (a_key k) (a_key l) (a_name g.name.item ∷ member_parts us) (a_name h.name.item ∷ member_parts vs) e in
    let f : member_parts us ≡ member_parts vs = rest-same (a_name g.name.item) (a_name h.name.item) (member_parts us) (member_parts vs) d in (
      same-names g.name.item h.name.item (member_parts us) (member_parts vs) d,
      (members-told us vs [] [] (append-nil (member_parts us) ∙ (f ∙ sym (append-nil (member_parts vs))))).0,
    )

-- fields whose response keys have one number, with one name and the same arguments, have the same parts
pub parts-told : (k l : ℕ) (g h : Head) → k ≡ l → g.name.item ≡ h.name.item →
    written_meaning (written g.arguments) ≡ written_meaning (written h.arguments) → call_parts k g ≡ call_parts l h
unfolding call_parts
parts-told k l g h key name arguments = λ i. a_key (key i) ∷ a_name (name i) ∷ member_parts (arguments i)
