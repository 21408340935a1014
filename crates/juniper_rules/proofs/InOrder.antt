-- Values in the order of their names: those that are left, and then the ones that were put in, are all.
use Rattle.std.proofs.Common.{◌≡◌, ℕ, Bool, true, false, cond, List, [], ◌∷◌, Option, Some, None, option_map, Bor, String, string_bytes}
use Rattle.std.proofs.Common.{refl, sym, ap, subst, ◌∙◌}
use Rattle.std.specs.BTreeMap.{BTreeMap}
use Rattle.std.specs.BTreeMap as tree
use Rattle.std.specs.Bool.{Decides}
use Rattle.std.specs.Cmp.Lexicographic.{slice_cmp}
use Rattle.std.specs.List.{IsDistinct}
use Rattle.std.specs.Map.{keys_of, lookup}
use Rattle.std.specs.Option.{option_copied, option_or}
use Rattle.std.specs.Ordering.{nat_cmp}
use Rattle.std.specs.Str.{bytes_eq}
use Rattle.std.specs.String.{string_eq, string_eq_equiv}
use Rattle.std.proofs.lemmas.Bool.{both_ways}
use Rattle.std.proofs.lemmas.Cmp.{nat_list_eq_equiv}
use Rattle.std.proofs.lemmas.Map.{lookup-none}
use Rattle.std.proofs.lemmas.Map.Entries.{none_past_head}
use Rattle.std.proofs.lemmas.Map.Keys.{IsDistinct-tail}
use Rattle.std.proofs.lemmas.Map.Text.{btree_map_updates_str, is_eq-slice_cmp}
use Rattle.std.proofs.lemmas.Slice.Eq.{bytes_eq-Decides}
use Rattle.graphql_spec.specs.Shown.{Name}
use Rattle.juniper_syntax.proofs.Values.{option_map-copied}
use Rattle.juniper_rules.specs.GivenView.{value_in_order}

module _ {X : Type 0} where
  -- a look-up by the order finds what one by the bytes finds
  pub found : {Z : Type 0} (view : X → Z) (n : Name) (m : BTreeMap (Bor (List ℕ)) (Bor X)) (o : Option (Bor (Bor X))) →
      option_copied o ≡ tree.get_by (λ k. slice_cmp nat_cmp n k.now) m → option_map (λ v. view v.now.now) o ≡ option_map view (value_in_order m n)
  found view n m o is =
      option_map-copied (λ v. view v.now) o ∙ (option_map-copied view (option_copied o)
      ∙ (ap (λ q. option_map view (option_copied q)) is
      ∙ ap (λ test. option_map view (option_copied (lookup test m.entries))) (λ i k. is_eq-slice_cmp n k.now i)))

  or-none : (o : Option X) → option_or o None ≡ o
  or-none None = refl
  or-none (Some x) = refl

  moved : (b c : Bool) (v : Bor X) (rest all : Option X) (o : Option (Bor X)) → c ≡ b → (b ≡ true → rest ≡ None) →
      option_or (cond b (Some v.now) rest) (option_map (λ w. w.now) o) ≡ all → option_or rest (option_map (λ w. w.now) (cond c (Some v) o)) ≡ all
  moved true c v rest all o is past so_far = rw (is, past refl) so_far
  moved false c v rest all o is past so_far = rw (is) so_far

  -- one entry more
  pub put : (name n : Name) (v : Bor X) (old new : BTreeMap (Bor (List ℕ)) (Bor X)) →
      tree.UpdatesBy (λ x y. slice_cmp nat_cmp x.now y.now) (λ k. slice_cmp nat_cmp name k.now) old new (Some v) →
      value_in_order new n ≡ option_map (λ w. w.now) (cond (bytes_eq name n) (Some v) (lookup (λ k. bytes_eq n k.now) old.entries))
  put name n v old new updates =
      ap (λ test. option_map (λ w. w.now) (lookup test new.entries)) (λ i k. sym (is_eq-slice_cmp n k.now) i)
      ∙ (ap (option_map (λ w. w.now)) (btree_map_updates_str name old new (Some v) updates n)
      ∙ ap (λ test. option_map (λ w. w.now) (cond (bytes_eq name n) (Some v) (lookup test old.entries))) (λ i k. is_eq-slice_cmp n k.now i))

decided : {P : Type 0} (r : Bool) → Decides r P → r ≡ true → P
decided true d e = d.0 refl
decided false d e = absurd (both_ways false refl e)

module _ {X Y : Type 0} where
  -- no later key is a name that the first one is
  past-head : (n : Name) (key : String Y) (v : X) (rest : List (String Y × X)) → IsDistinct string_eq (keys_of ((key, v) ∷ rest)) →
      bytes_eq n (string_bytes key) ≡ true → lookup (λ k. bytes_eq n (string_bytes k)) rest ≡ None
  past-head n key v rest distinct same =
      subst (λ j. lookup (λ k. bytes_eq j (string_bytes k)) rest ≡ None)
      (sym (decided (bytes_eq n (string_bytes key)) (bytes_eq-Decides n (string_bytes key)) same))
      (lookup-none (string_eq key) rest (none_past_head string_eq_equiv key (key, v) rest distinct (string_eq_equiv.refl key)))

module _ {X Y : Type 0} (es : List (String Y × X)) where
  -- the value at a name that is left, else the one that was put in; no two of the names that are left are equal
  pub record ArePutBehind (m : BTreeMap (Bor (List ℕ)) (Bor X)) (left : List (String Y × X)) : Type 0 where
    pub found : (n : Name) → option_or (lookup (λ k. bytes_eq n (string_bytes k)) left) (value_in_order m n) ≡ lookup (λ k. bytes_eq n (string_bytes k)) es
    pub distinct : IsDistinct string_eq (keys_of left)

  pub none-put : (m : BTreeMap (Bor (List ℕ)) (Bor X)) (left : List (String Y × X)) → m.entries ≡ [] → left ≡ es → IsDistinct string_eq (keys_of es) →
      ArePutBehind m left
  none-put m left empty all distinct = record {
    found = λ n. ap (λ l. option_or (lookup (λ k. bytes_eq n (string_bytes k)) left) (option_map (λ v. v.now) (lookup (λ k. bytes_eq n k.now) l))) empty
        ∙ (or-none (lookup (λ k. bytes_eq n (string_bytes k)) left) ∙ ap (lookup (λ k. bytes_eq n (string_bytes k))) all);
    distinct = subst (λ l. IsDistinct string_eq (keys_of l)) (sym all) distinct;
  }

  pub next-put : (old new : BTreeMap (Bor (List ℕ)) (Bor X)) (left rest : List (String Y × X)) (key : String Y) (v : Bor X) (name : Name) →
      left ≡ (key, v.now) ∷ rest → name ≡ string_bytes key →
      tree.UpdatesBy (λ x y. slice_cmp nat_cmp x.now y.now) (λ k. slice_cmp nat_cmp name k.now) old new (Some v) → ArePutBehind old left → ArePutBehind new rest
  next-put old new left rest key v name taken is updates so_far =
      let distinct = subst (λ l. IsDistinct string_eq (keys_of l)) taken so_far.distinct in
      record {
        found = λ n.
            ap (option_or (lookup (λ k. bytes_eq n (string_bytes k)) rest)) (put name n v old new updates)
            ∙ moved (bytes_eq n (string_bytes key)) (bytes_eq name n) v (lookup (λ k. bytes_eq n (string_bytes k)) rest)
            (lookup (λ k. bytes_eq n (string_bytes k)) es) (lookup (λ k. bytes_eq n k.now) old.entries)
            (nat_list_eq_equiv.symm name n ∙ ap (bytes_eq n) is)
            (past-head n key v.now rest distinct)
            (ap (λ l. option_or (lookup (λ k. bytes_eq n (string_bytes k)) l) (value_in_order old n)) (sym taken) ∙ so_far.found n);
        distinct = IsDistinct-tail string_eq key (keys_of rest) distinct;
      }

  pub all-put : (m : BTreeMap (Bor (List ℕ)) (Bor X)) (left : List (String Y × X)) → left ≡ [] → ArePutBehind m left → (n : Name) →
      value_in_order m n ≡ lookup (λ k. bytes_eq n (string_bytes k)) es
  all-put m left none so_far n =
      ap (λ l. option_or (lookup (λ k. bytes_eq n (string_bytes k)) l) (value_in_order m n)) (sym none) ∙ so_far.found n
