-- Fields that are alike.
use Rattle.std.specs.Prelude.{Bool, true, false, not, ◌||◌, List, [], ◌∷◌, Option, Some, ◌≡◌}
use Rattle.std.specs.List.{list_all}
use Rattle.std.specs.Str.{bytes_eq}
use Rattle.std.proofs.lemmas.Bool.{both_ways, and_parts, and_from}
use Rattle.std.proofs.Common.{refl, sym, ap, ◌∙◌, inl, inr, subst}
use Rattle.graphql_spec.specs.Shown.{Name}
use Rattle.graphql_spec.specs.Types.{innermost}
use Rattle.graphql_spec.specs.Documents.{Head, response_key, written}
use Rattle.graphql_spec.specs.Constants.{Members, same_members}
use Rattle.graphql_spec.specs.Arguments.{written_meaning}
use Rattle.graphql_spec.specs.Schema.{FieldDeclaration, Schema}
use Rattle.graphql_spec.specs.Fields.{declared_type, field_of}
use Rattle.graphql_spec.specs.Merging.{types_agree}
use Rattle.graphql_spec.specs.Placed.{Placed}
use Rattle.graphql_spec.specs.Laws.{In}
use Rattle.graphql_spec.proofs.Lists.{same_true}
use Rattle.juniper_merging.proofs.Tests.{all-from}
use Rattle.juniper_field_graph.proofs.Alike.{calls-across, calls-itself, types-across, types-same}
use Rattle.juniper_field_graph.specs.KindsView.{same_call}
use Rattle.juniper_field_graph.specs.PlainKeys.{is_like, are_plain, placed_on}

-- ## Two fields

-- what two fields share that are alike
pub record Alike (s : Schema) (x y : Placed) : Type 0 where
  pub call : same_call x.head y.head ≡ true
  pub type : types_agree s (declared_type x.declared) (declared_type y.declared) ≡ true

-- a field's name and arguments
abbrev call : Head → Name × Members
call h = (h.name.item, written_meaning (written h.arguments))

module _ (s : Schema) where
  -- fields whose types agree
  pub agree-on : (o n : Option FieldDeclaration) (f g : FieldDeclaration) (b : Bool) → o ≡ Some f → n ≡ Some g → b ≡ types_agree s f.of_type g.of_type →
      b ≡ true → types_agree s (declared_type o) (declared_type n) ≡ true
  unfolding declared_type
  agree-on o n f g b p q told e = rw (p, q) (sym told ∙ e)

  pub alike-parts : (x y : Placed) → is_like s x y ≡ true → Alike s x y
  unfolding is_like
  alike-parts x y e = let a = and_parts (same_call x.head y.head) (types_agree s (declared_type x.declared) (declared_type y.declared)) e in
      record { call = a.0; type = a.1 }

  pub alike-from : (x y : Placed) → Alike s x y → is_like s x y ≡ true
  unfolding is_like
  alike-from x y a = and_from (same_call x.head y.head) (types_agree s (declared_type x.declared) (declared_type y.declared)) a.call a.type

  -- fields of one name, with the same arguments and types that agree
  pub like-from : (p q : Name) (g h : Head) → same_call g h ≡ true →
      types_agree s (declared_type (field_of s p h.name.item)) (declared_type (field_of s q h.name.item)) ≡ true →
      is_like s (placed_on s p g) (placed_on s q h) ≡ true
  unfolding placed_on
  like-from p q g h call types =
      let same = same_true g.name.item h.name.item
      (and_parts (bytes_eq g.name.item h.name.item) (same_members (written_meaning (written g.arguments)) (written_meaning (written h.arguments))) call).0 in
      alike-from (placed_on s p g) (placed_on s q h) (record {
        call = call;
        type = subst (λ n. types_agree s (declared_type (field_of s p n)) (declared_type (field_of s q h.name.item)) ≡ true) (sym same) types;
      })

  -- a field is like itself
  pub like-itself : (x : Placed) → is_like s x x ≡ true
  like-itself x = alike-from x x (record { call = calls-itself (call x.head); type = types-same s (declared_type x.declared) })

  -- two fields that are like a third one are alike
  pub like-joins : (x y z : Placed) → is_like s x y ≡ true → is_like s x z ≡ true → is_like s y z ≡ true
  like-joins x y z e f =
      let a = alike-parts x y e in
      let b = alike-parts x z f in
      alike-from y z (record {
        call = calls-across (call x.head) (call y.head) (call z.head) a.call ∙ b.call;
        type = types-across s (declared_type x.declared) (declared_type y.declared) (declared_type z.declared) a.type ∙ b.type;
      })

-- the type below a field that is known
pub below-known : (o : Option FieldDeclaration) (f : FieldDeclaration) → o ≡ Some f → innermost f.of_type ≡ innermost (declared_type o)
unfolding declared_type
below-known o f is = rw (is) refl

-- ## Lists

all-in : {A : Type 0} (test : A → Bool) (xs : List A) (x : A) → list_all test xs ≡ true → In x xs → test x ≡ true
all-in test [] x e i = absurd i
all-in test (z ∷ xs) x e (inl q) = ap test q ∙ (and_parts (test z) (list_all test xs) e).0
all-in test (z ∷ xs) x e (inr i) = all-in test xs x (and_parts (test z) (list_all test xs) e).1 i

keyed-in : (k b : Bool) → (not k || b) ≡ true → k ≡ true → b ≡ true
keyed-in true b e f = e
keyed-in false b e f = absurd (both_ways false refl f)

keyed-from : (k b : Bool) → (k ≡ true → b ≡ true) → (not k || b) ≡ true
keyed-from true b f = f refl
keyed-from false b f = refl

-- of plain fields each two of one response key are alike
pub plain-in : (s : Schema) (xs : List Placed) → are_plain s xs ≡ true → (x y : Placed) → In x xs → In y xs →
    bytes_eq (response_key x.head) (response_key y.head) ≡ true → is_like s x y ≡ true
unfolding are_plain
plain-in s xs e x y i j same =
    keyed-in (bytes_eq (response_key x.head) (response_key y.head)) (is_like s x y)
    (all-in (λ z. not (bytes_eq (response_key x.head) (response_key z.head)) || is_like s x z) xs y
    (all-in (λ w. list_all (λ z. not (bytes_eq (response_key w.head) (response_key z.head)) || is_like s w z) xs) xs x e i) j) same

pub plain-from : (s : Schema) (xs : List Placed) → ((x y : Placed) → In x xs → In y xs → response_key x.head ≡ response_key y.head → is_like s x y ≡ true) →
    are_plain s xs ≡ true
unfolding are_plain
plain-from s xs f = all-from (λ x. list_all (λ y. not (bytes_eq (response_key x.head) (response_key y.head)) || is_like s x y) xs) xs
    (λ x i. all-from (λ y. not (bytes_eq (response_key x.head) (response_key y.head)) || is_like s x y) xs
    (λ y j. keyed-from (bytes_eq (response_key x.head) (response_key y.head)) (is_like s x y)
    (λ e. f x y i j (same_true (response_key x.head) (response_key y.head) e))))
