-- The parts of values, kind by kind.
use Rattle.std.specs.Prelude.{List, [], ◌∷◌, ◌++◌, ◌≡◌, ℤ, Bool, None, Some, String, Vec, string_bytes}
use Rattle.std.specs.Borrow.{Bor}
use Rattle.std.specs.declared.alloc.Global.{Global}
use Rattle.std.proofs.lemmas.List.{append_assoc}
use Rattle.std.proofs.Common.{sym, ap, ◌∙◌}
use Rattle.graphql_spec.specs.Constants.{meaning, meanings, members}
use Rattle.graphql_spec.specs.Shown.{Name, Shown, boolean, int, shown_boolean, shown_int, shown_text, text}
use Rattle.juniper_syntax.specs.InputView.{view_input, view_items}
use Rattle.juniper_syntax.specs.declared.input.InputValue.{InputValue, Enum, Null, Object, Scalar, Variable, List as ListOf}
use Rattle.juniper_syntax.specs.declared.position.Span.{Span}
use Rattle.juniper_syntax.specs.declared.position.Spanning.{Spanning}
use Rattle.juniper_syntax.proofs.Inputs.{view-Enum, view-List, view-Null, view-Object, view-Scalar, view-Variable}
use Rattle.juniper_syntax.proofs.Lists.{seen-push}
use Rattle.juniper_field_graph.proofs.NamedValues.{named-fields}
use Rattle.juniper_field_graph.specs.CallParts.{Part, a_list, a_scalar, a_variable, an_enum, an_object, item_parts, member_parts, the_end, value_parts}
use Rattle.juniper_field_graph.specs.CallParts.{view_part, view_parts}
use Rattle.juniper_field_graph.specs.NamedValues.{view_named}
use Rattle.juniper_field_graph.specs.declared.calls.Part.{Part as CodePart}
use Rattle.juniper_field_graph.specs.declared.calls.Part.TheVariants as code

-- an end more
pub end-put : (ps qs : List CodePart) → qs ≡ ps ++ code.End ∷ [] → view_parts qs ≡ view_parts ps ++ the_end ∷ []
unfolding view_part
end-put ps qs put = seen-push view_part ps qs code.End put

-- what stands behind one part
behind-one : (ps qs : List CodePart) (p : CodePart) (whole rest : List Part) → qs ≡ ps ++ p ∷ [] → whole ≡ view_parts qs ++ rest →
    whole ≡ view_parts ps ++ (view_part p ∷ rest)
behind-one ps qs p whole rest put is =
    is ∙ (ap (λ rs. rs ++ rest) (seen-push view_part ps qs p put) ∙ append_assoc (view_parts ps) (view_part p ∷ []) rest)

-- ## One kind of value each

module _ {S : Type 0} (shown : S → Shown) (v : InputValue S) (ps qs : List CodePart) where
  abbrev pub IsValuePut : List Part → Type 0
  IsValuePut rs = rs ≡ view_parts ps ++ value_parts (meaning (view_input shown v))

  pub null-put : v ≡ Null → qs ≡ ps ++ code.Null ∷ [] → IsValuePut (view_parts qs)
  unfolding view_part value_parts meaning
  null-put is put = seen-push view_part ps qs code.Null put
      ∙ ap (λ w. view_parts ps ++ value_parts (meaning w)) (sym (ap (view_input shown) is ∙ view-Null shown))

  pub scalar-put : (s : S) (p : CodePart) → v ≡ Scalar s → view_part p ≡ a_scalar (shown s) → qs ≡ ps ++ p ∷ [] → IsValuePut (view_parts qs)
  unfolding value_parts meaning
  scalar-put s p is seen put = seen-push view_part ps qs p put ∙ (ap (λ r. view_parts ps ++ r ∷ []) seen
      ∙ ap (λ w. view_parts ps ++ value_parts (meaning w)) (sym (ap (view_input shown) is ∙ view-Scalar shown s)))

  pub enum-put : (e : String Global) (n : Bor Name) → v ≡ Enum e → n.now ≡ string_bytes e → qs ≡ ps ++ code.Enum n ∷ [] → IsValuePut (view_parts qs)
  unfolding view_part value_parts meaning
  enum-put e n is name put = seen-push view_part ps qs (code.Enum n) put ∙ (ap (λ k. view_parts ps ++ an_enum k ∷ []) name
      ∙ ap (λ w. view_parts ps ++ value_parts (meaning w)) (sym (ap (view_input shown) is ∙ view-Enum shown e)))

  pub variable-put : (x : String Global) (n : Bor Name) → v ≡ Variable x → n.now ≡ string_bytes x → qs ≡ ps ++ code.Variable n ∷ [] →
      IsValuePut (view_parts qs)
  unfolding view_part value_parts meaning
  variable-put x n is name put = seen-push view_part ps qs (code.Variable n) put ∙ (ap (λ k. view_parts ps ++ a_variable k ∷ []) name
      ∙ ap (λ w. view_parts ps ++ value_parts (meaning w)) (sym (ap (view_input shown) is ∙ view-Variable shown x)))

  pub list-put : (items : Vec (Spanning (InputValue S) Span) Global) (slice : List (Spanning (InputValue S) Span)) (whole : List Part) → v ≡ ListOf items →
      slice ≡ items.items → qs ≡ ps ++ code.List ∷ [] → whole ≡ view_parts qs ++ item_parts (meanings (view_items shown slice)) → IsValuePut whole
  unfolding view_part value_parts meaning
  list-put items slice whole is same put rest =
      behind-one ps qs code.List whole (item_parts (meanings (view_items shown slice))) put rest
      ∙ (ap (λ is. view_parts ps ++ (a_list ∷ item_parts (meanings (view_items shown is)))) same
      ∙ ap (λ w. view_parts ps ++ value_parts (meaning w)) (sym (ap (view_input shown) is ∙ view-List shown items)))

  pub object-put : (fields : Vec (Spanning (String Global) Span × Spanning (InputValue S) Span) Global)
      (slice : List (Spanning (String Global) Span × Spanning (InputValue S) Span)) (whole : List Part) → v ≡ Object fields →
      slice ≡ fields.items → qs ≡ ps ++ code.Object ∷ [] →
      whole ≡ view_parts qs ++ member_parts (members (view_named (λ n. string_bytes n) shown slice)) → IsValuePut whole
  unfolding view_part value_parts meaning
  object-put fields slice whole is same put rest =
      behind-one ps qs code.Object whole (member_parts (members (view_named (λ n. string_bytes n) shown slice))) put rest
      ∙ (ap (λ fs. view_parts ps ++ (an_object ∷ member_parts (members (view_named (λ n. string_bytes n) shown fs)))) same
      ∙ (ap (λ fs. view_parts ps ++ (an_object ∷ member_parts (members fs))) (named-fields shown fields.items)
      ∙ ap (λ w. view_parts ps ++ value_parts (meaning w)) (sym (ap (view_input shown) is ∙ view-Object shown fields))))

-- ## Scalars

some-same : {A : Type 0} {x y : A} → Some x ≡ Some y → x ≡ y
some-same e = cc

pub shows-int : (s : Shown) (i : ℤ) → shown_int s ≡ Some i → s ≡ int i
unfolding shown_int
shows-int (int j) i e = ap int (some-same e)
shows-int (text t) i e = cc
shows-int (boolean b) i e = cc

pub shows-boolean : (s : Shown) (b : Bool) → shown_boolean s ≡ Some b → s ≡ boolean b
unfolding shown_boolean
shows-boolean (int j) b e = cc
shows-boolean (text t) b e = cc
shows-boolean (boolean c) b e = ap boolean (some-same e)

pub shows-text : (s : Shown) (t : Name) → shown_text s ≡ Some t → s ≡ text t
unfolding shown_text
shows-text (int j) t e = cc
shows-text (text u) t e = ap text (some-same e)
shows-text (boolean b) t e = cc

pub shows-one : (s : Shown) → shown_int s ≡ None → shown_boolean s ≡ None → shown_text s ≡ None → ⊥
unfolding shown_int shown_boolean shown_text
shows-one (int i) e f g = cc
shows-one (text t) e f g = cc
shows-one (boolean b) e f g = cc
