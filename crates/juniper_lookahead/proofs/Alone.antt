-- Fields that are added with their selections alone, one selection after the other.
use Rattle.std.proofs.Common.{◌≡◌, ℕ, ◌<◌, List, [], ◌∷◌, ◌++◌, None, Bor, length, get_or, map, take, drop, ap, ◌∙◌}
use Rattle.std.proofs.lemmas.List.Elements.{All-push, All-same}
use Rattle.graphql_spec.specs.Shown.{Shown}
use Rattle.graphql_spec.specs.Documents.{Selections}
use Rattle.juniper_syntax.specs.declared.position.Spanning.{Spanning}
use Rattle.juniper_syntax.specs.declared.position.Span.{Span}
use Rattle.juniper_syntax.specs.DocumentView.{put_selection, view_selections}
use Rattle.juniper_syntax.specs.declared.ast.Field.{Field as FieldType}
use Rattle.juniper_syntax.specs.declared.ast.Selection.{Selection}
use Rattle.juniper_syntax.proofs.Lists.{left-is}
use Rattle.juniper_lookahead.specs.Choices.{Choice}
use Rattle.juniper_lookahead.specs.Collected.{all_found, placed, view_found}
use Rattle.juniper_lookahead.specs.Parts.{IsPart}
use Rattle.juniper_lookahead.specs.Singles.{AreFoundAlone}
use Rattle.juniper_lookahead.specs.declared.parts.Part.TheVariants as part
use Rattle.juniper_lookahead.specs.declared.singles.Single.{Single}

module _ {S : Type 0} (shown : S → Shown) (h : Choice) (ss : List (Selection S)) where
  one-selection : (i : ℕ) (x : Selection S) (xs : List (Selection S)) → i < length ss → x ≡ get_or ss i x → xs ≡ take 1 (drop i ss) →
      view_selections shown xs ≡ put_selection shown x Selections.end
  one-selection i x xs below is e = ap (view_selections shown) (e ∙ ap (take 1) (left-is ss i x below is))

  -- a part that is a field is the one that its selection holds
  pub one-more-alone : (f : Bor (Spanning (FieldType S) Span)) (one : Bor (List (Selection S))) (xs made : List (Single S)) →
      made ≡ xs ++ record { field = f; alone = one } ∷ [] → (i n size : ℕ) (x : Selection S) → i < length ss → x ≡ get_or ss i x →
      IsPart shown h None (put_selection shown x) n size (part.Field f) → one.now ≡ take 1 (drop i ss) →
      AreFoundAlone shown h xs → AreFoundAlone shown h made
  one-more-alone f one xs made is i n size x below at has alone before =
      let here : all_found h (view_selections shown one.now) ≡ view_found shown h f.now ∷ [] =
      ap (λ s. all_found h s) (one-selection i x one.now below at alone) ∙ ap (map placed) has.alone in
      All-same (λ (s : Single S). all_found h (view_selections shown s.alone.now) ≡ view_found shown h s.field.now ∷ []) made
      (xs ++ record { field = f; alone = one } ∷ []) is
      (All-push (λ (s : Single S). all_found h (view_selections shown s.alone.now) ≡ view_found shown h s.field.now ∷ []) xs
      (record { field = f; alone = one }) before here)
