-- Nodes that refer to others by their places.
use Rattle.std.specs.Prelude.{ℕ, List, [], ◌∷◌, ◌++◌, ◌≡◌, ◌+◌, Option, Some, length}
use Rattle.std.specs.List.{slice_get}
use Rattle.std.proofs.lemmas.List.{length-append}
use Rattle.std.proofs.Common.{sym, ap, ◌∙◌, inl, inr, subst}
use Rattle.juniper_merging.specs.Numbered.{AreEntriesAt, ArePlaced, ArePartsAt, IsChildAt, IsEntryAt, IsNodeAt}
use Rattle.juniper_merging.specs.declared.nodes.Entry.{Entry}
use Rattle.juniper_merging.specs.declared.nodes.Node.{Node}
use Rattle.juniper_merging.specs.declared.uniting.United.{United}
use Rattle.juniper_merging.proofs.Making.{last-at, still-at}
use Rattle.juniper_merging.proofs.Tables.{one-of}

counts-more : {A B : Type 0} (xs : List A) (x : A) (ys zs : List B) (y : B) → length ys ≡ length xs → zs ≡ ys ++ y ∷ [] → length zs ≡ length (xs ++ x ∷ [])
counts-more xs x ys zs y e longer = ap length longer ∙ (length-append ys (y ∷ []) ∙ (ap (λ m. m + 1) e ∙ sym (length-append xs (x ∷ []))))

module _ (numbers : List ℕ) where
  pub more-entries-at : (old new longer : List Entry) (f e : Entry) → AreEntriesAt numbers old new → IsEntryAt numbers f e → longer ≡ new ++ e ∷ [] →
      AreEntriesAt numbers (old ++ f ∷ []) longer
  more-entries-at old new longer f e are is more = record {
    count = counts-more old f new longer e are.count more;
    each = λ p x at. elim (one-of new e x p (subst (λ l. slice_get l p ≡ Some x) more at)) [
      | inl q ↦ (let r = are.each p x q in (r.0, still-at old f r.0 p r.1, r.2))
      | inr q ↦ (f, ap (slice_get (old ++ f ∷ [])) (q.0 ∙ are.count) ∙ last-at old f, subst (IsEntryAt numbers f) q.1 is)
    ];
  }

  pub more-parts-at : (old new longer : List ℕ) (b a : ℕ) → ArePartsAt numbers old new → slice_get numbers a ≡ Some b → longer ≡ new ++ a ∷ [] →
      ArePartsAt numbers (old ++ b ∷ []) longer
  more-parts-at old new longer b a are is more = record {
    count = counts-more old b new longer a are.count more;
    each = λ p x at. elim (one-of new a x p (subst (λ l. slice_get l p ≡ Some x) more at)) [
      | inl q ↦ (let r = are.each p x q in (r.0, still-at old b r.0 p r.1, r.2))
      | inr q ↦ (b, ap (slice_get (old ++ b ∷ [])) (q.0 ∙ are.count) ∙ last-at old b, subst (λ y. slice_get numbers y ≡ Some b) q.1 is)
    ];
  }

  child-grown : (x : ℕ) (o p : Option ℕ) → IsChildAt numbers o p → IsChildAt (numbers ++ x ∷ []) o p
  child-grown x o p (inl r) = inl r
  child-grown x o p (inr r) = inr (r.0, r.1, r.2, r.3, still-at numbers x r.0 r.1 r.4)

  node-grown : (x : ℕ) (o n : Node) → IsNodeAt numbers o n → IsNodeAt (numbers ++ x ∷ []) o n
  node-grown x o n is = record {
    entries = record {
      count = is.entries.count;
      each = λ p e at. let r = is.entries.each p e at in
          (r.0, r.1, record { field = r.2.field; many = r.2.many; child = child-grown x r.0.child e.child r.2.child });
    };
    parts = record {
      count = is.parts.count;
      each = λ p a at. let r = is.parts.each p a at in (r.0, r.1, still-at numbers x r.0 a r.2);
    };
  }

  -- one node more
  pub numbered-more : (made : List United) (nodes longer : List Node) (more : List ℕ) (k : ℕ) (w : United) (n : Node) → ArePlaced made numbers nodes →
      slice_get made k ≡ Some w → more ≡ numbers ++ w.number ∷ [] → longer ≡ nodes ++ n ∷ [] → IsNodeAt numbers w.node n → ArePlaced made more longer
  numbered-more made nodes longer more k w n are there numbered behind is = record {
    count = counts-more nodes n numbers more w.number are.count numbered ∙ sym (ap length behind);
    each = λ a x at. elim (one-of nodes n x a (subst (λ l. slice_get l a ≡ Some x) behind at)) [
      | inl q ↦ (let r = are.each a x q in (
        r.0,
        r.1,
        r.2,
        subst (λ l. slice_get l a ≡ Some r.1.number) (sym numbered)
            (still-at numbers w.number r.1.number a r.3),
        subst (λ l. IsNodeAt l r.1.node x) (sym numbered) (node-grown w.number r.1.node x r.4),
      ))
      | inr q ↦ (
        k,
        w,
        there,
        subst (λ l. slice_get l a ≡ Some w.number) (sym numbered)
            (ap (slice_get (numbers ++ w.number ∷ [])) (q.0 ∙ sym are.count) ∙ last-at numbers w.number),
        subst (λ l. IsNodeAt l w.node x) (sym numbered) (subst (IsNodeAt (numbers ++ w.number ∷ []) w.node) q.1 (node-grown w.number w.node n is)),
      )
    ];
  }
