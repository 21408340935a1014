-- What is written, one selection behind the other.
use Rattle.std.proofs.Common.{◌≡◌, ℕ, ◌+◌, ◌<◌, ◌≤◌, List, [], ◌∷◌, ◌++◌, length, get_or, drop, Option, Some, None, Vec, Global, refl, sym, ap, ◌∙◌}
use Rattle.std.proofs.lemmas.List.{append_assoc, append-nil, drop_all}
use Rattle.graphql_spec.specs.Shown.{Shown, Name}
use Rattle.graphql_spec.specs.Documents as spec
use Rattle.graphql_spec.specs.Documents.{Word, Head, Directive, Selections, end, field, spread, inline}
use Rattle.graphql_spec.specs.Fragments.{spreads}
use Rattle.std.specs.List.{flat_map}
use Rattle.graphql_spec.specs.Written.{heads, conditions, directives_in, selections_of, all_conditions, all_directives, own_directives}
use Rattle.juniper_syntax.specs.declared.position.Spanning.{Spanning}
use Rattle.juniper_syntax.specs.declared.position.Span.{Span}
use Rattle.juniper_syntax.specs.DocumentView.{put_selection, view_field, view_selections, view_set}
use Rattle.juniper_syntax.specs.declared.ast.Field.{Field as FieldType, out-Field}
use Rattle.juniper_syntax.specs.declared.ast.InlineFragment.{InlineFragment as InlineType, out-InlineFragment}
use Rattle.juniper_syntax.specs.declared.ast.FragmentSpread.{FragmentSpread as SpreadType}
use Rattle.juniper_syntax.specs.declared.ast.Selection.{Selection, Field, FragmentSpread, InlineFragment}
use Rattle.juniper_syntax.proofs.Documents.{put-Field, put-FragmentSpread, put-InlineFragment}
use Rattle.juniper_syntax.proofs.Lists.{left-is}
use Rattle.juniper_written.specs.Parts.{Parts, parts_in, parts_of, joined, field_parts, spread_parts, inline_parts, condition_names}
use Rattle.juniper_written.specs.WrittenView.{view_inline, view_spread_at}

-- ## Parts

-- lists kind by kind
abbrev pub made : List Head → List Name → List Name → List Directive → Parts
made a b c d = record { fields = a; spreads = b; conditions = c; directives = d }

same-parts : (a a' : List Head) (b b' c c' : List Name) (d d' : List Directive) → a ≡ a' → b ≡ b' → c ≡ c' → d ≡ d' → made a b c d ≡ made a' b' c' d'
same-parts a a' b b' c c' d d' p q r s =
    ap (λ x. made x b c d) p ∙ (ap (λ x. made a' x c d) q ∙ (ap (λ x. made a' b' x d) r ∙ ap (λ x. made a' b' c' x) s))

pub joined-assoc : (p q r : Parts) → joined (joined p q) r ≡ joined p (joined q r)
unfolding joined
joined-assoc p q r =
    same-parts _ _ _ _ _ _ _ _ (append_assoc p.fields q.fields r.fields) (append_assoc p.spreads q.spreads r.spreads)
    (append_assoc p.conditions q.conditions r.conditions) (append_assoc p.directives q.directives r.directives)

pub joined-end : (p : Parts) → joined p (parts_in end) ≡ p
unfolding joined parts_in heads spreads conditions directives_in
joined-end p = same-parts _ _ _ _ _ _ _ _ (append-nil p.fields) (append-nil p.spreads) (append-nil p.conditions) (append-nil p.directives)

pub adds-head : (old : Parts) (h : Head) (fs : List Head) (ds : List Directive) → fs ≡ old.fields ++ h ∷ [] → ds ≡ old.directives ++ h.directives →
    made fs old.spreads old.conditions ds ≡ joined old (field_parts h)
unfolding joined field_parts
adds-head old h fs ds f d = same-parts _ _ _ _ _ _ _ _ f (sym (append-nil old.spreads)) (sym (append-nil old.conditions)) d

pub adds-spread-head : (old : Parts) (x : spec.Spread) (ns : List Name) (ds : List Directive) → ns ≡ old.spreads ++ x.name.item ∷ [] →
    ds ≡ old.directives ++ x.directives →
    made old.fields ns old.conditions ds ≡ joined old (spread_parts x)
unfolding joined spread_parts
adds-spread-head old x ns ds n d = same-parts _ _ _ _ _ _ _ _ (sym (append-nil old.fields)) n (sym (append-nil old.conditions)) d

pub adds-inline-head : (old m : Parts) (x : spec.Inline) (ds : List Directive) → m.fields ≡ old.fields → m.spreads ≡ old.spreads →
    m.conditions ≡ old.conditions ++ condition_names x.condition →
    ds ≡ old.directives ++ x.directives → made m.fields m.spreads m.conditions ds ≡ joined old (inline_parts x)
unfolding joined inline_parts
adds-inline-head old m x ds f n k d = same-parts _ _ _ _ _ _ _ _ (f ∙ sym (append-nil old.fields)) (n ∙ sym (append-nil old.spreads)) k d

-- ## A selection before the rest

field-parts : (h : Head) (below rest : Selections) → parts_in (field h below rest) ≡ joined (joined (field_parts h) (parts_in below)) (parts_in rest)
unfolding joined parts_in field_parts heads spreads conditions directives_in
field-parts h below rest = same-parts _ _ _ _ _ _ _ _ refl refl refl (sym (append_assoc h.directives (directives_in below) (directives_in rest)))

spread-parts : (x : spec.Spread) (rest : Selections) → parts_in (spread x rest) ≡ joined (spread_parts x) (parts_in rest)
unfolding joined parts_in spread_parts heads spreads conditions directives_in
spread-parts x rest = refl

conditions-inline : (o : Option Word) (x : spec.Inline) (below rest : Selections) → x.condition ≡ o →
    conditions (inline x below rest) ≡ (condition_names o ++ conditions below) ++ conditions rest
unfolding conditions condition_names
conditions-inline None x below rest is = rw is refl
conditions-inline (Some w) x below rest is = rw is refl

inline-parts : (x : spec.Inline) (below rest : Selections) → parts_in (inline x below rest) ≡ joined (joined (inline_parts x) (parts_in below)) (parts_in rest)
unfolding joined parts_in inline_parts heads spreads directives_in
inline-parts x below rest = same-parts _ _ _ _ _ _ _ _ refl refl (conditions-inline x.condition x below rest refl)
    (sym (append_assoc x.directives (directives_in below) (directives_in rest)))

-- ## A selection of the code

module _ {S : Type 0} (shown : S → Shown) (x : Selection S) (old new : Parts) where
  -- what was added stands before what follows
  abbrev pub IsAdded : Type 0
  IsAdded = (rest : Selections) → joined new (parts_in rest) ≡ joined old (parts_in (put_selection shown x rest))

  at-field : (s : Spanning (FieldType S) Span) (o : Option (Vec (Selection S) Global)) (rest : Selections) → x ≡ Field s →
      (out-Field S s.item).selection_set ≡ o →
      parts_in (put_selection shown x rest) ≡ joined (joined (field_parts (view_field shown s)) (parts_in (view_set shown o))) (parts_in rest)
  at-field s o rest is set =
      ap (λ y. parts_in (put_selection shown y rest)) is ∙ (ap parts_in (put-Field shown s rest)
      ∙ (field-parts (view_field shown s) (view_set shown (out-Field S s.item).selection_set) rest
      ∙ ap (λ v. joined (joined (field_parts (view_field shown s)) (parts_in (view_set shown v))) (parts_in rest)) set))

  pub adds-leaf : (s : Spanning (FieldType S) Span) → x ≡ Field s → (out-Field S s.item).selection_set ≡ None →
      new ≡ joined old (field_parts (view_field shown s)) → IsAdded
  adds-leaf s is none e = λ rest.
      let first : Parts = field_parts (view_field shown s) in
      ap (λ p. joined p (parts_in rest)) e ∙ (joined-assoc old first (parts_in rest)
      ∙ ap (joined old) (ap (λ p. joined p (parts_in rest)) (sym (joined-end first)) ∙ sym (at-field s None rest is none)))

  pub adds-set : (s : Spanning (FieldType S) Span) (v : Vec (Selection S) Global) (within : List (Selection S)) (m : Parts) → x ≡ Field s →
      (out-Field S s.item).selection_set ≡ Some v →
      within ≡ v.items → m ≡ joined old (field_parts (view_field shown s)) → new ≡ joined m (parts_in (view_selections shown within)) → IsAdded
  adds-set s v within m is some same first e = λ rest.
      let head : Parts = field_parts (view_field shown s) in
      let below : Parts = parts_in (view_selections shown within) in
      ap (λ p. joined p (parts_in rest)) (e ∙ ap (λ p. joined p below) first)
      ∙ (ap (λ p. joined p (parts_in rest)) (joined-assoc old head below)
      ∙ (joined-assoc old (joined head below) (parts_in rest)
      ∙ ap (joined old) (ap (λ l. joined (joined head (parts_in (view_selections shown l))) (parts_in rest)) same ∙ sym (at-field s (Some v) rest is some))))

  pub adds-spread : (s : Spanning (SpreadType S) Span) → x ≡ FragmentSpread s → new ≡ joined old (spread_parts (view_spread_at shown s)) → IsAdded
  adds-spread s is e = λ rest.
      ap (λ p. joined p (parts_in rest)) e ∙ (joined-assoc old (spread_parts (view_spread_at shown s)) (parts_in rest)
      ∙ ap (joined old) (sym (ap (λ y. parts_in (put_selection shown y rest)) is
      ∙ (ap parts_in (put-FragmentSpread shown s rest) ∙ spread-parts (view_spread_at shown s) rest))))

  pub adds-inline : (s : Spanning (InlineType S) Span) (within : List (Selection S)) (m : Parts) → x ≡ InlineFragment s →
      within ≡ (out-InlineFragment S s.item).selection_set.items →
      m ≡ joined old (inline_parts (view_inline shown s)) → new ≡ joined m (parts_in (view_selections shown within)) → IsAdded
  adds-inline s within m is same first e = λ rest.
      let head : Parts = inline_parts (view_inline shown s) in
      let below : Parts = parts_in (view_selections shown within) in
      ap (λ p. joined p (parts_in rest)) (e ∙ ap (λ p. joined p below) first)
      ∙ (ap (λ p. joined p (parts_in rest)) (joined-assoc old head below)
      ∙ (joined-assoc old (joined head below) (parts_in rest)
      ∙ ap (joined old) (ap (λ l. joined (joined head (parts_in (view_selections shown l))) (parts_in rest)) same
      ∙ sym (ap (λ y. parts_in (put_selection shown y rest)) is ∙ (ap parts_in (put-InlineFragment shown s rest)
      ∙ inline-parts (view_inline shown s) (view_selections shown (out-InlineFragment S s.item).selection_set.items) rest)))))

-- ## Selections of the code

module _ {S : Type 0} (shown : S → Shown) (xs : List (Selection S)) (old : Parts) where
  -- what was added, with what is left, is the whole
  abbrev pub IsSoFar : ℕ → Parts → Type 0
  IsSoFar i p = joined p (parts_in (view_selections shown (drop i xs))) ≡ joined old (parts_in (view_selections shown xs))

  pub adds-next : (i : ℕ) (x : Selection S) (p made : Parts) → i < length xs → x ≡ get_or xs i x → IsSoFar i p → IsAdded shown x p made → IsSoFar (i + 1) made
  adds-next i x p made below is so_far one =
      one (view_selections shown (drop (i + 1) xs)) ∙ (ap (λ l. joined p (parts_in (view_selections shown l))) (sym (left-is xs i x below is)) ∙ so_far)

  pub adds-all : (i : ℕ) (p : Parts) → length xs ≤ i → IsSoFar i p → p ≡ joined old (parts_in (view_selections shown xs))
  adds-all i p past so_far =
      let none : joined p (parts_in (view_selections shown (drop i xs))) ≡ p = rw (drop_all i xs past) (joined-end p) in
      sym none ∙ so_far

-- ## Definitions

pub operation-parts : (o : spec.Operation) (v p : Parts) (own ds : List Directive) → v ≡ made [] [] [] [] → own ≡ v.directives ++ o.directives →
    ds ≡ own ++ flat_map (λ x. x.directives) (spec.variables_of o) →
    p ≡ joined (made v.fields v.spreads v.conditions ds) (parts_in o.selections) → p ≡ parts_of (spec.operation o)
unfolding joined parts_in parts_of selections_of all_conditions all_directives own_directives
operation-parts o v p own ds none first more e =
    let fm : List Directive = flat_map (λ x. x.directives) (spec.variables_of o) in
    let is : ds ≡ o.directives ++ fm = more ∙ (ap (λ l. l ++ fm) first ∙ ap (λ (q : Parts). (q.directives ++ o.directives) ++ fm) none) in
    e ∙ (ap (λ (q : Parts). joined (made q.fields q.spreads q.conditions ds) (parts_in o.selections)) none
    ∙ ap (λ l. joined (made [] [] [] l) (parts_in o.selections)) is)

pub fragment-parts : (f : spec.Fragment) (v p : Parts) (ns : List Name) (ds : List Directive) → v ≡ made [] [] [] [] →
    ns ≡ v.conditions ++ f.condition.item ∷ [] → ds ≡ v.directives ++ f.directives →
    p ≡ joined (made v.fields v.spreads ns ds) (parts_in f.selections) → p ≡ parts_of (spec.fragment f)
unfolding joined parts_in parts_of selections_of all_conditions all_directives own_directives
fragment-parts f v p ns ds none condition first e =
    let names : ns ≡ f.condition.item ∷ [] = condition ∙ ap (λ (q : Parts). q.conditions ++ f.condition.item ∷ []) none in
    let is : ds ≡ f.directives = first ∙ ap (λ (q : Parts). q.directives ++ f.directives) none in
    e ∙ (ap (λ (q : Parts). joined (made q.fields q.spreads ns ds) (parts_in f.selections)) none
    ∙ (ap (λ l. joined (made [] [] l ds) (parts_in f.selections)) names ∙ ap (λ l. joined (made [] [] (f.condition.item ∷ []) l) (parts_in f.selections)) is))
