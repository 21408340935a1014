-- Fields and directives on their types, one selection behind the other.
use Rattle.std.proofs.Common.{◌≡◌, ℕ, ◌+◌, ◌<◌, ◌≤◌, Bool, true, false, cond, List, [], ◌∷◌, ◌++◌, length, get_or, drop, Option, Some, None, Vec, Global, refl}
use Rattle.std.proofs.Common.{sym, ap, ◌∙◌}
use Rattle.std.proofs.lemmas.List.{append_assoc, append-nil, drop_all}
use Rattle.graphql_spec.specs.Shown.{Shown, Name}
use Rattle.graphql_spec.specs.Documents as spec
use Rattle.graphql_spec.specs.Documents.{Head, Directive, Selections, end, field, spread, inline, word_name}
use Rattle.graphql_spec.specs.Schema.{Schema, FieldDeclaration}
use Rattle.graphql_spec.specs.Fields.{field_of, type_named, is_composite}
use Rattle.graphql_spec.specs.Placed.{Placed, placed, placed_directives, placed_in, directives_placed, if_declared, if_composite, root_type}
use Rattle.graphql_spec.specs.Written.{own_directives}
use Rattle.std.specs.List.{flat_map}
use Rattle.juniper_syntax.specs.declared.position.Spanning.{Spanning}
use Rattle.juniper_syntax.specs.declared.position.Span.{Span}
use Rattle.juniper_syntax.specs.DocumentView.{put_selection, view_field, view_selections, view_set}
use Rattle.juniper_syntax.specs.declared.ast.Field.{Field as FieldType, out-Field}
use Rattle.juniper_syntax.specs.declared.ast.InlineFragment.{InlineFragment as InlineType, out-InlineFragment}
use Rattle.juniper_syntax.specs.declared.ast.FragmentSpread.{FragmentSpread as SpreadType}
use Rattle.juniper_syntax.specs.declared.ast.Selection.{Selection, Field, FragmentSpread, InlineFragment}
use Rattle.juniper_syntax.proofs.Documents.{put-Field, put-FragmentSpread, put-InlineFragment}
use Rattle.juniper_syntax.proofs.Lists.{left-is}
use Rattle.juniper_written.specs.WrittenView.{view_inline, view_spread_at}
use Rattle.juniper_type_rules.specs.Placing.{Parts, parts_in, parts_on, parts_of, joined, field_parts, directive_parts, type_below, type_inside}

-- ## Parts

-- a list of fields and a list of directives
abbrev pub made : List Placed → List Directive → Parts
made a d = record { fields = a; directives = d }

pub same-parts : (a a' : List Placed) (d d' : List Directive) → a ≡ a' → d ≡ d' → made a d ≡ made a' d'
same-parts a a' d d' p q = ap (λ x. made x d) p ∙ ap (λ x. made a' x) q

joined-assoc : (p q r : Parts) → joined (joined p q) r ≡ joined p (joined q r)
unfolding joined
joined-assoc p q r = same-parts _ _ _ _ (append_assoc p.fields q.fields r.fields) (append_assoc p.directives q.directives r.directives)

joined-none : (p : Parts) → joined p (made [] []) ≡ p
unfolding joined
joined-none p = same-parts _ _ _ _ (append-nil p.fields) (append-nil p.directives)

pub adds-directives : (old : Parts) (ds own : List Directive) → ds ≡ old.directives ++ own → made old.fields ds ≡ joined old (directive_parts own)
unfolding joined directive_parts
adds-directives old ds own e = same-parts _ _ _ _ (sym (append-nil old.fields)) e

module _ (s : Schema) (p : Name) where
  joined-end : (q : Parts) → joined q (parts_in s p end) ≡ q
  unfolding parts_in placed placed_directives
  joined-end q = joined-none q

  -- ## A field's head

  pub adds-known : (old : Parts) (h : Head) (d : FieldDeclaration) (fs : List Placed) (ds : List Directive) → field_of s p h.name.item ≡ Some d →
      fs ≡ old.fields ++ record { parent = p; head = h; declared = field_of s p h.name.item } ∷ [] → ds ≡ old.directives ++ h.directives →
      made fs ds ≡ joined old (field_parts s p h)
  unfolding joined field_parts if_declared
  adds-known old h d fs ds is f e =
      same-parts _ _ _ _ f (e ∙ ap (λ (o : Option FieldDeclaration). old.directives ++ if_declared s o (λ q. h.directives)) (sym is))

  pub adds-unknown : (old : Parts) (h : Head) (fs : List Placed) → field_of s p h.name.item ≡ None →
      fs ≡ old.fields ++ record { parent = p; head = h; declared = field_of s p h.name.item } ∷ [] → made fs old.directives ≡ joined old (field_parts s p h)
  unfolding joined field_parts if_declared
  adds-unknown old h fs is f = same-parts _ _ _ _ f (sym (append-nil old.directives)
      ∙ ap (λ (o : Option FieldDeclaration). old.directives ++ if_declared s o (λ q. h.directives)) (sym is))

  -- ## A selection before the rest

  below-fields : (o : Option FieldDeclaration) (below : Selections) → if_declared s o (λ q. placed s q below) ≡ (parts_on s (type_below o) below).fields
  unfolding if_declared type_below parts_on parts_in
  below-fields None below = refl
  below-fields (Some d) below = refl

  below-directives : (o : Option FieldDeclaration) (ds : List Directive) (below : Selections) →
      if_declared s o (λ q. ds ++ placed_directives s q below) ≡ if_declared s o (λ q. ds) ++ (parts_on s (type_below o) below).directives
  unfolding if_declared type_below parts_on parts_in
  below-directives None ds below = refl
  below-directives (Some d) ds below = refl

  field-parts : (h : Head) (below rest : Selections) → parts_in s p (field h below rest)
      ≡ joined (joined (field_parts s p h) (parts_on s (type_below (field_of s p h.name.item)) below)) (parts_in s p rest)
  unfolding joined parts_in field_parts placed placed_directives
  field-parts h below rest =
      let o = field_of s p h.name.item in
      let head : Placed = record { parent = p; head = h; declared = o } in
      same-parts _ _ _ _ (ap (λ l. head ∷ (l ++ placed s p rest)) (below-fields o below))
      (ap (λ l. l ++ placed_directives s p rest) (below-directives o h.directives below))

  spread-parts : (x : spec.Spread) (rest : Selections) → parts_in s p (spread x rest) ≡ joined (directive_parts x.directives) (parts_in s p rest)
  unfolding joined parts_in directive_parts placed placed_directives
  spread-parts x rest = refl

  cond-fields : (b : Bool) (c : Name) (below : Selections) → cond b (placed s c below) [] ≡ (parts_on s (cond b (Some c) None) below).fields
  unfolding parts_on parts_in
  cond-fields true c below = refl
  cond-fields false c below = refl

  cond-directives : (b : Bool) (c : Name) (below : Selections) → cond b (placed_directives s c below) [] ≡ (parts_on s (cond b (Some c) None) below).directives
  unfolding parts_on parts_in
  cond-directives true c below = refl
  cond-directives false c below = refl

  inside-fields : (o : Option Name) (below : Selections) → if_composite s p o (λ q. placed s q below) ≡ (parts_on s (type_inside s p o) below).fields
  unfolding if_composite type_inside parts_on parts_in
  inside-fields None below = refl
  inside-fields (Some c) below = cond-fields (is_composite (type_named s c)) c below

  inside-directives : (o : Option Name) (below : Selections) → if_composite s p o (λ q. placed_directives s q below)
      ≡ (parts_on s (type_inside s p o) below).directives
  unfolding if_composite type_inside parts_on parts_in
  inside-directives None below = refl
  inside-directives (Some c) below = cond-directives (is_composite (type_named s c)) c below

  inline-parts : (x : spec.Inline) (below rest : Selections) →
      parts_in s p (inline x below rest) ≡ joined (joined (directive_parts x.directives) (parts_on s (type_inside s p (word_name x.condition)) below))
      (parts_in s p rest)
  unfolding joined parts_in directive_parts placed placed_directives
  inline-parts x below rest =
      let o = word_name x.condition in
      same-parts _ _ _ _ (ap (λ l. l ++ placed s p rest) (inside-fields o below))
      (ap (λ l. x.directives ++ (l ++ placed_directives s p rest)) (inside-directives o below)
      ∙ sym (append_assoc x.directives (parts_on s (type_inside s p o) below).directives (placed_directives s p rest)))

-- ## What stands below or inside

module _ {S : Type 0} (shown : S → Shown) (s : Schema) (m : Parts) where
  pub set-below : (t : Option Name) (q : Name) (o : Option (Vec (Selection S) Global)) (v : Vec (Selection S) Global) (within : List (Selection S))
      (new : Parts) → t ≡ Some q → o ≡ Some v → within ≡ v.items →
      new ≡ joined m (parts_in s q (view_selections shown within)) → new ≡ joined m (parts_on s t (view_set shown o))
  unfolding parts_on
  set-below t q o v within new is set same e =
      e ∙ (ap (λ l. joined m (parts_in s q (view_selections shown l))) same
      ∙ (ap (λ x. joined m (parts_in s q (view_set shown x))) (sym set) ∙ ap (λ x. joined m (parts_on s x (view_set shown o))) (sym is)))

  at-end : (t : Option Name) → m ≡ joined m (parts_on s t end)
  unfolding parts_on
  at-end None = sym (joined-none m)
  at-end (Some q) = sym (joined-end s q m)

  pub leaf-below : (t : Option Name) (o : Option (Vec (Selection S) Global)) → o ≡ None → m ≡ joined m (parts_on s t (view_set shown o))
  leaf-below t o set = at-end t ∙ ap (λ x. joined m (parts_on s t (view_set shown x))) (sym set)

pub none-below : (s : Schema) (m : Parts) (t : Option Name) (x : Selections) → t ≡ None → m ≡ joined m (parts_on s t x)
unfolding parts_on
none-below s m t x is = sym (joined-none m) ∙ ap (λ y. joined m (parts_on s y x)) (sym is)

pub some-inside : (s : Schema) (m new : Parts) (t : Option Name) (q : Name) (x y : Selections) → t ≡ Some q → y ≡ x → new ≡ joined m (parts_in s q y) →
    new ≡ joined m (parts_on s t x)
unfolding parts_on
some-inside s m new t q x y is same e = e ∙ (ap (λ z. joined m (parts_in s q z)) same ∙ ap (λ z. joined m (parts_on s z x)) (sym is))

-- ## A selection of the code

module _ {S : Type 0} (shown : S → Shown) (s : Schema) (p : Name) (x : Selection S) (old new : Parts) where
  -- what was added stands before what follows
  abbrev pub IsAdded : Type 0
  IsAdded = (rest : Selections) → joined new (parts_in s p rest) ≡ joined old (parts_in s p (put_selection shown x rest))

  behind : (first below m : Parts) (rest : Selections) → m ≡ joined old first → new ≡ joined m below →
      joined new (parts_in s p rest) ≡ joined old (joined (joined first below) (parts_in s p rest))
  behind first below m rest one e =
      ap (λ q. joined q (parts_in s p rest)) (e ∙ ap (λ q. joined q below) one)
      ∙ (ap (λ q. joined q (parts_in s p rest)) (joined-assoc old first below) ∙ joined-assoc old (joined first below) (parts_in s p rest))

  pub adds-field : (f : Spanning (FieldType S) Span) (t : Option Name) (m : Parts) → x ≡ Field f →
      t ≡ type_below (field_of s p (view_field shown f).name.item) → m ≡ joined old (field_parts s p (view_field shown f)) →
      new ≡ joined m (parts_on s t (view_set shown (out-Field S f.item).selection_set)) → IsAdded
  adds-field f t m is type one e = λ rest.
      let below : Selections = view_set shown (out-Field S f.item).selection_set in
      behind (field_parts s p (view_field shown f)) (parts_on s t below) m rest one e
      ∙ (ap (λ o. joined old (joined (joined (field_parts s p (view_field shown f)) (parts_on s o below)) (parts_in s p rest))) type
      ∙ ap (joined old) (sym (ap (λ y. parts_in s p (put_selection shown y rest)) is
      ∙ (ap (parts_in s p) (put-Field shown f rest) ∙ field-parts s p (view_field shown f) below rest))))

  pub adds-spread : (f : Spanning (SpreadType S) Span) → x ≡ FragmentSpread f → new ≡ joined old (directive_parts (view_spread_at shown f).directives) → IsAdded
  adds-spread f is e = λ rest.
      ap (λ q. joined q (parts_in s p rest)) e ∙ (joined-assoc old (directive_parts (view_spread_at shown f).directives) (parts_in s p rest)
      ∙ ap (joined old) (sym (ap (λ y. parts_in s p (put_selection shown y rest)) is
      ∙ (ap (parts_in s p) (put-FragmentSpread shown f rest) ∙ spread-parts s p (view_spread_at shown f) rest))))

  pub adds-inline : (f : Spanning (InlineType S) Span) (t : Option Name) (m : Parts) → x ≡ InlineFragment f →
      t ≡ type_inside s p (word_name (view_inline shown f).condition) →
      m ≡ joined old (directive_parts (view_inline shown f).directives) →
      new ≡ joined m (parts_on s t (view_selections shown (out-InlineFragment S f.item).selection_set.items)) → IsAdded
  adds-inline f t m is type one e = λ rest.
      let first : Parts = directive_parts (view_inline shown f).directives in
      let below : Selections = view_selections shown (out-InlineFragment S f.item).selection_set.items in
      behind first (parts_on s t below) m rest one e
      ∙ (ap (λ o. joined old (joined (joined first (parts_on s o below)) (parts_in s p rest))) type
      ∙ ap (joined old) (sym (ap (λ y. parts_in s p (put_selection shown y rest)) is
      ∙ (ap (parts_in s p) (put-InlineFragment shown f rest) ∙ inline-parts s p (view_inline shown f) below rest))))

-- ## Selections of the code

module _ {S : Type 0} (shown : S → Shown) (s : Schema) (p : Name) (xs : List (Selection S)) (old : Parts) where
  -- what was added, with what is left, is the whole
  abbrev pub IsSoFar : ℕ → Parts → Type 0
  IsSoFar i q = joined q (parts_in s p (view_selections shown (drop i xs))) ≡ joined old (parts_in s p (view_selections shown xs))

  pub adds-next : (i : ℕ) (x : Selection S) (q now : Parts) → i < length xs → x ≡ get_or xs i x → IsSoFar i q → IsAdded shown s p x q now → IsSoFar (i + 1) now
  adds-next i x q now below is so_far one =
      one (view_selections shown (drop (i + 1) xs)) ∙ (ap (λ l. joined q (parts_in s p (view_selections shown l))) (sym (left-is xs i x below is)) ∙ so_far)

  pub adds-all : (i : ℕ) (q : Parts) → length xs ≤ i → IsSoFar i q → q ≡ joined old (parts_in s p (view_selections shown xs))
  adds-all i q past so_far =
      let none : joined q (parts_in s p (view_selections shown (drop i xs))) ≡ q = rw (drop_all i xs past) (joined-end s p q) in
      sym none ∙ so_far

-- ## Definitions

-- the parts of an operation whose root type is this one
abbrev on-root : Schema → spec.Operation → Option Name → Parts
on-root s o r = made (elim r [ None ↦ [] | Some p ↦ placed s p o.selections ])
    (elim r [ None ↦ [] | Some p ↦ own_directives (spec.operation o) ++ placed_directives s p o.selections ])

module _ (s : Schema) (v : Parts) (none : v ≡ made [] []) where
  pub operation-parts : (o : spec.Operation) (root : Name) (own ds : List Directive) (new : Parts) → Some root ≡ root_type s o.kind →
      own ≡ v.directives ++ o.directives →
      ds ≡ own ++ flat_map (λ x. x.directives) (spec.variables_of o) → new ≡ joined (made v.fields ds) (parts_in s root o.selections) →
      new ≡ parts_of s (spec.operation o)
  unfolding joined parts_in parts_of placed_in directives_placed own_directives
  operation-parts o root own ds new is first more e =
      let fm : List Directive = flat_map (λ x. x.directives) (spec.variables_of o) in
      let all : ds ≡ o.directives ++ fm = more ∙ (ap (λ l. l ++ fm) first ∙ ap (λ (q : Parts). (q.directives ++ o.directives) ++ fm) none) in
      e ∙ (ap (λ (q : Parts). joined (made q.fields ds) (parts_in s root o.selections)) none
      ∙ (ap (λ l. joined (made [] l) (parts_in s root o.selections)) all ∙ ap (on-root s o) is))

  pub rootless-parts : (o : spec.Operation) → None ≡ root_type s o.kind → v ≡ parts_of s (spec.operation o)
  unfolding parts_of placed_in directives_placed
  rootless-parts o is = none ∙ ap (on-root s o) is

  pub fragment-parts : (f : spec.Fragment) (ds : List Directive) (new : Parts) → is_composite (type_named s f.condition.item) ≡ true →
      ds ≡ v.directives ++ f.directives →
      new ≡ joined (made v.fields ds) (parts_in s f.condition.item f.selections) → new ≡ parts_of s (spec.fragment f)
  unfolding joined parts_in parts_of placed_in directives_placed own_directives if_composite
  fragment-parts f ds new is first e =
      let c = f.condition.item in
      let own : ds ≡ f.directives = first ∙ ap (λ (q : Parts). q.directives ++ f.directives) none in
      e ∙ (ap (λ (q : Parts). joined (made q.fields ds) (parts_in s c f.selections)) none ∙ (ap (λ l. joined (made [] l) (parts_in s c f.selections)) own
      ∙ ap (λ b. made (cond b (placed s c f.selections) []) (f.directives ++ cond b (placed_directives s c f.selections) [])) (sym is)))

  pub other-parts : (f : spec.Fragment) (ds : List Directive) → is_composite (type_named s f.condition.item) ≡ false → ds ≡ v.directives ++ f.directives →
      made v.fields ds ≡ parts_of s (spec.fragment f)
  unfolding parts_of placed_in directives_placed own_directives if_composite
  other-parts f ds is first =
      let c = f.condition.item in
      let own : ds ≡ f.directives ++ [] = first ∙ (ap (λ (q : Parts). q.directives ++ f.directives) none ∙ sym (append-nil f.directives)) in
      ap (λ (q : Parts). made q.fields ds) none ∙ (ap (made []) own
      ∙ ap (λ b. made (cond b (placed s c f.selections) []) (f.directives ++ cond b (placed_directives s c f.selections) [])) (sym is))
