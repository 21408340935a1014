-- Groups are made, one occurrence after the other (6.3.2).
use Rattle.std.proofs.Common.{◌≡◌, ◌==◌, ℕ, ◌+◌, ◌-◌, ◌≤◌, ◌<◌, Bool, true, false, ◌||◌, cond, List, [], ◌∷◌, ◌++◌, length, get_or, map, take, drop}
use Rattle.std.proofs.Common.{slice_range, Vec, refl, sym, ap, ◌∙◌, subst, arith, inl, inr}
use Rattle.std.proofs.lemmas.Bool.{cases_Bool}
use Rattle.std.proofs.lemmas.List.{drop-append-le, length-append, length-drop, map-append, take_all}
use Rattle.std.specs.List.{IsDistinct, filter}
use Rattle.std.specs.declared.alloc.Global.{Global}
use Rattle.std.specs.Str.{bytes_eq}
use Rattle.graphql_spec.specs.Shown.{Shown, Name}
use Rattle.graphql_spec.specs.Documents.{Head, response_key}
use Rattle.graphql_spec.specs.Selections.{Occurrence, keys, with_key}
use Rattle.graphql_spec.proofs.Lists.{known, known-append, same_refl, same_sym, same_true}
use Rattle.juniper_walk.specs.Asking.{IsAskedOf}
use Rattle.juniper_walk.specs.FieldWords.{head_of}
use Rattle.juniper_walk.proofs.Slices.{split-one, taken-one}
use Rattle.juniper_lookahead.specs.Collected.{view_all, view_collected}
use Rattle.juniper_lookahead.specs.declared.collecting.Collector.{Collector}
use Rattle.juniper_lookahead.specs.declared.occurrences.Occurrence.{Occurrence as CodeOccurrence}
use Rattle.juniper_walk.proofs.Preparation.{same-head}
use Rattle.juniper_walk.specs.declared.plan.Group.{Group}
use Rattle.juniper_walk.specs.declared.plan.GroupRange.{GroupRange}
use Rattle.juniper_walk.specs.declared.plan.Plan.{Plan}
use Rattle.juniper_walk.specs.Plans.{AllAsked, AreAdded, IsGroupAdded, IsMade, IsNoneAdded, IsOneAdded, IsStanding, IsStep, fields_of, grouped_by, view_groups}
use Rattle.juniper_walk.proofs.Alone.{names_of, only-field}
use Rattle.juniper_walk.proofs.Kept.{none-in, not-empty}
use Rattle.juniper_walk.proofs.Keys.{no-key-more, one-key-more}
use Rattle.juniper_walk.proofs.Standing.{grown-none, grown-twice, longer, stands-none, stands-one, view-stays, within-drop}

seam : {A : Type 0} (xs ys : List A) → drop (length xs) (xs ++ ys) ≡ ys
seam [] ys = refl
seam (x ∷ xs) ys = seam xs ys

in-none : (j : Name) (xs ys : List Occurrence) (x : Occurrence) → j ≡ response_key x.head → with_key j (xs ++ x ∷ ys) ≡ [] → ⊥
unfolding with_key
in-none j [] ys x named none = absurd (let e : x ∷ with_key j ys ≡ [] = rw (subst (λ n. bytes_eq j n ≡ true) named (same_refl j)) at none in cc)
in-none j (y ∷ xs) ys x named none = elim (cases_Bool (bytes_eq j (response_key y.head))) [
  | inl f ↦ absurd (let e : y ∷ with_key j (xs ++ x ∷ ys) ≡ [] = rw f at none in cc)
  | inr f ↦ in-none j xs ys x named (rw f at none)
]

module _ {S P : Type 0} (shown : S → Shown) (c : Collector S P) where
  -- the fields of a response key
  abbrev pub has_key : Name → CodeOccurrence S → Bool
  has_key q o = bytes_eq q (response_key (head_of shown o.field.now))

  pub filter-key : (q : Name) (fs : List (CodeOccurrence S)) → view_all shown c (filter (has_key q) fs) ≡ with_key q (view_all shown c fs)
  unfolding with_key
  filter-key q [] = refl
  filter-key q (o ∷ fs) =
      let same : response_key (view_collected shown c o.field.now).head ≡ response_key (head_of shown o.field.now) =
      ap response_key (same-head shown c o.field.now) in
      elim (cases_Bool (bytes_eq q (response_key (head_of shown o.field.now)))) [
        | inl e ↦ rw (same, e) (ap (λ l. view_collected shown c o.field.now ∷ l) (filter-key q fs))
        | inr e ↦ rw (same, e) (filter-key q fs)
      ]

  -- a group that was added, behind those before it
  view-last : (os : List (CodeOccurrence S)) (gs : List Group) (g : Group) →
      view_groups shown c os (gs ++ g ∷ []) ≡ view_groups shown c os gs ++ (g.key.now, view_all shown c (fields_of os g)) ∷ []
  unfolding view_groups
  view-last os gs g = map-append (λ (h : Group). (h.key.now, view_all shown c (fields_of os h))) gs (g ∷ [])

  fields-last : (os more all : List (CodeOccurrence S)) (g : Group) → all ≡ os ++ more → g.first.0 ≡ length os → g.end.0 ≡ length all → fields_of all g ≡ more
  unfolding fields_of
  fields-last os more all g is first last =
      let n = ap length is ∙ length-append os more in
      ap (λ a. take (g.end.0 - a) (drop a all)) first
      ∙ (ap (λ l. take (g.end.0 - length os) (drop (length os) l)) is
      ∙ (ap (take (g.end.0 - length os)) (seam os more) ∙ take_all (g.end.0 - length os) more (omega (arith, n, last))))

module _ {S Q : Type 0} (shown : S → Shown) (asks : Head → Q → Type 0) (k : Name) (fields : Vec (CodeOccurrence S) Global) (b : Bool)
    (is : b ≡ (fields.len == 0)) where
  -- no group is added where there are no fields
  pub none-added : b ≡ true → (p : Plan S Q) → IsGroupAdded shown asks k fields.items p p
  none-added empty p = empty-added fields.items (none-in fields b is empty)
    where
      empty-added : (os : List (CodeOccurrence S)) → os ≡ [] → IsGroupAdded shown asks k os p p
      empty-added [] e = (record { groups = refl; occurrences = refl; questions = refl; below = refl; left = omega arith }, refl)
      empty-added (o ∷ os) e = absurd cc

  -- else one, with what the first of them asks
  pub first-added : b ≡ false → (x : CodeOccurrence S) (q : Q) → asks (head_of shown (get_or fields.items 0 x).field.now) q → (p r : Plan S Q) →
      IsOneAdded k fields.items q p r → IsGroupAdded shown asks k fields.items p r
  first-added some x q asked p r one = added fields.items (not-empty fields b is some) asked one
    where
      added : (os : List (CodeOccurrence S)) → (os ≡ [] → ⊥) → asks (head_of shown (get_or os 0 x).field.now) q → IsOneAdded k os q p r →
          IsGroupAdded shown asks k os p r
      added [] more asked one = absurd (more refl)
      added (o ∷ os) more asked one = record { question = q; asked = asked; one = one }

-- what one more asks is behind what those before it ask
asked-append : {Q : Type 0} (asks : Head → Q → Type 0) (oss : List (List Occurrence)) (qs : List Q) (os : List Occurrence) (q : Q) →
    AllAsked asks oss qs → IsAskedOf asks os q → AllAsked asks (oss ++ os ∷ []) (qs ++ q ∷ [])
asked-append asks [] [] os q all one = (one, tt)
asked-append asks [] (x ∷ qs) os q all one = absurd all
asked-append asks (ps ∷ oss) [] os q all one = absurd all
asked-append asks (ps ∷ oss) (x ∷ qs) os q all one = (all.0, asked-append asks oss qs os q all.1 one)

module _ {S P Q : Type 0} (shown : S → Shown) (c : Collector S P) (asks : Name → Head → Q → Type 0) where
  -- The first occurrences of these fields were put into groups of an object type, and the others are left
  pub record IsAdding (possible : Name → Name → Bool) (T : Name) (fields : List (CodeOccurrence S)) (i : ℕ) (p q : Plan S Q)
      (left : Name → List (CodeOccurrence S)) : Type 0 where
    pub step : IsStep shown c asks possible p q
    pub groups : view_groups shown c q.occurrences.items (drop (length p.groups.items) q.groups.items)
        ≡ map (λ k. (k, with_key k (view_all shown c fields))) (keys (view_all shown c (take i fields)))
    pub asked : AllAsked (asks T) (map (λ k. with_key k (view_all shown c fields)) (keys (view_all shown c (take i fields))))
        (drop (length p.groups.items) q.questions.items)
    pub fields_left : (k : Name) → left k ≡ cond (known k (keys (view_all shown c (take i fields)))) [] (filter (has_key shown c k) fields)
    pub budget : q.left ≡ p.left

  module _ (possible : Name → Name → Bool) (T : Name) (fields : List (CodeOccurrence S)) where
    pub start-adding : (p : Plan S Q) (left : Name → List (CodeOccurrence S)) → IsStanding shown c asks possible p →
        ((k : Name) → left k ≡ filter (has_key shown c k) fields) →
        IsAdding possible T fields 0 p p left
    unfolding view_groups keys known
    start-adding p left s all = record {
      step = record { standing = s; grown = grown-none p p refl refl refl (omega arith) };
      groups = ap (view_groups shown c p.occurrences.items) (seam-nil p.groups.items);
      asked = subst (AllAsked (asks T) []) (sym (ap (λ n. drop n p.questions.items) (sym s.asked) ∙ seam-nil p.questions.items)) tt;
      fields_left = λ k. all k;
      budget = refl;
    }
      where
        seam-nil : {A : Type 0} (xs : List A) → drop (length xs) xs ≡ []
        seam-nil [] = refl
        seam-nil (x ∷ xs) = seam-nil xs

    module _ (i : ℕ) (p q r : Plan S Q) (left further : Name → List (CodeOccurrence S)) (adding : IsAdding possible T fields i p q left) (o : CodeOccurrence S)
        (below : i < length fields) (is : o ≡ get_or fields i o) (k : Name) (named : k ≡ response_key (head_of shown o.field.now))
        (members : List (CodeOccurrence S)) (taken : members ≡ left k) (others : (j : Name) → further j ≡ cond (bytes_eq k j) [] (left j))
        (added : IsGroupAdded shown (asks T) k members q r) where
      abbrev os : List Occurrence
      os = view_all shown c fields

      abbrev front : List Occurrence
      front = view_all shown c (take i fields)

      here : k ≡ response_key (view_collected shown c o.field.now).head
      here = named ∙ sym (ap response_key (same-head shown c o.field.now))

      next : view_all shown c (take (i + 1) fields) ≡ front ++ view_collected shown c o.field.now ∷ []
      next = taken-one (λ (x : CodeOccurrence S). view_collected shown c x.field.now) fields i o below is

      -- ## Its response key was met before

      known-taken : known k (keys front) ≡ true → members ≡ []
      known-taken e = taken ∙ (adding.fields_left k ∙ rw e refl)

      known-keys : known k (keys front) ≡ true → keys (view_all shown c (take (i + 1) fields)) ≡ keys front
      known-keys e = ap keys next ∙ no-key-more front (view_collected shown c o.field.now) (subst (λ j. known j (keys front) ≡ true) here e)

      known-left : known k (keys front) ≡ true → (j : Name) → further j ≡ cond (known j (keys front)) [] (filter (has_key shown c j) fields)
      known-left e j = elim (cases_Bool (bytes_eq k j)) [
        | inl f ↦ others j ∙ (rw f (sym (ap (λ b. cond b [] (filter (has_key shown c j) fields))
            (subst (λ x. known x (keys front) ≡ true) (same-name k j f) e))))
        | inr f ↦ others j ∙ rw f (adding.fields_left j)
      ]
        where
          same-name : (a b : Name) → bytes_eq a b ≡ true → a ≡ b
          same-name a b f = same_true a b f

      met-before : known k (keys front) ≡ true → IsNoneAdded q r → r.left ≡ q.left → IsAdding possible T fields (i + 1) p r further
      unfolding view_groups
      met-before e none kept =
          let one = stands-none shown c asks possible q r adding.step.standing none in
          record {
            step = record { standing = one.standing; grown = grown-twice p q r adding.step.grown one.grown };
            groups = ap (λ l. view_groups shown c l (drop (length p.groups.items) r.groups.items)) none.occurrences
                ∙ (ap (λ l. view_groups shown c q.occurrences.items (drop (length p.groups.items) l)) none.groups
                ∙ (adding.groups ∙ ap (map (λ j. (j, with_key j os))) (sym (known-keys e))));
            asked = subst (λ l. AllAsked (asks T) (map (λ j. with_key j os) (keys (view_all shown c (take (i + 1) fields)))) (drop (length p.groups.items) l))
                (sym none.questions)
                (subst (λ l. AllAsked (asks T) (map (λ j. with_key j os) l) (drop (length p.groups.items) q.questions.items)) (sym (known-keys e))
                adding.asked);
            fields_left = λ j. known-left e j ∙ ap (λ ks. cond (known j ks) [] (filter (has_key shown c j) fields)) (sym (known-keys e));
            budget = kept ∙ adding.budget;
          }

      -- ## It is new

      new-taken : known k (keys front) ≡ false → members ≡ filter (has_key shown c k) fields
      new-taken e = taken ∙ (adding.fields_left k ∙ rw e refl)

      new-keys : known k (keys front) ≡ false → keys (view_all shown c (take (i + 1) fields)) ≡ keys front ++ k ∷ []
      new-keys e = ap keys next ∙ (one-key-more front (view_collected shown c o.field.now) (subst (λ j. known j (keys front) ≡ false) here e)
          ∙ ap (λ j. keys front ++ j ∷ []) (sym here))

      new-left : known k (keys front) ≡ false → (j : Name) → further j ≡ cond (known j (keys front ++ k ∷ [])) [] (filter (has_key shown c j) fields)
      unfolding known
      new-left e j =
          let both : known j (keys front ++ k ∷ []) ≡ (known j (keys front) || (bytes_eq j k || false)) = known-append j (keys front) (k ∷ []) in
          elim (cases_Bool (bytes_eq k j)) [
            | inl f ↦ others j ∙ rw (f, both, same_sym j k, f) (sym (ap (λ b. cond b [] (filter (has_key shown c j) fields)) (or-true (known j (keys front)))))
            | inr f ↦ others j ∙ rw (f, both, same_sym j k, f)
                (adding.fields_left j ∙ sym (ap (λ b. cond b [] (filter (has_key shown c j) fields)) (or-false (known j (keys front)))))
          ]
        where
          or-true : (b : Bool) → (b || (true || false)) ≡ true
          or-true true = refl
          or-true false = refl

          or-false : (b : Bool) → (b || (false || false)) ≡ b
          or-false true = refl
          or-false false = refl

      new-some : known k (keys front) ≡ false → members ≡ [] → ⊥
      new-some e none =
          let split = split-one (λ (x : CodeOccurrence S). view_collected shown c x.field.now) fields i o below is in
          let here_too : view_all shown c (filter (has_key shown c k) fields) ≡ [] = ap (view_all shown c) (sym (new-taken e) ∙ none) in
          in-none k front (view_all shown c (drop (i + 1) fields)) (view_collected shown c o.field.now) here
          (ap (with_key k) (sym split) ∙ (sym (filter-key shown c k fields) ∙ here_too))

      -- the first of its fields asks the question
      first-asked : known k (keys front) ≡ false → (m : CodeOccurrence S) (ms : List (CodeOccurrence S)) (x : Q) → members ≡ m ∷ ms →
          asks T (head_of shown m.field.now) x → IsAskedOf (asks T) (with_key k os) x
      first-asked e m ms x is asked = record {
        first = view_collected shown c m.field.now;
        others = view_all shown c ms;
        some = sym (filter-key shown c k fields) ∙ ap (view_all shown c) (sym (new-taken e) ∙ is);
        asked = subst (λ h. asks T h x) (sym (same-head shown c m.field.now)) asked;
      }

      new-group : known k (keys front) ≡ false → (x : Q) → IsAskedOf (asks T) (with_key k os) x → IsOneAdded k members x q r →
          IsAdding possible T fields (i + 1) p r further
      new-group e x asked one =
          let step = stands-one shown c asks possible k members x q r adding.step.standing one in
          let counted = adding.step.standing.asked in
          let long = longer p q adding.step.grown in
          let n = length p.groups.items in
          let groups : drop n r.groups.items ≡ drop n q.groups.items ++ one.added ∷ [] =
          ap (drop n) one.groups ∙ drop-append-le n q.groups.items (one.added ∷ []) long in
          let before : view_groups shown c r.occurrences.items (drop n q.groups.items) ≡ view_groups shown c q.occurrences.items (drop n q.groups.items) =
          ap (λ l. view_groups shown c l (drop n q.groups.items)) one.occurrences
          ∙ view-stays shown c q.occurrences.items members (drop n q.groups.items)
          (within-drop (length q.occurrences.items) q.groups.items n adding.step.standing.within) in
          let fields_are : view_all shown c (fields_of r.occurrences.items one.added) ≡ with_key k os =
          ap (view_all shown c) (fields-last shown c q.occurrences.items members r.occurrences.items one.added one.occurrences one.first one.end ∙ new-taken e)
          ∙ filter-key shown c k fields in
          let behind : drop n r.questions.items ≡ drop n q.questions.items ++ x ∷ [] =
          ap (drop n) one.questions ∙ drop-append-le n q.questions.items (x ∷ []) (omega (arith, long, counted)) in
          let lists : map (λ j. with_key j os) (keys (view_all shown c (take (i + 1) fields))) ≡ map (λ j. with_key j os) (keys front) ++ with_key k os ∷ [] =
          ap (map (λ j. with_key j os)) (new-keys e) ∙ map-append (λ j. with_key j os) (keys front) (k ∷ []) in
          record {
            step = record { standing = step.standing; grown = grown-twice p q r adding.step.grown step.grown };
            asked = subst (AllAsked (asks T) (map (λ j. with_key j os) (keys (view_all shown c (take (i + 1) fields))))) (sym behind)
                (subst (λ l. AllAsked (asks T) l (drop n q.questions.items ++ x ∷ [])) (sym lists)
                (asked-append (asks T) (map (λ j. with_key j os) (keys front)) (drop n q.questions.items) (with_key k os) x adding.asked asked));
            groups = ap (view_groups shown c r.occurrences.items) groups
                ∙ (view-last shown c r.occurrences.items (drop n q.groups.items) one.added
                ∙ (ap (λ l. l ++ (one.added.key.now, view_all shown c (fields_of r.occurrences.items one.added)) ∷ []) (before ∙ adding.groups)
                ∙ (ap (λ j. map (λ x. (x, with_key x os)) (keys front) ++ (j, view_all shown c (fields_of r.occurrences.items one.added)) ∷ []) one.key
                ∙ (ap (λ l. map (λ x. (x, with_key x os)) (keys front) ++ (k, l) ∷ []) fields_are
                ∙ (sym (map-append (λ x. (x, with_key x os)) (keys front) (k ∷ [])) ∙ ap (map (λ x. (x, with_key x os))) (sym (new-keys e)))))));
            fields_left = λ j. new-left e j ∙ ap (λ ks. cond (known j ks) [] (filter (has_key shown c j) fields)) (sym (new-keys e));
            budget = one.left ∙ adding.budget;
          }

      one-more : known k (keys front) ≡ false → (ms : List (CodeOccurrence S)) → members ≡ ms → IsGroupAdded shown (asks T) k ms q r →
          IsAdding possible T fields (i + 1) p r further
      one-more e [] is g = absurd (new-some e is)
      one-more e (m ∷ ms) is g =
          new-group e g.question (first-asked e m ms g.question is g.asked) (subst (λ l. IsOneAdded k l g.question q r) (sym is) g.one)

      pub one-added : IsAdding possible T fields (i + 1) p r further
      one-added = elim (cases_Bool (known k (keys front))) [
        | inl e ↦ let none = subst (λ l. IsGroupAdded shown (asks T) k l q r) (known-taken e) added in met-before e none.0 none.1
        | inr e ↦ one-more e members refl added
      ]

    -- ## Fields of which no two have one response key

    -- the fields of a response key, where none of the first ones has it
    abbrev pub left_at : ℕ → Name → List (CodeOccurrence S)
    left_at i k = cond (known k (keys (view_all shown c (take i fields)))) [] (filter (has_key shown c k) fields)

    pub start-alone : (p : Plan S Q) → IsStanding shown c asks possible p → IsAdding possible T fields 0 p p (left_at 0)
    unfolding keys known
    start-alone p s = start-adding p (left_at 0) s (λ k. refl)

    pub one-alone : (i : ℕ) (p q r : Plan S Q) → IsAdding possible T fields i p q (left_at i) → (o : CodeOccurrence S) → i < length fields →
        o ≡ get_or fields i o → (k : Name) → k ≡ response_key (head_of shown o.field.now) → IsDistinct bytes_eq (names_of shown c fields) → (x : Q) →
        asks T (head_of shown o.field.now) x → IsOneAdded k (o ∷ []) x q r → IsAdding possible T fields (i + 1) p r (left_at (i + 1))
    unfolding known
    one-alone i p q r adding o below is k named new x asked one =
        let front = view_all shown c (take i fields) in
        let (fresh, single) = only-field shown c fields i o new below is k named in
        let next : view_all shown c (take (i + 1) fields) ≡ front ++ view_collected shown c o.field.now ∷ [] =
        taken-one (λ (x : CodeOccurrence S). view_collected shown c x.field.now) fields i o below is in
        let here : k ≡ response_key (view_collected shown c o.field.now).head = named ∙ sym (ap response_key (same-head shown c o.field.now)) in
        let more : keys (view_all shown c (take (i + 1) fields)) ≡ keys front ++ k ∷ [] =
        ap keys next ∙ (one-key-more front (view_collected shown c o.field.now) (subst (λ j. known j (keys front) ≡ false) here fresh)
        ∙ ap (λ j. keys front ++ j ∷ []) (sym here)) in
        one-added i p q r (left_at i) (left_at (i + 1)) adding o below is k named (o ∷ []) (sym (rw fresh single))
        (λ j. ap (λ ks. cond (known j ks) [] (filter (has_key shown c j) fields)) more ∙ others (filter (has_key shown c j) fields) j (keys front))
        (record { question = x; asked = asked; one = one })
      where
        or-true : {A : Type 0} (b : Bool) (l : List A) → cond (b || (true || false)) [] l ≡ []
        or-true true l = refl
        or-true false l = refl

        or-false : {A : Type 0} (b : Bool) (l : List A) → cond (b || (false || false)) [] l ≡ cond b [] l
        or-false true l = refl
        or-false false l = refl

        others : {A : Type 0} (l : List A) (j : Name) (ks : List Name) → cond (known j (ks ++ k ∷ [])) [] l ≡ cond (bytes_eq k j) [] (cond (known j ks) [] l)
        others l j ks =
            let both : known j (ks ++ k ∷ []) ≡ (known j ks || (bytes_eq j k || false)) = known-append j ks (k ∷ []) in
            elim (cases_Bool (bytes_eq k j)) [
              | inl f ↦ rw (both, same_sym j k, f) (or-true (known j ks) l)
              | inr f ↦ rw (both, same_sym j k, f) (or-false (known j ks) l)
            ]

    -- all were put into groups
    pub all-added : (i : ℕ) (p q : Plan S Q) (left : Name → List (CodeOccurrence S)) → IsAdding possible T fields i p q left → length fields ≤ i →
        AreAdded shown c asks possible T (view_all shown c fields) p q
    unfolding grouped_by
    all-added i p q left adding past = record {
      step = adding.step;
      groups = adding.groups ∙ ap (λ l. map (λ k. (k, with_key k (view_all shown c fields))) (keys (view_all shown c l))) (take_all i fields past);
      asked = subst (λ l. AllAsked (asks T) (map (λ k. with_key k (view_all shown c fields)) (keys (view_all shown c l)))
          (drop (length p.groups.items) q.questions.items)) (take_all i fields past) adding.asked;
      left = adding.budget;
    }

  -- so a range that begins where the groups ended, and ends where they end now, stands for them
  pub made-added : (possible : Name → Name → Bool) (T : Name) (os : List Occurrence) (p q : Plan S Q) (r : GroupRange) →
      AreAdded shown c asks possible T os p q → r.first.0 ≡ length p.groups.items → r.end.0 ≡ length q.groups.items → IsMade shown c asks possible T os p q r
  made-added possible T os p q r added first last =
      let long = longer p q added.step.grown in
      let n = length p.groups.items in
      let size = length-drop n q.groups.items in
      let range : slice_range q.groups.items r.first.0 r.end.0 ≡ drop n q.groups.items =
      ap (λ a. take (r.end.0 - a) (drop a q.groups.items)) first ∙ take_all (r.end.0 - n) (drop n q.groups.items) (omega (arith, size, last)) in
      let counted = added.step.standing.asked in
      let many = length-drop n q.questions.items in
      let kept : slice_range q.questions.items r.first.0 r.end.0 ≡ drop n q.questions.items =
      ap (λ a. take (r.end.0 - a) (drop a q.questions.items)) first
      ∙ take_all (r.end.0 - n) (drop n q.questions.items) (omega (arith, many, counted, last)) in
      record {
        standing = added.step.standing;
        grown = added.step.grown;
        stands = record {
          ordered = omega (arith, long, first, last);
          inside = omega (arith, last);
          groups = ap (view_groups shown c q.occurrences.items) range ∙ added.groups;
          asked = subst (AllAsked (asks T) (map (λ k. with_key k os) (keys os))) (sym kept) added.asked;
        };
      }
