-- A graph that is given one vertex more.
use Rattle.std.specs.Prelude.{ℕ, zero, suc, Bool, true, false, not, List, [], ◌∷◌, ◌++◌, ◌≡◌, ◌⊎◌, ◌<◌, Option, Some, None, length, nat_eq, cond}
use Rattle.std.specs.List.{slice_get}
use Rattle.std.specs.Option.{unwrap_or}
use Rattle.std.specs.Str.{bytes_eq}
use Rattle.std.proofs.lemmas.Bool.{and_from, and_parts, cases_Bool}
use Rattle.std.proofs.lemmas.List.{length-append}
use Rattle.std.proofs.Common.{refl, sym, ap, ◌∙◌, inl, inr, subst, arith}
use Rattle.graphql_spec.specs.Shown.{Name}
use Rattle.graphql_spec.specs.Types.{TypeRef}
use Rattle.graphql_spec.specs.Documents.{Head, response_key, written}
use Rattle.graphql_spec.specs.Arguments.{written_meaning}
use Rattle.graphql_spec.specs.Constants.{same_members}
use Rattle.graphql_spec.specs.Schema.{Schema}
use Rattle.graphql_spec.specs.Fields.{declared_type, field_of}
use Rattle.graphql_spec.specs.Merging.{types_agree}
use Rattle.graphql_spec.specs.Laws.{In}
use Rattle.graphql_spec.proofs.Grouping.{in_append, in_first, in_second}
use Rattle.graphql_spec.proofs.Lists.{same_refl, same_true}
use Rattle.graphql_spec.proofs.SameMeanings.{same_members-true}
use Rattle.juniper_merging.specs.MergingGraph.{FieldAt}
use Rattle.juniper_merging.specs.Standing.{AreNumbered, Grows}
use Rattle.juniper_merging.proofs.Places.{same-truth}
use Rattle.juniper_field_graph.specs.CallParts.{Part, call_parts}
use Rattle.juniper_field_graph.specs.GraphView.{head_or_none}
use Rattle.juniper_field_graph.specs.Keys.{AreOneEach, IsNumbered}
use Rattle.juniper_field_graph.specs.KindsView.{AreKept, HasKind, are_alike, has_type, number_among, same_call}
use Rattle.juniper_field_graph.proofs.Alike.{same_members-itself, types-same, types-turned, types-across}
use Rattle.juniper_field_graph.proofs.CallParts.{calls-told, parts-told}
use Rattle.juniper_field_graph.proofs.Numbered.{same-names, same-numbers, still-one-each}
use Rattle.juniper_field_graph.proofs.Numbering.{IsChosen, chosen, last-is, number-itself, old-or-last, same-number, stays, tells-chosen, tells-more}

-- ## Kinds

-- a number is added to the kinds of a key, or nothing is
pub record IsAdded (key : ℕ) (n : ℕ) (old new : ℕ → List ℕ) : Type 0 where
  pub grown : (k r : ℕ) → In r (old k) → In r (new k)
  pub only : (k r : ℕ) → In r (new k) → In r (old k) ⊎ ((k ≡ key) × (r ≡ n))

pub put-back : (old mid new : ℕ → List ℕ) (key : ℕ) (ks ls : List ℕ) (n : ℕ) → ks ≡ old key →
    ((k : ℕ) → mid k ≡ cond (nat_eq key k) [] (old k)) → ((k : ℕ) → new k ≡ cond (nat_eq key k) ls (mid k)) →
    (ls ≡ ks ++ n ∷ []) ⊎ (ls ≡ ks) → IsAdded key n old new
put-back old mid new key ks ls n is taken put added = record {
  grown = λ k r i. elim (cases_Bool (nat_eq key k)) [
    | inl e ↦ subst (In r) (sym (here k e)) (more added r (subst (In r) (old-here k e) i))
    | inr e ↦ subst (In r) (sym (there k e)) i
  ];
  only = λ k r i. elim (cases_Bool (nat_eq key k)) [
    | inl e ↦ elim (less added r (subst (In r) (here k e) i)) [
      | inl j ↦ inl (subst (In r) (sym (old-here k e)) j)
      | inr f ↦ inr (sym (same-number key k e), f)
    ]
    | inr e ↦ inl (subst (In r) (there k e) i)
  ];
}
  where
    here : (k : ℕ) → nat_eq key k ≡ true → new k ≡ ls
    here k e = put k ∙ (rw e refl)

    there : (k : ℕ) → nat_eq key k ≡ false → new k ≡ old k
    there k e = put k ∙ (rw e (taken k ∙ (rw e refl)))

    old-here : (k : ℕ) → nat_eq key k ≡ true → old k ≡ ks
    old-here k e = ap old (sym (same-number key k e)) ∙ sym is

    more : (ls ≡ ks ++ n ∷ []) ⊎ (ls ≡ ks) → (r : ℕ) → In r ks → In r ls
    more (inl e) r i = subst (In r) (sym e) (in_first r ks (n ∷ []) i)
    more (inr e) r i = subst (In r) (sym e) i

    less : (ls ≡ ks ++ n ∷ []) ⊎ (ls ≡ ks) → (r : ℕ) → In r ls → In r ks ⊎ (r ≡ n)
    less (inl e) r i = elim (in_append r ks (n ∷ []) (subst (In r) e i)) [ inl j ↦ inl j | inr (inl f) ↦ inr f | inr (inr j) ↦ absurd j ]
    less (inr e) r i = inl (subst (In r) e i)

-- a number that was put at the end of a key's kinds stands there
pub put-last : (mid new : ℕ → List ℕ) (key : ℕ) (ks ls : List ℕ) (n : ℕ) → ((k : ℕ) → new k ≡ cond (nat_eq key k) ls (mid k)) → ls ≡ ks ++ n ∷ [] →
    In n (new key)
put-last mid new key ks ls n put e = subst (In n) (sym (put key ∙ (rw (number-itself key) e))) (in_second n ks (n ∷ []) (inl refl))

-- ## A vertex that was there before

-- two fields that are alike and select nothing have one vertex
one-truth : (a b : Bool) → cond a b (not b) ≡ true → a ≡ b
one-truth true true e = refl
one-truth false false e = refl
one-truth true false e = cc
one-truth false true e = cc

pub alike-same : (v w : FieldAt) → are_alike v w ≡ true → v.below ≡ w.below → v ≡ w
unfolding are_alike
alike-same v w e below =
    let shapes = and_parts (nat_eq v.shape w.shape) _ e in
    let calls = and_parts (nat_eq v.call w.call) _ shapes.1 in
    let objects = and_parts (cond v.on_object w.on_object (not w.on_object)) _ calls.1 in
    let names = and_parts (bytes_eq v.parent w.parent) (nat_eq v.key w.key) objects.1 in
    let key = same-number v.key w.key names.1 in
    let parent = same_true v.parent w.parent names.0 in
    let on_object = one-truth v.on_object w.on_object objects.0 in
    let shape = same-number v.shape w.shape shapes.0 in
    let call = same-number v.call w.call calls.0 in
    λ t. record { key = key t; parent = parent t; on_object = on_object t; shape = shape t; call = call t; below = below t }

-- the number of a vertex that is the same, if there is one, else that of the new one
pub first-same : (vs : List FieldAt) (x : FieldAt) (o : Option ℕ) (n : ℕ) → n ≡ length vs → ((r : ℕ) → o ≡ Some r → slice_get vs r ≡ Some x) →
    slice_get (vs ++ x ∷ []) (unwrap_or o n) ≡ slice_get (vs ++ x ∷ []) n
first-same vs x None n count found = refl
first-same vs x (Some r) n count found = stays vs x r x (found r refl) ∙ sym (last-is vs x n (sym count))

-- ## Lists of one length

beside : {A B : Type 0} (xs : List A) (ys : List B) → length ys ≡ length xs → (i : ℕ) (x : A) → slice_get xs i ≡ Some x → (y : B) × (slice_get ys i ≡ Some y)
beside [] ys l i x e = cc
beside (z ∷ xs) [] l i x e = absurd (omega (arith, l))
beside (z ∷ xs) (y ∷ ys) l zero x e = (y, refl)
beside (z ∷ xs) (y ∷ ys) l (suc i) x e = beside xs ys (omega (arith, l)) i x e

-- ## Calls and their parts

same-parts-call : (k l : ℕ) (g h : Head) → call_parts k g ≡ call_parts l h → same_call g h ≡ true
same-parts-call k l g h e =
    let r = calls-told k l g h e in
    let us = written_meaning (written g.arguments) in
    let vs = written_meaning (written h.arguments) in
    and_from (bytes_eq g.name.item h.name.item) (same_members us vs) (subst (λ z. bytes_eq g.name.item z ≡ true) r.0 (same_refl g.name.item))
    (subst (λ z. same_members us z ≡ true) r.1 (same_members-itself us))

same-call-parts : (k l : ℕ) (g h : Head) → k ≡ l → same_call g h ≡ true → call_parts k g ≡ call_parts l h
same-call-parts k l g h key e =
    let us = written_meaning (written g.arguments) in
    let vs = written_meaning (written h.arguments) in
    let r = and_parts (bytes_eq g.name.item h.name.item) (same_members us vs) e in
    parts-told k l g h key (same_true g.name.item h.name.item r.0) (same_members-true us vs r.1)

-- ## A vertex more

abbrev pub head_in : List Head → ℕ → Head
head_in hs i = head_or_none (slice_get hs i)

module _ (s : Schema) (vs : List FieldAt) (ts : List TypeRef) (hs : List Head) (names names' : Name → Option ℕ) (calls calls' : List Part → Option ℕ)
    (shapes more : ℕ → List ℕ) (x : FieldAt) (t : TypeRef) (h : Head)
    (numbered : AreNumbered s vs (head_in hs)) (kept : AreKept s vs ts hs (head_in hs) names calls shapes)
    (typed : t ≡ declared_type (field_of s x.parent h.name.item))
    (name : IsNumbered (response_key h) x.key (length vs) names names')
    (call : IsNumbered (call_parts x.key h) x.call (length vs) calls calls')
    (added : IsAdded x.key (length vs) shapes more)
    (shape : x.shape ≡ number_among (λ v. v.shape) vs (λ r. has_type s t (slice_get ts r)) (shapes x.key))
    (own-shape : x.shape ≡ length vs → In (length vs) (more x.key)) where
  abbrev type_of : (ℕ → Head) → ℕ → FieldAt → TypeRef
  type_of heads i v = declared_type (field_of s v.parent (heads i).name.item)

  abbrev now : ℕ → Head
  now = head_in (hs ++ h ∷ [])

  head-kept : (i : ℕ) (v : FieldAt) → slice_get vs i ≡ Some v → head_in hs i ≡ now i
  head-kept i v e = let r = beside vs hs kept.headed i v e in ap head_or_none (r.1 ∙ sym (stays hs h i r.0 r.1))

  pub head-last : now (length vs) ≡ h
  unfolding head_or_none
  head-last = ap head_or_none (last-is hs h (length vs) kept.headed)

  shape-told : (r : ℕ) (w : FieldAt) → slice_get vs r ≡ Some w → has_type s t (slice_get ts r) ≡ types_agree s (type_of (head_in hs) r w) t
  unfolding has_type
  shape-told r w e = ap (has_type s t) (kept.types r w e)

  -- ## Numbers of names and of calls

  is-longer : length vs < length (vs ++ x ∷ [])
  is-longer = let l = length-append vs (x ∷ []) in omega (arith, l)

  named-now : (i : ℕ) (v : FieldAt) → slice_get (vs ++ x ∷ []) i ≡ Some v → names' (response_key (now i)) ≡ Some v.key
  named-now i v e = elim (old-or-last vs x i v e) [
    | inl f ↦ name.grown _ v.key (subst (λ (g : Head). names (response_key g) ≡ Some v.key) (head-kept i v f) (kept.named i v f))
    | inr (p, q) ↦ rw (p, q) (ap (λ (g : Head). names' (response_key g)) head-last ∙ name.own)
  ]

  called-now : (i : ℕ) (v : FieldAt) → slice_get (vs ++ x ∷ []) i ≡ Some v → calls' (call_parts v.key (now i)) ≡ Some v.call
  called-now i v e = elim (old-or-last vs x i v e) [
    | inl f ↦ call.grown _ v.call (subst (λ (g : Head). calls (call_parts v.key g) ≡ Some v.call) (head-kept i v f) (kept.called i v f))
    | inr (p, q) ↦ rw (p, q) (ap (λ (g : Head). calls' (call_parts x.key g)) head-last ∙ call.own)
  ]

  one-name-now : AreOneEach names' (length (vs ++ x ∷ []))
  one-name-now = still-one-each names names' (response_key h) x.key (length vs) (length (vs ++ x ∷ [])) kept.one_name name is-longer

  one-call-now : AreOneEach calls' (length (vs ++ x ∷ []))
  one-call-now = still-one-each calls calls' (call_parts x.key h) x.call (length vs) (length (vs ++ x ∷ [])) kept.one_call call is-longer

  keys-now : (i j : ℕ) (v w : FieldAt) → slice_get (vs ++ x ∷ []) i ≡ Some v → slice_get (vs ++ x ∷ []) j ≡ Some w →
      nat_eq v.key w.key ≡ bytes_eq (response_key (now i)) (response_key (now j))
  keys-now i j v w e f = same-truth (nat_eq v.key w.key) (bytes_eq (response_key (now i)) (response_key (now j)))
      (λ q. subst (λ z. bytes_eq (response_key (now i)) z ≡ true)
      (same-names names' (length (vs ++ x ∷ [])) one-name-now (response_key (now i)) (response_key (now j)) v.key w.key (named-now i v e) (named-now j w f) q)
      (same_refl (response_key (now i))))
      (λ q. same-numbers names' (response_key (now i)) (response_key (now j)) v.key w.key (named-now i v e) (named-now j w f)
      (same_true (response_key (now i)) (response_key (now j)) q))

  calls-now : (i j : ℕ) (v w : FieldAt) → slice_get (vs ++ x ∷ []) i ≡ Some v → slice_get (vs ++ x ∷ []) j ≡ Some w → nat_eq v.key w.key ≡ true →
      nat_eq v.call w.call ≡ same_call (now i) (now j)
  calls-now i j v w e f key = same-truth (nat_eq v.call w.call) (same_call (now i) (now j))
      (λ q. same-parts-call v.key w.key (now i) (now j) (same-names calls' (length (vs ++ x ∷ [])) one-call-now (call_parts v.key (now i))
      (call_parts w.key (now j)) v.call w.call (called-now i v e) (called-now j w f) q))
      (λ q. same-numbers calls' (call_parts v.key (now i)) (call_parts w.key (now j)) v.call w.call (called-now i v e) (called-now j w f)
      (same-call-parts v.key w.key (now i) (now j) (same-number v.key w.key key) q))

  -- ## What numbers say

  pub still-numbered : AreNumbered s (vs ++ x ∷ []) now
  still-numbered = record {
    keys = keys-now;
    shapes = tells-more (types_agree s) (types-same s) (types-turned s) (types-across s) (λ v. v.shape) vs x (type_of (head_in hs)) (type_of now)
        (λ i v e. ap (λ (g : Head). declared_type (field_of s v.parent g.name.item)) (head-kept i v e)) numbered.shapes
        (λ i v e k. tells-chosen (types_agree s) (types-same s) (types-turned s) (types-across s) (λ v. v.shape) vs (type_of (head_in hs))
        (λ r. has_type s t (slice_get ts r)) (shapes x.key) x.key t
        numbered.shapes (kept.keyed x.key) shape-told x.shape shape i v e k (kept.below i v e)
        (subst (λ z. HasKind (λ v. v.shape) vs (shapes z) v) k (kept.shaped i v e))
        ∙ ap (types_agree s (type_of (head_in hs) i v)) (typed ∙ ap (λ (g : Head). declared_type (field_of s x.parent g.name.item)) (sym head-last)));
    calls = calls-now;
  }

  last-there : slice_get (vs ++ x ∷ []) (length vs) ≡ Some x
  last-there = last-is vs x (length vs) refl

  longer : {A : Type 0} (ys : List A) (y : A) → length ys ≡ length vs → length (ys ++ y ∷ []) ≡ length (vs ++ x ∷ [])
  longer ys y e = let a = length-append ys (y ∷ []) in let b = length-append vs (x ∷ []) in omega (arith, a, b, e)

  -- what the new vertex's shape was chosen from
  abbrev WasChosen : Type 0
  WasChosen = IsChosen (λ v. v.shape) vs (λ r. has_type s t (slice_get ts r)) (shapes x.key) x.key (kept.keyed x.key) x.shape

  was-chosen : WasChosen
  was-chosen = chosen (λ v. v.shape) vs (λ r. has_type s t (slice_get ts r)) (shapes x.key) x.key (kept.keyed x.key) x.shape shape

  -- each vertex has a kind of its shape, also the new one
  shaped-now : (i : ℕ) (v : FieldAt) → slice_get (vs ++ x ∷ []) i ≡ Some v → HasKind (λ v. v.shape) (vs ++ x ∷ []) (more v.key) v
  shaped-now i v e = elim (old-or-last vs x i v e) [
    | inl f ↦ (let (r, w, inside, there, equal) = kept.shaped i v f in (r, w, added.grown v.key r inside, stays vs x r w there, equal))
    | inr (p, q) ↦ subst (λ (z : FieldAt). HasKind (λ v. v.shape) (vs ++ x ∷ []) (more z.key) z) (sym q)
        (elim was-chosen [
          | inl (r, w, inside, there, k, yes', equal) ↦ (r, w, added.grown x.key r inside, stays vs x r w there, sym equal)
          | inr (new, none') ↦ (length vs, x, own-shape new, last-there, refl)
        ])
  ]

  below-now : (i : ℕ) (v : FieldAt) → slice_get (vs ++ x ∷ []) i ≡ Some v → v.shape < length (vs ++ x ∷ [])
  below-now i v e = let l = length-append vs (x ∷ []) in elim (old-or-last vs x i v e) [
    | inl f ↦ (let b = kept.below i v f in omega (arith, b, l))
    | inr (p, q) ↦ subst (λ (z : FieldAt). z.shape < length (vs ++ x ∷ [])) (sym q) (elim was-chosen [
      | inl (r, w, inside, there, k, yes', equal) ↦ (let b = kept.below r w there in omega (arith, b, l, equal))
      | inr (new, none') ↦ omega (arith, new, l)
    ])
  ]

  pub still-kept : AreKept s (vs ++ x ∷ []) (ts ++ t ∷ []) (hs ++ h ∷ []) now names' calls' more
  still-kept = record {
    typed = longer ts t kept.typed;
    headed = longer hs h kept.headed;
    types = λ i v e. elim (old-or-last vs x i v e) [
      | inl f ↦ stays ts t i _ (kept.types i v f) ∙ ap (λ (g : Head). Some (declared_type (field_of s v.parent g.name.item))) (head-kept i v f)
      | inr (p, q) ↦ rw (p, q) (last-is ts t (length vs) kept.typed
          ∙ ap Some (typed ∙ ap (λ (g : Head). declared_type (field_of s x.parent g.name.item)) (sym head-last)))
    ];
    named = named-now;
    called = called-now;
    one_name = one-name-now;
    one_call = one-call-now;
    keyed = λ k r i. elim (added.only k r i) [
      | inl j ↦ (let (v, there, e) = kept.keyed k r j in (v, stays vs x r v there, e))
      | inr (p, q) ↦ (x, subst (λ m. slice_get (vs ++ x ∷ []) m ≡ Some x) (sym q) last-there, sym p)
    ];
    shaped = shaped-now;
    below = below-now;
  }

  pub has-grown : Grows vs (vs ++ x ∷ []) (head_in hs) now
  has-grown = record { kept = λ i v e. stays vs x i v e; words = head-kept }
