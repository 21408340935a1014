-- Values that are the same mean the same, where no object has two fields of one key.
use Rattle.std.proofs.Common.{◌≡◌, Bool, true, false, ◌&&◌, ◌||◌, Option, Some, None, option_map, cond, bytes_eq, refl, sym, ap, ◌∙◌, inl, inr, subst, Equal}
use Rattle.std.proofs.lemmas.Bool.{cases_Bool, and_parts, and_from, or_parts}
use Rattle.graphql_spec.specs.Shown.{Name}
use Rattle.graphql_spec.specs.Inputs as inputs
use Rattle.graphql_spec.specs.Inputs.{Input, InputItems, InputFields, no_fields, input_field}
use Rattle.graphql_spec.specs.Constants.{insert, find, meaning, meanings, members, same_constant, same_constants, same_members}
use Rattle.graphql_spec.specs.Fits.{has_field}
use Rattle.graphql_spec.specs.Written.{field_repeats, item_repeats, fields_repeat}
use Rattle.graphql_spec.proofs.Lists.{same_refl, same_true}
use Rattle.graphql_spec.proofs.Members.{order, one_text, find-insert}
use Rattle.juniper_field_graph.specs.SameValues.{field_at, all_keyed, same_value, same_items, same_fields, passes}
use Rattle.juniper_field_graph.proofs.MemberMaps.{AllSame, Sorted, all-same, find-insert-other, insert-sorted, same-find, same_maybe}

-- ## What a key finds

members-sorted : (fs : InputFields) → Sorted (members fs)
unfolding Sorted members
members-sorted no_fields = tt
members-sorted (input_field k k_at v v_at rest) = insert-sorted k (meaning v) (members rest) (members-sorted rest)

apart : (q k : Name) → bytes_eq q k ≡ false → order q k ≡ Equal → ⊥
apart q k e o = let same : bytes_eq q k ≡ true = ap (λ z. bytes_eq z k) (one_text q k o) ∙ same_refl k in let g : true ≡ false = sym same ∙ e in cc

-- the first field of a key counts
members-find : (q : Name) (fs : InputFields) → find q (members fs) ≡ option_map meaning (field_at fs q)
unfolding members find field_at
members-find q no_fields = refl
members-find q (input_field k k_at v v_at rest) = elim (cases_Bool (bytes_eq q k)) [
  | inl e ↦ rw (e) (subst (λ z. find z (insert k (meaning v) (members rest)) ≡ Some (meaning v)) (sym (same_true q k e))
      (find-insert k (meaning v) (members rest)))
  | inr e ↦ rw (e) (find-insert-other q k (meaning v) (members rest) (apart q k e) ∙ members-find q rest)
]

found-has : (q : Name) (fs : InputFields) (v : Input) → field_at fs q ≡ Some v → has_field q fs ≡ true
unfolding field_at has_field
found-has q no_fields v e = cc
found-has q (input_field k k_at w w_at rest) v e = elim (cases_Bool (bytes_eq q k)) [
  | inl y ↦ rw (y) refl
  | inr y ↦ rw (y) (found-has q rest v (rw y at e))
]

has-found : (q : Name) (fs : InputFields) → has_field q fs ≡ true → (v : Input) × (field_at fs q ≡ Some v)
unfolding field_at has_field
has-found q no_fields e = cc
has-found q (input_field k k_at w w_at rest) e = elim (cases_Bool (bytes_eq q k)) [
  | inl y ↦ (w, rw (y) refl)
  | inr y ↦ (let r = has-found q rest (rw y at e) in (r.0, rw (y) r.1))
]

keyed-has : (gs fs : InputFields) → all_keyed gs fs ≡ true → (q : Name) (w : Input) → field_at gs q ≡ Some w → has_field q fs ≡ true
unfolding all_keyed field_at
keyed-has no_fields fs e q w f = cc
keyed-has (input_field k k_at v v_at rest) fs e q w f =
    let p = and_parts (has_field k fs) (all_keyed rest fs) e in
    elim (cases_Bool (bytes_eq q k)) [
      | inl y ↦ subst (λ z. has_field z fs ≡ true) (sym (same_true q k y)) p.0
      | inr y ↦ keyed-has rest fs p.1 q w (rw y at f)
    ]

has-keyed : (gs fs : InputFields) → fields_repeat gs ≡ false → ((q : Name) (w : Input) → field_at gs q ≡ Some w → has_field q fs ≡ true) →
    all_keyed gs fs ≡ true
unfolding all_keyed field_at fields_repeat
has-keyed no_fields fs n h = refl
has-keyed (input_field k k_at v v_at rest) fs n h =
    let r = or_parts (has_field k rest) (field_repeats v || fields_repeat rest) n in
    let t = or_parts (field_repeats v) (fields_repeat rest) r.1 in
    and_from (has_field k fs) (all_keyed rest fs) (h k v (rw (same_refl k) refl))
    (has-keyed rest fs t.1 (λ q w f. h q w (past q w r.0 f)))
  where
    past : (q : Name) (w : Input) → has_field k rest ≡ false → field_at rest q ≡ Some w → cond (bytes_eq q k) (Some v) (field_at rest q) ≡ Some w
    past q w free f = elim (cases_Bool (bytes_eq q k)) [
      | inl y ↦ (let g : has_field k rest ≡ true = subst (λ z. has_field z rest ≡ true) (same_true q k y) (found-has q rest w f) in
          let z : true ≡ false = sym g ∙ free in cc)
      | inr y ↦ rw (y) f
    ]

found-once : (q : Name) (gs : InputFields) (w : Input) → fields_repeat gs ≡ false → field_at gs q ≡ Some w → field_repeats w ≡ false
unfolding field_at fields_repeat
found-once q no_fields w n e = cc
found-once q (input_field k k_at v v_at rest) w n e =
    let r = or_parts (has_field k rest) (field_repeats v || fields_repeat rest) n in
    let t = or_parts (field_repeats v) (fields_repeat rest) r.1 in
    elim (cases_Bool (bytes_eq q k)) [
      | inl y ↦ (let f : Some v ≡ Some w = rw y at e in subst (λ z. field_repeats z ≡ false) (inside v w f) t.0)
      | inr y ↦ found-once q rest w t.1 (rw y at e)
    ]
  where
    inside : (v w : Input) → Some v ≡ Some w → v ≡ w
    inside v w f = cc

-- ## Fields, by their keys

-- the two mean the same exactly where they are the same
abbrev IsTold : Input → Input → Type 0
IsTold v w = same_value v w ≡ same_constant (meaning v) (meaning w)

alike : Option Input → Option Input → Bool
alike o p = same_maybe (option_map meaning o) (option_map meaning p)

iff : (x y : Bool) → (x ≡ true → y ≡ true) → (y ≡ true → x ≡ true) → x ≡ y
iff true y f g = sym (f refl)
iff false true f g = g refl
iff false false f g = refl

there-alike : (v : Input) (o : Option Input) → ((w : Input) → o ≡ Some w → IsTold v w) → passes (λ w. same_value v w) o ≡ alike (Some v) o
unfolding passes alike same_maybe
there-alike v None h = refl
there-alike v (Some w) h = h w refl

-- each of the first fields is told apart from what the second object has at its key
EachTold : InputFields → InputFields → Type 0
EachTold no_fields gs = Unit {0}
EachTold (input_field k k_at v v_at rest) gs = ((w : Input) → field_at gs k ≡ Some w → IsTold v w) × EachTold rest gs

fields-forth : (fs gs : InputFields) → EachTold fs gs → same_fields fs gs ≡ true → (q : Name) (v : Input) → field_at fs q ≡ Some v →
    alike (Some v) (field_at gs q) ≡ true
unfolding EachTold same_fields field_at
fields-forth no_fields gs h e q v f = cc
fields-forth (input_field k k_at u u_at rest) gs h e q v f =
    let p = and_parts (passes (λ w. same_value u w) (field_at gs k)) (same_fields rest gs) e in
    elim (cases_Bool (bytes_eq q k)) [
      | inl y ↦ (let g : Some u ≡ Some v = rw y at f in
          subst (λ z. alike (Some z) (field_at gs q) ≡ true) (inside u v g)
          (subst (λ z. alike (Some u) (field_at gs z) ≡ true) (sym (same_true q k y)) (sym (there-alike u (field_at gs k) h.0) ∙ p.0)))
      | inr y ↦ fields-forth rest gs h.1 p.1 q v (rw y at f)
    ]
  where
    inside : (v w : Input) → Some v ≡ Some w → v ≡ w
    inside v w f = cc

fields-back : (fs gs : InputFields) → EachTold fs gs → fields_repeat fs ≡ false →
    ((q : Name) (v : Input) → field_at fs q ≡ Some v → alike (Some v) (field_at gs q) ≡ true) → same_fields fs gs ≡ true
unfolding EachTold same_fields field_at fields_repeat
fields-back no_fields gs h n e = refl
fields-back (input_field k k_at u u_at rest) gs h n e =
    let r = or_parts (has_field k rest) (field_repeats u || fields_repeat rest) n in
    let t = or_parts (field_repeats u) (fields_repeat rest) r.1 in
    and_from (passes (λ w. same_value u w) (field_at gs k)) (same_fields rest gs) (there-alike u (field_at gs k) h.0 ∙ e k u (rw (same_refl k) refl))
    (fields-back rest gs h.1 t.1 (λ q v f. e q v (past q v r.0 f)))
  where
    past : (q : Name) (w : Input) → has_field k rest ≡ false → field_at rest q ≡ Some w → cond (bytes_eq q k) (Some u) (field_at rest q) ≡ Some w
    past q w free f = elim (cases_Bool (bytes_eq q k)) [
      | inl y ↦ (let g : has_field k rest ≡ true = subst (λ z. has_field z rest ≡ true) (same_true q k y) (found-has q rest w f) in
          let z : true ≡ false = sym g ∙ free in cc)
      | inr y ↦ rw (y) f
    ]

-- two objects
module _ (fs gs : InputFields) (once : fields_repeat fs ≡ false) (once' : fields_repeat gs ≡ false) (told : EachTold fs gs) where
  forth : (same_fields fs gs && all_keyed gs fs) ≡ true → AllSame (members fs) (members gs)
  unfolding same_maybe alike
  forth e q = let p = and_parts (same_fields fs gs) (all_keyed gs fs) e in
      rw (members-find q fs, members-find q gs) (go (field_at fs q) (field_at gs q) refl refl p.0 p.1)
    where
      go : (o p : Option Input) → field_at fs q ≡ o → field_at gs q ≡ p → same_fields fs gs ≡ true → all_keyed gs fs ≡ true →
          same_maybe (option_map meaning o) (option_map meaning p) ≡ true
      go None None f g a b = refl
      go None (Some w) f g a b = let r = has-found q fs (keyed-has gs fs b q w g) in let z : None ≡ Some r.0 = sym f ∙ r.1 in cc
      go (Some v) p f g a b = subst (λ z. alike (Some v) z ≡ true) g (fields-forth fs gs told a q v f)

  back : AllSame (members fs) (members gs) → (same_fields fs gs && all_keyed gs fs) ≡ true
  unfolding same_maybe alike
  back h = and_from (same_fields fs gs) (all_keyed gs fs)
      (fields-back fs gs told once (λ q v f. subst (λ z. same_maybe (option_map meaning z) (option_map meaning (field_at gs q)) ≡ true) f
      (rw (members-find q fs, members-find q gs) at (h q))))
      (has-keyed gs fs once' (λ q w g. keyed q w g (field_at fs q) refl))
    where
      keyed : (q : Name) (w : Input) → field_at gs q ≡ Some w → (o : Option Input) → field_at fs q ≡ o → has_field q fs ≡ true
      keyed q w g None f = let z : same_maybe None (Some (meaning w))
          ≡ true = subst (λ p. same_maybe None (option_map meaning p) ≡ true) g
          (subst (λ o. same_maybe (option_map meaning o) (option_map meaning (field_at gs q)) ≡ true) f (rw (members-find q fs, members-find q gs) at (h q))) in
          cc
      keyed q w g (Some v) f = found-has q fs v f

  fields-told : (same_fields fs gs && all_keyed gs fs) ≡ same_members (members fs) (members gs)
  fields-told = iff (same_fields fs gs && all_keyed gs fs) (same_members (members fs) (members gs))
      (λ e. all-same (members fs) (members gs) (members-sorted fs) (members-sorted gs) (forth e))
      (λ e. back (same-find (members fs) (members gs) e))

-- ## Values

mutual
  unfolding same_value same_constant meaning field_repeats item_repeats fields_repeat EachTold

  pub value-told : (v w : Input) → field_repeats v ≡ false → field_repeats w ≡ false → same_value v w ≡ same_constant (meaning v) (meaning w)
  value-told inputs.null inputs.null n m = refl
  value-told (inputs.scalar x) (inputs.scalar y) n m = refl
  value-told (inputs.enumerated x) (inputs.enumerated y) n m = refl
  value-told (inputs.variable x) (inputs.variable y) n m = refl
  value-told (inputs.list is) (inputs.list js) n m = items-told is js n m
  value-told (inputs.object fs) (inputs.object gs) n m = fields-told fs gs n m (each-told fs gs n m)
  value-told v w n m = refl

  items-told : (is js : InputItems) → item_repeats is ≡ false → item_repeats js ≡ false → same_items is js ≡ same_constants (meanings is) (meanings js)
  items-told inputs.no_items inputs.no_items n m = refl
  items-told (inputs.item v at is) (inputs.item w at' js) n m =
      let p = or_parts (field_repeats v) (item_repeats is) n in let q = or_parts (field_repeats w) (item_repeats js) m in
      (λ t. value-told v w p.0 q.0 t && items-told is js p.1 q.1 t)
  items-told is js n m = refl

  each-told : (fs gs : InputFields) → fields_repeat fs ≡ false → fields_repeat gs ≡ false → EachTold fs gs
  each-told no_fields gs n m = tt
  each-told (input_field k k_at v v_at rest) gs n m =
      let r = or_parts (has_field k rest) (field_repeats v || fields_repeat rest) n in
      let t = or_parts (field_repeats v) (fields_repeat rest) r.1 in
      ((λ w f. value-told v w t.0 (found-once k gs w m f)), each-told rest gs t.1 m)

-- the fields of two objects
pub object-told : (fs gs : InputFields) → fields_repeat fs ≡ false → fields_repeat gs ≡ false →
    (same_fields fs gs && all_keyed gs fs) ≡ same_members (members fs) (members gs)
object-told fs gs n m = fields-told fs gs n m (each-told fs gs n m)
