-- Two input values are equal exactly where they are the same value (this project's own).
use Rattle.std.proofs.Common.{◌≡◌, ◌==◌, Bool, true, false, ◌&&◌, refl, sym, ap, ap₂, ◌∙◌, true≢false}
use Rattle.std.specs.Str.{bytes_eq}
use Rattle.std.specs.Cmp.{both_ways, IsPartialEquivalence}
use Rattle.std.proofs.lemmas.Bool.{and_parts}
use Rattle.std.proofs.lemmas.Bool.Decides.{Decides-eqb, Decides-int_eq}
use Rattle.std.proofs.lemmas.Slice.Eq.{bytes_eq-Decides}
use Rattle.graphql_spec.specs.Shown.{Shown, int, text, boolean, same_shown, same_bool}
use Rattle.graphql_spec.specs.Positions.{Position, Span, same_position}
use Rattle.graphql_spec.specs.Inputs.{Input, InputItems, InputFields, null, scalar, enumerated, variable, list, object, no_items, item, no_fields, input_field}
use Rattle.juniper_lookahead.specs.InputEquality.{same_span, same_input, same_input_items, same_input_fields}

both : {p q : Bool} → p ≡ true → q ≡ true → (p && q) ≡ true
both e f = ap₂ (λ a b. a && b) e f

bool-is : (p q : Bool) → same_bool p q ≡ true → p ≡ q
unfolding same_bool
bool-is true q e = sym e
bool-is false true e = e
bool-is false false e = refl

shown-is : (s t : Shown) → same_shown s t ≡ true → s ≡ t
unfolding same_shown
shown-is (int i) (int j) e = ap int ((Decides-int_eq i j).0 e)
shown-is (int i) (text t) e = absurd (true≢false (sym e))
shown-is (int i) (boolean q) e = absurd (true≢false (sym e))
shown-is (text s) (int j) e = absurd (true≢false (sym e))
shown-is (text s) (text t) e = ap text ((bytes_eq-Decides s t).0 e)
shown-is (text s) (boolean q) e = absurd (true≢false (sym e))
shown-is (boolean p) (int j) e = absurd (true≢false (sym e))
shown-is (boolean p) (text t) e = absurd (true≢false (sym e))
shown-is (boolean p) (boolean q) e = ap boolean (bool-is p q e)

shown-self : (s : Shown) → same_shown s s ≡ true
unfolding same_shown same_bool
shown-self (int i) = (Decides-int_eq i i).1 refl
shown-self (text s) = (bytes_eq-Decides s s).1 refl
shown-self (boolean true) = refl
shown-self (boolean false) = refl

position-is : (p q : Position) → same_position p q ≡ true → p ≡ q
unfolding same_position
position-is p q e =
    let a = and_parts (p.index == q.index) ((p.line == q.line) && (p.column == q.column)) e in
    let b = and_parts (p.line == q.line) (p.column == q.column) a.1 in
    let i = (Decides-eqb p.index q.index).0 a.0 in
    let l = (Decides-eqb p.line q.line).0 b.0 in
    let c = (Decides-eqb p.column q.column).0 b.1 in
    λ k. record { index = i k; line = l k; column = c k }

position-self : (p : Position) → same_position p p ≡ true
unfolding same_position
position-self p = both ((Decides-eqb p.index p.index).1 refl) (both ((Decides-eqb p.line p.line).1 refl) ((Decides-eqb p.column p.column).1 refl))

span-is : (s t : Span) → same_span s t ≡ true → s ≡ t
unfolding same_span
span-is s t e =
    let a = and_parts (same_position s.start t.start) (same_position s.end t.end) e in
    let b = position-is s.start t.start a.0 in
    let c = position-is s.end t.end a.1 in
    λ k. record { start = b k; end = c k }

span-self : (s : Span) → same_span s s ≡ true
unfolding same_span
span-self s = both (position-self s.start) (position-self s.end)

mutual
  unfolding same_input

  pub same_input-is : (u v : Input) → same_input u v ≡ true → u ≡ v
  same_input-is null null e = refl
  same_input-is null (scalar y) e = absurd (true≢false (sym e))
  same_input-is null (enumerated y) e = absurd (true≢false (sym e))
  same_input-is null (variable y) e = absurd (true≢false (sym e))
  same_input-is null (list y) e = absurd (true≢false (sym e))
  same_input-is null (object y) e = absurd (true≢false (sym e))
  same_input-is (scalar x) null e = absurd (true≢false (sym e))
  same_input-is (scalar x) (scalar y) e = ap scalar (shown-is x y e)
  same_input-is (scalar x) (enumerated y) e = absurd (true≢false (sym e))
  same_input-is (scalar x) (variable y) e = absurd (true≢false (sym e))
  same_input-is (scalar x) (list y) e = absurd (true≢false (sym e))
  same_input-is (scalar x) (object y) e = absurd (true≢false (sym e))
  same_input-is (enumerated x) null e = absurd (true≢false (sym e))
  same_input-is (enumerated x) (scalar y) e = absurd (true≢false (sym e))
  same_input-is (enumerated x) (enumerated y) e = ap enumerated ((bytes_eq-Decides x y).0 e)
  same_input-is (enumerated x) (variable y) e = absurd (true≢false (sym e))
  same_input-is (enumerated x) (list y) e = absurd (true≢false (sym e))
  same_input-is (enumerated x) (object y) e = absurd (true≢false (sym e))
  same_input-is (variable x) null e = absurd (true≢false (sym e))
  same_input-is (variable x) (scalar y) e = absurd (true≢false (sym e))
  same_input-is (variable x) (enumerated y) e = absurd (true≢false (sym e))
  same_input-is (variable x) (variable y) e = ap variable ((bytes_eq-Decides x y).0 e)
  same_input-is (variable x) (list y) e = absurd (true≢false (sym e))
  same_input-is (variable x) (object y) e = absurd (true≢false (sym e))
  same_input-is (list x) null e = absurd (true≢false (sym e))
  same_input-is (list x) (scalar y) e = absurd (true≢false (sym e))
  same_input-is (list x) (enumerated y) e = absurd (true≢false (sym e))
  same_input-is (list x) (variable y) e = absurd (true≢false (sym e))
  same_input-is (list x) (list y) e = ap list (items-is x y e)
  same_input-is (list x) (object y) e = absurd (true≢false (sym e))
  same_input-is (object x) null e = absurd (true≢false (sym e))
  same_input-is (object x) (scalar y) e = absurd (true≢false (sym e))
  same_input-is (object x) (enumerated y) e = absurd (true≢false (sym e))
  same_input-is (object x) (variable y) e = absurd (true≢false (sym e))
  same_input-is (object x) (list y) e = absurd (true≢false (sym e))
  same_input-is (object x) (object y) e = ap object (fields-is x y e)

  items-is : (us vs : InputItems) → same_input_items us vs ≡ true → us ≡ vs
  items-is no_items no_items e = refl
  items-is no_items (item v v_at vs) e = absurd (true≢false (sym e))
  items-is (item u u_at us) no_items e = absurd (true≢false (sym e))
  items-is (item u u_at us) (item v v_at vs) e =
      let a = and_parts (same_span u_at v_at) (same_input u v && same_input_items us vs) e in
      let b = and_parts (same_input u v) (same_input_items us vs) a.1 in
      let x = same_input-is u v b.0 in
      let y = span-is u_at v_at a.0 in
      let z = items-is us vs b.1 in
      λ k. item (x k) (y k) (z k)

  fields-is : (us vs : InputFields) → same_input_fields us vs ≡ true → us ≡ vs
  fields-is no_fields no_fields e = refl
  fields-is no_fields (input_field l l_at v v_at vs) e = absurd (true≢false (sym e))
  fields-is (input_field k k_at u u_at us) no_fields e = absurd (true≢false (sym e))
  fields-is (input_field k k_at u u_at us) (input_field l l_at v v_at vs) e =
      let a = and_parts ((bytes_eq k l && same_span k_at l_at) && same_span u_at v_at) (same_input u v && same_input_fields us vs) e in
      let h = and_parts (bytes_eq k l && same_span k_at l_at) (same_span u_at v_at) a.0 in
      let p = and_parts (bytes_eq k l) (same_span k_at l_at) h.0 in
      let b = and_parts (same_input u v) (same_input_fields us vs) a.1 in
      let n = (bytes_eq-Decides k l).0 p.0 in
      let n_at = span-is k_at l_at p.1 in
      let x = same_input-is u v b.0 in
      let x_at = span-is u_at v_at h.1 in
      let z = fields-is us vs b.1 in
      λ j. input_field (n j) (n_at j) (x j) (x_at j) (z j)

mutual
  unfolding same_input

  pub same_input-self : (u : Input) → same_input u u ≡ true
  same_input-self null = refl
  same_input-self (scalar s) = shown-self s
  same_input-self (enumerated e) = (bytes_eq-Decides e e).1 refl
  same_input-self (variable x) = (bytes_eq-Decides x x).1 refl
  same_input-self (list is) = items-self is
  same_input-self (object fs) = fields-self fs

  items-self : (us : InputItems) → same_input_items us us ≡ true
  items-self no_items = refl
  items-self (item u at us) = both (span-self at) (both (same_input-self u) (items-self us))

  fields-self : (us : InputFields) → same_input_fields us us ≡ true
  fields-self no_fields = refl
  fields-self (input_field k k_at u u_at us) =
      both (both (both ((bytes_eq-Decides k k).1 refl) (span-self k_at)) (span-self u_at)) (both (same_input-self u) (fields-self us))

-- what holds only of one value and itself is symmetric and transitive
module _ {A : Type 0} (same : A → A → Bool) (is : (u v : A) → same u v ≡ true → u ≡ v) (self : (u : A) → same u u ≡ true) where
  turned : (u v : A) → same u v ≡ true → same v u ≡ true
  turned u v e = ap (same v) (is u v e) ∙ self v

  pub per-of : IsPartialEquivalence same
  per-of = record {
    symm = λ u v. both_ways (same u v) (same v u) (turned u v) (turned v u);
    trans = λ u v w e f. ap (λ x. same x w) (is u v e) ∙ f;
  }

pub same_input_per : IsPartialEquivalence same_input
same_input_per = per-of same_input same_input-is same_input-self

pub same_items_per : IsPartialEquivalence same_input_items
same_items_per = per-of same_input_items items-is items-self

pub same_fields_per : IsPartialEquivalence same_input_fields
same_fields_per = per-of same_input_fields fields-is fields-self
