-- `==` of errors compares what they show.
use Rattle.std.proofs.Common.{◌≡◌, List, [], ◌∷◌, map, ℕ, Bool, true, false, ◌&&◌, string_bytes, refl, sym, ap, ap₂, subst, ◌∙◌}
use Rattle.std.specs.Cmp.Lexicographic.{pointwise}
use Rattle.std.specs.Str.{bytes_eq}
use Rattle.std.proofs.lemmas.Bool.{both_ways, and_parts, and_from}
use Rattle.std.proofs.lemmas.Bool.Decides.{Decides-eqb}
use Rattle.graphql_spec.specs.Positions.{same_position}
use Rattle.graphql_spec.specs.Values.{same_value}
use Rattle.graphql_spec.specs.Resolvers.{Error}
use Rattle.graphql_spec.specs.Shown.{Name}
use Rattle.graphql_spec.specs.Errors.{Place, Step, Listed, key, index}
use Rattle.graphql_spec.proofs.Lists.{same_true, same_refl}
use Rattle.juniper_conversions.specs.SegmentView.{view_segment}
use Rattle.juniper_conversions.specs.declared.segment.PathSegment.{PathSegment}
use Rattle.juniper_conversions.specs.declared.segment.PathSegment.TheVariants.{Index, Key}
use Rattle.juniper_conversions.specs.contracts.segment.PathSegmentPartialEq.TheImpl as segments
use Rattle.graphql_spec.proofs.Equality.{same_value-refl, same_value-true, same_position-refl, same_position-true}

-- ## Field errors

module _ (a b : Error) (extensions : Bool) (is : extensions ≡ same_value a.extensions b.extensions) where
  pub error-equal : (bytes_eq a.message b.message && extensions) ≡ true → a ≡ b
  error-equal e =
      let p = and_parts (bytes_eq a.message b.message) extensions e in
      λ i. record { message = same_true a.message b.message p.0 i; extensions = same_value-true a.extensions b.extensions (sym is ∙ p.1) i }

  pub error-same : a ≡ b → (bytes_eq a.message b.message && extensions) ≡ true
  error-same e =
      and_from (bytes_eq a.message b.message) extensions
      (subst (λ (c : Error). bytes_eq a.message c.message ≡ true) e (same_refl a.message))
      (is ∙ subst (λ (c : Error). same_value a.extensions c.extensions ≡ true) e (same_value-refl a.extensions))

-- ## Errors as they are listed

number_of : Step → ℕ
number_of (key k) = 0
number_of (index n) = n

name_of : Step → Name
name_of (key k) = k
name_of (index n) = []

is_key : Step → Bool
is_key (key k) = true
is_key (index n) = false

first_step : Place → Step
first_step [] = index 0
first_step (p ∷ ps) = p

is_there : Place → Bool
is_there [] = false
is_there (p ∷ ps) = true

rest : Place → Place
rest [] = []
rest (p ∷ ps) = ps

segment-equal : (x y : PathSegment) → (segments.ghosts).eq x y ≡ true → view_segment x ≡ view_segment y
segment-equal (Index n) (Index m) e = ap index ((Decides-eqb n m).0 e)
segment-equal (Index n) (Key k) e = absurd (both_ways false refl e)
segment-equal (Key k) (Index m) e = absurd (both_ways false refl e)
segment-equal (Key k) (Key j) e = ap key (same_true (string_bytes k) (string_bytes j) e)

segment-same : (x y : PathSegment) → view_segment x ≡ view_segment y → (segments.ghosts).eq x y ≡ true
unfolding number_of name_of is_key
segment-same (Index n) (Index m) e = (Decides-eqb n m).1 (ap number_of e)
segment-same (Index n) (Key k) e = absurd (both_ways true (ap is_key (sym e)) refl)
segment-same (Key k) (Index m) e = absurd (both_ways true (ap is_key e) refl)
segment-same (Key k) (Key j) e = subst (λ (l : Name). bytes_eq (string_bytes k) l ≡ true) (ap name_of e) (same_refl (string_bytes k))

pub path-equal : (xs ys : List PathSegment) → pointwise (segments.ghosts).eq xs ys ≡ true → map view_segment xs ≡ map view_segment ys
path-equal [] [] e = refl
path-equal [] (y ∷ ys) e = absurd (both_ways false refl e)
path-equal (x ∷ xs) [] e = absurd (both_ways false refl e)
path-equal (x ∷ xs) (y ∷ ys) e =
    let p = and_parts ((segments.ghosts).eq x y) (pointwise (segments.ghosts).eq xs ys) e in
    ap₂ (λ s ss. s ∷ ss) (segment-equal x y p.0) (path-equal xs ys p.1)

pub path-same : (xs ys : List PathSegment) → map view_segment xs ≡ map view_segment ys → pointwise (segments.ghosts).eq xs ys ≡ true
unfolding first_step is_there rest
path-same [] [] e = refl
path-same [] (y ∷ ys) e = absurd (both_ways true (ap is_there (sym e)) refl)
path-same (x ∷ xs) [] e = absurd (both_ways true (ap is_there e) refl)
path-same (x ∷ xs) (y ∷ ys) e =
    and_from ((segments.ghosts).eq x y) (pointwise (segments.ghosts).eq xs ys) (segment-same x y (ap first_step e)) (path-same xs ys (ap rest e))

module _ (a b : Listed) (path error : Bool) (path-to : path ≡ true → a.path ≡ b.path) (path-from : a.path ≡ b.path → path ≡ true)
    (is : error ≡ same_value a.error.extensions b.error.extensions) where
  abbrev listed_eq : Bool
  listed_eq = same_position a.start b.start && (path && (bytes_eq a.error.message b.error.message && error))

  pub listed-equal : listed_eq ≡ true → a ≡ b
  listed-equal e =
      let p = and_parts (same_position a.start b.start) (path && (bytes_eq a.error.message b.error.message && error)) e in
      let q = and_parts path (bytes_eq a.error.message b.error.message && error) p.1 in
      λ i. record {
        path = path-to q.0 i;
        start = same_position-true a.start b.start p.0 i;
        error = error-equal a.error b.error error is q.1 i;
      }

  pub listed-same : a ≡ b → listed_eq ≡ true
  listed-same e =
      and_from (same_position a.start b.start) (path && (bytes_eq a.error.message b.error.message && error))
      (subst (λ (c : Listed). same_position a.start c.start ≡ true) e (same_position-refl a.start))
      (and_from path (bytes_eq a.error.message b.error.message && error)
      (path-from (ap (λ (c : Listed). c.path) e))
      (error-same a.error b.error error is (ap (λ (c : Listed). c.error) e)))
