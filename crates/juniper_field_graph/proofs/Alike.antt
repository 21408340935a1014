-- Types that agree, and calls that are the same, are so from either side.
use Rattle.std.proofs.Common.{◌≡◌, Bool, true, false, not, ◌&&◌, ◌||◌, refl, sym, ap, ap₂, ◌∙◌, inl, inr}
use Rattle.std.specs.Str.{bytes_eq}
use Rattle.std.proofs.lemmas.Bool.{cases_Bool, both_ways, and_parts, and_from}
use Rattle.std.proofs.lemmas.Bool.Decides.{Decides-int_eq}
use Rattle.graphql_spec.specs.Shown.{Name, Shown, int, text, boolean, same_bool, same_shown}
use Rattle.graphql_spec.specs.Types.{TypeRef, named, list_of}
use Rattle.graphql_spec.specs.Schema.{Schema}
use Rattle.graphql_spec.specs.Fields.{type_named, is_leaf}
use Rattle.graphql_spec.specs.Merging.{types_agree}
use Rattle.graphql_spec.specs.Constants.{Constant, null, scalar, enumerated, variable, list, object, Constants, no_constants, constant, Members, no_members}
use Rattle.graphql_spec.specs.Constants.{member, same_constant, same_constants, same_members}
use Rattle.graphql_spec.proofs.Lists.{same_refl, same_true, same_sym}
use Rattle.graphql_spec.proofs.SameMeanings.{same_members-true}

-- ## Types

both-itself : (r : Bool) → same_bool r r ≡ true
unfolding same_bool
both-itself true = refl
both-itself false = refl

both-turned : (r q : Bool) → same_bool r q ≡ same_bool q r
unfolding same_bool
both-turned true true = refl
both-turned true false = refl
both-turned false true = refl
both-turned false false = refl

both-same : (r q : Bool) → same_bool r q ≡ true → r ≡ q
unfolding same_bool
both-same true q e = sym e
both-same false true e = e
both-same false false e = refl

or-turned : (p q : Bool) → (p || q) ≡ (q || p)
or-turned true true = refl
or-turned true false = refl
or-turned false true = refl
or-turned false false = refl

or-last : (b : Bool) → (b || true) ≡ true
or-last true = refl
or-last false = refl

module _ (s : Schema) where
  abbrev leaf : Name → Bool
  leaf a = is_leaf (type_named s a)

  -- neither is a leaf's, or they are the same
  abbrev names_agree : Name → Name → Bool
  names_agree a b = not (leaf a || leaf b) || bytes_eq a b

  pub types-same : (t : TypeRef) → types_agree s t t ≡ true
  unfolding types_agree
  types-same (named r a) = and_from (same_bool r r) (names_agree a a) (both-itself r) (rw (same_refl a) (or-last (not (leaf a || leaf a))))
  types-same (list_of r size t) = and_from (same_bool r r) (types_agree s t t) (both-itself r) (types-same t)

  pub types-turned : (t u : TypeRef) → types_agree s t u ≡ types_agree s u t
  unfolding types_agree
  types-turned (named r a) (named q b) = ap₂ (λ x y. x && y) (both-turned r q) (ap₂ (λ x y. not x || y) (or-turned (leaf a) (leaf b)) (same_sym a b))
  types-turned (list_of r size t) (list_of q size' u) = ap₂ (λ x y. x && y) (both-turned r q) (types-turned t u)
  types-turned (named r a) (list_of q size u) = refl
  types-turned (list_of r size t) (named q b) = refl

  names-across : (a b c : Name) → names_agree a b ≡ true → names_agree a c ≡ names_agree b c
  names-across a b c e = elim (cases_Bool (bytes_eq a b)) [
    | inl f ↦ ap (λ z. names_agree z c) (same_true a b f)
    | inr f ↦ apart (leaf a) refl (leaf b) refl f e
  ]
    where
      apart : (x : Bool) → leaf a ≡ x → (y : Bool) → leaf b ≡ y → bytes_eq a b ≡ false → names_agree a b ≡ true → names_agree a c ≡ names_agree b c
      apart true p y q f g = absurd (both_ways (bytes_eq a b) f (rw p at g))
      apart false p true q f g = absurd (both_ways (bytes_eq a b) f (rw (p, q) at g))
      apart false p false q f g = rw (p, q) (ends (leaf c) refl)
        where
          ends : (z : Bool) → leaf c ≡ z → (not (leaf c) || bytes_eq a c) ≡ (not (leaf c) || bytes_eq b c)
          ends false h = rw h refl
          ends true h = rw h (unlike a p ∙ sym (unlike b q))
            where
              unlike : (d : Name) → leaf d ≡ false → bytes_eq d c ≡ false
              unlike d i = elim (cases_Bool (bytes_eq d c)) [
                | inl j ↦ (let k : true ≡ false = sym h ∙ (ap leaf (sym (same_true d c j)) ∙ i) in cc)
                | inr j ↦ j
              ]

  pub types-across : (t u w : TypeRef) → types_agree s t u ≡ true → types_agree s u w ≡ types_agree s t w
  unfolding types_agree
  types-across (named r a) (named q b) (named p c) e =
      let f = and_parts (same_bool r q) (names_agree a b) e in
      ap₂ (λ x y. same_bool x p && y) (sym (both-same r q f.0)) (sym (names-across a b c f.1))
  types-across (list_of r size t) (list_of q size' u) (list_of p size'' w) e =
      let f = and_parts (same_bool r q) (types_agree s t u) e in
      ap₂ (λ x y. same_bool x p && y) (sym (both-same r q f.0)) (types-across t u w f.1)
  types-across (named r a) (named q b) (list_of p size w) e = refl
  types-across (list_of r size t) (list_of q size' u) (named p c) e = refl
  types-across (named r a) (list_of q size u) w e = absurd (both_ways false refl e)
  types-across (list_of r size t) (named q b) w e = absurd (both_ways false refl e)

-- ## Calls

same_shown-itself : (x : Shown) → same_shown x x ≡ true
unfolding same_shown
same_shown-itself (int i) = (Decides-int_eq i i).1 refl
same_shown-itself (text s) = same_refl s
same_shown-itself (boolean b) = both-itself b

mutual
  unfolding same_constant

  pub same_constant-itself : (u : Constant) → same_constant u u ≡ true
  same_constant-itself null = refl
  same_constant-itself (scalar x) = same_shown-itself x
  same_constant-itself (enumerated e) = same_refl e
  same_constant-itself (variable x) = same_refl x
  same_constant-itself (list us) = same_constants-itself us
  same_constant-itself (object us) = same_members-itself us

  pub same_constants-itself : (us : Constants) → same_constants us us ≡ true
  same_constants-itself no_constants = refl
  same_constants-itself (constant u us) = and_from (same_constant u u) (same_constants us us) (same_constant-itself u) (same_constants-itself us)

  pub same_members-itself : (us : Members) → same_members us us ≡ true
  same_members-itself no_members = refl
  same_members-itself (member k u us) =
      and_from (bytes_eq k k) (same_constant u u && same_members us us) (same_refl k)
      (and_from (same_constant u u) (same_members us us) (same_constant-itself u) (same_members-itself us))

pub same_members-across : (us vs ws : Members) → same_members us vs ≡ true → same_members vs ws ≡ same_members us ws
same_members-across us vs ws e = ap (λ z. same_members z ws) (sym (same_members-true us vs e))

-- a name with arguments: one name, and the same arguments
abbrev pub same_call : Name × Members → Name × Members → Bool
same_call c d = bytes_eq c.0 d.0 && same_members c.1 d.1

pub calls-itself : (c : Name × Members) → same_call c c ≡ true
calls-itself c = and_from (bytes_eq c.0 c.0) (same_members c.1 c.1) (same_refl c.0) (same_members-itself c.1)

pub calls-across : (c d f : Name × Members) → same_call c d ≡ true → same_call d f ≡ same_call c f
calls-across c d f e =
    let p = and_parts (bytes_eq c.0 d.0) (same_members c.1 d.1) e in
    ap₂ (λ x y. x && y) (ap (λ z. bytes_eq z f.0) (sym (same_true c.0 d.0 p.0))) (same_members-across c.1 d.1 f.1 p.1)
