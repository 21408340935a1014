-- Definitions of variables that are read are spelled so, and those that are spelled so are read.
use Rattle.std.proofs.Common.{inl, inr, ◌≡◌, ℕ, ◌<◌, ◌≤◌, ◌==◌, true, false, List, [], ◌∷◌, length, Option, Some, None, refl, ap, ap₂, sym, ◌∙◌, subst, arith}
use Rattle.graphql_spec.specs.Positions.{Spanned}
use Rattle.graphql_spec.specs.Tokens.{mark, name}
use Rattle.graphql_spec.specs.Inputs.{Input}
use Rattle.graphql_spec.specs.Documents.{VariableDefinition}
use Rattle.graphql_spec.specs.Grammar.{At, Mark, Opt, Many, span_of, Default, IsVariable}
use Rattle.juniper_language.specs.Readers.{Reader, sees, expect, a_name, optional, spanned}
use Rattle.juniper_language.specs.Reading.{value, type_ref, directives, default_value, variable_definition}
use Rattle.juniper_language.proofs.StepLaws.{bind_some, from_pure, chosen, fewer, mark_seen, other_seen, expect_sound, expect_read, name_sound, name_read}
use Rattle.juniper_language.proofs.StepLaws.{spanned_is, IsSound}
use Rattle.juniper_language.proofs.ValueLaws.{value_spelled, value_read, value_fewer}
use Rattle.juniper_language.proofs.TypeLaws.{type_sound, type_read, type_fewer}
use Rattle.juniper_language.proofs.DirectiveLaws.{Parts, directives_sound, directives_read, directives_first, directives_fewer}

-- ## What may be there

module _ {A : Type 0} (m : ℕ) (p : Reader A) (R : A → At → At → Type 0) where
  pub may_sound : IsSound p R → IsSound (optional m p) (Opt R)
  may_sound sound s t o e = elim (chosen (sees m s) _ _ (o, t) e) [
    | inl there ↦ let q = bind_some (p s) _ (o, t) there.1 in from_pure (λ y u. Opt R y s u) (Some q.0.0) o q.0.1 t q.2 (sound s q.0.1 q.0.0 q.1)
    | inr none ↦ from_pure (λ y u. Opt R y s u) None o s t none.1 refl
  ]

  pub may_read : (o : Option A) (s t : At) → ((x : A) → R x s t → p s ≡ Some (x, t)) → ((x : A) → R x s t → sees m s ≡ true) → sees m t ≡ false → Opt R o s t →
      optional m p s ≡ Some (o, t)
  may_read None s t reads first other h = let none : sees m s ≡ false = ap (sees m) h ∙ other in rw none (ap (λ u. Some (None, u)) h)
  may_read (Some x) s t reads first other h = rw (first x h, reads x h) refl

pub may_first : {A : Type 0} (m : ℕ) (R : A → At → At → Type 0) (o : Option A) (s t : At) → ((x : A) → R x s t → sees m s ≡ false) → sees m t ≡ false →
    Opt R o s t → sees m s ≡ false
may_first m R None s t first other h = ap (sees m) h ∙ other
may_first m R (Some x) s t first other h = first x h

pub may_fewer : {A : Type 0} (R : A → At → At → Type 0) (o : Option A) (s t : At) → ((x : A) → R x s t → length t.ahead < length s.ahead) → Opt R o s t →
    length t.ahead ≤ length s.ahead
may_fewer R None s t less h = omega (arith, ap (λ (u : At). length u.ahead) h)
may_fewer R (Some x) s t less h = omega (arith, less x h)

-- ## Defaults

default_sound : (n : ℕ) → IsSound (default_value n) (Default n)
unfolding default_value
default_sound n s t x e =
    let q = bind_some (expect 61 s) _ (x, t) e in
    let placed = spanned_is q.0.1 (value true n q.0.1) (x, t) q.2 in
    (q.0.1, expect_sound 61 s q.0.1 q.0.0 q.1, value_spelled true n q.0.1 t x.item placed.0, placed.1)

default_read : (n : ℕ) (v : Spanned Input) (s t : At) → Default n v s t → default_value n s ≡ Some (v, t)
unfolding default_value
default_read n v s t (a, equals, is, place) =
    rw (expect_read 61 s a equals, value_read true v.item n a t is) (ap (λ p. Some (record { item = v.item; span = p }, t)) (sym place))

default_first : (n k : ℕ) (v : Spanned Input) (s t : At) → 61 == k ≡ false → Default n v s t → sees k s ≡ false
default_first n k v s t e h = other_seen 61 k s h.0 e h.1

default_fewer : (n : ℕ) (v : Spanned Input) (s t : At) → Default n v s t → length t.ahead < length s.ahead
default_fewer n v s t (a, equals, is, place) = omega (arith, fewer (mark 61) equals.0 s a equals.1, value_fewer true v.item n a t is)

-- ## Variables

pub variable_sound : (n : ℕ) → IsSound (variable_definition n) (IsVariable n)
unfolding variable_definition
variable_sound n s t y e =
    let q = bind_some (expect 36 s) _ (y, t) e in
    let x = bind_some (a_name q.0.1) _ (y, t) q.2 in
    let c = bind_some (expect 58 x.0.1) _ (y, t) x.2 in
    let u = bind_some (spanned (type_ref n) c.0.1) _ (y, t) c.2 in
    let v = bind_some (optional 61 (default_value n) u.0.1) _ (y, t) u.2 in
    let d = bind_some (directives true n v.0.1) _ (y, t) v.2 in
    let typed = spanned_is c.0.1 (type_ref n c.0.1) u.0 u.1 in
    from_pure (λ z w. IsVariable n z s w) (record {
      name = record { item = x.0.0.item; span = span_of s x.0.1 };
      of_type = u.0.0;
      default = v.0.0;
      directives = d.0.0;
    }) y d.0.1 t d.2 (
      q.0.1,
      x.0.1,
      c.0.1,
      u.0.1,
      v.0.1,
      expect_sound 36 s q.0.1 q.0.0 q.1,
      (x.0.0.span, name_sound q.0.1 x.0.1 x.0.0 x.1),
      refl,
      expect_sound 58 x.0.1 c.0.1 c.0.0 c.1,
      type_sound n c.0.1 u.0.1 u.0.0.item typed.0,
      typed.1,
      may_sound 61 (default_value n) (Default n) (default_sound n) u.0.1 v.0.1 v.0.0 v.1,
      directives_sound true n v.0.1 d.0.1 d.0.0 d.1,
    )

-- what follows a definition is none of its parts
record Ends (t : At) : Type 0 where
  no_bang : sees 33 t ≡ false
  no_equals : sees 61 t ≡ false
  no_bracket : sees 40 t ≡ false
  no_directive : sees 64 t ≡ false

variable_read : (n : ℕ) (v : VariableDefinition) (s t : At) → Ends t → IsVariable n v s t → variable_definition n s ≡ Some (v, t)
unfolding variable_definition
variable_read n v s t ends (a, b, d, e, f, dollar, word, place, colon, typed, at, default, directed) =
    let no_bang = may_first 33 (Default n) v.default e f (λ x h. default_first n 33 x e f refl h)
    (directives_first 33 true n v.directives f t refl directed ends.no_bang) default in
    let no_equals = directives_first 61 true n v.directives f t refl directed ends.no_equals in
    rw (
      expect_read 36 s a dollar,
      name_read (record { item = v.name.item; span = word.0 }) a b word.1,
      expect_read 58 b d colon,
      type_read v.of_type.item n d e typed no_bang,
      may_read 61 (default_value n) (Default n) v.default e f (λ x h. default_read n x e f h) (λ x h. mark_seen 61 e h.0 h.1) no_equals default,
      directives_read true n v.directives f t directed ends.no_bracket ends.no_directive,
    )
    (ap₂ (λ p q. Some (
      record {
        name = record { item = v.name.item; span = p };
        of_type = record { item = v.of_type.item; span = q };
        default = v.default;
        directives = v.directives;
      },
      t,
    )) (sym place) (sym at))

pub variable_fewer : (n : ℕ) (v : VariableDefinition) (s t : At) → IsVariable n v s t → length t.ahead < length s.ahead
variable_fewer n v s t (a, b, d, e, f, dollar, word, place, colon, typed, at, default, directed) =
    omega (
      arith,
      fewer (mark 36) dollar.0 s a dollar.1,
      fewer (name v.name.item) word.0 a b word.1,
      fewer (mark 58) colon.0 b d colon.1,
      type_fewer v.of_type.item n d e typed,
      may_fewer (Default n) v.default e f (λ x h. default_fewer n x e f h) default,
      directives_fewer true n v.directives f t directed,
    )

-- what follows a definition: another, or the closing bracket
after : (n : ℕ) (vs : List VariableDefinition) (s b t : At) → Many (IsVariable n) vs s b → Mark 41 b t → Ends s
after n [] s b t h closes =
    let here : Mark 41 s t = subst (λ u. Mark 41 u t) (sym h) closes in
    record {
      no_bang = other_seen 41 33 s t refl here;
      no_equals = other_seen 41 61 s t refl here;
      no_bracket = other_seen 41 40 s t refl here;
      no_directive = other_seen 41 64 s t refl here;
    }
after n (v ∷ vs) s b t (e, is, more) closes =
    let here : Mark 36 s is.0 = is.5 in
    record {
      no_bang = other_seen 36 33 s is.0 refl here;
      no_equals = other_seen 36 61 s is.0 refl here;
      no_bracket = other_seen 36 40 s is.0 refl here;
      no_directive = other_seen 36 64 s is.0 refl here;
    }

pub variables_parts : Parts variable_definition IsVariable
variables_parts n [] a b t h closes = h
variables_parts n (v ∷ vs) a b t (e, is, more) closes = (
  e,
  record {
    reads = variable_read n v a e (after n vs e b t more closes) is;
    less = variable_fewer n v a e is;
    first = other_seen 36 41 a is.0 refl is.5;
  },
  variables_parts n vs e b t more closes,
)
