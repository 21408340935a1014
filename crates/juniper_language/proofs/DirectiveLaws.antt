-- Arguments and directives that are read are spelled so, and those that are spelled so are read.
use Rattle.std.proofs.Common.{inl, inr, ◌≡◌, ℕ, zero, suc, ◌<◌, ◌≤◌, ◌==◌, Bool, true, false, List, [], ◌∷◌, length, Some, None, refl, ap, sym, ◌∙◌, arith}
use Rattle.std.proofs.lemmas.Option.{none-some}
use Rattle.std.proofs.lemmas.Bool.{false≢true}
use Rattle.graphql_spec.specs.Positions.{Spanned}
use Rattle.graphql_spec.specs.Tokens.{mark, name}
use Rattle.graphql_spec.specs.Documents.{Arguments, Directive}
use Rattle.graphql_spec.specs.Grammar.{At, Mark, Opt, Many, Between, span_of, IsArgument, IsArguments, IsDirective, AreDirectives}
use Rattle.juniper_language.specs.Readers.{Reader, and_then, sees, expect, a_name, some_until, with_span}
use Rattle.juniper_language.specs.Reading.{named, value, in_brackets, argument, arguments, given, directive, directives}
use Rattle.juniper_language.proofs.StepLaws.{bind_some, from_pure, chosen, fewer, mark_seen, other_seen, expect_sound, expect_read, name_sound, name_read}
use Rattle.juniper_language.proofs.StepLaws.{spanned_is, until_sound, until_read, while_sound, while_read, IsSound, IsPart, many_map, many_fewer}
use Rattle.juniper_language.proofs.ValueLaws.{argument_sound, argument_part}

-- ## Parts in round brackets

module _ {A : Type 0} (p : ℕ → Reader A) (R : ℕ → A → At → At → Type 0) where
  closed : (n : ℕ) (xs : List A) (s a b t : At) → Mark 40 s a → sees 41 a ≡ false → Many (R n) xs a b → Mark 41 b t → Between 40 41 R xs (suc n) s t
  closed n [] s a b t opens some inside closes = absurd (false≢true (sym some ∙ ap (sees 41) inside ∙ mark_seen 41 b t closes))
  closed n (x ∷ xs) s a b t opens some inside closes = (a, b, opens, inside, closes)

  -- what stands from the one bracket to the other
  abbrev inner : ℕ → Reader (List A)
  inner n s = and_then (expect 40 s) (λ u. some_until 41 (p n))

  inner_sound : ((n : ℕ) → IsSound (p n) (R n)) → (n : ℕ) (s t : At) (xs : List A) → inner n s ≡ Some (xs, t) → Between 40 41 R xs (suc n) s t
  unfolding some_until
  inner_sound sound n s t xs e =
      let q = bind_some (expect 40 s) _ (xs, t) e in
      elim (chosen (sees 41 q.0.1) _ _ (xs, t) q.2) [
        | inl none ↦ absurd (none-some (xs, t) none.1)
        | inr some ↦
            let all = until_sound 41 (p n) (R n) (sound n) (length q.0.1.ahead) q.0.1 t xs some.1 in
            closed n xs s q.0.1 all.0 t (expect_sound 40 s q.0.1 q.0.0 q.1) some.0 all.1 all.2
      ]

  pub brackets_sound : ((n : ℕ) → IsSound (p n) (R n)) → (n : ℕ) (s t : At) (xs : Spanned (List A)) → in_brackets p n s ≡ Some (xs, t) →
      Between 40 41 R xs.item n s t × (xs.span ≡ span_of s t)
  brackets_sound sound zero s t xs e = absurd (none-some (xs, t) e)
  brackets_sound sound (suc n) s t xs e = let placed = spanned_is s (inner n s) (xs, t) e in (inner_sound sound n s t xs.item placed.0, placed.1)

  -- parts are read, before a closing bracket
  abbrev pub Parts : Type 0
  Parts = (n : ℕ) (xs : List A) (a b t : At) → Many (R n) xs a b → Mark 41 b t → Many (IsPart 41 false (p n)) xs a b

  inner_read : Parts → (n : ℕ) (xs : List A) (s t : At) → Between 40 41 R xs (suc n) s t → inner n s ≡ Some (xs, t)
  unfolding some_until
  inner_read parts n [] s t h = absurd h
  inner_read parts n (x ∷ xs) s t (a, b, opens, inside, closes) =
      let all = parts n (x ∷ xs) a b t inside closes in
      rw (expect_read 40 s a opens, all.1.first) (until_read 41 (p n) (x ∷ xs) (length a.ahead) a b t all closes (omega arith))

  no_brackets : (xs : List A) (s t : At) → Between 40 41 R xs zero s t → ⊥
  no_brackets [] s t h = h
  no_brackets (x ∷ xs) s t h = h

  pub brackets_read : Parts → (n : ℕ) (xs : Spanned (List A)) (s t : At) → Between 40 41 R xs.item n s t → xs.span ≡ span_of s t →
      in_brackets p n s ≡ Some (xs, t)
  brackets_read parts zero xs s t h place = absurd (no_brackets xs.item s t h)
  brackets_read parts (suc n) xs s t h place =
      ap (with_span s) (inner_read parts n xs.item s t h) ∙ ap (λ at. Some (record { item = xs.item; span = at }, t)) (sym place)

  -- the bracket in front
  pub opening : (xs : List A) (n : ℕ) (s t : At) → Between 40 41 R xs n s t → (a : At) × Mark 40 s a
  opening [] n s t h = absurd h
  opening (x ∷ xs) zero s t h = absurd h
  opening (x ∷ xs) (suc n) s t h = (h.0, h.2)

  pub brackets_fewer : Parts → (xs : List A) (n : ℕ) (s t : At) → Between 40 41 R xs n s t → length t.ahead < length s.ahead
  brackets_fewer parts [] n s t h = absurd h
  brackets_fewer parts (x ∷ xs) zero s t h = absurd h
  brackets_fewer parts (x ∷ xs) (suc n) s t (a, b, opens, inside, closes) =
      omega (
        arith,
        fewer (mark 40) opens.0 s a opens.1,
        many_fewer 41 false (p n) (x ∷ xs) a b (parts n (x ∷ xs) a b t inside closes),
        fewer (mark 41) closes.0 b t closes.1,
      )

-- ## Arguments

arguments_parts : (c : Bool) → Parts (argument c) (IsArgument c)
unfolding argument
arguments_parts c n xs a b t h closes = many_map (IsArgument c n) (IsPart 41 false (named (value c n))) (argument_part c n) xs a b h

each_sound : (c : Bool) (n : ℕ) → IsSound (argument c n) (IsArgument c n)
unfolding argument
each_sound c n = argument_sound c n

-- ## Arguments, where there are some

pub given_sound : (c : Bool) (n : ℕ) (s t : At) (o : Arguments) → given c n s ≡ Some (o, t) → Opt (IsArguments c n) o s t
unfolding given
given_sound c n s t o e = elim (chosen (sees 40 s) _ _ (o, t) e) [
  | inl there ↦
      let q = bind_some (arguments c n s) _ (o, t) there.1 in
      from_pure (λ y u. Opt (IsArguments c n) y s u) (Some q.0.0) o q.0.1 t q.2 (brackets_sound (argument c) (IsArgument c) (each_sound c) n s q.0.1 q.0.0 q.1)
  | inr none ↦ from_pure (λ y u. Opt (IsArguments c n) y s u) None o s t none.1 refl
]

pub given_read : (c : Bool) (n : ℕ) (o : Arguments) (s t : At) → Opt (IsArguments c n) o s t → sees 40 t ≡ false → given c n s ≡ Some (o, t)
unfolding given
given_read c n None s t h other = let none : sees 40 s ≡ false = ap (sees 40) h ∙ other in rw none (ap (λ u. Some (None, u)) h)
given_read c n (Some as') s t h other =
    let opens = opening (argument c) (IsArgument c) as'.item n s t h.0 in
    rw (mark_seen 40 s opens.0 opens.1, brackets_read (argument c) (IsArgument c) (arguments_parts c) n as' s t h.0 h.1) refl

-- before arguments stands their bracket, or what stands after them
pub given_first : (m : ℕ) (c : Bool) (n : ℕ) (o : Arguments) (s t : At) → 40 == m ≡ false → Opt (IsArguments c n) o s t → sees m t ≡ false → sees m s ≡ false
given_first m c n None s t e h ends = ap (sees m) h ∙ ends
given_first m c n (Some as') s t e h ends = let opens = opening (argument c) (IsArgument c) as'.item n s t h.0 in other_seen 40 m s opens.0 e opens.1

pub given_fewer : (c : Bool) (n : ℕ) (o : Arguments) (s t : At) → Opt (IsArguments c n) o s t → length t.ahead ≤ length s.ahead
given_fewer c n None s t h = omega (arith, ap (λ (u : At). length u.ahead) h)
given_fewer c n (Some as') s t h = omega (arith, brackets_fewer (argument c) (IsArgument c) (arguments_parts c) as'.item n s t h.0)

-- ## Directives

pub directive_sound : (c : Bool) (n : ℕ) → IsSound (directive c n) (IsDirective c n)
unfolding directive
directive_sound c n s t d e =
    let q = bind_some (expect 64 s) _ (d, t) e in
    let x = bind_some (a_name q.0.1) _ (d, t) q.2 in
    let g = bind_some (given c n x.0.1) _ (d, t) x.2 in
    from_pure (λ y u. IsDirective c n y s u) (record { name = x.0.0; arguments = g.0.0; span = span_of s g.0.1 }) d g.0.1 t g.2
    (q.0.1, x.0.1, expect_sound 64 s q.0.1 q.0.0 q.1, name_sound q.0.1 x.0.1 x.0.0 x.1, given_sound c n x.0.1 g.0.1 g.0.0 g.1, refl)

-- what follows a directive opens no bracket
directive_read : (c : Bool) (n : ℕ) (d : Directive) (s t : At) → IsDirective c n d s t → sees 40 t ≡ false → directive c n s ≡ Some (d, t)
unfolding directive
directive_read c n d s t (a, b, at, word, argued, place) other =
    rw (expect_read 64 s a at, name_read d.name a b word, given_read c n d.arguments b t argued other)
    (ap (λ p. Some (record { name = d.name; arguments = d.arguments; span = p }, t)) (sym place))

pub directives_sound : (c : Bool) (n : ℕ) (s t : At) (ds : List Directive) → directives c n s ≡ Some (ds, t) → AreDirectives c n ds s t
unfolding directives
directives_sound c n s t ds e = while_sound 64 (directive c n) (IsDirective c n) (directive_sound c n) (length s.ahead) s t ds e

-- before directives stands the mark of one, or what stands after them
pub directives_first : (m : ℕ) (c : Bool) (n : ℕ) (ds : List Directive) (s t : At) → 64 == m ≡ false → AreDirectives c n ds s t → sees m t ≡ false →
    sees m s ≡ false
directives_first m c n [] s t e h ends = ap (sees m) h ∙ ends
directives_first m c n (d ∷ ds) s t e h ends = other_seen 64 m s h.1.0 e h.1.2

-- each is read, and takes tokens
directives_parts : (c : Bool) (n : ℕ) (ds : List Directive) (s t : At) → AreDirectives c n ds s t → sees 40 t ≡ false →
    Many (IsPart 64 true (directive c n)) ds s t
directives_parts c n [] s t h other = h
directives_parts c n (d ∷ ds) s t (e, (a, b, at, word, argued, place), more) other = (
  e,
  record {
    reads = directive_read c n d s e (a, b, at, word, argued, place) (directives_first 40 c n ds e t refl more other);
    less = omega (arith, fewer (mark 64) at.0 s a at.1, fewer (name d.name.item) d.name.span a b word, given_fewer c n d.arguments b e argued);
    first = mark_seen 64 s a at;
  },
  directives_parts c n ds e t more other,
)

pub directives_read : (c : Bool) (n : ℕ) (ds : List Directive) (s t : At) → AreDirectives c n ds s t → sees 40 t ≡ false → sees 64 t ≡ false →
    directives c n s ≡ Some (ds, t)
unfolding directives
directives_read c n ds s t h other ends = while_read 64 (directive c n) ds (length s.ahead) s t (directives_parts c n ds s t h other) ends (omega arith)

pub directives_fewer : (c : Bool) (n : ℕ) (ds : List Directive) (s t : At) → AreDirectives c n ds s t → length t.ahead ≤ length s.ahead
directives_fewer c n [] s t h = omega (arith, ap (λ (u : At). length u.ahead) h)
directives_fewer c n (d ∷ ds) s t (e, (a, b, at, word, argued, place), more) =
    omega (
      arith,
      fewer (mark 64) at.0 s a at.1,
      fewer (name d.name.item) d.name.span a b word,
      given_fewer c n d.arguments b e argued,
      directives_fewer c n ds e t more,
    )
