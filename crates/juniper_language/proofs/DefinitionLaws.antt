-- Definitions and documents that are read are spelled so, and those that are spelled so are read.
use Rattle.std.proofs.Common.{inl, inr, ◌≡◌, ◌≢◌, ◌⊎◌, ℕ, zero, suc, ◌<◌, ◌≤◌, false, List, [], ◌∷◌, length, Option, Some, None, refl, ap, sym, ◌∙◌, subst}
use Rattle.std.proofs.Common.{arith}
use Rattle.std.proofs.lemmas.Option.{none-some, same_Some}
use Rattle.std.proofs.lemmas.Slice.Eq.{bytes_eq-Decides}
use Rattle.std.specs.Str.{bytes_eq}
use Rattle.graphql_spec.specs.Shown.{Name}
use Rattle.graphql_spec.specs.Positions.{Spanned}
use Rattle.graphql_spec.specs.Tokens.{Token, name}
use Rattle.graphql_spec.specs.Documents.{Word, VariableDefinition, OperationType, query, mutation, subscription, Operation, Fragment, Definition, operation}
use Rattle.graphql_spec.specs.Documents.{fragment, Document}
use Rattle.graphql_spec.specs.Grammar.{At, Mark, Keyword, IsWord, Opt, Many, span_of, AreVariables, TypeCondition, IsOperation, IsFragment, IsDefinition}
use Rattle.graphql_spec.specs.Grammar.{on_word, kind_word, most_brackets}
use Rattle.juniper_language.specs.Readers.{Outcome, and_then, pure, sees, a_name, optional}
use Rattle.juniper_language.specs.Reading.{in_brackets, directives, first_word, start_of, set_by, inside_of, variable_definition, name_by_word, name_if}
use Rattle.juniper_language.specs.Reading.{longhand, shorthand, fragment_name, condition, fragment_by, fragment_word, kind_of, behind_word, by_word, definition}
use Rattle.juniper_language.specs.Reading.{if_none_left, definitions, document}
use Rattle.juniper_language.proofs.StepLaws.{bind_some, from_pure, chosen, picked, fewer, mark_seen, name_sound, name_read, name_first, IsSound}
use Rattle.juniper_language.proofs.ValueLaws.{differ, differs, picked_of}
use Rattle.juniper_language.proofs.DirectiveLaws.{brackets_sound, brackets_read, brackets_fewer, opening, directives_sound, directives_read, directives_first}
use Rattle.juniper_language.proofs.DirectiveLaws.{directives_fewer}
use Rattle.juniper_language.proofs.SelectionLaws.{word_first, set_sound}
use Rattle.juniper_language.proofs.ForestLaws.{set_spelled, set_less, set_begins, set_opens, mark_no_word, set_no_word, directives_no_word}
use Rattle.juniper_language.proofs.VariableLaws.{may_sound, may_read, may_fewer, variable_sound, variables_parts}
use Rattle.graphql_spec.specs.Grammar.{IsVariable}

-- ## Words

name_by_sound : (w : Option Name) (s t : At) (o : Option Word) → name_by_word w s ≡ Some (o, t) → Opt IsWord o s t
name_by_sound None s t o e = from_pure (λ y u. Opt IsWord y s u) None o s t e refl
name_by_sound (Some w) s t o e =
    let q = bind_some (a_name s) _ (o, t) e in from_pure (λ y u. Opt IsWord y s u) (Some q.0.0) o q.0.1 t q.2 (name_sound s q.0.1 q.0.0 q.1)

name_if_read : (o : Option Word) (s t : At) → Opt IsWord o s t → first_word t.ahead ≡ None → name_if s ≡ Some (o, t)
name_if_read None s t h none = let here : first_word s.ahead ≡ None = ap (λ (u : At). first_word u.ahead) h ∙ none in rw here (ap (λ u. Some (None, u)) h)
name_if_read (Some x) s t h none = rw (word_first x s t h, name_read x s t h) refl

name_if_fewer : (o : Option Word) (s t : At) → Opt IsWord o s t → length t.ahead ≤ length s.ahead
name_if_fewer o s t h = may_fewer IsWord o s t (λ x k. fewer (name x.item) x.span s t k) h

kind_named : (w : Name) (kind : OperationType) → kind_of w ≡ Some kind → w ≡ kind_word kind
kind_named w kind =
    picked_of (λ v. v ≡ Some kind → w ≡ kind_word kind) (Some query) (Some mutation) (Some subscription) None (bytes_eq w (kind_word query))
    (bytes_eq w (kind_word mutation)) (bytes_eq w (kind_word subscription))
    (λ e is. (bytes_eq-Decides w (kind_word query)).0 e ∙ ap kind_word (same_Some query kind is))
    (λ e is. (bytes_eq-Decides w (kind_word mutation)).0 e ∙ ap kind_word (same_Some mutation kind is))
    (λ e is. (bytes_eq-Decides w (kind_word subscription)).0 e ∙ ap kind_word (same_Some subscription kind is))
    (λ a b c is. absurd (none-some kind is))

named_kind : (kind : OperationType) → kind_of (kind_word kind) ≡ Some kind
unfolding kind_word
named_kind query = refl
named_kind mutation = refl
named_kind subscription = refl

fragment_no_kind : kind_of fragment_word ≡ None
unfolding kind_word
fragment_no_kind = refl

-- ## What is read is spelled so

longhand_sound : (n : ℕ) (kind : OperationType) (s a t : At) (o : Operation) → Keyword (kind_word kind) s a → longhand n (start_of s) kind a ≡ Some (o, t) →
    IsOperation o n s t
unfolding span_of
longhand_sound n kind s a t o word e =
    let x = bind_some (name_if a) _ (o, t) e in
    let vs = bind_some (optional 40 (in_brackets variable_definition n) x.0.1) _ (o, t) x.2 in
    let ds = bind_some (directives false n vs.0.1) _ (o, t) vs.2 in
    let y = bind_some (set_by (inside_of n) ds.0.1) _ (o, t) ds.2 in
    from_pure (λ z u. IsOperation z n s u) (record {
      kind = kind;
      name = x.0.0;
      variables = vs.0.0;
      directives = ds.0.0;
      selections = y.0.0;
      span = span_of s y.0.1;
    }) o y.0.1 t y.2 (
      inr (
        a,
        x.0.1,
        vs.0.1,
        ds.0.1,
        word,
        name_by_sound (first_word a.ahead) a x.0.1 x.0.0 x.1,
        may_sound 40 (in_brackets variable_definition n) (AreVariables n)
            (λ b d u f. brackets_sound variable_definition IsVariable variable_sound n b d u f) x.0.1 vs.0.1 vs.0.0 vs.1,
        directives_sound false n vs.0.1 ds.0.1 ds.0.0 ds.1,
        set_sound n ds.0.1 y.0.1 y.0.0 y.1,
      ),
      refl,
    )

shorthand_sound : (n : ℕ) (s t : At) (o : Operation) → shorthand n s ≡ Some (o, t) → IsOperation o n s t
shorthand_sound n s t o e =
    let y = bind_some (set_by (inside_of n) s) _ (o, t) e in
    from_pure (λ z u. IsOperation z n s u) (record { kind = query; name = None; variables = None; directives = []; selections = y.0.0; span = span_of s y.0.1 })
    o y.0.1 t y.2
    (inl (refl, refl, refl, refl, set_sound n s y.0.1 y.0.0 y.1), refl)

fragment_name_sound : (s t : At) (x : Word) → fragment_name s ≡ Some (x, t) → IsWord x s t × (x.item ≢ on_word)
fragment_name_sound s t x e =
    let q = bind_some (a_name s) _ (x, t) e in
    elim (picked (bytes_eq q.0.0.item on_word) (λ u. None) (pure q.0.0) q.0.1 (x, t) q.2) [
      | inl on ↦ absurd (none-some (x, t) on.1)
      | inr off ↦ from_pure (λ y u. IsWord y s u × (y.item ≢ on_word)) q.0.0 x q.0.1 t off.1 (name_sound s q.0.1 q.0.0 q.1, differ q.0.0.item on_word off.0)
    ]

condition_sound : (s t : At) (x : Word) → condition s ≡ Some (x, t) → TypeCondition x s t
condition_sound s t x e =
    let q = bind_some (a_name s) _ (x, t) e in
    elim (picked (bytes_eq q.0.0.item on_word) a_name (λ u. None) q.0.1 (x, t) q.2) [
      | inl on ↦
          let same : q.0.0.item ≡ on_word = (bytes_eq-Decides q.0.0.item on_word).0 on.0 in (
            q.0.1,
            (q.0.0.span, subst (λ y. IsWord (record { item = y; span = q.0.0.span }) s q.0.1) same (name_sound s q.0.1 q.0.0 q.1)),
            name_sound q.0.1 t x on.1,
          )
      | inr off ↦ absurd (none-some (x, t) off.1)
    ]

fragment_sound : (n : ℕ) (s a t : At) (f : Fragment) → Keyword fragment_word s a → fragment_by n (start_of s) a ≡ Some (f, t) → IsFragment f n s t
unfolding span_of
fragment_sound n s a t f word e =
    let x = bind_some (fragment_name a) _ (f, t) e in
    let y = bind_some (condition x.0.1) _ (f, t) x.2 in
    let ds = bind_some (directives false n y.0.1) _ (f, t) y.2 in
    let z = bind_some (set_by (inside_of n) ds.0.1) _ (f, t) ds.2 in
    let called = fragment_name_sound a x.0.1 x.0.0 x.1 in
    from_pure (λ g u. IsFragment g n s u) (record { name = x.0.0; condition = y.0.0; directives = ds.0.0; selections = z.0.0; span = span_of s z.0.1 }) f z.0.1
    t z.2 (
      a,
      x.0.1,
      y.0.1,
      ds.0.1,
      word,
      called.0,
      called.1,
      condition_sound x.0.1 y.0.1 y.0.0 y.1,
      directives_sound false n y.0.1 ds.0.1 ds.0.0 ds.1,
      set_sound n ds.0.1 z.0.1 z.0.0 z.1,
      refl,
    )

behind_sound : (n : ℕ) (w : Name) (k : Option OperationType) (s a t : At) (x : Definition) → kind_of w ≡ k → Keyword w s a →
    behind_word n (start_of s) w k a ≡ Some (x, t) → IsDefinition n x s t
behind_sound n w (Some kind) s a t x is word e =
    let o = bind_some (longhand n (start_of s) kind a) _ (x, t) e in
    from_pure (λ y u. IsDefinition n y s u) (operation o.0.0) x o.0.1 t o.2
    (longhand_sound n kind s a o.0.1 o.0.0 (subst (λ y. Keyword y s a) (kind_named w kind is) word) o.1)
behind_sound n w None s a t x is word e = elim (chosen (bytes_eq w fragment_word) _ _ (x, t) e) [
  | inl here ↦
      let f = bind_some (fragment_by n (start_of s) a) _ (x, t) here.1 in
      from_pure (λ y u. IsDefinition n y s u) (fragment f.0.0) x f.0.1 t f.2
      (fragment_sound n s a f.0.1 f.0.0 (subst (λ y. Keyword y s a) ((bytes_eq-Decides w fragment_word).0 here.0) word) f.1)
  | inr other ↦ absurd (none-some (x, t) other.1)
]

by_word_sound : (n : ℕ) (o : Option Name) (s t : At) (x : Definition) → o ≡ first_word s.ahead → by_word n o s ≡ Some (x, t) → IsDefinition n x s t
by_word_sound n None s t x is e = absurd (none-some (x, t) e)
by_word_sound n (Some w) s t x is e =
    let q = bind_some (a_name s) _ (x, t) e in
    let word = name_sound s q.0.1 q.0.0 q.1 in
    let same : q.0.0.item ≡ w = same_Some q.0.0.item w (sym (word_first q.0.0 s q.0.1 word) ∙ sym is) in
    behind_sound n w (kind_of w) s q.0.1 t x refl (q.0.0.span, subst (λ y. IsWord (record { item = y; span = q.0.0.span }) s q.0.1) same word) q.2

definition_sound : (n : ℕ) → IsSound (definition n) (IsDefinition n)
unfolding definition
definition_sound n s t x e = elim (chosen (sees 123 s) _ _ (x, t) e) [
  | inl there ↦ let o = bind_some (shorthand n s) _ (x, t) there.1 in
      from_pure (λ y u. IsDefinition n y s u) (operation o.0.0) x o.0.1 t o.2 (shorthand_sound n s o.0.1 o.0.0 o.1)
  | inr none ↦ by_word_sound n (first_word s.ahead) s t x refl none.1
]

-- ## What is spelled so is read

-- a list of variables stands behind its bracket
variables_open : (n : ℕ) (vs : Spanned (List VariableDefinition)) (s t : At) → AreVariables n vs s t → (a : At) × Mark 40 s a
variables_open n vs s t h = opening variable_definition IsVariable vs.item n s t h.0

operation_read : (n : ℕ) (o : Operation) (s t : At) → IsOperation o n s t → definition n s ≡ Some (operation o, t)
unfolding definition span_of
operation_read n o s t (inl (kind, called, variables, ds, set), place) =
    rw (set_opens o.selections n s t set, set_spelled o.selections n s t set)
    (ap (λ (y : Operation). Some (operation y, t)) (λ i. record {
      kind = sym kind i;
      name = sym called i;
      variables = sym variables i;
      directives = sym ds i;
      selections = o.selections;
      span = sym place i;
    }))
operation_read n o s t (inr (a, b, d, e, word, called, variables, directed, set), place) =
    let no_bracket = set_begins 40 o.selections n e t refl set in
    let no_word = directives_no_word n o.directives d e directed (set_no_word o.selections n e t set) in
    let no_name : first_word b.ahead ≡ None = no_word_before o.variables b d no_word variables in
    let no_more = directives_first 40 false n o.directives d e refl directed no_bracket in
    rw (
      name_first 123 (record { item = kind_word o.kind; span = word.0 }) s a word.1,
      word_first (record { item = kind_word o.kind; span = word.0 }) s a word.1,
      name_read (record { item = kind_word o.kind; span = word.0 }) s a word.1,
      named_kind o.kind,
      name_if_read o.name a b called no_name,
      may_read 40 (in_brackets variable_definition n) (AreVariables n) o.variables b d
          (λ vs h. brackets_read variable_definition IsVariable variables_parts n vs b d h.0 h.1)
          (λ vs h. let opens = variables_open n vs b d h in mark_seen 40 b opens.0 opens.1) no_more variables,
      directives_read false n o.directives d e directed no_bracket (set_begins 64 o.selections n e t refl set),
      set_spelled o.selections n e t set,
    )
    (ap (λ p. Some (
      operation (record {
        kind = o.kind;
        name = o.name;
        variables = o.variables;
        directives = o.directives;
        selections = o.selections;
        span = p;
      }),
      t,
    )) (sym place))
  where
    no_word_before : (vs : Option (Spanned (List VariableDefinition))) (b d : At) → first_word d.ahead ≡ None → Opt (AreVariables n) vs b d →
        first_word b.ahead ≡ None
    no_word_before None b d none h = ap (λ (u : At). first_word u.ahead) h ∙ none
    no_word_before (Some vs) b d none h = let opens = variables_open n vs b d h in mark_no_word 40 b opens.0 opens.1

fragment_read : (n : ℕ) (f : Fragment) (s t : At) → IsFragment f n s t → definition n s ≡ Some (fragment f, t)
unfolding definition span_of
fragment_read n f s t (a, b, d, e, word, called, other, (z, on, conditioned), directed, set, place) =
    rw (
      name_first 123 (record { item = fragment_word; span = word.0 }) s a word.1,
      word_first (record { item = fragment_word; span = word.0 }) s a word.1,
      name_read (record { item = fragment_word; span = word.0 }) s a word.1,
      fragment_no_kind,
      name_read f.name a b called,
      differs f.name.item on_word other,
      name_read (record { item = on_word; span = on.0 }) b z on.1,
      name_read f.condition z d conditioned,
      directives_read false n f.directives d e directed (set_begins 40 f.selections n e t refl set) (set_begins 64 f.selections n e t refl set),
      set_spelled f.selections n e t set,
    )
    (ap (λ p. Some (fragment (record { name = f.name; condition = f.condition; directives = f.directives; selections = f.selections; span = p }), t))
    (sym place))

definition_read : (n : ℕ) (x : Definition) (s t : At) → IsDefinition n x s t → definition n s ≡ Some (x, t)
definition_read n (operation o) s t h = operation_read n o s t h
definition_read n (fragment f) s t h = fragment_read n f s t h

operation_fewer : (n : ℕ) (o : Operation) (s t : At) → IsOperation o n s t → length t.ahead < length s.ahead
operation_fewer n o s t (inl (kind, called, variables, ds, set), place) = set_less o.selections n s t set
operation_fewer n o s t (inr (a, b, d, e, word, called, variables, directed, set), place) =
    omega (
      arith,
      fewer (name (kind_word o.kind)) word.0 s a word.1,
      name_if_fewer o.name a b called,
      may_fewer (AreVariables n) o.variables b d (λ vs h. brackets_fewer variable_definition IsVariable variables_parts vs.item n b d h.0) variables,
      directives_fewer false n o.directives d e directed,
      set_less o.selections n e t set,
    )

definition_fewer : (n : ℕ) (x : Definition) (s t : At) → IsDefinition n x s t → length t.ahead < length s.ahead
definition_fewer n (operation o) s t h = operation_fewer n o s t h
definition_fewer n (fragment f) s t (a, b, d, e, word, called, other, (z, on, conditioned), directed, set, place) =
    omega (
      arith,
      fewer (name fragment_word) word.0 s a word.1,
      fewer (name f.name.item) f.name.span a b called,
      fewer (name on_word) on.0 b z on.1,
      fewer (name f.condition.item) f.condition.span z d conditioned,
      directives_fewer false n f.directives d e directed,
      set_less f.selections n e t set,
    )

-- ## Documents

left_or : {A : Type 0} (ts : List Token) (x y : Outcome A) (z : A × At) → if_none_left ts x y ≡ Some z → ((ts ≡ []) × (x ≡ Some z)) ⊎ ((ts ≢ []) × (y ≡ Some z))
left_or [] x y z e = inl (refl, e)
left_or (c ∷ ts) x y z e = inr (λ f. cc, e)

none_left : {A : Type 0} (ts : List Token) (x y : Outcome A) → ts ≡ [] → if_none_left ts x y ≡ x
none_left [] x y none = refl
none_left (c ∷ ts) x y none = cc

some_left : {A : Type 0} (ts : List Token) (x y : Outcome A) → 0 < length ts → if_none_left ts x y ≡ y
some_left [] x y some = absurd (omega (arith, some))
some_left (c ∷ ts) x y some = refl

definitions_sound : (k : ℕ) (s t : At) (d : Document) → definitions k s ≡ Some (d, t) → Many (IsDefinition most_brackets) d s t × (t.ahead ≡ [])
unfolding definitions
definitions_sound zero s t d e = elim (left_or s.ahead _ _ (d, t) e) [
  | inl none ↦ from_pure (λ y u. Many (IsDefinition most_brackets) y s u × (u.ahead ≡ [])) [] d s t none.1 (refl, none.0)
  | inr some ↦ absurd (none-some (d, t) some.1)
]
definitions_sound (suc k) s t d e = elim (left_or s.ahead _ _ (d, t) e) [
  | inl none ↦ from_pure (λ y u. Many (IsDefinition most_brackets) y s u × (u.ahead ≡ [])) [] d s t none.1 (refl, none.0)
  | inr some ↦
      let q = bind_some (definition most_brackets s) _ (d, t) some.1 in
      let r = bind_some (definitions k q.0.1) _ (d, t) q.2 in
      let rest = definitions_sound k q.0.1 r.0.1 r.0.0 r.1 in
      from_pure (λ y u. Many (IsDefinition most_brackets) y s u × (u.ahead ≡ [])) (q.0.0 ∷ r.0.0) d r.0.1 t r.2
      ((q.0.1, definition_sound most_brackets s q.0.1 q.0.0 q.1, rest.0), rest.1)
]

definitions_read : (d : Document) (k : ℕ) (s t : At) → Many (IsDefinition most_brackets) d s t → t.ahead ≡ [] → length s.ahead ≤ k →
    definitions k s ≡ Some (d, t)
unfolding definitions
definitions_read [] zero s t h last enough = none_left s.ahead _ _ (ap (λ (u : At). u.ahead) h ∙ last) ∙ ap (λ u. Some ([], u)) h
definitions_read [] (suc k) s t h last enough = none_left s.ahead _ _ (ap (λ (u : At). u.ahead) h ∙ last) ∙ ap (λ u. Some ([], u)) h
definitions_read (x ∷ d) zero s t (a, is, more) last enough = absurd (omega (arith, definition_fewer most_brackets x s a is))
definitions_read (x ∷ d) (suc k) s t (a, is, more) last enough =
    let less = definition_fewer most_brackets x s a is in
    let rest = definitions_read d k a t more last (omega (arith, less)) in
    some_left s.ahead _ _ (omega (arith, less)) ∙ rw (definition_read most_brackets x s a is) (ap (λ o. and_then o (λ xs. pure (x ∷ xs))) rest)

pub document_sound : (s t : At) (d : Document) → document s ≡ Some (d, t) → (d ≢ []) × Many (IsDefinition most_brackets) d s t × (t.ahead ≡ [])
unfolding document
document_sound s t d e = elim (left_or s.ahead _ _ (d, t) e) [
  | inl none ↦ absurd (none-some (d, t) none.1)
  | inr some ↦
      let h = definitions_sound (length s.ahead) s t d some.1 in
      (λ nil. some.0 (ap (λ (u : At). u.ahead) (nothing d nil h.0) ∙ h.1), h.0, h.1)
]
  where
    nothing : (x : Document) → x ≡ [] → Many (IsDefinition most_brackets) x s t → s ≡ t
    nothing [] nil h = h
    nothing (y ∷ x) nil h = cc

pub document_read : (d : Document) (s t : At) → d ≢ [] → Many (IsDefinition most_brackets) d s t → t.ahead ≡ [] → document s ≡ Some (d, t)
unfolding document
document_read [] s t some h last = absurd (some refl)
document_read (x ∷ d) s t some h last =
    some_left s.ahead _ _ (omega (arith, definition_fewer most_brackets x s h.0 h.1)) ∙ definitions_read (x ∷ d) (length s.ahead) s t h last (omega arith)
