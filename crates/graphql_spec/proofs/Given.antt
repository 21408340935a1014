-- Arguments one by one: what is put in for a name that is not there yet is what is put in from the last to the first.
use Rattle.std.proofs.Common.{◌≡◌, Bool, true, false, cond, map, List, [], ◌∷◌, ◌++◌, Option, Some, None, option_map, is_some, Ordering, Less, Equal, Greater}
use Rattle.std.proofs.Common.{bytes_eq, refl, sym, ap, ◌∙◌, subst, inl, inr}
use Rattle.std.specs.Ordering.{match_ordering}
use Rattle.std.proofs.lemmas.Bool.{cases_Bool, both_ways}
use Rattle.std.proofs.lemmas.List.{map-append}
use Rattle.graphql_spec.specs.Shown.{Name}
use Rattle.graphql_spec.specs.Inputs.{Input, Variables, const}
use Rattle.graphql_spec.specs.Constants.{Constant, Members, no_members, member, insert, find, meaning}
use Rattle.graphql_spec.specs.Documents.{Argument}
use Rattle.graphql_spec.specs.Schema.{InputDeclaration}
use Rattle.graphql_spec.specs.Arguments.{put_given, given, put_default, with_defaults}
use Rattle.graphql_spec.proofs.Lists.{same_refl, same_true}
use Rattle.graphql_spec.proofs.Members.{order, same_text, one_text, find-insert, insert_swap}

-- ## Members

apart_from : (k l : Name) → bytes_eq k l ≡ false → k ≡ l → ⊥
apart_from k l e p = both_ways (bytes_eq k l) e (subst (λ z. bytes_eq k z ≡ true) p (same_refl k))

find-past_at : (o : Ordering) (q k : Name) (v : Constant) (ms : Members) → order q k ≡ o → (q ≡ k → ⊥) →
    match_ordering o (find q ms) (Some v) (find q ms) ≡ find q ms
find-past_at Less q k v ms h apart = refl
find-past_at Equal q k v ms h apart = absurd (apart (one_text q k h))
find-past_at Greater q k v ms h apart = refl

find-past : (q k : Name) (v : Constant) (ms : Members) → (q ≡ k → ⊥) → find q (member k v ms) ≡ find q ms
unfolding find
find-past q k v ms apart = find-past_at _ q k v ms refl apart

find-same_at : (o : Ordering) (q l : Name) (w : Constant) (ms ns : Members) → find q ms ≡ find q ns →
    match_ordering o (find q ms) (Some w) (find q ms) ≡ match_ordering o (find q ns) (Some w) (find q ns)
find-same_at Less q l w ms ns e = e
find-same_at Equal q l w ms ns e = refl
find-same_at Greater q l w ms ns e = e

find-same : (q l : Name) (w : Constant) (ms ns : Members) → find q ms ≡ find q ns → find q (member l w ms) ≡ find q (member l w ns)
unfolding find
find-same q l w ms ns e = find-same_at (order q l) q l w ms ns e

find-other_at : (o : Ordering) (q k l : Name) (v w : Constant) (ms : Members) → order k l ≡ o → (q ≡ k → ⊥) → find q (insert k v ms) ≡ find q ms
    → find q (match_ordering o (member k v (member l w ms)) (member l v ms) (member l w (insert k v ms))) ≡ find q (member l w ms)
find-other_at Less q k l v w ms h apart e = find-past q k v (member l w ms) apart
find-other_at Equal q k l v w ms h apart e =
    let other : q ≡ l → ⊥ = λ p. apart (p ∙ sym (one_text k l h)) in
    find-past q l v ms other ∙ sym (find-past q l w ms other)
find-other_at Greater q k l v w ms h apart e = find-same q l w (insert k v ms) ms e

-- another key's value stays
pub find-other : (q k : Name) (v : Constant) (ms : Members) → (q ≡ k → ⊥) → find q (insert k v ms) ≡ find q ms
unfolding insert
find-other q k v no_members apart = find-past q k v no_members apart
find-other q k v (member l w ms) apart = find-other_at _ q k l v w ms refl apart (find-other q k v ms apart)

-- what is found, once v is put at k
pub find-put : (q k : Name) (v : Constant) (ms : Members) → find q (insert k v ms) ≡ cond (bytes_eq q k) (Some v) (find q ms)
find-put q k v ms = elim (cases_Bool (bytes_eq q k)) [
  | inl e ↦ rw e (subst (λ z. find z (insert k v ms) ≡ Some v) (sym (same_true q k e)) (find-insert k v ms))
  | inr e ↦ rw e (find-other q k v ms (apart_from q k e))
]

again_at : (o : Ordering) (k l : Name) (v w x : Constant) (ms : Members) → order k l ≡ o → insert k w (insert k v ms) ≡ insert k w ms
    → insert k w (match_ordering o (member k v (member l x ms)) (member l v ms) (member l x (insert k v ms)))
    ≡ match_ordering o (member k w (member l x ms)) (member l w ms) (member l x (insert k w ms))
unfolding insert
again_at Less k l v w x ms h e = rw (same_text k) refl
again_at Equal k l v w x ms h e = rw h refl
again_at Greater k l v w x ms h e = rw h (ap (member l x) e)

-- the later of two values at one key stays
pub insert-again : (k : Name) (v w : Constant) (ms : Members) → insert k w (insert k v ms) ≡ insert k w ms
unfolding insert
insert-again k v w no_members = rw (same_text k) refl
insert-again k v w (member l x ms) = again_at _ k l v w x ms refl (insert-again k v w ms)

-- ## Values by their names, put in from the last to the first

unfoldable pub put_some : Name → Option Constant → Members → Members
put_some k None ms = ms
put_some k (Some v) ms = insert k v ms

unfoldable pub put_all : List (Name × Option Constant) → Members
put_all [] = no_members
put_all (p ∷ ps) = put_some p.0 p.1 (put_all ps)

abbrev is_there : Name → Members → Bool
is_there k ms = is_some (find k ms)

-- one more value is put in where its name is not there
abbrev put_last : Name → Option Constant → Members → Members
put_last k o ms = cond (is_there k ms) ms (put_some k o ms)

put_last-none : (k : Name) (ms : Members) → put_last k None ms ≡ ms
unfolding put_some
put_last-none k ms = elim (cases_Bool (is_there k ms)) [ inl e ↦ rw e refl | inr e ↦ rw e refl ]

past_one : (j : Name) (w : Constant) (k : Name) (v : Constant) (ms : Members) → insert j w (put_last k (Some v) ms) ≡ put_last k (Some v) (insert j w ms)
unfolding put_some
past_one j w k v ms = elim (cases_Bool (bytes_eq k j)) [
  | inl e ↦ let same = same_true k j e in rw (find-put k j w ms, e) (elim (cases_Bool (is_there k ms)) [
    | inl f ↦ rw f refl
    | inr f ↦ rw f (subst (λ z. insert j w (insert z v ms) ≡ insert j w ms) (sym same) (insert-again j v w ms))
  ])
  | inr e ↦ rw (find-put k j w ms, e) (elim (cases_Bool (is_there k ms)) [
    | inl f ↦ rw f refl
    | inr f ↦ rw f (insert_swap j k w v (λ p. apart_from k j e (sym p)) ms)
  ])
]

past_some : (j : Name) (p : Option Constant) (k : Name) (o : Option Constant) (ms : Members) → put_some j p (put_last k o ms) ≡ put_last k o (put_some j p ms)
unfolding put_some
past_some j None k o ms = refl
past_some j (Some w) k None ms = ap (insert j w) (put_last-none k ms) ∙ sym (put_last-none k (insert j w ms))
past_some j (Some w) k (Some v) ms = past_one j w k v ms

put_first : (k : Name) (o : Option Constant) → put_some k o no_members ≡ put_last k o no_members
unfolding put_some find
put_first k None = refl
put_first k (Some v) = refl

-- one more value
pub put_all-more : (ps : List (Name × Option Constant)) (k : Name) (o : Option Constant) →
    put_all (ps ++ (k, o) ∷ []) ≡ cond (is_some (find k (put_all ps))) (put_all ps) (put_some k o (put_all ps))
unfolding put_all
put_all-more [] k o = put_first k o
put_all-more (p ∷ ps) k o = ap (put_some p.0 p.1) (put_all-more ps k o) ∙ past_some p.0 p.1 k o (put_all ps)

-- ## Written arguments, and defaults

as_given : Variables → Argument → Name × Option Constant
as_given vars a = (a.name.item, option_map meaning (const vars a.value.item))

put_given-some : (k : Name) (o : Option Input) (ms : Members) → put_given k o ms ≡ put_some k (option_map meaning o) ms
unfolding put_given put_some
put_given-some k None ms = refl
put_given-some k (Some v) ms = refl

given-all : (vars : Variables) (as' : List Argument) → given vars as' ≡ put_all (map (as_given vars) as')
unfolding given put_all as_given
given-all vars [] = refl
given-all vars (a ∷ rest) = put_given-some a.name.item (const vars a.value.item) (given vars rest)
    ∙ ap (put_some a.name.item (option_map meaning (const vars a.value.item))) (given-all vars rest)

-- one more written argument
pub given-more : (vars : Variables) (as' : List Argument) (a : Argument) →
    given vars (as' ++ a ∷ []) ≡ cond (is_some (find a.name.item (given vars as'))) (given vars as')
    (put_given a.name.item (const vars a.value.item) (given vars as'))
unfolding as_given
given-more vars as' a =
    given-all vars (as' ++ a ∷ []) ∙ (ap put_all (map-append (as_given vars) as' (a ∷ []))
    ∙ (put_all-more (map (as_given vars) as') a.name.item (option_map meaning (const vars a.value.item))
    ∙ rw (← given-all vars as', ← put_given-some a.name.item (const vars a.value.item) (given vars as')) refl))

-- one more declared default
pub defaults-more : (ds : List InputDeclaration) (d : InputDeclaration) (ms : Members) →
    with_defaults (ds ++ d ∷ []) ms ≡ put_default d.name d.default (with_defaults ds ms)
unfolding with_defaults
defaults-more [] d ms = refl
defaults-more (e ∷ ds) d ms = defaults-more ds d (put_default e.name e.default ms)
