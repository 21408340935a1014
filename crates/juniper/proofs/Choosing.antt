-- Which operation a request executes: one definition after the other.
use Rattle.std.proofs.Common.{◌≡◌, ℕ, ◌+◌, ◌<◌, ◌≤◌, Bool, true, false, cond, List, [], ◌∷◌, ◌++◌, length, get_or, drop, map, Option, Some, None, is_some}
use Rattle.std.proofs.Common.{option_map, refl, sym, ap, ◌∙◌}
use Rattle.std.proofs.lemmas.Bool.{both_ways}
use Rattle.std.proofs.lemmas.List.{drop_all}
use Rattle.graphql_spec.specs.Shown.{Name}
use Rattle.graphql_spec.specs.Documents.{Operation, Definition, operation, fragment, operations}
use Rattle.graphql_spec.specs.Requests.{Choice, chosen, many, unknown, is_named, choose_named, choose_only}
use Rattle.juniper_syntax.proofs.Lists.{seen-left-is}
use Rattle.juniper.specs.Choices.{choice_of, found_in, later}

abbrev head_or : Operation → List Operation → Operation
head_or p [] = p
head_or p (o ∷ os) = o

abbrev is_nothing : List Operation → Bool
is_nothing [] = true
is_nothing (o ∷ os) = false

-- the definition's own operation
pub later-some : (n : Name) (d : Definition) (o : Operation) (c : Choice) → operations (d ∷ []) ≡ o ∷ [] → later n d c ≡ cond (is_named n o) (chosen o) c
unfolding later operations
later-some n (operation p) o c e = ap (λ x. cond (is_named n x) (chosen x) c) (ap (head_or o) e)
later-some n (fragment f) o c e = absurd (both_ways true (ap is_nothing e) refl)

pub later-none : (n : Name) (d : Definition) (c : Choice) → operations (d ∷ []) ≡ [] → later n d c ≡ c
unfolding later operations
later-none n (operation p) c e = absurd (both_ways false refl (ap is_nothing e))
later-none n (fragment f) c e = refl

splits : (d : Definition) (ds : List Definition) → operations (d ∷ ds) ≡ operations (d ∷ []) ++ operations ds
unfolding operations
splits (operation o) ds = refl
splits (fragment f) ds = refl

named-splits : (n : Name) (d : Definition) (ds : List Definition) (c : Choice) →
    choose_named n (operations (d ∷ ds)) c ≡ choose_named n (operations ds) (later n d c)
unfolding operations choose_named later
named-splits n (operation o) ds c = refl
named-splits n (fragment f) ds c = refl

module _ {D : Type 0} (view : D → Definition) (ds : List D) where
  pub named-turn : (n : Name) (c now : Choice) (i : ℕ) (x : D) → i < length ds → x ≡ get_or ds i x →
      choose_named n (operations (map view (drop i ds))) c ≡ choose_named n (operations (map view ds)) unknown →
      now ≡ later n (view x) c → choose_named n (operations (map view (drop (i + 1) ds))) now ≡ choose_named n (operations (map view ds)) unknown
  named-turn n c now i x below is so_far e =
      ap (choose_named n (operations (map view (drop (i + 1) ds)))) e
      ∙ (sym (named-splits n (view x) (map view (drop (i + 1) ds)) c)
      ∙ (ap (λ l. choose_named n (operations l) c) (sym (seen-left-is view ds i x below is)) ∙ so_far))

  pub named-end : (n : Name) (c : Choice) (i : ℕ) → length ds ≤ i →
      choose_named n (operations (map view (drop i ds))) c ≡ choose_named n (operations (map view ds)) unknown →
      c ≡ choose_named n (operations (map view ds)) unknown
  unfolding operations choose_named
  named-end n c i past so_far = sym (ap (λ l. choose_named n (operations (map view l)) c) (drop_all i ds past)) ∙ so_far

  pub only-turn : (here now : List Operation) (more : List Operation) (i : ℕ) (x : D) → i < length ds → x ≡ get_or ds i x →
      here ++ operations (map view (drop i ds)) ≡ operations (map view ds) →
      operations (view x ∷ []) ≡ more → now ≡ here ++ more → now ++ operations (map view (drop (i + 1) ds)) ≡ operations (map view ds)
  only-turn here now more i x below is so_far e f =
      ap (λ l. l ++ operations (map view (drop (i + 1) ds))) (f ∙ ap (λ l. here ++ l) (sym e))
      ∙ (joined here (operations (view x ∷ [])) (operations (map view (drop (i + 1) ds)))
      ∙ (ap (λ l. here ++ l) (sym (splits (view x) (map view (drop (i + 1) ds))) ∙ ap operations (sym (seen-left-is view ds i x below is))) ∙ so_far))
    where
      joined : (xs ys zs : List Operation) → (xs ++ ys) ++ zs ≡ xs ++ (ys ++ zs)
      joined [] ys zs = refl
      joined (x ∷ xs) ys zs = ap (λ l. x ∷ l) (joined xs ys zs)

  -- a further operation, where one was found, and where none was
  pub only-many : {X : Type 0} (seen : X → Operation) (o : Option X) (second : Operation) (i : ℕ) (x : D) → i < length ds → x ≡ get_or ds i x →
      is_some o ≡ true →
      found_in (option_map seen o) ++ operations (map view (drop i ds)) ≡ operations (map view ds) → operations (view x ∷ []) ≡ second ∷ [] →
      many ≡ choose_only (operations (map view ds))
  unfolding choose_only
  only-many seen None second i x below is some so_far e = absurd (both_ways false refl some)
  only-many seen (Some o) second i x below is some so_far e =
      ap choose_only (ap (λ l. seen o ∷ (l ++ operations (map view (drop (i + 1) ds)))) (sym e)
      ∙ (ap (λ l. seen o ∷ l) (sym (splits (view x) (map view (drop (i + 1) ds))) ∙ ap operations (sym (seen-left-is view ds i x below is))) ∙ so_far))

  pub only-first : {X : Type 0} (seen : X → Operation) (o : Option X) (next : X) (i : ℕ) (x : D) → i < length ds → x ≡ get_or ds i x → is_some o ≡ false →
      found_in (option_map seen o) ++ operations (map view (drop i ds)) ≡ operations (map view ds) → operations (view x ∷ []) ≡ seen next ∷ [] →
      found_in (option_map seen (Some next)) ++ operations (map view (drop (i + 1) ds)) ≡ operations (map view ds)
  only-first seen None next i x below is some so_far e = only-turn [] (seen next ∷ []) (seen next ∷ []) i x below is so_far e refl
  only-first seen (Some o) next i x below is some so_far e = absurd (both_ways true some refl)

  pub only-none : (here : List Operation) (i : ℕ) (x : D) → i < length ds → x ≡ get_or ds i x →
      here ++ operations (map view (drop i ds)) ≡ operations (map view ds) → operations (view x ∷ []) ≡ [] →
      here ++ operations (map view (drop (i + 1) ds)) ≡ operations (map view ds)
  only-none here i x below is so_far e =
      ap (λ l. here ++ l) (ap (λ l. l ++ operations (map view (drop (i + 1) ds))) (sym e)
      ∙ (sym (splits (view x) (map view (drop (i + 1) ds))) ∙ ap operations (sym (seen-left-is view ds i x below is)))) ∙ so_far

  pub only-end : (o : Option Operation) (i : ℕ) → length ds ≤ i → found_in o ++ operations (map view (drop i ds)) ≡ operations (map view ds) →
      choice_of o ≡ choose_only (operations (map view ds))
  unfolding operations choose_only
  only-end None i past so_far = ap choose_only (sym (ap (λ l. operations (map view l)) (drop_all i ds past)) ∙ so_far)
  only-end (Some o) i past so_far = ap choose_only (ap (λ l. o ∷ l) (sym (ap (λ l. operations (map view l)) (drop_all i ds past))) ∙ so_far)
