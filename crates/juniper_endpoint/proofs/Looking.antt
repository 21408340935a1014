-- Looks at requests, over plain variables.
use Rattle.std.proofs.Common.{rules, arith, ◌≡◌, ◌≢◌, ◌==◌, ◌+◌, ◌<◌, ◌||◌, ◌++◌, ℕ, Bool, true, false, List, [], ◌∷◌, length, get_or, map, take}
use Rattle.std.proofs.Common.{Option, refl, sym, ap, subst, ◌∙◌, inl, inr}
use Rattle.std.proofs.lemmas.Bool.{both_ways, cases_Bool}
use Rattle.std.proofs.lemmas.List.{map-append, nil_from_length, take_more}
use Rattle.std.specs.List.{list_any}
use Rattle.graphql_spec.specs.Documents.{Document, Operation, VariableDefinition, variables_of}
use Rattle.graphql_spec.specs.Requests.{Choice, choose, chosen, many, unknown}
use Rattle.graphql_spec.specs.Rules.{RuleError}
use Rattle.graphql_spec.specs.Shown.{Name}
use Rattle.juniper.specs.Answering.{IsUnchosen}
use Rattle.juniper.specs.RequestErrors.{RequestError}
use Rattle.juniper_json.specs.declared.read.VariablesError.{VariablesError}
use Rattle.juniper_endpoint.specs.Looks.{IsSeen, IsSeenIn}
use Rattle.juniper_endpoint.specs.Replied.{IsFree, is_refused, refused_errors, unfitting}
use Rattle.juniper_endpoint.specs.declared.look.Finding.{Finding}
use Rattle.juniper_endpoint.specs.declared.look.Finding.TheVariants.{Passes, Writes, Unfitting}

-- ## Values that are refused

module _ (refused : List (Name × VariablesError)) where
  pub refused_joined : (vs ws : List VariableDefinition) → refused_errors refused (vs ++ ws) ≡ refused_errors refused vs ++ refused_errors refused ws
  unfolding refused_errors
  refused_joined [] ws = refl
  refused_joined (v ∷ vs) ws = elim (cases_Bool (is_refused refused v)) [
    | inl t ↦ rw t (ap (λ es. unfitting v ∷ es) (refused_joined vs ws))
    | inr f ↦ rw f (refused_joined vs ws)
  ]

  pub refused_one : (v : VariableDefinition) → is_refused refused v ≡ true → refused_errors refused (v ∷ []) ≡ unfitting v ∷ []
  unfolding refused_errors
  refused_one v e = rw e refl

  pub refused_none : (v : VariableDefinition) → is_refused refused v ≡ false → refused_errors refused (v ∷ []) ≡ []
  unfolding refused_errors
  refused_none v e = rw e refl

  pub refused_nil : refused_errors refused [] ≡ []
  unfolding refused_errors
  refused_nil = refl

  -- the errors of one item more
  pub refused_next : {A : Type 0} (view : A → VariableDefinition) (xs : List A) (i : ℕ) (x : A) → i < length xs → x ≡ get_or xs i x →
      refused_errors refused (map view (take i xs)) ++ refused_errors refused (view x ∷ []) ≡ refused_errors refused (map view (take (i + 1) xs))
  refused_next view xs i x low is = sym (refused_joined (map view (take i xs)) (view x ∷ []))
      ∙ ap (refused_errors refused) (sym (map-append view (take i xs) (x ∷ []))
      ∙ ap (map view) (ap (λ u. take i xs ++ u ∷ []) is ∙ sym (take_more xs i x low)))

-- a test of what is seen
pub any_seen : {A B : Type 0} (p : B → Bool) (view : A → B) (xs : List A) → list_any p (map view xs) ≡ list_any (λ x. p (view x)) xs
any_seen p view [] = refl
any_seen p view (x ∷ xs) = ap (λ b. p (view x) || b) (any_seen p view xs)

none-refused : (vs : List VariableDefinition) → refused_errors [] vs ≡ []
unfolding refused_errors
none-refused [] = refl
none-refused (v ∷ vs) = none-refused vs

-- where nothing is refused, and the request may write, every operation is free
pub all-free : {A : Type 0} (view : A → Name × VariablesError) (rs : List A) (w e : Bool) → e ≡ (length rs == 0) → e ≡ true → w ≡ true → (o : Operation) →
    IsFree (map view rs) w o
all-free view rs w e tested is writes o = subst (λ xs. IsFree (map view xs) w o) (sym (nil_from_length rs (search (rules, arith))))
    (λ reads. absurd (both_ways w reads writes), none-refused (variables_of o))

-- a list of errors that is empty, or is not
module _ {A : Type 0} (view : A → RuleError) where
  pub none_found : (es : List A) (b : Bool) (xs : List RuleError) → b ≡ (length es == 0) → map view es ≡ xs → b ≡ true → xs ≡ []
  none_found es b xs tested same is = sym same ∙ ap (map view) (nil_from_length es (search (rules, arith)))

  pub some_found : (es : List A) (b : Bool) (xs : List RuleError) → b ≡ (length es == 0) → map view es ≡ xs → b ≡ false → xs ≢ []
  some_found [] b xs tested same is = λ none. absurd (both_ways b is tested)
  some_found (e ∷ es) b xs tested same is = λ none. cc

-- ## Documents

-- no operation is chosen
pub unchosen : (x : Choice) (e : RequestError) → IsUnchosen x e → (o : Operation) → x ≡ chosen o → {P : Type 0} → P
unchosen (chosen p) e u o is = absurd u
unchosen many e u o is = cc
unchosen unknown e u o is = cc

same-chosen : (o p : Operation) → chosen o ≡ chosen p → o ≡ p
same-chosen o p e = cc

pub seen-in : (refused : List (Name × VariablesError)) (w : Bool) (name : Option Name) (d : Document) (o : Operation) → choose d name ≡ chosen o →
    (x : Finding) → IsSeenIn refused w o x → IsSeen refused w name d x
seen-in refused w name d o choice Passes i = λ p is. subst (IsFree refused w) (same-chosen o p (sym choice ∙ is)) i
seen-in refused w name d o choice Writes i = (o, choice, i)
seen-in refused w name d o choice (Unfitting errors) i = (o, choice, i)
