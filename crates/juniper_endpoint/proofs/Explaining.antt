-- What explains a refusal: how it is made, and that the line tells it.
use Rattle.std.proofs.Common.{◌≡◌, ℕ, Bool, true, false, cond, find, List, [], ◌∷◌, map, None, Option, option_map, Some, refl, sym, ap, ◌∙◌}
use Rattle.graphql_spec.specs.Documents.{Document, Operation, variables_of}
use Rattle.graphql_spec.specs.Inputs.{Variables}
use Rattle.graphql_spec.specs.Outcomes.{Reads, Request}
use Rattle.graphql_spec.specs.Positions.{Position, same_position}
use Rattle.graphql_spec.specs.Requests.{Choice, choose, chosen, many, unknown}
use Rattle.graphql_spec.specs.Rules.{RuleError, rule_errors}
use Rattle.graphql_spec.specs.Schema.{Schema}
use Rattle.graphql_spec.specs.Shown.{Text}
use Rattle.juniper.specs.Answering.{IsUnchosen, StandsFor}
use Rattle.juniper.specs.Objections.{IsUnread}
use Rattle.juniper.specs.RequestErrors.{RequestError, not_parsed, not_valid, no_operation, multiple_operations, unknown_operation}
use Rattle.juniper.specs.RequestErrors.{is_subscription, not_subscription, no_mutation_type, variable_not_constant, out_of_memory}
use Rattle.juniper.specs.declared.prepared.Bounds.{Bounds}
use Rattle.juniper_explain.proofs.TellingValues.{no-values-listed}
use Rattle.juniper_explain.proofs.Valid.{none-listed}
use Rattle.juniper_explain.specs.Explanations.{view_explanation}
use Rattle.juniper_explain.specs.GivenValues.{variable_explanations, view_variable_explanation}
use Rattle.juniper_explain.specs.Nodes.{explanations}
use Rattle.juniper_explain.specs.declared.explanation.Explanation.{Explanation}
use Rattle.juniper_explain.specs.declared.variable_values.VariableExplanation.{VariableExplanation}
use Rattle.juniper_json.specs.Refusals.{refusals_of}
use Rattle.juniper_json.specs.RefusalText as lines
use Rattle.juniper_json.specs.RefusalText.{explained_text, refusals_text, told_errors}
use Rattle.juniper_endpoint.specs.Explained.{IsFaultless, TellsRefusal, explained_as, is_left_out, listed_at, misfits, nodes_explained}
use Rattle.juniper_endpoint.specs.Explained.{of_explanation, of_listed, of_value, values_explained, where_valid}
use Rattle.juniper_endpoint.specs.Looks.{AreMisfits}

-- ## As errors

abbrev pub node_told : Explanation → lines.Refusal
node_told e = of_explanation (view_explanation e)

abbrev pub value_told : List RuleError → VariableExplanation → lines.Refusal
value_told errors e = of_value errors (view_variable_explanation e)

-- what is found in a list is found in what is seen of it
module _ {A B : Type 0} (p : B → Bool) (view : A → B) where
  find-seen : (xs : List A) → option_map view (find (λ x. p (view x)) xs) ≡ find p (map view xs)
  find-seen [] = refl
  find-seen (x ∷ xs) = go (p (view x)) (find-seen xs)
    where
      go : (b : Bool) → option_map view (find (λ y. p (view y)) xs) ≡ find p (map view xs) →
          option_map view (cond b (Some x) (find (λ y. p (view y)) xs)) ≡ cond b (Some (view x)) (find p (map view xs))
      go true e = refl
      go false e = e

listed-seen : {A : Type 0} (view : A → RuleError) (o : Option A) → option_map (λ e. of_listed (view e)) o ≡ option_map of_listed (option_map view o)
listed-seen view None = refl
listed-seen view (Some e) = refl

-- the first error at a place
pub listed-first : {A : Type 0} (view : A → RuleError) (es : List A) (p : Position) (o : Option A) → o ≡ find (λ e. same_position (view e).start p) es →
    option_map (λ e. of_listed (view e)) o ≡ listed_at (map view es) p
unfolding listed_at
listed-first view es p o is = listed-seen view o
    ∙ ap (option_map of_listed) (ap (option_map view) is ∙ find-seen (λ (e : RuleError). same_position e.start p) view es)

-- ## What is left out

module _ (s : Schema) (disabled : Bool) (most : ℕ) where
  -- the nodes of a document are explained, or left out
  module _ (text : Text) where
    pub nodes-read : (d : Document) → is_left_out disabled most text ≡ false →
        map of_explanation (explanations s disabled d) ≡ nodes_explained s disabled most text d
    unfolding nodes_explained
    nodes-read d passes = sym (ap (λ b. cond b [] (map of_explanation (explanations s disabled d))) passes)

    pub nodes-left-out : (d : Document) → is_left_out disabled most text ≡ true → [] ≡ nodes_explained s disabled most text d
    unfolding nodes_explained
    nodes-left-out d is = sym (ap (λ b. cond b [] (map of_explanation (explanations s disabled d))) is)

  -- and so the values
  module _ (q : Request) where
    pub values-read : (errors : List RuleError) (d : Document) → is_left_out disabled most q.text ≡ false →
        misfits s q.variables errors (choose d q.operation) ≡ values_explained s disabled most q errors d
    unfolding values_explained
    values-read errors d passes = sym (ap (λ b. cond b [] (misfits s q.variables errors (choose d q.operation))) passes)

    pub values-left-out : (errors : List RuleError) (d : Document) → is_left_out disabled most q.text ≡ true →
        [] ≡ values_explained s disabled most q errors d
    unfolding values_explained
    values-left-out errors d is = sym (ap (λ b. cond b [] (misfits s q.variables errors (choose d q.operation))) is)

-- ## The values

-- where no operation is chosen, none has a misfit
pub unchosen-fit : (s : Schema) (given : Variables) (errors : List RuleError) (c : Choice) (e : RequestError) → IsUnchosen c e → [] ≡ misfits s given errors c
unfolding misfits
unchosen-fit s given errors (chosen o) e u = absurd u
unchosen-fit s given errors many e u = refl
unchosen-fit s given errors unknown e u = refl

-- and else those of that operation are told
pub chosen-misfits : (s : Schema) (given : Variables) (errors : List RuleError) (c : Choice) (o : Operation) → c ≡ chosen o →
    map (of_value errors) (variable_explanations s (variables_of o) given) ≡ misfits s given errors c
unfolding misfits
chosen-misfits s given errors c o is = sym (ap (misfits s given errors) is)

none-mapped : {A B : Type 0} (f : A → B) (xs : List A) → map f xs ≡ [] → xs ≡ []
none-mapped f [] none = refl
none-mapped f (x ∷ xs) none = cc

-- ## The line

module _ (s : Schema) (disabled : Bool) (most : ℕ) (q : Request) where
  -- of a valid document the values are told, and of another its nodes
  valid-values : (errors : List RuleError) (d : Document) → rule_errors s disabled d ≡ [] →
      values_explained s disabled most q errors d ≡ explained_as s disabled most q errors d
  unfolding explained_as where_valid
  valid-values errors d valid =
      sym (ap (λ es. where_valid es (values_explained s disabled most q errors d) (nodes_explained s disabled most q.text d)) valid)

  invalid-nodes : (errors : List RuleError) (d : Document) (x : RuleError) (xs : List RuleError) → rule_errors s disabled d ≡ x ∷ xs →
      nodes_explained s disabled most q.text d ≡ explained_as s disabled most q errors d
  unfolding explained_as where_valid
  invalid-nodes errors d x xs found =
      sym (ap (λ es. where_valid es (values_explained s disabled most q errors d) (nodes_explained s disabled most q.text d)) found)

  -- where nothing is explained of a text that is not left out, there is nothing to explain
  pub nothing-explained : (errors : List RuleError) (d : Document) → is_left_out disabled most q.text ≡ false →
      explained_as s disabled most q errors d ≡ [] → IsFaultless s disabled q d
  unfolding explained_as where_valid
  nothing-explained errors d passes none = go (rule_errors s disabled d) refl none
    where
      go : (es : List RuleError) → rule_errors s disabled d ≡ es →
          where_valid es (values_explained s disabled most q errors d) (nodes_explained s disabled most q.text d) ≡ [] → IsFaultless s disabled q d
      go [] valid none = (
        valid,
        λ o choice. no-values-listed s q.variables (variables_of o) (none-mapped (of_value errors) _
            (chosen-misfits s q.variables errors (choose d q.operation) o choice ∙ (values-read s disabled most q errors d passes ∙ none))),
      )
      go (x ∷ xs) found none =
          absurd (cc (sym found ∙ none-listed s disabled d (none-mapped of_explanation _ (nodes-read s disabled most q.text d passes ∙ none))))

  -- an error of the request of a valid document
  pub taken-line : (d : Document) → Reads q.text (Some d) → rule_errors s disabled d ≡ [] → (e : RequestError) (es : List lines.Refusal) →
      AreMisfits s disabled most q d e es → (line : Text) → line ≡ explained_text (refusals_of e) es → TellsRefusal s disabled most q e line
  unfolding told_errors
  taken-line d reads valid (not_valid ys) es are line told =
      (d, reads, told ∙ ap (explained_text (refusals_of (not_valid ys))) (are ∙ valid-values ys d valid))
  taken-line d reads valid (not_parsed x) es none line told = told ∙ ap (explained_text (refusals_of (not_parsed x))) none
  taken-line d reads valid no_operation es none line told = told ∙ ap (explained_text (refusals_of no_operation)) none
  taken-line d reads valid multiple_operations es none line told = told ∙ ap (explained_text (refusals_of multiple_operations)) none
  taken-line d reads valid unknown_operation es none line told = told ∙ ap (explained_text (refusals_of unknown_operation)) none
  taken-line d reads valid is_subscription es none line told = told ∙ ap (explained_text (refusals_of is_subscription)) none
  taken-line d reads valid not_subscription es none line told = told ∙ ap (explained_text (refusals_of not_subscription)) none
  taken-line d reads valid no_mutation_type es none line told = told ∙ ap (explained_text (refusals_of no_mutation_type)) none
  taken-line d reads valid (variable_not_constant n) es none line told = told ∙ ap (explained_text (refusals_of (variable_not_constant n))) none
  taken-line d reads valid out_of_memory es none line told = told ∙ ap (explained_text (refusals_of out_of_memory)) none

  -- the errors of a document that breaks rules
  pub invalid-line : (d : Document) → Reads q.text (Some d) → (x : RuleError) (xs : List RuleError) → rule_errors s disabled d ≡ x ∷ xs → (line : Text) →
      line ≡ explained_text (refusals_of (not_valid (x ∷ xs))) (nodes_explained s disabled most q.text d) → TellsRefusal s disabled most q (not_valid (x ∷ xs)) line
  invalid-line d reads x xs found line told =
      (d, reads, told ∙ ap (explained_text (refusals_of (not_valid (x ∷ xs)))) (invalid-nodes (x ∷ xs) d x xs found))

  -- the error of a text that is no document
  pub unread-line : (b : Bounds) (e : RequestError) → StandsFor (IsUnread b q.text) e → (line : Text) → line ≡ refusals_text (refusals_of e) →
      TellsRefusal s disabled most q e line
  unread-line b (not_valid ys) (r, stands, (is, unread)) line told = absurd cc
  unread-line b (not_parsed x) stands line told = told
  unread-line b no_operation stands line told = told
  unread-line b multiple_operations stands line told = told
  unread-line b unknown_operation stands line told = told
  unread-line b is_subscription stands line told = told
  unread-line b not_subscription stands line told = told
  unread-line b no_mutation_type stands line told = told
  unread-line b (variable_not_constant n) stands line told = told
  unread-line b out_of_memory stands line told = told
