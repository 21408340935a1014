-- What is added to explanations, and what is known of a document where they are made; only private clauses cite this file.
use Rattle.std.specs.Prelude.{◌≡◌, ◌++◌, Bool, List, [], map}
use Rattle.std.specs.List.{flat_map}
use Rattle.graphql_spec.specs.Shown.{Shown}
use Rattle.graphql_spec.specs.Documents.{Definition, Document}
use Rattle.graphql_spec.specs.Rules.{cannot_merge}
use Rattle.graphql_spec.specs.Schema.{Schema}
use Rattle.juniper_syntax.specs.DocumentView.{view_definition}
use Rattle.juniper_syntax.specs.declared.ast.Definition.{Definition as CodeDefinition}
use Rattle.juniper_written.specs.SpreadsView.{AreFragmentsOf}
use Rattle.juniper_written.specs.declared.by_name.FragmentsByName.{FragmentsByName}
use Rattle.juniper_type_rules.specs.UsesView.{AreUsesOfFragments, usage_of, view_used}
use Rattle.juniper_type_rules.specs.declared.reach.UsesOfFragments.{UsesOfFragments}
use Rattle.juniper_type_rules.specs.declared.uses.Used.{Used}
use Rattle.juniper_rules.specs.Listing.{AreListed, AreListedOnTypes, IsListed, IsListedOnTypes, definition_of}
use Rattle.juniper_rules.specs.declared.lists.Listed.{Listed}
use Rattle.juniper_rules.specs.declared.lists.ListedOnTypes.{ListedOnTypes}
use Rattle.juniper_explain.specs.Explanations.{Explanation, explanations_at, judged, view_explanations}
use Rattle.juniper_explain.specs.Nodes.{other_operation, repeated_fragment, repeated_operation}
use Rattle.juniper_explain.specs.Nodes.{missing_arguments, unknown_arguments, wrong_arguments}
use Rattle.juniper_explain.specs.Sites.{sites}
use Rattle.juniper_explain.specs.declared.explanation.Explanation.{Explanation as CodeExplanation}

-- ## What is added to the explanations so far

-- these are put behind them
abbrev pub Adds : List CodeExplanation → List CodeExplanation → List Explanation → Type 0
Adds old new es = view_explanations new ≡ view_explanations old ++ es

-- these, and behind them those
abbrev pub AddsTwo : List CodeExplanation → List CodeExplanation → List Explanation → List Explanation → Type 0
AddsTwo old new es fs = view_explanations new ≡ (view_explanations old ++ es) ++ fs

abbrev pub AddsThree : List CodeExplanation → List CodeExplanation → List Explanation → List Explanation → List Explanation → Type 0
AddsThree old new es fs gs = view_explanations new ≡ ((view_explanations old ++ es) ++ fs) ++ gs

-- what each rule finds, rule by rule
abbrev pub AddsAll : List CodeExplanation → List CodeExplanation → List (List Explanation) → Type 0
AddsAll old new findings = Adds old new (flat_map (λ es. es) findings)

-- what the rules on a definition's own name find, behind earlier definitions (5.2.1.1, 5.2.2.1, 5.5.1.1)
abbrev pub AddsOfName : List CodeExplanation → List CodeExplanation → Document → List Definition → Definition → Type 0
AddsOfName old new d earlier x = AddsThree old new (repeated_operation earlier x) (other_operation d x) (repeated_fragment earlier x)

-- what the rules on arguments find at a definition (5.4, 5.6.1)
abbrev pub AddsOfArguments : List CodeExplanation → List CodeExplanation → Schema → Definition → Type 0
AddsOfArguments old new s x = AddsThree old new (unknown_arguments (sites s x)) (missing_arguments (sites s x)) (wrong_arguments s (sites s x))

-- ## What is explained of a document

-- what is found at each definition, of which the earlier ones are given too
abbrev pub Explain : List CodeExplanation → (List Definition → Definition → List (List Explanation)) → Document → Type 0
Explain es f d = view_explanations es ≡ flat_map explanations_at (judged f [] d)

-- ## What is known of a document; the last argument is what is said where it is known

module _ {S : Type 0} (shown : S → Shown) where
  -- these are listed of its definitions, and these are its fragments
  abbrev pub WhereListed : List (CodeDefinition S) → List (Listed S) → FragmentsByName S → (Document → Type 0) → Type 0
  WhereListed xs ls fs P = AreListed shown ls (map (view_definition shown) xs) → AreFragmentsOf shown fs (map (view_definition shown) xs) →
      P (map (view_definition shown) xs)

  -- this is listed of one of its definitions
  abbrev pub WhereOneListed : Listed S → (Definition → Type 0) → Type 0
  WhereOneListed l P = IsListed shown l → P (definition_of shown l)

  -- these are listed of its definitions and of one of them, with their types, and these are its fragments
  abbrev pub WherePlaced : Schema → List (ListedOnTypes S) → FragmentsByName S → ListedOnTypes S → Document → (Definition → Type 0) → Type 0
  WherePlaced s ls fs l d P = AreListedOnTypes shown s ls d → AreFragmentsOf shown fs d → IsListedOnTypes shown s l → P (definition_of shown l.listed.now)

  -- these are listed of its definitions, with their types, these are its fragments, and these definitions have fields that cannot be merged
  abbrev pub WhereMerged : Schema → List (ListedOnTypes S) → FragmentsByName S → List Bool → Document → Type 0 → Type 0
  WhereMerged s ls fs marks d C = AreListedOnTypes shown s ls d → AreFragmentsOf shown fs d → marks ≡ map (cannot_merge s d) d → C

  -- so they are listed, this is what the fragments and what that one use of variables, and its fields cannot be merged where it is marked; what is
  -- said speaks of this schema and of earlier definitions too
  abbrev pub WhereUsed : Schema → UsesOfFragments → List (ListedOnTypes S) → FragmentsByName S → ListedOnTypes S → Used → Bool →
      (Schema → Document → List Definition → Definition → Type 0) → Type 0
  WhereUsed s reached ls fs l used mark P = (d : Document) (ds : List Definition) → AreUsesOfFragments s reached d → WherePlaced s ls fs l d
      (λ x. view_used used ≡ usage_of s x → mark ≡ cannot_merge s d x → P s d ds x)
