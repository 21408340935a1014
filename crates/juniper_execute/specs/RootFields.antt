-- The root fields of a mutation, as its walk has them (6.2.2, 6.3.2).
use Rattle.std.specs.Prelude.{◌≡◌, ℕ, List, []}
use Rattle.graphql_spec.specs.Shown.{Shown, Name}
use Rattle.graphql_spec.specs.Documents.{Head}
use Rattle.graphql_spec.specs.Directives.{passes}
use Rattle.graphql_spec.specs.Fields.{is_possible}
use Rattle.graphql_spec.specs.Fragments.{HasNoCycle, expand}
use Rattle.graphql_spec.specs.Inputs.{Variables}
use Rattle.graphql_spec.specs.Schema.{Schema}
use Rattle.graphql_spec.specs.Selections.{Forest, Occurrence, occurrences}
use Rattle.juniper_lookahead.specs.Collected.{view_all}
use Rattle.juniper_lookahead.specs.FragmentView.{IsMade, fragments_in}
use Rattle.juniper_lookahead.specs.declared.collecting.Collector.{Collector}
use Rattle.juniper_conversions.specs.PathView.{path_place}
use Rattle.juniper_syntax.specs.declared.position.Span.{Span}
use Rattle.juniper_syntax.specs.declared.position.Spanning.{Spanning}
use Rattle.juniper_lookahead.specs.declared.occurrences.Enclosing.{Enclosing}
use Rattle.juniper_walk.specs.Plans as plans
use Rattle.juniper_walk.specs.Plans.{IsAskedAt, IsStanding, IsStep, all_expanded, fields_at, key_at}
use Rattle.juniper_walk.specs.PlanWalks.{IsGroupOf}
use Rattle.juniper_walk.specs.declared.plan.GroupRange.{GroupRange}
use Rattle.juniper_walk.specs.declared.plan.Plan.{Plan}
use Rattle.juniper_syntax.specs.DocumentView.{view_selections, view_set}
use Rattle.juniper_syntax.specs.InputView.{view_variables}
use Rattle.juniper_syntax.specs.declared.ast.Field.{Field, out-Field}
use Rattle.juniper_walk.specs.FieldWords.{head_of}
use Rattle.juniper_execute.specs.Questions.{IsQuestion}
use Rattle.juniper_execute.specs.declared.question.Question.{Question}
use Rattle.juniper_execute.specs.declared.root_walk.RootWalk.{RootWalk}

-- ## Only private clauses cite what follows

module _ {M S : Type 0} (shown : S → Shown) (w : RootWalk M S) where
  -- the values of variables (6.1.2)
  abbrev pub values_in : Variables
  values_in = view_variables shown w.variables.now

  -- a field: its words, and what it selects, expanded
  abbrev pub field_in : Spanning (Field S) Span → Occurrence
  field_in f = record {
    head = head_of shown f;
    below =
        expand (passes values_in) (fragments_in shown w.fragments.now) (view_set shown (out-Field S f.item).selection_set);
  }

  -- what collects the root's fields
  abbrev pub collector_in : Collector S (Unit {0})
  collector_in = record { fragments = w.fragments; variables = w.variables; possible = tt }

  -- what the operation selects, expanded
  abbrev pub selected_in : Forest
  selected_in = expand (passes values_in) (fragments_in shown w.fragments.now) (view_selections shown w.selections.now)

  -- all of its fields (CollectFields, 6.3.2)
  abbrev pub all_fields : Schema → List Occurrence
  all_fields s = occurrences (is_possible s) w.concrete.now selected_in

  -- what the fields of a schema's types ask (6.4.1)
  abbrev pub asks_in : Schema → Name → Head → Question S → Type 0
  asks_in s = IsQuestion shown s values_in

  -- a plan stands
  abbrev pub IsRootPlan : Schema → Plan S (Question S) → Type 0
  IsRootPlan s = IsStanding shown collector_in (asks_in s) (is_possible s)

  -- it was added to, and stands
  abbrev pub IsRootStep : Schema → Plan S (Question S) → Plan S (Question S) → Type 0
  IsRootStep s = IsStep shown collector_in (asks_in s) (is_possible s)

  -- the fragments are those of a document without cycles, and the walk is at the root
  pub record IsReadyRoot : Type 0 where
    pub made : IsMade shown w.fragments.now
    pub acyclic : HasNoCycle (fragments_in shown w.fragments.now)
    pub at_root : path_place w.path.now.value ≡ []

  -- the occurrences of the root group of a number
  abbrev pub root_group : Plan S (Question S) → ℕ → List Occurrence
  root_group p i = view_all shown collector_in (fields_at p i)

  -- it is a group of the root's fields
  abbrev pub IsRootGroup : Schema → Plan S (Question S) → ℕ → Type 0
  IsRootGroup s p i = IsGroupOf (key_at p i) (all_fields s) (root_group p i)

  -- what is kept as asked for it is what it asks
  abbrev pub IsRootAsked : Schema → Plan S (Question S) → ℕ → Type 0
  IsRootAsked s p i = IsAskedAt (asks_in s) w.concrete.now p i (root_group p i)

  -- these groups of a plan stand for what selections hold for the mutation type
  abbrev pub IsRootMade : Schema → List (Enclosing S) → Plan S (Question S) → Plan S (Question S) → GroupRange → Type 0
  IsRootMade s es = plans.IsMade shown collector_in (asks_in s) (is_possible s) w.concrete.now
      (occurrences (is_possible s) w.concrete.now (all_expanded shown collector_in es))
