-- What a service asks, and what its plans stand for (6.3.2, 6.4); only private clauses cite this.
use Rattle.std.specs.Prelude.{ℕ, List}
use Rattle.std.specs.Borrow.{Bor}
use Rattle.std.specs.declared.cmp.PartialEq.{Ghosts as Equality}
use Rattle.std.specs.declared.fmt.Debug.{Ghosts as Shows}
use Rattle.graphql_spec.specs.Documents.{Head}
use Rattle.graphql_spec.specs.Fields.{is_possible}
use Rattle.graphql_spec.specs.Resolvers.{Reply, World}
use Rattle.graphql_spec.specs.Selections.{Forest, Occurrence, occurrences}
use Rattle.graphql_spec.specs.Shown.{Name, Shown}
use Rattle.juniper_lookahead.specs.Collected.{expansion, view_all}
use Rattle.juniper_lookahead.specs.declared.collecting.Collector.{Collector}
use Rattle.juniper_lookahead.specs.declared.fragments.FragmentMap.{FragmentMap}
use Rattle.juniper_lookahead.specs.declared.occurrences.Enclosing.{Enclosing}
use Rattle.juniper_schema.specs.SchemaView.{view_schema}
use Rattle.juniper_syntax.specs.DocumentView.{view_selections}
use Rattle.juniper_syntax.specs.InputView.{view_variables}
use Rattle.juniper_syntax.specs.declared.ast.Selection.{Selection}
use Rattle.juniper_syntax.specs.declared.scalar.ScalarValue.{Ghosts as Scalars}
use Rattle.juniper_walk.specs.Plans.{IsMade, IsStanding, IsStep, all_expanded, fields_at}
use Rattle.juniper_walk.specs.declared.plan.GroupRange.{GroupRange}
use Rattle.juniper_walk.specs.declared.plan.Plan.{Plan}
use Rattle.juniper_execute.specs.Meanings.{Meaning, world_at}
use Rattle.juniper_execute.specs.Questions.{IsQuestion, meant_arguments}
use Rattle.juniper_execute.specs.Walkings.{collector_of}
use Rattle.juniper_execute.specs.declared.node_resolver.NodeTypes.{Ghosts as Nodes}
use Rattle.juniper_execute.specs.declared.question.Question.{Question}
use Rattle.juniper_execute.specs.declared.service.Service.{Service}

module _ {R S C N : Type 0} {nodes : Nodes R S C N} {scalar : Scalars S} {equality : Equality S} {shows : Shows S} where
  module _ (meaning : R → Meaning C N) (shown : S → Shown) (r : Service R S C N nodes scalar equality shows) where
    -- all that it asks (6.4)
    abbrev pub service_world : World N
    service_world = world_at (meaning r.resolver.now) (view_schema shown r.schema.now) (view_variables shown r.variables.now) r.context.now

    -- the reply of a node of an object type to a field, asked with its arguments (6.4.2)
    abbrev pub service_reply : Name → Head → N → Reply N
    service_reply T h = λ n. (meaning r.resolver.now).answer r.context.now n h.name.item
        (meant_arguments (view_schema shown r.schema.now) (view_variables shown r.variables.now) T h)

  module _ (shown : S → Shown) (r : Service R S C N nodes scalar equality shows) (fs : Bor (FragmentMap S)) where
    -- what collects the fields of its request
    abbrev pub service_collector : Collector S (Service R S C N nodes scalar equality shows)
    service_collector = collector_of fs r.variables r

    -- selections, expanded
    abbrev pub service_selected : List (Selection S) → Forest
    service_selected ss = expansion shown service_collector (view_selections shown ss)

    -- the occurrences of the group of a number
    abbrev pub service_group : Plan S (Question S) → ℕ → List Occurrence
    service_group p i = view_all shown service_collector (fields_at p i)

    -- a plan stands
    abbrev pub IsServicePlan : Plan S (Question S) → Type 0
    IsServicePlan = IsStanding shown service_collector (IsQuestion shown (view_schema shown r.schema.now) (view_variables shown r.variables.now))
        (is_possible (view_schema shown r.schema.now))

    -- it was added to, and stands
    abbrev pub IsServiceStep : Plan S (Question S) → Plan S (Question S) → Type 0
    IsServiceStep = IsStep shown service_collector (IsQuestion shown (view_schema shown r.schema.now) (view_variables shown r.variables.now))
        (is_possible (view_schema shown r.schema.now))

    -- these groups of it stand for what selections hold for an object type
    abbrev pub IsServiceMade : Name → List (Enclosing S) → Plan S (Question S) → Plan S (Question S) → GroupRange → Type 0
    IsServiceMade T es = IsMade shown service_collector (IsQuestion shown (view_schema shown r.schema.now) (view_variables shown r.variables.now))
        (is_possible (view_schema shown r.schema.now)) T
        (occurrences (is_possible (view_schema shown r.schema.now)) T (all_expanded shown service_collector es))
