-- Whether selection sets and values fit (5.3.3, 5.6.1).
use Rattle.std.specs.Prelude.{Bool, false, not, Option, Some, None}
use Rattle.graphql_spec.specs.Placed.{Placed}
use Rattle.graphql_spec.specs.Rules.{set_is_wrong}
use Rattle.graphql_spec.specs.Documents.{VariableDefinition}
use Rattle.graphql_spec.specs.Fits.{fits}
use Rattle.graphql_spec.specs.Inputs.{Input}
use Rattle.graphql_spec.specs.Schema.{InputDeclaration, Schema}

-- a field that is known, and whose selection set does not fit its type; the test of `Rules.has_wrong_set`
unfoldable pub has_wrong_set : Schema → Placed → Bool
has_wrong_set s p = elim p.declared [ None ↦ false | Some d ↦ set_is_wrong s p.head.has_set d.of_type ]

-- a value that does not fit its declared argument (5.6.1); only private clauses cite it
unfoldable pub misfits : Schema → Option InputDeclaration → Input → Bool
misfits s o v = elim o [ None ↦ false | Some d ↦ not (fits s false v d.of_type) ]

-- a variable whose default does not fit its type (5.6.1); only private clauses cite it
unfoldable pub has_misfit : Schema → VariableDefinition → Bool
has_misfit s v = elim v.default [ None ↦ false | Some w ↦ not (fits s false w.item v.of_type.item) ]
