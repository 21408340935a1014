-- How calls are seen.
use Rattle.std.specs.Prelude.{map, List}
use Rattle.graphql_spec.specs.Shown.{Shown}
use Rattle.graphql_spec.specs.Documents.{written}
use Rattle.graphql_spec.specs.Placed as spec
use Rattle.juniper_syntax.specs.DocumentView.{view_arguments}
use Rattle.juniper_meta.specs.MetaView.{view_argument}
use Rattle.juniper_type_rules.specs.declared.call.Call.{Call}

module _ {S : Type 0} (shown : S → Shown) where
  -- arguments with their declarations (5.4)
  abbrev pub view_call : Call S → spec.Call
  view_call c = record { declared = map (view_argument shown) c.declared.now; given = written (view_arguments shown c.given.now) }

  abbrev pub view_calls : List (Call S) → List spec.Call
  view_calls = map view_call
