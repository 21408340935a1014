-- Requests that are given in parts.
use Rattle.std.specs.Prelude.{ℕ, List, None, option_map, string_bytes}
use Rattle.serde_json.specs.View.{members_view}
use Rattle.juniper_request.specs.Requests.{Asked}
use Rattle.juniper_http.specs.declared.parts.RequestParts.{RequestParts}

abbrev pub asked_by : RequestParts → Asked
asked_by p = record {
  query = string_bytes p.query;
  operation_name = option_map string_bytes p.operation_name;
  variables = option_map (λ m. members_view m.entries) p.variables;
  extensions = option_map (λ m. members_view m.entries) p.extensions;
}

-- the request that a document alone is
abbrev pub asked_of : List ℕ → Asked
asked_of query = record { query = query; operation_name = None; variables = None; extensions = None }
