-- What the fields of the parser show. Only private clauses cite it.
use Rattle.std.specs.Prelude.{map}
use Rattle.graphql_spec.specs.Grammar.{At}
use Rattle.juniper_syntax.specs.Positions.{view_position}
use Rattle.juniper_tokens.specs.TokenViews.{view_token}
use Rattle.juniper_language.specs.declared.cursor.Parser.TheInside.{Inside}

-- what is left of the tokens
abbrev pub view_at : Inside → At
view_at p = record { last = view_position p.last.now; ahead = map view_token p.tokens.now }
