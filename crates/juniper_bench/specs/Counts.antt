-- How much a document selects.
use Rattle.std.specs.Prelude.{ℕ, suc, ◌+◌, ◌-◌, ◌^◌, [], ◌∷◌, min}
use Rattle.graphql_spec.specs.Documents.{Definition, Document, operation, fragment, Selections, end, field, spread, inline}

-- how many fields selections have, with those below them at every level (2.5)
unfoldable pub fields_in : Selections → ℕ
fields_in end = 0
fields_in (field head below rest) = suc (fields_in below + fields_in rest)
fields_in (spread head rest) = fields_in rest
fields_in (inline head below rest) = fields_in below + fields_in rest

-- what a definition selects (2.3, 2.8)
unfoldable pub selections_of : Definition → Selections
selections_of (operation o) = o.selections
selections_of (fragment f) = f.selections

-- how many fields the definitions of a document have; a fragment's count once, however often it is spread (2.2)
unfoldable pub fields_of : Document → ℕ
fields_of [] = 0
fields_of (d ∷ ds) = fields_in (selections_of d) + fields_of ds

-- a number, and of one that 64 bits do not hold the largest that they hold
unfoldable pub capped : ℕ → ℕ
capped n = min n (2 ^ 64 - 1)
