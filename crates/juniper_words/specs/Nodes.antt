-- Objects and lists of objects as replies (3.11, 3.12).
use Rattle.std.specs.Prelude.{◌≡◌, ◌<◌, ℕ, Bool, List, map, Option, Some, None}
use Rattle.std.specs.Fn.{FnReturns, FnReturnsAt, Shared}
use Rattle.std.specs.List.{enumerate_from, filter}
use Rattle.graphql_spec.specs.Resolvers.{Reply, answered, node, nothing}
use Rattle.juniper_values.specs.Answered.{trees_reply}
use denote.Ref.{Bor}

-- the list of the objects of these nodes
abbrev pub nodes_reply : {N : Type 0} → List N → Reply N
nodes_reply ns = trees_reply (map (λ n. node n) ns)

-- the object of a node, or null where there is none
abbrev pub object_or_null : {N : Type 0} → Option N → Reply N
object_or_null None = answered nothing
object_or_null (Some n) = answered (node n)

-- the nodes of the entries that pass, in order, each by its place
abbrev pub nodes_where : {E N : Type 0} → (ℕ → N) → (E → Bool) → List E → List N
nodes_where place passes es = map (λ e. place e.0) (filter (λ e. passes e.1) (enumerate_from 0 es))

-- the nodes of these places, in order
abbrev pub nodes_at : {N : Type 0} → (ℕ → N) → List ℕ → List N
nodes_at place places = map place places

-- at each place a call of the closure gives the node that the function gives
abbrev pub MakesEach : {F N : Type 0} → Shared F (ℕ × Unit {0}) N → F → (ℕ → N) → Type 0
MakesEach g f at = (i : ℕ) (n : _) → FnReturns g f (i, tt) n → n ≡ at i

-- at each place below this one, a call of the closure gives the node that the function gives
abbrev pub Makes : {F N : Type 0} → Shared F (ℕ × Unit {0}) N → F → ℕ → (ℕ → N) → Type 0
Makes g f end at = (i : ℕ) (n : _) → i < end → FnReturns g f (i, tt) n → n ≡ at i

-- at each entry, a call of the closure answers as the test does
abbrev pub Tests : {F E : Type 0} → Shared F (Bor E × Unit {0}) Bool → F → (E → Bool) → Type 0
Tests g f test = (e : _) (b : Bool) → FnReturnsAt g f e b → b ≡ test e
