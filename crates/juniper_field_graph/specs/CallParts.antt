-- Calls as lists of parts: the number of a response key, the field's name, and its arguments by what they mean. Only private
-- clauses cite what stands here.
use Rattle.std.specs.Prelude.{ℕ, List, [], ◌∷◌, ◌++◌, Option, map, Vec}
use Rattle.std.specs.Borrow.{Bor}
use Rattle.std.specs.BTreeMap.{BTreeMap, get_by, insert_entry}
use Rattle.std.specs.Cmp.Lexicographic.{slice_cmp}
use Rattle.std.specs.Ordering.{bool_cmp, int_cmp, nat_cmp, ordering_then}
use Rattle.std.specs.declared.cmp.Ordering.{Ordering}
use Rattle.std.specs.declared.cmp.Ordering.TheVariants.{Equal, Greater, Less}
use Rattle.std.specs.declared.alloc.Global.{Global}
use Rattle.graphql_spec.specs.Arguments.{written_meaning}
use Rattle.graphql_spec.specs.Constants.{Constant, Constants, Members, constant, enumerated, list, member, no_constants, no_members, null, object}
use Rattle.graphql_spec.specs.Constants.{scalar, variable}
use Rattle.graphql_spec.specs.Documents.{Head, written}
use Rattle.graphql_spec.specs.Shown.{Name, Shown, boolean, int, text}
use Rattle.juniper_field_graph.specs.declared.calls.Part.{Part as CodePart}
use Rattle.juniper_field_graph.specs.declared.calls.Part.TheVariants as code

pub data Part : Type 0 where
  a_key : ℕ → Part
  a_name : Name → Part
  a_null : Part
  a_scalar : Shown → Part
  an_enum : Name → Part
  a_variable : Name → Part
  a_list : Part
  an_object : Part
  the_end : Part

-- ## What a call's parts are

-- those of a value: what stands in it follows its kind, up to an end
unfoldable mutual
  pub value_parts : Constant → List Part
  value_parts null = a_null ∷ []
  value_parts (scalar s) = a_scalar s ∷ []
  value_parts (enumerated e) = an_enum e ∷ []
  value_parts (variable x) = a_variable x ∷ []
  value_parts (list us) = a_list ∷ item_parts us
  value_parts (object ms) = an_object ∷ member_parts ms

  -- item by item
  pub item_parts : Constants → List Part
  item_parts no_constants = the_end ∷ []
  item_parts (constant u us) = value_parts u ++ item_parts us

  -- member by member, each behind its name
  pub member_parts : Members → List Part
  member_parts no_members = the_end ∷ []
  member_parts (member k u ms) = a_name k ∷ (value_parts u ++ member_parts ms)

-- those of a field whose response key has this number
unfoldable pub call_parts : ℕ → Head → List Part
call_parts k h = a_key k ∷ a_name h.name.item ∷ member_parts (written_meaning (written h.arguments))

-- ## Members, each by its name with its parts

unfoldable pub listed_parts : Members → List (Name × List Part)
listed_parts no_members = []
listed_parts (member k u ms) = (k, value_parts u) ∷ listed_parts ms

-- one behind the other, up to an end
unfoldable pub joined_parts : List (Name × List Part) → List Part
joined_parts [] = the_end ∷ []
joined_parts (m ∷ ms) = a_name m.0 ∷ (m.1 ++ joined_parts ms)

-- with these parts at a name
abbrev pub put_in_order : Name → List Part → List (Name × List Part) → List (Name × List Part)
put_in_order k ps ms = insert_entry (slice_cmp nat_cmp) ms k ps

-- ## The code's parts

unfoldable pub view_part : CodePart → Part
view_part (code.Key k) = a_key k
view_part (code.Name n) = a_name n.now
view_part code.Null = a_null
view_part (code.Int i) = a_scalar (int i)
view_part (code.Text t) = a_scalar (text t.now)
view_part (code.Boolean b) = a_scalar (boolean b)
view_part (code.Enum e) = an_enum e.now
view_part (code.Variable x) = a_variable x.now
view_part code.List = a_list
view_part code.Object = an_object
view_part code.End = the_end

abbrev pub view_parts : List CodePart → List Part
view_parts ps = map view_part ps

abbrev pub view_members : List (Bor Name × Vec CodePart Global) → List (Name × List Part)
view_members ms = map (λ m. (m.0.now, view_parts m.1.items)) ms

-- ## Numbers of calls

-- parts are in the order of their kinds; those of one kind in the order of what they hold
unfoldable pub rank : Part → ℕ
rank (a_key k) = 0
rank (a_name n) = 1
rank a_null = 2
rank (a_scalar s) = 3
rank (an_enum e) = 4
rank (a_variable x) = 5
rank a_list = 6
rank an_object = 7
rank the_end = 8

unfoldable pub compare_shown : Shown → Shown → Ordering
compare_shown (int i) (int j) = int_cmp i j
compare_shown (int i) _ = Less
compare_shown (text s) (int i) = Greater
compare_shown (text s) (text t) = slice_cmp nat_cmp s t
compare_shown (text s) (boolean b) = Less
compare_shown (boolean b) (boolean c) = bool_cmp b c
compare_shown (boolean b) _ = Greater

unfoldable pub compare_held : Part → Part → Ordering
compare_held (a_key k) (a_key l) = nat_cmp k l
compare_held (a_name n) (a_name m) = slice_cmp nat_cmp n m
compare_held (a_scalar s) (a_scalar t) = compare_shown s t
compare_held (an_enum e) (an_enum f) = slice_cmp nat_cmp e f
compare_held (a_variable x) (a_variable y) = slice_cmp nat_cmp x y
compare_held _ _ = Equal

unfoldable pub compare_parts : Part → Part → Ordering
compare_parts p q = ordering_then (nat_cmp (rank p) (rank q)) (compare_held p q)

-- the number that a map has at the parts of a call
unfoldable pub number_of_parts : BTreeMap (Vec CodePart Global) ℕ → List Part → Option ℕ
number_of_parts m ps = get_by (λ k. slice_cmp compare_parts ps (view_parts k.items)) m
