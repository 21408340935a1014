-- What a script answers: the look-up in its lines.
use Rattle.std.specs.Prelude.{ℕ, ◌+◌, ◌%◌, ◌^◌, pos, Bool, ◌&&◌, cond, List, [], ◌∷◌, Option, Some, None}
use Rattle.std.specs.Bool.{nat_eq}
use Rattle.std.specs.Str.{bytes_eq}
use Rattle.graphql_spec.specs.Shown.{Name, int, text, boolean}
use Rattle.graphql_spec.specs.Constants.{Constant, Members, find, null, scalar, enumerated, variable, list, object}
use Rattle.graphql_spec.specs.Resolvers as spec
use Rattle.graphql_spec.specs.Resolvers.{Reply, answered, failed, nothing, leaf, items, node}
use Rattle.juniper_conversions.specs.Messages.{message_alone}
use Rattle.juniper_values.specs.ResolvedView.{trees_of}
use Rattle.juniper_test_root.specs.declared.script.Node.{Node}
use Rattle.juniper_test_root.specs.declared.script.Line.{Line}
use Rattle.juniper_test_root.specs.declared.script.Notes.{Notes}
use Rattle.juniper_test_root.specs.declared.script.Script.{Script}
use Rattle.juniper_test_root.specs.declared.script.Answer.{Answer}
use Rattle.juniper_test_root.specs.declared.script.Answer.TheVariants.{Given, Error, Argument, Steps}
use Rattle.juniper_test_root.specs.declared.script.Tree.{Tree, fold-Tree}
use Rattle.juniper_test_root.specs.declared.script.Tree.TheOpen.{Tree-F}

-- one level of a value, with each item inside already seen
abbrev pub tree_step : Tree-F (spec.Tree Node) → spec.Tree Node
tree_step Tree-F.Null = nothing
tree_step (Tree-F.Int i) = leaf (int i)
tree_step (Tree-F.Text t) = leaf (text t.now)
tree_step (Tree-F.Boolean b) = leaf (boolean b)
tree_step (Tree-F.Object n) = node n
tree_step (Tree-F.List v) = items (trees_of v.items)

-- a value of a script
abbrev pub view_tree : Tree → spec.Tree Node
view_tree = fold-Tree (spec.Tree Node) tree_step

-- the value of an argument: null where it is neither a scalar nor an enum's value
abbrev pub constant_tree : Constant → spec.Tree Node
constant_tree null = nothing
constant_tree (scalar s) = leaf s
constant_tree (enumerated e) = leaf (text e)
constant_tree (variable x) = nothing
constant_tree (list cs) = nothing
constant_tree (object ms) = nothing

-- the value of an argument, where there is one; else null
abbrev pub argument_reply : Option Constant → Reply Node
argument_reply None = answered nothing
argument_reply (Some c) = answered (constant_tree c)

-- what an answer of a script says, where there is one, after so many steps; else null
abbrev pub line_reply : Option Answer → ℕ → Members → Reply Node
line_reply None steps arguments = answered nothing
line_reply (Some (Given t)) steps arguments = answered (view_tree t)
line_reply (Some (Error m)) steps arguments = failed (message_alone m.now)
line_reply (Some (Argument n)) steps arguments = argument_reply (find n.now arguments)
line_reply (Some Steps) steps arguments = answered (leaf (int (pos steps)))

-- a line tells what an owner answers to a field
abbrev pub is_for : Name → Name → Line → Bool
is_for owner field l = bytes_eq l.owner.now owner && bytes_eq l.field.now field

-- the answer of the first line of an owner and a field
unfoldable pub find_line : Name → Name → List Line → Option Answer
find_line owner field [] = None
find_line owner field (l ∷ ls) = cond (is_for owner field l) (Some l.answer) (find_line owner field ls)

-- the answer by the node's lines, else by those of its object type
abbrev pub or_by_type : List Line → Node → Name → Option Answer → Option Answer
or_by_type ls n field None = find_line n.object_type.now field ls
or_by_type ls n field (Some a) = Some a

abbrev pub answer_of : List Line → Node → Name → Option Answer
answer_of ls n field = or_by_type ls n field (find_line n.name.now field ls)

-- what a node answers to a field in a context
abbrev pub reply : Script → Notes → Node → Name → Members → Reply Node
reply s c n field arguments = line_reply (answer_of s.lines.items n field) c.steps arguments

-- the context after one more step; they are counted modulo 256
abbrev pub stepped : Notes → Notes
stepped c = record { sights = c.sights; seen = c.seen; steps = (c.steps + 1) % 2 ^ 8 }

-- the step of a root field: one more is counted, and the field answers as it does of the root's node
abbrev pub step : Script → Notes → Name → Members → Notes × Reply Node
step s c field arguments = (stepped c, reply s (stepped c) s.root field arguments)

-- where memory is wanting no step is counted
abbrev pub torn : Notes → Notes → Bool
torn c after = nat_eq after.steps c.steps

-- the object type of a node
abbrev pub concrete_type : Node → Name
concrete_type n = n.object_type.now

-- the node of the root
abbrev pub root_of : Script → Node
root_of s = s.root
