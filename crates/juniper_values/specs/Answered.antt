-- Words for replies (6.4.2).
use Rattle.std.specs.Prelude.{ℤ, ◌+ℤ◌, cond, List, map, Option, Some, None}
use Rattle.graphql_spec.specs.Shown.{Text, int, text}
use Rattle.graphql_spec.specs.Tokens.{fits_int}
use Rattle.graphql_spec.specs.Resolvers.{Tree, Reply, answered, failed, leaf, items}
use Rattle.juniper_conversions.specs.Messages.{message_alone}
use Rattle.juniper_values.specs.Replies.{list_reply}
use Rattle.juniper_values.specs.ResolvedView.{trees_of}

-- a text
abbrev pub text_reply : {N : Type 0} → Text → Reply N
text_reply t = answered (leaf (text t))

-- an Int
abbrev pub int_reply : {N : Type 0} → ℤ → Reply N
int_reply i = answered (leaf (int i))

-- a list of trees
abbrev pub trees_reply : {N : Type 0} → List (Tree N) → Reply N
trees_reply ts = answered (items (trees_of ts))

-- a list of what stands for replies
abbrev pub each_reply : {T N : Type 0} → (T → Reply N) → List T → Reply N
each_reply resolves xs = list_reply (map resolves xs)

-- an error of this message alone
abbrev pub fails_with : {N : Type 0} → Text → Reply N
fails_with t = failed (message_alone t)

-- a sum, where it is an Int (3.5.1)
abbrev pub int_sum : ℤ → ℤ → Option ℤ
int_sum a b = cond (fits_int (a +ℤ b)) (Some (a +ℤ b)) None
