-- What the demo's resolver replies (6.4.2).
use Rattle.std.specs.Prelude.{ℕ, ℤ, pos, Bool, codes, cond, ◌+◌, ◌&&◌, [], ◌∷◌, Option, Some, None, Result, Ok, Err}
use Rattle.std.specs.Ordering.{int_eq}
use Rattle.std.specs.Str.{bytes_eq}
use Rattle.graphql_spec.specs.Shown.{Name, int, text}
use Rattle.graphql_spec.specs.Constants.{Constant, Members, find}
use Rattle.graphql_spec.specs.Resolvers.{Error, Reply, answered, failed, nothing, leaf, items, node}
use Rattle.juniper_values.specs.ResolvedView.{trees_of}
use Rattle.juniper_values.specs.Answered.{fails_with, int_reply, int_sum, text_reply, trees_reply}
use Rattle.juniper_conversions.specs.Conversions.{int_of, refusal_text}
use Rattle.juniper_values.specs.ArgumentsRead.{enum_argument, int_argument, or_error, with_read}
use Rattle.juniper_demo_server.specs.declared.demo.DemoContext.{DemoContext}
use Rattle.juniper_demo_server.specs.declared.demo.DemoNode.{DemoNode}
use Rattle.juniper_demo_server.specs.declared.demo.DemoNode.TheVariants.{Query, Droid, Human, Cell, Tally}
use Rattle.juniper_demo_server.specs.declared.demo.Episode.{Episode}
use Rattle.juniper_demo_server.specs.declared.demo.Episode.TheVariants.{NewHope, Empire, Jedi}

-- the object type of a node
abbrev pub concrete_type : DemoNode → Name
concrete_type Query = codes "Query"
concrete_type Droid = codes "Droid"
concrete_type Human = codes "Human"
concrete_type (Cell number) = codes "Cell"
concrete_type Tally = codes "Tally"

-- the episode of a name
abbrev pub episode_named : Name → Option Episode
episode_named n =
    cond (bytes_eq n (codes "NEWHOPE")) (Some NewHope)
    (cond (bytes_eq n (codes "EMPIRE")) (Some Empire)
    (cond (bytes_eq n (codes "JEDI")) (Some Jedi)
    None))

-- `hero`, by its argument
abbrev pub hero_reply : Option Episode → Reply DemoNode
hero_reply None = answered (node Droid)
hero_reply (Some NewHope) = answered (node Droid)
hero_reply (Some Empire) = answered (node Human)
hero_reply (Some Jedi) = answered (node Droid)

-- a sum that may be too large
abbrev pub sum_reply : Option ℤ → Reply DemoNode
sum_reply None = fails_with (codes "Too large")
sum_reply (Some sum) = int_reply sum

-- `number`, by its argument
abbrev pub number_reply : Option ℤ → Reply DemoNode
number_reply None = answered nothing
number_reply (Some plus) = sum_reply (int_sum plus (pos 41))

-- a field of the query type; `nothing` is null, as is all that is not declared
abbrev pub query_reply : Name → Members → Reply DemoNode
query_reply field arguments =
    cond (bytes_eq field (codes "id")) (text_reply (codes "q1"))
    (cond (bytes_eq field (codes "name")) (text_reply (codes "demo"))
    (cond (bytes_eq field (codes "number")) (with_read (int_argument (find (codes "plus") arguments)) number_reply)
    (cond (bytes_eq field (codes "fail")) (fails_with (codes "failed"))
    (cond (bytes_eq field (codes "odd")) (trees_reply (leaf (int (pos 1)) ∷ []))
    (cond (bytes_eq field (codes "hero")) (with_read (enum_argument episode_named (find (codes "episode") arguments)) hero_reply)
    (cond (bytes_eq field (codes "mustHero")) (answered (node Droid))
    (cond (bytes_eq field (codes "ids")) (trees_reply (leaf (int (pos 1)) ∷ nothing ∷ []))
    (cond (bytes_eq field (codes "grid")) (trees_reply (items (trees_of (node (Cell 0) ∷ [])) ∷ items (trees_of (node (Cell 1) ∷ [])) ∷ []))
    (cond (bytes_eq field (codes "holes")) (trees_reply (items (trees_of (node (Cell 0) ∷ nothing ∷ [])) ∷ []))
    (answered nothing))))))))))

-- `appearsIn`
abbrev pub episodes_reply : Reply DemoNode
episodes_reply = trees_reply (leaf (text (codes "NEWHOPE")) ∷ leaf (text (codes "EMPIRE")) ∷ leaf (text (codes "JEDI")) ∷ [])

-- a field of the droid
abbrev pub droid_reply : Name → Reply DemoNode
droid_reply field =
    cond (bytes_eq field (codes "id")) (text_reply (codes "2001"))
    (cond (bytes_eq field (codes "name")) (text_reply (codes "R2-D2"))
    (cond (bytes_eq field (codes "appearsIn")) episodes_reply
    (cond (bytes_eq field (codes "friends")) (trees_reply (node Human ∷ nothing ∷ []))
    (cond (bytes_eq field (codes "secret")) (fails_with (codes "secret is secret"))
    (cond (bytes_eq field (codes "primaryFunction")) (text_reply (codes "Astromech"))
    (answered nothing))))))

-- a field of the human
abbrev pub human_reply : Name → Reply DemoNode
human_reply field =
    cond (bytes_eq field (codes "id")) (text_reply (codes "1000"))
    (cond (bytes_eq field (codes "name")) (text_reply (codes "Luke Skywalker"))
    (cond (bytes_eq field (codes "appearsIn")) episodes_reply
    (cond (bytes_eq field (codes "friends")) (trees_reply (node Droid ∷ []))
    (cond (bytes_eq field (codes "secret")) (fails_with (codes "secret is secret"))
    (cond (bytes_eq field (codes "height")) (int_reply (pos 172))
    (answered nothing))))))

-- a field of the cell of a number
abbrev pub cell_reply : ℕ → Name → Reply DemoNode
cell_reply number field =
    cond (bytes_eq field (codes "a")) (int_reply (pos (10 + number)))
    (cond (bytes_eq field (codes "b")) (int_reply (pos (20 + number)))
    (answered nothing))

-- a field of the tally, which shows the context
abbrev pub tally_reply : DemoContext → Name → Reply DemoNode
tally_reply c field =
    cond (bytes_eq field (codes "total")) (int_reply c.total)
    (cond (bytes_eq field (codes "count")) (int_reply c.count)
    (answered nothing))

-- the reply to a field of a node, in a context
abbrev pub reply : DemoContext → DemoNode → Name → Members → Reply DemoNode
reply c Query field arguments = query_reply field arguments
reply c Droid field arguments = droid_reply field
reply c Human field arguments = human_reply field
reply c (Cell number) field arguments = cell_reply number field
reply c Tally field arguments = tally_reply c field

-- ## Mutations (6.2.2)

-- a context of these numbers, if both are Ints
abbrev pub tallied : Option ℤ → Option ℤ → Option DemoContext
tallied None count = None
tallied (Some total) None = None
tallied (Some total) (Some count) = Some (record { total = total; count = count })

-- the context after a number is added, if it can hold that
abbrev pub plus : DemoContext → ℤ → Option DemoContext
plus c n = tallied (int_sum c.total n) (int_sum c.count (pos 1))

-- an addition, and the tally; one that is too large changes nothing
abbrev pub after_sum : DemoContext → Option DemoContext → DemoContext × Reply DemoNode
after_sum c None = (c, fails_with (codes "Too large"))
after_sum c (Some d) = (d, answered (node Tally))

-- an Int that may be missing; null is none
abbrev pub given_int : Option Constant → Result (Option ℤ) Error
given_int None = Ok None
given_int (Some v) = or_error (refusal_text (codes "Int") v) (int_of v)

-- `add`, by its argument
abbrev pub add_step : DemoContext → Result (Option ℤ) Error → DemoContext × Reply DemoNode
add_step c (Err e) = (c, failed e)
add_step c (Ok None) = (c, answered nothing)
add_step c (Ok (Some n)) = after_sum c (plus c n)

-- the step of a field of the mutation type
abbrev pub step : DemoContext → Name → Members → DemoContext × Reply DemoNode
step c field arguments =
    cond (bytes_eq field (codes "add")) (add_step c (given_int (find (codes "n") arguments)))
    (cond (bytes_eq field (codes "fail")) (c, fails_with (codes "failed"))
    (c, answered nothing))

-- no step is cut short in between: where memory is wanting, the context is as it was
abbrev pub torn : DemoContext → DemoContext → Bool
torn c after = int_eq after.total c.total && int_eq after.count c.count
