-- What nodes answer to a field, one of them or many at once (6.4.2); only private clauses cite this.
use Rattle.std.specs.Prelude.{◌≡◌, ◌<◌, length, map, Ok, Err, Result, Vec}
use Rattle.std.specs.declared.alloc.AllocError.{AllocError}
use Rattle.std.specs.declared.alloc.Global.{Global}
use Rattle.graphql_spec.specs.Resolvers.{Reply}
use Rattle.graphql_spec.specs.Shown.{Shown}
use Rattle.juniper_conversions.specs.declared.field_error.ResolveError.{ResolveError}
use Rattle.juniper_conversions.specs.declared.field_error.ResolveError.TheVariants.{Field, Memory}
use Rattle.juniper_values.specs.ResolvedView.{AllAnswer, Answers}
use Rattle.juniper_values.specs.declared.resolved.Resolved.{Resolved}
use Rattle.juniper_execute.specs.declared.node_resolver.Nodes.{Nodes}
use Rattle.juniper_execute.specs.declared.node_resolver.Nodes.TheVariants as nodes
use Rattle.juniper_execute.specs.declared.node_resolver.Replies.{Replies}
use Rattle.juniper_execute.specs.declared.node_resolver.Replies.TheVariants as replies

-- a node is asked at least
abbrev pub AreSome : {N : Type 0} → Nodes N → Type 0
AreSome (nodes.One n) = Unit {0}
AreSome (nodes.Many ns) = 0 < length ns.now.items

-- the one node gave its reply, or each of the many its own, in their order; or memory was refused
abbrev pub AreReplied : {N S : Type 0} → (S → Shown) → (N → Reply N) → Nodes N → Result (Replies N S) (ResolveError S) → Type 0
AreReplied shown reply (nodes.One n) (Ok (replies.One a)) = Answers shown (Ok a) (reply n.now)
AreReplied shown reply (nodes.One n) (Ok (replies.Many as')) = ⊥
AreReplied shown reply (nodes.One n) (Err e) = Answers shown (Err e) (reply n.now)
AreReplied shown reply (nodes.Many ns) (Ok (replies.One a)) = ⊥
AreReplied shown reply (nodes.Many ns) (Ok (replies.Many as')) = AllAnswer shown reply (map (λ n. n.now) ns.now.items) as'.items
AreReplied shown reply (nodes.Many ns) (Err (Field e)) = ⊥
AreReplied shown reply (nodes.Many ns) (Err Memory) = Unit {0}

-- the answer of one node, where one was asked
abbrev pub IsOnlyReply : {N S : Type 0} → (S → Shown) → Result (Replies N S) (ResolveError S) → Result (Resolved N S) (ResolveError S) → Type 0
IsOnlyReply {N} {S} shown (Ok (replies.One a)) r = r ≡ Ok a
IsOnlyReply {N} {S} shown (Ok (replies.Many as')) r = Unit {0}
IsOnlyReply {N} {S} shown (Err e) r = r ≡ Err e

-- the answers of many nodes, where many were asked
abbrev pub AreAllReplies : {N S : Type 0} → (S → Shown) → Result (Replies N S) (ResolveError S) →
    Result (Vec (Result (Resolved N S) (ResolveError S)) Global) AllocError → Type 0
AreAllReplies shown (Ok (replies.Many as')) r = r ≡ Ok as'
AreAllReplies shown (Ok (replies.One a)) r = Unit {0}
AreAllReplies shown (Err e) r = (e : AllocError) × (r ≡ Err e)
