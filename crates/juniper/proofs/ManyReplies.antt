-- What nodes answer that are asked at once (6.4.2).
use Rattle.std.proofs.Common.{◌≡◌, Global, List, Ok, Result, Vec, map, sym, subst}
use Rattle.std.specs.Borrow.{Bor}
use Rattle.graphql_spec.specs.Resolvers.{Reply}
use Rattle.graphql_spec.specs.Shown.{Shown}
use Rattle.juniper_conversions.specs.declared.field_error.ResolveError.{ResolveError}
use Rattle.juniper_values.specs.ResolvedView.{AllAnswer}
use Rattle.juniper_values.specs.declared.resolved.Resolved.{Resolved}
use Rattle.juniper_execute.specs.Replied.{AreReplied}
use Rattle.juniper_execute.specs.declared.node_resolver.Nodes.{Nodes}
use Rattle.juniper_execute.specs.declared.node_resolver.Nodes.TheVariants as nodes
use Rattle.juniper_execute.specs.declared.node_resolver.Replies.TheVariants as replies

pub many-replied : {N S : Type 0} (shown : S → Shown) (reply : N → Reply N) (ns : Nodes N) (ms : Bor (Vec (Bor N) Global)) (l : List (Bor N))
    (answers : Vec (Result (Resolved N S) (ResolveError S)) Global) → ns ≡ nodes.Many ms → l ≡ ms.now.items →
    AllAnswer shown reply (map (λ n. n.now) l) answers.items → AreReplied shown reply ns (Ok (replies.Many answers))
many-replied shown reply ns ms l answers is same all =
    subst (λ n. AreReplied shown reply n (Ok (replies.Many answers))) (sym is)
    (subst (λ x. AllAnswer shown reply (map (λ n. n.now) x) answers.items) same all)
