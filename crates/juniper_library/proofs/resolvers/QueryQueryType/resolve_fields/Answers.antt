use Rattle.std.proofs.Common.{◌≡◌, ◌∙◌, IfOk, cond, codes, map, true, sym, ap, subst}
use Rattle.juniper.specs.Server.{AllAnswer, bytes_eq, view_arguments}
use Rattle.juniper_library.specs.Catalogue.{Catalogue}
use Rattle.juniper_library.specs.Replies.{copies, copies_reply, other_field}
use Rattle.juniper_library.proofs.resolvers.QueryQueryType.resolve_fields.Goals as goal

pub returns-then-eq : goal.returns-then-eq
returns-then-eq g c =
    let shown = g.S.ScalarValue.shown in
    let s = c.args.executor.now.context.now in
    let field = c.args.field_name.now in
    let members = view_arguments shown c.args.arguments.now in
    let nodes = map (λ n. n.now) c.args.nodes.now in
    let e : bytes_eq field (codes "copies") ≡ true = sym c.eq.ensures ∙ c.if-eq.true in
    let all = c.load_copies.ensures ∙ ap (λ (x : Catalogue). x.copies) c.context.ensures in
    subst (λ b. IfOk c.copies_of.result (λ made. AllAnswer shown (λ n. cond b (copies_reply (copies s.copies n))
    (other_field s n field members)) nodes made.items)) (sym e)
    (subst (λ known. IfOk c.copies_of.result (λ made. AllAnswer shown (λ n. copies_reply (copies known n)) nodes made.items)) all c.copies_of.ensures)
