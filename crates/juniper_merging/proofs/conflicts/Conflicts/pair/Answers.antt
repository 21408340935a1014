use Rattle.std.proofs.Common.{subst, sym, ◌∙◌}
use Rattle.juniper_merging.specs.Conflicts.{IsQuietEntry}
use Rattle.juniper_merging.specs.Questions.{seen}
use Rattle.juniper_merging.proofs.Looked.{none-some}
use Rattle.juniper_merging.proofs.Quiet.{entry-quiet, quiet-paired}
use Rattle.juniper_merging.proofs.Told.{some-same}
use Rattle.juniper_merging.proofs.Vertices.{found-at, missing-at, vertex-none, vertex-some}
use Rattle.juniper_merging.proofs.conflicts.Conflicts.pair.Goals as goal

pub returns-then-not-is_loud-2 : goal.returns-then-not-is_loud-2
returns-then-not-is_loud-2 c t H F G known one other =
    let vertices = c.args.vertices.now in
    let loud = c.args.self.now.loud.items in
    quiet-paired (seen t vertices) H loud known.quiet F G one.head other.head
    (entry-quiet t vertices H loud F c.args.first.now (subst (λ l. IsQuietEntry vertices l c.args.first.now) c.deref.ensures.value
    (c.is_loud.ensures c.if-not-is_loud.true)) one)
    (entry-quiet t vertices H loud G c.args.second.now (subst (λ l. IsQuietEntry vertices l c.args.second.now) c.deref-then-not-is_loud.ensures.value
    (c.is_loud-then-not-is_loud.ensures c.if-not-is_loud-2.true)) other)

pub returns-in_ok-clash-in-Some-Some : goal.returns-in_ok-clash-in-Some-Some
returns-in_ok-clash-in-Some-Some c t H F G known one other =
    let vs = c.args.vertices.now in
    let x = c.in-Some-Some.x.now in
    let y = c.in-Some-Some.y.now in
    c.in_ok-clash-in-Some-Some.ensures (seen t vs) t H F G known one other
    (some-same (sym one.there ∙ vertex-some t vs c.args.first.now.field x
    (found-at vs c.args.first.now.field c.get.result c.in-Some-Some.x c.get.ensures.lookup.3 c.in-Some-Some.is-0)))
    (some-same (sym other.there ∙ vertex-some t vs c.args.second.now.field y
    (found-at vs c.args.second.now.field c.get-2.result c.in-Some-Some.y c.get-2.ensures.lookup.3 c.in-Some-Some.is-1)))

pub returns-in-Some-None : goal.returns-in-Some-None
returns-in-Some-None c t H F G known one other =
    let vs = c.args.vertices.now in
    none-some (sym (vertex-none t vs c.args.second.now.field (missing-at vs c.args.second.now.field c.get-2.result c.get-2.ensures.lookup.3
    c.in-Some-None.is-1)) ∙ other.there)

pub returns-in-None-default : goal.returns-in-None-default
returns-in-None-default c t H F G known one other =
    let vs = c.args.vertices.now in
    none-some (sym (vertex-none t vs c.args.first.now.field (missing-at vs c.args.first.now.field c.get.result c.get.ensures.lookup.3
    c.in-None-default.is-0)) ∙ one.there)
