use Rattle.std.proofs.Common.{[], ◌∷◌, ◌++◌, ◌+◌, Some, refl, sym, arith}
use Rattle.serde_json.specs.View.{view}
use Rattle.juniper_http.proofs.InTurn.{put_next, taken_to, taken_all, comma_next, text_next, closed}
use Rattle.juniper_http.proofs.batch.put_each.Goals as goal

pub loop-member-init : goal.loop-member-init
loop-member-init g c = (([], (refl, refl)), ([], (refl, refl, refl), c.from_str-text.ensures.ok, refl))

pub loop-member-preserved : goal.loop-member-preserved
unfolding lib.Utf8.encode
loop-member-preserved g c =
    let l = c.loop-member in
    let done = l.invariant.1 in
    let put = c.put_member-text.ensures in
    let items = c.deref-member-items.result.now in (
      (44 ∷ [], (refl, refl)),
      (
        done.0 ++ put.0 ∷ [],
        rw (taken_to items l.member-index (l.member-index + 1) c.member-item.result (omega arith) c.loop-member-test.true c.member-item.is)
            (put_next g.E.Endpoint.replies (Some c.args.most) _ (view c.member-item.result) c.args.endpoint.now l.endpoint
            c.put_member-text.new.endpoint done.0 put.0 l.left c.put_member-text.new.left done.1 put.1),
        text_next l.text c.joined.result c.put_member-text.result done.0 l.separator.now put.0 done.2 done.3 c.joined.ensures put.2,
        comma_next done.0 put.0,
      ),
    )

pub returns : goal.returns
returns g c =
    let l = c.loop-member in
    let done = l.invariant.1 in (
      done.0,
      l.left,
      rw (sym c.deref-member-items.ensures.value) (rw (sym (taken_all c.deref-member-items.result.now l.member-index c.loop-member-test.false)) done.1),
      closed l.text c.joined-2.result done.0 c.reply_of.result done.2 c.joined-2.ensures c.reply_of.ensures.0 c.reply_of.ensures.1,
    )
