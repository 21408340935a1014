use Rattle.std.proofs.Common.{refl, sym, subst}
use Rattle.juniper_walk.specs.Rows.{IsPutIn}
use Rattle.juniper_walk.proofs.rows.put_taken.Goals as goal

pub returns-in_ok-put_in_row-in-Leaf : goal.returns-in_ok-put_in_row-in-Leaf
returns-in_ok-put_in_row-in-Leaf g c = λ o stands.
    let column = c.args.column.now in
    subst (λ t. IsPutIn g.S.ScalarValue.shown c.args.number t o c.args.row.now c.put_in_row.new.row column column) (sym c.in-Leaf.is)
    (c.in_ok-put_in_row-in-Leaf.ensures o stands, refl)

pub returns-in_ok-push-in-Apart : goal.returns-in_ok-push-in-Apart
returns-in_ok-push-in-Apart g c = λ o stands.
    let column = c.args.column.now in
    subst (λ t. IsPutIn g.S.ScalarValue.shown c.args.number t o c.args.row.now c.args.row.now column
    (record { opened = c.push.new.self; nodes = c.append.new.self }))
    (sym c.in-Apart.is) (record {
      same = refl;
      opened = _;
      is = record { row = refl; key = refl; non_null = refl; skeleton = refl; errors = refl };
      list = c.in_ok-push-in-Apart.ensures.items;
      nodes = c.in_ok-append-in-Apart.ensures.items;
    })
