use Rattle.std.proofs.Common.{Result, Ok, Err, refl, sym, subst}
use Rattle.std.specs.Result.{OnErr}
use Rattle.juniper_syntax.specs.Indexes.{Shows}
use Rattle.juniper_syntax.proofs.Indexes.{empty-index, shows-index, index-shows, no-entries}
use Rattle.juniper_syntax.proofs.keys.add_place.Goals as goal
use Rattle.juniper_syntax.proofs.keys.add_place.Goals.{then-is_empty+else-names-lt-MANY+in_ok-places, else-is_empty}

on_err : {A E P : Type 0} (r : Result A E) → P → OnErr r P
on_err (Ok x) p = tt
on_err (Err e) p = p

pub returns-then-names-lt-MANY-clause-ok : goal.returns-then-names-lt-MANY-clause-ok
returns-then-names-lt-MANY-clause-ok c = λ last same index. empty-index c.args.places.now _ (no-entries _ (c.is_empty.ensures.0 c.if-is_empty.true))

pub returns-clause-ok : goal.returns-clause-ok
returns-clause-ok c = λ last same index.
    let names = c.args.names.now in
    let shows : Shows c.if-is_empty.places names = elim c.if-is_empty.branch [
      | then-is_empty+else-names-lt-MANY+in_ok-places w ↦ subst (λ m. Shows m names) (sym w.places-is) w.in_ok-places.ensures
      | else-is_empty w ↦
          subst (λ m. Shows m names) (sym w.places-is) (index-shows c.args.places.now names c.is_empty.ensures w.if-is_empty.false index)
    ] in
    shows-index c.put.new.self _ (c.in_ok-put.ensures.ok names last refl same c.requires.new shows)

pub returns-in_err-put-clause-err : goal.returns-in_err-put-clause-err
returns-in_err-put-clause-err c =
    let names = c.args.names.now in
    on_err c.from_residual-in_err-put.result (λ index.
    let shows : Shows c.if-is_empty.places names = elim c.if-is_empty.branch [
      | then-is_empty+else-names-lt-MANY+in_ok-places w ↦ subst (λ m. Shows m names) (sym w.places-is) w.in_ok-places.ensures
      | else-is_empty w ↦
          subst (λ m. Shows m names) (sym w.places-is) (index-shows c.args.places.now names c.is_empty.ensures w.if-is_empty.false index)
    ] in
    shows-index c.put.new.self names (c.in_err-put.ensures.err names shows))
