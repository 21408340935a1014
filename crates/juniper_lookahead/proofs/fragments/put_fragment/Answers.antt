use Rattle.std.proofs.Common.{ap, refl}
use Rattle.std.specs.HashMap.{get_by}
use Rattle.std.specs.Map.{lookup}
use Rattle.std.specs.Str.{bytes_eq}
use Rattle.std.proofs.lemmas.Map.Text.{btree_map_updates_str, hash_map_updates_str}
use Rattle.juniper_syntax.specs.DocumentView.{view_definition, view_fragment, view_operation}
use Rattle.juniper_lookahead.specs.FragmentView.{fragment_at, fragment_in_order, view_lent_fragment}
use Rattle.juniper_lookahead.proofs.FragmentMaps.{fragment-put, operation-none, put-in-order}
use Rattle.juniper_lookahead.proofs.fragments.put_fragment.Goals as goal

pub returns-in_ok-insert-in-Fragment-2-clause-ordered : goal.returns-in_ok-insert-in-Fragment-2-clause-ordered
unfolding fragment_in_order
returns-in_ok-insert-in-Fragment-2-clause-ordered g c =
    let shown = g.S.ScalarValue.shown in
    let name = c.in-Fragment.fragment.item.name.item.now in
    let old = c.args.ordered.now in
    let new = c.insert.new.self in
    fragment-put (λ x. view_lent_fragment shown x.now) _ (view_definition shown c.args.definition.now) (view_fragment shown c.in-Fragment.fragment)
    (ap (view_definition shown) c.in-Fragment.is) refl (λ k. lookup (λ n. bytes_eq k n.now) old.entries) (λ k. lookup (λ n. bytes_eq k n.now) new.entries)
    (put-in-order name _ old new (btree_map_updates_str name old new _ c.in_ok-insert-in-Fragment.ensures.updates))

pub returns-in_ok-insert-in-Fragment-2-clause-lent : goal.returns-in_ok-insert-in-Fragment-2-clause-lent
unfolding fragment_at
returns-in_ok-insert-in-Fragment-2-clause-lent g c =
    let shown = g.S.ScalarValue.shown in
    let name = c.in-Fragment.fragment.item.name.item.now in
    let old = c.args.lent.now in
    let new = c.insert-in-Fragment.new.self in
    fragment-put (λ x. view_lent_fragment shown x.now) _ (view_definition shown c.args.definition.now) (view_fragment shown c.in-Fragment.fragment)
    (ap (view_definition shown) c.in-Fragment.is) refl (λ k. get_by (λ n. bytes_eq k n.now) old) (λ k. get_by (λ n. bytes_eq k n.now) new)
    (hash_map_updates_str name old new _ c.in_ok-insert-in-Fragment-2.ensures.updates)

pub returns-in-Operation-clause-ordered : goal.returns-in-Operation-clause-ordered
returns-in-Operation-clause-ordered g c = λ k.
    let shown = g.S.ScalarValue.shown in
    operation-none (view_definition shown c.args.definition.now) (view_operation shown c.in-Operation.field-0) (ap (view_definition shown) c.in-Operation.is)
    (fragment_in_order shown c.args.ordered.now k) k

pub returns-in-Operation-clause-lent : goal.returns-in-Operation-clause-lent
returns-in-Operation-clause-lent g c = λ k.
    let shown = g.S.ScalarValue.shown in
    operation-none (view_definition shown c.args.definition.now) (view_operation shown c.in-Operation.field-0) (ap (view_definition shown) c.in-Operation.is)
    (fragment_at shown c.args.lent.now k) k
