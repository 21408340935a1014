use Rattle.std.proofs.Common.{map, sym, ap, ◌++◌, ◌∙◌}
use Rattle.juniper_meta.specs.MetaView.{view_meta}
use Rattle.juniper_schema.specs.SchemaView.{view_schema}
use Rattle.juniper_syntax.proofs.Lists.{seen-push}
use Rattle.juniper_schema.specs.Searching.{view_named}
use Rattle.juniper_schema.proofs.Pushed.{none_at, none_pushed, one_at}
use Rattle.juniper_schema.proofs.faults.entries.push_entry.Goals as goal

pub returns-in_ok-push-in-Some : goal.returns-in_ok-push-in-Some
returns-in_ok-push-in-Some g c =
    let shown = g.S.ScalarValue.shown in
    let one = one_at (view_schema shown c.args.schema.now) c.args.name.now (view_meta shown c.in-Some.meta.now) (sym c.if-is_reserved.ensures)
    c.in-Some.ensures.meta in
    seen-push (view_named shown) c.args.entries.now.items c.push.new.self.items _ c.in_ok-push-in-Some.ensures.items
    ∙ ap (λ l. map (view_named shown) c.args.entries.now.items ++ l) (sym one)

pub returns-in-None : goal.returns-in-None
returns-in-None g c =
    let shown = g.S.ScalarValue.shown in
    none_pushed (map (view_named shown) c.args.entries.now.items) _
    (none_at (view_schema shown c.args.schema.now) c.args.name.now (sym c.if-is_reserved.ensures) c.in-None.ensures.meta)
