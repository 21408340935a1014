use Rattle.std.proofs.Common.{false, ap, sym, ◌∙◌}
use Rattle.graphql_spec.specs.Types.{list_of, nullable}
use Rattle.graphql_spec.specs.VariableUses.{compatible}
use Rattle.juniper_syntax.specs.TypeView as types
use Rattle.juniper_meta.specs.MetaView.{view_type}
use Rattle.juniper_schema.proofs.TypeLevels.{view-List, view-NonNullList}
use Rattle.juniper_type_rules.proofs.variables_in_allowed_position.fits_nullable.Goals as goal

pub returns-in-List : goal.returns-in-List
unfolding nullable
returns-in-List c =
    let t = types.view_type (λ n. n.now) c.args.variable.now in
    let size = c.in-List.field-1 in
    c.is_list_for.ensures size ∙ (ap (λ u. compatible t (list_of false size (view_type u))) c.deref.ensures
    ∙ ap (λ u. compatible t (nullable u)) (sym (ap view_type c.in-List.is ∙ view-List c.in-List.inner size)))

pub returns-in-NonNullList : goal.returns-in-NonNullList
unfolding nullable
returns-in-NonNullList c =
    let t = types.view_type (λ n. n.now) c.args.variable.now in
    let size = c.in-NonNullList.field-1 in
    c.is_list_for-in-NonNullList.ensures size ∙ (ap (λ u. compatible t (list_of false size (view_type u))) c.deref-in-NonNullList.ensures
    ∙ ap (λ u. compatible t (nullable u)) (sym (ap view_type c.in-NonNullList.is ∙ view-NonNullList c.in-NonNullList.inner size)))
