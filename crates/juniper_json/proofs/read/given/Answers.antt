use Rattle.std.proofs.Common.{sym, ◌∙◌}
use Rattle.serde_json.specs.View.{members_view}
use Rattle.juniper_syntax.specs.InputView.{view_variables}
use Rattle.juniper_syntax.specs.Scalars.{default_shown}
use Rattle.juniper_json.proofs.RefusedValues.{float_found, range_left, all_found}
use Rattle.juniper_json.proofs.read.given.Goals as goal

pub returns-then-not-all_members : goal.returns-then-not-all_members
returns-then-not-all_members c = float_found (members_view c.args.members.now.entries) (sym c.all_members.ensures ∙ c.if-not-all_members.true)

pub returns-then-not-all_members-2 : goal.returns-then-not-all_members-2
returns-then-not-all_members-2 c = range_left (members_view c.args.members.now.entries) (sym c.all_members.ensures ∙ c.if-not-all_members.false)
    (sym c.all_members-2.ensures ∙ c.if-not-all_members-2.true)

pub returns : goal.returns
returns c = all_found (members_view c.args.members.now.entries) (view_variables default_shown c.in_ok-values.field-0)
    (sym c.all_members.ensures ∙ c.if-not-all_members.false) (sym c.all_members-2.ensures ∙ c.if-not-all_members-2.false) c.in_ok-values.ensures
