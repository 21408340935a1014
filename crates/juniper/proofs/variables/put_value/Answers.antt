use Rattle.std.proofs.Common.{string_bytes, Some, None, ap, ◌∙◌, ◌≡◌, subst}
use Rattle.std.specs.HashMap.{get_by_text}
use Rattle.std.specs.Map.{update}
use Rattle.std.specs.Str.{bytes_eq}
use Rattle.graphql_spec.specs.Shown.{Name}
use Rattle.std.proofs.lemmas.Map.Text.{hash_map_updates_text}
use Rattle.graphql_spec.specs.Requests.{item_of}
use Rattle.juniper_syntax.specs.DocumentView.{view_variable}
use Rattle.juniper_syntax.specs.InputView.{view_input}
use Rattle.juniper_rules.specs.GivenView.{view_given_values}
use Rattle.juniper.proofs.VariableValues.{put-one}
use Rattle.juniper.proofs.variables.put_value.Goals as goal

pub returns-in_ok-insert-in-Some : goal.returns-in_ok-insert-in-Some
returns-in_ok-insert-in-Some g c =
    let shown = g.S.ScalarValue.shown in
    let defined = c.args.variable.now in
    let key = string_bytes c.in_ok-name-in-Some.name in
    let copy = c.in_ok-copy-in-Some.copy in
    put-one (view_input shown) (view_given_values shown c.args.given.now) (item_of (view_variable shown defined).default) (get_by_text c.args.made.now)
    (get_by_text c.insert.new.self) defined.0.item.now (Some copy)
    (subst (λ k. (j : Name) → get_by_text c.insert.new.self j ≡ update bytes_eq (get_by_text c.args.made.now) k (Some copy) j) c.in_ok-name-in-Some.ensures.ok
    (hash_map_updates_text key c.args.made.now c.insert.new.self (Some copy) c.in_ok-insert-in-Some.ensures.updates))
    (ap Some c.in_ok-copy-in-Some.ensures ∙ c.in-Some.ensures)

pub returns-in-None : goal.returns-in-None
returns-in-None g c =
    let shown = g.S.ScalarValue.shown in
    let defined = c.args.variable.now in
    put-one (view_input shown) (view_given_values shown c.args.given.now) (item_of (view_variable shown defined).default) (get_by_text c.args.made.now)
    (get_by_text c.remove.new.self) defined.0.item.now None
    (hash_map_updates_text defined.0.item.now c.args.made.now c.remove.new.self None c.remove.ensures.updates) c.in-None.ensures
