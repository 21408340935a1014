use Rattle.std.proofs.Common.{◌≡◌, None, option_map, refl}
use Rattle.std.specs.HashMap.{get_by_text}
use Rattle.graphql_spec.specs.Shown.{Name}
use Rattle.juniper_syntax.specs.InputView.{view_input}
use Rattle.juniper_syntax.specs.Scalars.{default_shown}
use Rattle.juniper_demo_server.proofs.words.no_variables.Goals as goal

-- at each name there is no value
pub returns : goal.returns
returns c =
    let at : (n : Name) → option_map (view_input default_shown) (get_by_text c.new.result n) ≡ None = λ n. rw c.new.ensures.empty refl in
    λ i n. (at n) i
