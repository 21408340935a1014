use Rattle.std.proofs.lemmas.Result.{on_ok_weaker}
use Rattle.juniper_conversions.specs.ErrorView.{view_listed}
use Rattle.juniper_json.proofs.Members.{error_sent}
use Rattle.juniper_json.proofs.line.send_error.Goals as goal

pub returns : goal.returns
returns g c = on_ok_weaker c.end_with_extensions.result (λ e. error_sent (view_listed g.S.ScalarValue.shown c.args.error.now) _ _ _ _ _ _ _ _ _ _ _ _ _ _ _
    c.error-field_error.ensures c.message.ensures c.location.ensures c.path.ensures c.extensions-extensions.ensures c.error_members.ensures
    c.in_ok-begin_map.ensures c.in_ok-key.ensures c.in_ok-str.ensures c.in_ok-key-2.ensures c.in_ok-send_locations.ensures c.in_ok-key-3.ensures
    c.in_ok-send_path.ensures e) c.end_with_extensions.ensures
