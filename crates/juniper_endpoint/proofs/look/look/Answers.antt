use Rattle.std.proofs.Common.{map, option_map}
use Rattle.std.proofs.lemmas.Result.{IfOk-weaker}
use Rattle.juniper.specs.RequestErrors.{view_request_error}
use Rattle.juniper_json.specs.Each.{view_refused}
use Rattle.juniper_syntax.specs.DocumentView.{view_document, view_operation}
use Rattle.juniper_syntax.specs.Scalars.{default_shown}
use Rattle.juniper_endpoint.proofs.Looking.{all-free, seen-in, unchosen}
use Rattle.juniper_endpoint.proofs.look.look.Goals as goal

pub returns-then-is_empty : goal.returns-then-is_empty
returns-then-is_empty c = λ o is. all-free view_refused c.args.refused.now c.args.may_write c.is_empty.result c.is_empty.ensures c.if-is_empty.true
    c.if-may_write.true o

pub returns-in-Err : goal.returns-in-Err
returns-in-Err c = λ o is. unchosen _ (view_request_error c.in-Err.field-0) c.in-Err.ensures o is

pub returns : goal.returns
returns c = IfOk-weaker c.look_in.result _ _
    (λ x seen. seen-in (map view_refused c.args.refused.now) c.args.may_write (option_map (λ n. n.now) c.args.name)
    (view_document default_shown c.args.document.now) (view_operation default_shown c.in-Ok.operation.now) c.in-Ok.ensures x seen) c.look_in.ensures
