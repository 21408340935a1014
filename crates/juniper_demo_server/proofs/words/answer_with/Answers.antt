use Rattle.std.proofs.Common.{option_map, refl, sym, ap}
use Rattle.juniper_intro.specs.RootView.{schema_of}
use Rattle.juniper_schema.specs.SchemaView.{view_schema}
use Rattle.juniper_syntax.specs.InputView.{view_variables}
use Rattle.juniper_syntax.specs.Scalars.{default_shown}
use Rattle.juniper_demo_server.specs.Answers.{name_in}
use Rattle.juniper_demo_server.proofs.Answering.{request_answered, request_left}
use Rattle.juniper_demo_server.proofs.words.answer_with.Goals as goal

pub returns-in-Err-show : goal.returns-in-Err-show
returns-in-Err-show c =
    request_left c.args.text.now c.args.context.now _ (name_in c.args.name.now) (option_map (λ n. n.now) c.operation_name-name.result)
    (view_variables default_shown c.args.variables.now)
    _ _ _ (view_schema default_shown (schema_of c.in-Ok.root)) c.execute_sync-outcome.result c.operation_name-name.ensures refl
    (ap (option_map _) (sym c.in-Ok.ensures.schema.same.mutation)) c.in-Ok.ensures.introspection c.in-Ok.ensures.schema c.execute_sync-outcome.ensures

pub returns : goal.returns
returns c =
    request_answered c.args.text.now c.args.context.now _ (name_in c.args.name.now) (option_map (λ n. n.now) c.operation_name-name.result)
    (view_variables default_shown c.args.variables.now)
    _ _ _ (view_schema default_shown (schema_of c.in-Ok.root)) c.execute_sync-outcome.result c.in-Ok-show.answer c.operation_name-name.ensures
    refl
    (ap (option_map _) (sym c.in-Ok.ensures.schema.same.mutation)) c.in-Ok.ensures.introspection c.in-Ok.ensures.schema c.execute_sync-outcome.ensures
    c.in-Ok-show.ensures
