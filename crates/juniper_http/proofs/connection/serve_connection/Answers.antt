use Rattle.std.proofs.Common.{subst, ◌∙◌}
use Rattle.http_server.specs.Connection.{history}
use Rattle.http_server.specs.History.{IsServed}
use Rattle.http_server.proofs.Theorems.{always_served}
use Rattle.juniper_http.proofs.Conversing.{from_the_start}
use Rattle.juniper_http.proofs.connection.serve_connection.Goals as goal

pub returns : goal.returns
returns g c =
    let connection = c.serve.new.connection in
    let served =
    subst (λ config. ∥ IsServed config (history connection) ∥₁) (c.serve.ensures.config ∙ c.new-connection.ensures.config) (always_served connection) in (
      history connection,
      from_the_start g.S.Service.answers c.args.config _ _ _ _ _ _ (history c.new-connection.result) (history connection) c.new-connection.ensures.history
          c.serve.ensures.read c.serve.ensures.written c.serve.ensures.calls served,
      c.serve.ensures.done,
    )
