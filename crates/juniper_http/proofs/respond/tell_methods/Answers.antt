use Rattle.std.proofs.Common.{◌≡◌, ℕ, List, [], ◌∷◌, ◌++◌, codes, refl, ap, ◌∙◌}
use Rattle.http_server.specs.Response.{fields_of}
use Rattle.http_server.specs.declared.response.Response.{Response}
use Rattle.juniper_http.specs.Responses.{Header, TellsMethods, all_methods}
use Rattle.juniper_http.proofs.Fields.{on_ok}
use Rattle.juniper_http.proofs.respond.tell_methods.Goals as goal

tells : (before : List Header) (r : Response) (methods : List ℕ) → r.status ≡ 204 → fields_of r ≡ before ++ (codes "allow", methods) ∷ []
    → methods ≡ all_methods → r.body.items ≡ [] → TellsMethods before r
tells before r methods status headers are_all body = record {
  status = status;
  headers = headers ∙ ap (λ them. before ++ (codes "allow", them) ∷ []) are_all;
  body = body;
}

pub returns : goal.returns
returns c =
    on_ok c.add_header.result
    (λ added. tells (fields_of c.args.response.now) c.add_header.new.self c.from_static.result.bytes c.add_header.ensures.status added
    (rw c.from_static.ensures refl) (rw c.add_header.ensures.body c.requires))
    c.add_header.ensures.headers
