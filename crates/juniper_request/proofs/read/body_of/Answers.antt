use Rattle.std.proofs.Common.{map, ap, sym}
use Rattle.serde_json.proofs.Views.{view-Array}
use Rattle.serde_json.specs.View.{view}
use Rattle.juniper_request.specs.Requests.{batch}
use Rattle.juniper_request.proofs.Each.{each_of_items}
use Rattle.juniper_request.proofs.read.body_of.Goals as goal

pub returns-in-Array : goal.returns-in-Array
returns-in-Array c =
    rw c.in-Array.is (rw (view-Array c.in-Array.members) (ap batch (sym (each_of_items (map view c.in-Array.members.items)))))
