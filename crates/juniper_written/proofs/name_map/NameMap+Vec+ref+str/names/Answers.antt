use Rattle.std.proofs.Common.{◌≡◌, IfOk, ap, ◌∙◌, rules}
use Rattle.std.proofs.lemmas.Result.{IfOk-weaker}
use Rattle.std.specs.Map.{keys_of}
use Rattle.std.specs.Set.{is_member}
use Rattle.std.specs.Str.{bytes_eq}
use Rattle.juniper_written.specs.WrittenView.{named, view_names}
use Rattle.juniper_written.proofs.Sorted.{keys-are}
use Rattle.juniper_written.proofs.name_map.NameMap+Vec+ref+str.names.Goals as goal

pub returns : goal.returns
unfolding named
returns c =
    let m = c.args.self.now.sorted in
    let are : IfOk c.collect.result (λ r. r.items ≡ keys_of m.entries) = search rules in
    IfOk-weaker c.collect.result _ _ (λ r is k. ap (λ ks. is_member bytes_eq (view_names ks) k) is ∙ keys-are k m.entries) are
