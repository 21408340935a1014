use Rattle.std.proofs.Common.{ap, sym, ◌∙◌, length, take, zip, string_bytes}
use Rattle.juniper_syntax.specs.FieldWords.{texts, said}
use Rattle.juniper_syntax.proofs.FirstKeys.{said-zip, first-zip, texts-long}
use Rattle.std.proofs.lemmas.List.{length-map}
use Rattle.juniper_syntax.proofs.fields.Fields.into_entries.Goals as goal

pub returns : goal.returns
returns g c =
    let ks = c.self.inside.keys.value in
    let vs = c.self.inside.values.items in
    let names = c.in_ok-names.names.items in
    let same = c.in_ok-names.ensures ∙ ap (λ n. take n (texts ks)) (c.len.ensures ∙ c.self.inside.values.ok.0) in
    ap said c.new.ensures ∙ said-zip names vs ∙ ap (λ ts. zip ts vs) same ∙ first-zip (texts ks) vs ∙ sym (said-zip ks vs) ∙ ap said c.self.view_is

pub new-requires : goal.new-requires
new-requires g c =
    let ks = c.self.inside.keys.value in
    let vs = c.self.inside.values.items in
    let names = c.in_ok-names.names.items in
    let same = c.in_ok-names.ensures ∙ ap (λ n. take n (texts ks)) (c.len.ensures ∙ c.self.inside.values.ok.0) in
    texts-long ks vs c.self.invariant ∙ ap length (sym same) ∙ length-map names string_bytes
