use Rattle.std.proofs.Common.{◌≡◌, [], ◌∷◌, ◌++◌, true, false, if◌then◌else◌, ap, ap₂, sym, ◌∙◌, arith, length, take, zip, slice_get, slice_set}
use Rattle.std.proofs.Common.{string_bytes}
use Rattle.std.specs.List.{list_any}
use Rattle.std.specs.Map.{lookup}
use Rattle.std.specs.Str.{bytes_eq}
use Rattle.juniper_syntax.specs.FieldWords.{is_key, texts, said}
use Rattle.indexmap.specs.IndexMap.{insert_entry}
use Rattle.juniper_syntax.proofs.Columns.{was_new, was_there, there-within}
use Rattle.juniper_syntax.proofs.FirstKeys.{added-first, said-new, said-found, looked, looked-new, texts-long}
use Rattle.juniper_syntax.proofs.fields.Fields.insert.Goals as goal

pub returns-in_ok-push-clause-old : goal.returns-in_ok-push-clause-old
returns-in_ok-push-clause-old g c =
    let ks = c.self.inside.keys.value in
    let vs = c.self.inside.values.items in
    let key = string_bytes c.args.key in
    let ts = take (length vs) (texts ks) in
    let long : c.len.result ≡ length vs = c.len.ensures ∙ c.reserve.new.self.ok.0 ∙ ap length c.in_ok-reserve.ensures.items in
    let added = added-first key c.len.result (length vs) (texts ks) (texts c.add_key.new.keys.value) (c.in_ok-place.place, c.in_ok-place.is_new)
    long c.in_ok-place.ensures.added in
    let gone : list_any (bytes_eq key) ts ≡ false = was_new _ (sym added.0 ∙ c.if-is_new.true) in
    sym (looked-new ks vs key c.self.invariant gone) ∙ ap (lookup (is_key key)) c.self.view_is

pub returns-in_ok-push-clause-ok : goal.returns-in_ok-push-clause-ok
returns-in_ok-push-clause-ok g c =
    let ks = c.self.inside.keys.value in
    let vs = c.self.inside.values.items in
    let key = string_bytes c.args.key in
    let ts = take (length vs) (texts ks) in
    let long : c.len.result ≡ length vs = c.len.ensures ∙ c.reserve.new.self.ok.0 ∙ ap length c.in_ok-reserve.ensures.items in
    let added = added-first key c.len.result (length vs) (texts ks) (texts c.add_key.new.keys.value) (c.in_ok-place.place, c.in_ok-place.is_new)
    long c.in_ok-place.ensures.added in
    let gone : list_any (bytes_eq key) ts ≡ false = was_new _ (sym added.0 ∙ c.if-is_new.true) in
    let ls = c.add_key.new.keys.value in
    let keys : texts ls ≡ ts ++ key ∷ [] = added.2 ∙ ap (λ b. if b then ts ++ key ∷ [] else ts) c.if-is_new.true in
    let values = c.in_ok-push.ensures.items ∙ ap (λ xs. xs ++ c.args.value ∷ []) c.in_ok-reserve.ensures.items in
    ap (λ xs. said (zip ls xs)) values ∙ said-new ks ls vs key c.args.value c.self.invariant gone keys
    ∙ ap (λ es. insert_entry bytes_eq (said es) key c.args.value) c.self.view_is

pub returns-else-is_new-clause-old : goal.returns-else-is_new-clause-old
returns-else-is_new-clause-old g c =
    let ks = c.self.inside.keys.value in
    let vs = c.self.inside.values.items in
    let key = string_bytes c.args.key in
    let ts = take (length vs) (texts ks) in
    let long : c.len.result ≡ length vs = c.len.ensures ∙ c.reserve.new.self.ok.0 ∙ ap length c.in_ok-reserve.ensures.items in
    let added = added-first key c.len.result (length vs) (texts ks) (texts c.add_key.new.keys.value) (c.in_ok-place.place, c.in_ok-place.is_new)
    long c.in_ok-place.ensures.added in
    sym c.put_at.ensures.old ∙ ap₂ slice_get c.in_ok-reserve.ensures.items added.1 ∙ sym (looked ks vs key c.self.invariant)
    ∙ ap (lookup (is_key key)) c.self.view_is

pub returns-else-is_new-clause-ok : goal.returns-else-is_new-clause-ok
returns-else-is_new-clause-ok g c =
    let ks = c.self.inside.keys.value in
    let vs = c.self.inside.values.items in
    let key = string_bytes c.args.key in
    let ts = take (length vs) (texts ks) in
    let long : c.len.result ≡ length vs = c.len.ensures ∙ c.reserve.new.self.ok.0 ∙ ap length c.in_ok-reserve.ensures.items in
    let added = added-first key c.len.result (length vs) (texts ks) (texts c.add_key.new.keys.value) (c.in_ok-place.place, c.in_ok-place.is_new)
    long c.in_ok-place.ensures.added in
    let there : list_any (bytes_eq key) ts ≡ true = was_there _ (sym added.0 ∙ c.if-is_new.false) in
    let ls = c.add_key.new.keys.value in
    let keys : texts ls ≡ ts = added.2 ∙ ap (λ b. if b then ts ++ key ∷ [] else ts) c.if-is_new.false in
    let values = c.put_at.ensures.new ∙ ap₂ (λ xs i. slice_set xs i c.args.value) c.in_ok-reserve.ensures.items added.1 in
    ap (λ xs. said (zip ls xs)) values ∙ said-found ks ls vs key c.args.value c.self.invariant there keys
    ∙ ap (λ es. insert_entry bytes_eq (said es) key c.args.value) c.self.view_is

pub put_at-requires : goal.put_at-requires
put_at-requires g c =
    let ks = c.self.inside.keys.value in
    let vs = c.self.inside.values.items in
    let key = string_bytes c.args.key in
    let ts = take (length vs) (texts ks) in
    let long : c.len.result ≡ length vs = c.len.ensures ∙ c.reserve.new.self.ok.0 ∙ ap length c.in_ok-reserve.ensures.items in
    let added = added-first key c.len.result (length vs) (texts ks) (texts c.add_key.new.keys.value) (c.in_ok-place.place, c.in_ok-place.is_new)
    long c.in_ok-place.ensures.added in
    let there : list_any (bytes_eq key) ts ≡ true = was_there _ (sym added.0 ∙ c.if-is_new.false) in
    omega (arith, added.1, there-within (bytes_eq key) ts there, texts-long ks vs c.self.invariant, ap length c.in_ok-reserve.ensures.items)
