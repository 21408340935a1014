use Rattle.std.proofs.Common.{Result, Ok, Err, Some, cond, refl, string_bytes, sym, ap, ap₂, ◌∙◌}
use Rattle.std.proofs.lemmas.Map.Text.{btree_map_updates_text}
use Rattle.std.specs.BTreeMap.{get, get_by_text}
use Rattle.std.specs.List.{list_any}
use Rattle.std.specs.Ordering.{is_eq, nat_cmp}
use Rattle.std.specs.Result.{OnErr}
use Rattle.std.specs.Str.{bytes_eq}
use Rattle.juniper_syntax.specs.FieldWords.{is_key}
use Rattle.juniper_syntax.specs.NameNumbers.{name_number}
use Rattle.juniper_syntax.proofs.Indexes.{first-grown, tied-grown, same-shows, none-is, some-is}
use Rattle.juniper_syntax.proofs.places.Places.put.Goals as goal

on_err : {A E P : Type 0} (r : Result A E) → P → OnErr r P
on_err (Ok x) p = tt
on_err (Err e) p = p

pub returns-in_err-insert-clause-err : goal.returns-in_err-insert-clause-err
returns-in_err-insert-clause-err c = on_err c.from_residual-in_err-insert.result
    (λ names shows. same-shows c.args.self.now _ names refl c.in_err-insert.ensures.err shows)

pub returns-in_err-insert-2-clause-err : goal.returns-in_err-insert-2-clause-err
returns-in_err-insert-2-clause-err c =
    on_err c.from_residual-in_err-insert-2.result (λ names shows. same-shows c.args.self.now _ names c.in_err-insert-2.ensures.err refl shows)

pub returns-in_ok-insert-clause-ok : goal.returns-in_ok-insert-clause-ok
returns-in_ok-insert-clause-ok c = λ names last long same gone shows.
    let p = c.args.self.now in
    let made = c.in_ok-from_str.field-0 in
    let there = some-is (get nat_cmp p.by_number c.name_number-number.result) (sym c.contains_key.ensures ∙ c.if-contains_key.true) in
    let number = ap name_number same ∙ sym c.name_number-number.ensures in
    tied-grown p _ names last (ap (λ text. list_any (is_key text) names) same ∙ gone) there.0 (ap (get nat_cmp p.by_number) number ∙ there.1) refl
    (λ key. btree_map_updates_text (string_bytes made) p.tied c.insert.new.self (Some c.args.place) c.in_ok-insert.ensures.updates key
    ∙ ap₂ (λ text place. cond (bytes_eq text key) (Some place) (get_by_text p.tied key)) (c.in_ok-from_str.ensures.ok ∙ sym same) (sym long)) shows

pub returns-in_ok-insert-2-clause-ok : goal.returns-in_ok-insert-2-clause-ok
returns-in_ok-insert-2-clause-ok c = λ names last long same gone shows.
    let p = c.args.self.now in
    let none = none-is (get nat_cmp p.by_number c.name_number-number.result) (sym c.contains_key.ensures ∙ c.if-contains_key.false) in
    let number = ap name_number same ∙ sym c.name_number-number.ensures in
    first-grown p _ names last (ap (λ text. list_any (is_key text) names) same ∙ gone) (ap (get nat_cmp p.by_number) number ∙ none) refl
    (λ n. c.in_ok-insert-2.ensures.updates.0 n
    ∙ ap₂ (λ k place. cond (is_eq (nat_cmp k n)) (Some place) (get nat_cmp p.by_number n)) (sym number) (sym long)) shows
