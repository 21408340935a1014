use Rattle.std.proofs.Common.{ap, sym, length, ◌∙◌}
use Rattle.std.proofs.lemmas.Bool.{le-ltb}
use Rattle.std.specs.Str.{bytes_eq}
use Rattle.std.specs.Cmp.Lexicographic.{nat_list_eq_equiv}
use Rattle.juniper_syntax.specs.FieldWords.{is_key}
use Rattle.juniper_syntax.proofs.Indexes.{stands-in, stands-beyond}
use Rattle.juniper_syntax.proofs.places.is_at.Goals as goal

pub returns-then-place-names : goal.returns-then-place-names
returns-then-place-names c =
    let name = c.index-names-place.result in
    c.eq.ensures ∙ ap (λ text. bytes_eq text c.args.key.now) c.as_str.ensures.value
    ∙ nat_list_eq_equiv.symm _ c.args.key.now
    ∙ ap (is_key c.args.key.now) c.index-names-place.is
    ∙ sym (stands-in c.args.key.now c.args.names.now c.args.place name c.if-place-names.true)

pub returns-else-place-names : goal.returns-else-place-names
returns-else-place-names c =
    le-ltb c.args.place (length c.args.names.now) c.if-place-names.false
    ∙ sym (stands-beyond c.args.key.now c.args.names.now c.args.place c.if-place-names.false)
