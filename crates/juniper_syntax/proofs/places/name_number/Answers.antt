use Rattle.std.proofs.Common.{◌≡◌, ◌∙◌, ◌+◌, ◌*◌, ◌%◌, ◌^◌, ◌<◌, ◌≤◌, ℕ, ap, drop, get_or, length, subst, sym}
use Rattle.std.proofs.lemmas.List.{drop_all}
use Rattle.juniper_syntax.specs.NameNumbers.{name_number, number_from}
use Rattle.juniper_syntax.proofs.Indexes.{one-byte}
use Rattle.juniper_syntax.proofs.places.name_number.Goals as goal

pub loop-byte-preserved : goal.loop-byte-preserved
loop-byte-preserved c =
    let name = c.args.name.now in
    let i = c.loop-byte.byte-index in
    let n = c.loop-byte.number in
    subst (λ (b : ℕ). name_number name ≡ number_from ((n * 1099511628211 % 2 ^ 64 + b) % 2 ^ 64) (drop (i + 1) name))
    (sym (c.from.ensures ∙ ap (λ l. get_or l i 0) c.as_bytes-byte-items.ensures.value))
    (one-byte name i (subst (λ l. i < length l) c.as_bytes-byte-items.ensures.value c.loop-byte-test.true) _ n c.loop-byte.invariant)

pub returns : goal.returns
unfolding number_from
returns c =
    let name = c.args.name.now in
    sym (c.loop-byte.invariant ∙ ap (number_from c.loop-byte.number)
    (drop_all c.loop-byte.byte-index name (subst (λ l. length l ≤ c.loop-byte.byte-index) c.as_bytes-byte-items.ensures.value c.loop-byte-test.false)))
