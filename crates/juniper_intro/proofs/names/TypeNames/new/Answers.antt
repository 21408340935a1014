use Rattle.std.proofs.Common.{◌++◌, arith, length, map, string_bytes, subst, ap, ◌∙◌}
use Rattle.std.proofs.lemmas.List.{length-append, length-map}
use Rattle.juniper_intro.specs.Numbers.{StandAt, all_names, hidden_names}
use Rattle.juniper_intro.proofs.names.TypeNames.new.Goals as goal

pub invariant_of-result : goal.invariant_of-result
invariant_of-result g c =
    let listed = c.as_slice.result.now in
    let whole = ap length c.in_ok-names.ensures in
    let bytes = length-map c.in_ok-names.names.items (λ n. string_bytes n) in
    let two = length-append (map (λ n. n.now) listed) hidden_names in
    let each = length-map listed (λ n. n.now) in
    let same = ap length c.as_slice.ensures.value in
    record {
      within = omega (arith, whole, bytes, two, each, same, c.in_ok-listed.listed.ok.0, c.len.ensures);
      numbered = subst (λ l. StandAt (map (λ n. string_bytes n) l) (map (λ n. string_bytes n) l) c.in_ok-numbers.numbers) c.as_slice-2.ensures.value
          c.in_ok-numbers.ensures;
    }

pub returns-clause-all : goal.returns-clause-all
unfolding all_names
returns-clause-all g c =
    c.in_ok-names.ensures ∙ ap (λ l. l ++ hidden_names) (ap (map (λ n. n.now)) c.as_slice.ensures.value ∙ c.in_ok-listed.ensures)
