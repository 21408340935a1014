use Rattle.std.proofs.Common.{◌≡◌, ap, map, subst, ◌∙◌}
use Rattle.std.specs.List.{flat_map}
use Rattle.graphql_spec.specs.Documents.{fragments}
use Rattle.juniper_written.specs.WrittenView.{view_names}
use Rattle.juniper_type_rules.specs.Numbers.{AreNumbers, names_of, spread_numbers_of}
use Rattle.juniper_type_rules.specs.UsesView.{named_in, numbered_of}
use Rattle.juniper_type_rules.proofs.Marked.{names-are, numbered-are}
use Rattle.juniper_type_rules.proofs.reach.uses_of_fragments.Goals as goal

pub returns : goal.returns
returns c = λ s d same spreads.
    let m = c.in_ok-numbers.numbers in
    let names : view_names c.in_ok-names.names.items ≡ names_of (fragments d) =
    c.in_ok-names.ensures ∙ (ap (flat_map named_in) same ∙ names-are s d) in
    record {
      numbers = subst (AreNumbers m) names c.in_ok-numbers.ensures;
      lists = c.in_ok-lists.ensures (fragments d) spreads ∙ ap (map (spread_numbers_of m (fragments d))) names;
      numbered = c.in_ok-numbered.ensures ∙ (ap (flat_map (numbered_of m)) same ∙ numbered-are s m d);
    }
