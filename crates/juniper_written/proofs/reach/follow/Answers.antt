use Rattle.std.proofs.Common.{◌≡◌, ◌++◌, List, ℕ, Bor, sym, ap, ◌∙◌, rules}
use Rattle.std.proofs.lemmas.List.{append-nil, map-append}
use Rattle.juniper_written.specs.WrittenView.{view_names}
use Rattle.juniper_written.specs.SpreadsView.{names_or_none}
use Rattle.juniper_written.proofs.Looking.{found-is, missing-is}
use Rattle.juniper_written.proofs.reach.follow.Goals as goal

pub returns-in_ok-extend_from_slice-in-Some : goal.returns-in_ok-extend_from_slice-in-Some
unfolding names_or_none
returns-in_ok-extend_from_slice-in-Some c =
    let old = c.args.left.now.items in
    let more : c.extend_from_slice.new.self.items ≡ old ++ c.deref.result.now = search rules in
    ap view_names more ∙ (map-append (λ (n : Bor (List ℕ)). n.now) old c.deref.result.now
    ∙ (ap (λ l. view_names old ++ view_names l) c.deref.ensures.value
    ∙ ap (λ o. view_names old ++ names_or_none o) (sym (found-is c.args.spreads.now c.args.name.now c.get.result c.in-Some.names c.get.ensures
    c.in-Some.is))))

pub returns-in-None : goal.returns-in-None
unfolding names_or_none
returns-in-None c =
    let old = view_names c.args.left.now.items in
    sym (append-nil old) ∙ ap (λ o. old ++ names_or_none o) (sym (missing-is c.args.spreads.now c.args.name.now c.get.result c.get.ensures c.in-None.is))
