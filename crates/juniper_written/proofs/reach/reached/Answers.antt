use Rattle.std.proofs.Common.{◌≡◌, [], refl, sym, subst, rules}
use Rattle.std.proofs.lemmas.List.{append-nil}
use Rattle.juniper_written.specs.WrittenView.{has_name, view_names}
use Rattle.juniper_written.specs.SpreadsView.{names_or_none, spread_by}
use Rattle.juniper_written.proofs.Searching.{IsSearched, search-first, search-new, search-old, search-ends}
use Rattle.juniper_written.proofs.Looking.{next-is, not-true, not-false, popped, names-popped, goes-down-names, goes-on}
use Rattle.juniper_written.proofs.reach.reached.Goals as goal

pub loop-name-init : goal.loop-name-init
loop-name-init c = λ fs are.
    let more : c.extend_from_slice.new.self.items ≡ c.args.names.now = search rules in
    subst (λ l. IsSearched fs (view_names c.args.names.now) (has_name c.new-seen.result) (view_names l)) (sym more)
    (search-first fs (view_names c.args.names.now) (has_name c.new-seen.result) c.new-seen.ensures)

pub loop-name-smaller-in-Continue-branch-3 : goal.loop-name-smaller-in-Continue-branch-3
loop-name-smaller-in-Continue-branch-3 c =
    goes-down-names c.args.spreads.now (has_name c.loop-name.seen) (has_name c.insert.new.self) c.in-Some.name c.in_ok-insert.ensures.added
    (not-true _ _ c.in_ok-insert.ensures.found c.if-branch.true) c.loop-name.left.items c.pop.new.self.items c.follow.new.left.items
    (popped c.loop-name.left.items c.pop.new.self.items c.pop.result c.in-Some.name c.pop.ensures.items c.in-Some.is) c.in_ok-follow.ensures

pub loop-name-smaller : goal.loop-name-smaller
loop-name-smaller c =
    goes-on c.args.spreads.now (has_name c.loop-name.seen) (has_name c.insert.new.self) c.in-Some.name.now c.in_ok-insert.ensures.added
    c.loop-name.left.items c.pop.new.self.items c.in-Some.name (popped c.loop-name.left.items c.pop.new.self.items c.pop.result c.in-Some.name
    c.pop.ensures.items c.in-Some.is)

pub loop-name-preserved-in-Continue-branch-3 : goal.loop-name-preserved-in-Continue-branch-3
loop-name-preserved-in-Continue-branch-3 c = λ fs are.
    let start = view_names c.args.names.now in
    let x = c.in-Some.name.now in
    let rest = view_names c.pop.new.self.items in
    let more = names_or_none (spread_by c.args.spreads.now x) in
    let old = names-popped c.loop-name.left.items c.pop.new.self.items c.in-Some.name
    (popped c.loop-name.left.items c.pop.new.self.items c.pop.result c.in-Some.name c.pop.ensures.items c.in-Some.is) in
    subst (λ l. IsSearched fs start (has_name c.insert.new.self) l) (sym c.in_ok-follow.ensures)
    (search-new fs start (has_name c.loop-name.seen) (has_name c.insert.new.self) x rest more c.in_ok-insert.ensures.added
    (subst (λ l. IsSearched fs start (has_name c.loop-name.seen) l) old (c.loop-name.invariant fs are)) (next-is c.args.spreads.now fs are x))

pub loop-name-preserved : goal.loop-name-preserved
loop-name-preserved c = λ fs are.
    let start = view_names c.args.names.now in
    let x = c.in-Some.name.now in
    let rest = view_names c.pop.new.self.items in
    let old = names-popped c.loop-name.left.items c.pop.new.self.items c.in-Some.name
    (popped c.loop-name.left.items c.pop.new.self.items c.pop.result c.in-Some.name c.pop.ensures.items c.in-Some.is) in
    subst (λ l. IsSearched fs start (has_name c.insert.new.self) l) (append-nil rest)
    (search-old fs start (has_name c.loop-name.seen) (has_name c.insert.new.self) x rest [] c.in_ok-insert.ensures.added
    (subst (λ l. IsSearched fs start (has_name c.loop-name.seen) l) old (c.loop-name.invariant fs are))
    (not-false _ _ c.in_ok-insert.ensures.found c.if-branch.false) refl)

pub returns : goal.returns
returns c = λ fs are.
    let start = view_names c.args.names.now in
    let none : c.loop-name.left.items ≡ [] = search rules in
    search-ends fs start (has_name c.loop-name.seen) (subst (λ l. IsSearched fs start (has_name c.loop-name.seen) (view_names l)) none
    (c.loop-name.invariant fs are))
