use Rattle.std.proofs.Common.{◌≡◌, ◌++◌, ◌∷◌, ◌+◌, [], List, ℕ, Bor, drop, get_or, map, sym, ap, ◌∙◌, rules}
use Rattle.std.proofs.lemmas.List.{drop_more}
use Rattle.graphql_spec.specs.Documents.{fragments}
use Rattle.juniper_syntax.specs.DocumentView.{view_fragment}
use Rattle.juniper_written.specs.WrittenView.{view_names}
use Rattle.juniper_written.specs.Order.{found}
use Rattle.juniper_written.proofs.Rounds.{find-next, find-none, find-ends}
use Rattle.juniper_written.proofs.by_name.FragmentsByName.fragments_of.Goals.{in-Some+in_ok-push-in-Some, in-None}
use Rattle.juniper_written.proofs.by_name.FragmentsByName.fragments_of.Goals as goal

pub loop-name-init : goal.loop-name-init
loop-name-init g c = λ d are.
    ap (λ l. map (λ f. view_fragment g.S.ScalarValue.shown f.now) l ++ found (fragments d) (view_names c.args.names.now)) c.new-fragments.ensures.items

pub loop-name-preserved : goal.loop-name-preserved
loop-name-preserved g c = λ d are.
    let shown = g.S.ScalarValue.shown in
    let i = c.loop-name.name-index in
    let none : Bor (List ℕ) = record { ref_ptr = (0, 0); now = [] } in
    let x = get_or c.args.names.now i none in
    let rest = view_names (drop (i + 1) c.args.names.now) in
    let old = c.loop-name.fragments.items in
    let so_far = ap (λ l. map (λ f. view_fragment shown f.now) old ++ found (fragments d) (view_names l))
    (sym (drop_more c.args.names.now i none c.loop-name-test.true)) ∙ c.loop-name.invariant d are in
    elim c.match-fragment.branch [
      | in-Some+in_ok-push-in-Some w ↦
          let more : c.match-fragment.fragments.items ≡ old ++ w.in-Some.fragment ∷ [] = search rules in
          find-next (fragments d) (λ f. view_fragment shown f.now) old c.match-fragment.fragments.items c.fragment.result w.in-Some.fragment x.now rest more
          w.in-Some.is (c.fragment.ensures d are) ∙ so_far
      | in-None w ↦
          ap (λ l. map (λ f. view_fragment shown f.now) l.items ++ found (fragments d) rest) w.fragments-is
          ∙ (find-none (fragments d) (λ f. view_fragment shown f.now) old c.fragment.result x.now rest w.in-None.is (c.fragment.ensures d are) ∙ so_far)
    ]

pub returns : goal.returns
returns g c = λ d are.
    find-ends (fragments d) (λ f. view_fragment g.S.ScalarValue.shown f.now) c.loop-name.fragments.items c.args.names.now c.loop-name.name-index
    (found (fragments d) (view_names c.args.names.now))
    c.loop-name-test.false (c.loop-name.invariant d are)
