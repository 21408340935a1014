use Rattle.std.proofs.Common.{◌++◌, ◌||◌, ◌∷◌, [], option_map, ap, sym, ◌∙◌}
use Rattle.std.specs.Option.{is_some}
use Rattle.graphql_spec.specs.Documents.{fragments, word_name}
use Rattle.graphql_spec.specs.Fragments.{fragment_of}
use Rattle.graphql_spec.specs.Rules.{names_operation}
use Rattle.std.specs.Str.{bytes_eq}
use Rattle.juniper_syntax.specs.DocumentView.{view_definition, view_fragment, view_operation, view_word}
use Rattle.juniper_written.specs.WrittenView.{has_name}
use Rattle.juniper_written.proofs.NamesBefore.{with-name, names-named, names-nameless, names-fragment, found-operation, found-fragment}
use Rattle.juniper_written.proofs.earlier.Earlier.add.Goals as goal

pub returns-in_ok-insert-in-Some : goal.returns-in_ok-insert-in-Some
unfolding word_name
returns-in_ok-insert-in-Some g c = λ ds e.
    let shown = g.S.ScalarValue.shown in
    let o = view_operation shown c.in-Operation.operation in
    let k = c.in-Some.name.item.now in
    let is = ap (view_definition shown) c.in-Operation.is in (
      λ n. with-name (has_name c.args.self.now.operations) (has_name c.insert.new.self) k c.in_ok-insert-in-Some.ensures.added n
          ∙ (ap (λ b. b || bytes_eq n k) (e.0 n)
          ∙ (sym (names-named ds n o k (ap (λ w. word_name (option_map view_word w)) c.in-Some.is)) ∙ ap (λ x. names_operation (ds ++ x ∷ []) n) (sym is))),
      λ n. e.1 n ∙ (sym (found-operation ds n o) ∙ ap (λ x. is_some (fragment_of (fragments (ds ++ x ∷ [])) n)) (sym is)),
    )

pub returns-in-None : goal.returns-in-None
unfolding word_name
returns-in-None g c = λ ds e.
    let shown = g.S.ScalarValue.shown in
    let o = view_operation shown c.in-Operation.operation in
    let is = ap (view_definition shown) c.in-Operation.is in (
      λ n. e.0 n ∙ (sym (names-nameless ds n o (ap (λ w. word_name (option_map view_word w)) c.in-None.is))
          ∙ ap (λ x. names_operation (ds ++ x ∷ []) n) (sym is)),
      λ n. e.1 n ∙ (sym (found-operation ds n o) ∙ ap (λ x. is_some (fragment_of (fragments (ds ++ x ∷ [])) n)) (sym is)),
    )

pub returns-in_ok-insert-in-Fragment : goal.returns-in_ok-insert-in-Fragment
returns-in_ok-insert-in-Fragment g c = λ ds e.
    let shown = g.S.ScalarValue.shown in
    let f = view_fragment shown c.in-Fragment.fragment in
    let k = c.in-Fragment.fragment.item.name.item.now in
    let is = ap (view_definition shown) c.in-Fragment.is in (
      λ n. e.0 n ∙ (sym (names-fragment ds n f) ∙ ap (λ x. names_operation (ds ++ x ∷ []) n) (sym is)),
      λ n. with-name (has_name c.args.self.now.fragments) (has_name c.insert-in-Fragment.new.self) k c.in_ok-insert-in-Fragment.ensures.added n
          ∙ (ap (λ b. b || bytes_eq n k) (e.1 n) ∙ (sym (found-fragment ds n f) ∙ ap (λ x. is_some (fragment_of (fragments (ds ++ x ∷ [])) n)) (sym is))),
    )
