use Rattle.std.proofs.Common.{◌≡◌, [], ◌∷◌, ◌++◌, string_cmp, sym, ap, subst, ◌∙◌, append_assoc}
use Rattle.std.specs.List.Sorted.{IsStrictlySortedBy}
use Rattle.std.specs.Map.{keys_of}
use Rattle.juniper_syntax.specs.InputView.{view_variables}
use Rattle.juniper_syntax.specs.Scalars.{default_shown}
use Rattle.graphql_spec.specs.Shown.{Name}
use Rattle.serde_json.proofs.Views.{Entry}
use Rattle.serde_json.specs.View.{view}
use Rattle.juniper_json.specs.Given.{put_value}
use Rattle.juniper_json.proofs.Put.{put_next}
use Rattle.juniper_json.proofs.read.values.Goals as goal

pub loop-name-preserved : goal.loop-name-preserved
loop-name-preserved c =
    let l = c.loop-name in
    let done = l.invariant.0 in
    let e : Entry = (c.in-Some.name.now, c.in-Some.value.now) in
    let left = c.next.new.self in
    let all : c.args.members.now.entries ≡ done ++ e ∷ left = l.invariant.1 ∙ ap (λ es. done ++ es) c.in-Some.ensures.steps in
    let sorted = subst (λ es. IsStrictlySortedBy string_cmp (keys_of es)) all c.iter-name-items.ensures.ordered in (
      done ++ e ∷ [],
      all ∙ sym (append_assoc done (e ∷ []) left),
      put_next done e left (view_variables default_shown l.made) (view_variables default_shown c.put.new.made) sorted l.invariant.2
          (subst (λ k. (n : Name) → view_variables default_shown c.put.new.made n
          ≡ put_value k (view c.in-Some.value.now) (view_variables default_shown l.made) n) c.as_str.ensures.value c.in_ok-put.ensures),
    )
