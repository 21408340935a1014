-- What the rules on spreads ask, and what the code answers.
use Rattle.std.proofs.Common.{◌≡◌, ℕ, false, not, ◌||◌, List, [], ◌∷◌, Option, Some, None, is_some, Bor, refl, sym, ap, ap₂, ◌∙◌}
use Rattle.std.specs.List.{list_any}
use Rattle.std.specs.Option.{is_none}
use Rattle.std.proofs.Common.{Vec, Global}
use Rattle.graphql_spec.specs.Shown.{Name}
use Rattle.graphql_spec.specs.Documents.{Document, Definition, Fragment, Operation, operation, fragment, fragments}
use Rattle.graphql_spec.specs.Fragments.{fragment_of, spreads}
use Rattle.graphql_spec.specs.Rules.{spreads_unknown, spreads_itself}
use Rattle.graphql_spec.specs.VariableUses.{is_reached}
use Rattle.graphql_spec.specs.Written.{selections_of}
use Rattle.juniper_written.specs.WrittenView.{view_names}
use Rattle.juniper_written.specs.declared.name_map.NameMap.{NameMap}
use Rattle.juniper_written.specs.SpreadsView.{AreSpreadsOf, spread_by}
use Rattle.juniper_written.proofs.Looking.{known-is}

none-is : {A : Type 0} (o : Option A) → not (is_some o) ≡ is_none o
none-is None = refl
none-is (Some x) = refl

module _ (m : NameMap (Vec (Bor (List ℕ)) Global)) where
  any-unknown : (fs : List Fragment) → AreSpreadsOf m fs → (ks : List Name) →
      list_any (λ k. not (is_some (spread_by m k))) ks ≡ list_any (λ k. is_none (fragment_of fs k)) ks
  any-unknown fs are [] = refl
  any-unknown fs are (k ∷ ks) = ap₂ (λ a b. a || b) (ap not (known-is m fs are k) ∙ none-is (fragment_of fs k)) (any-unknown fs are ks)

  pub unknown-is : (d : Document) (x : Definition) → AreSpreadsOf m (fragments d) → (ks : List (Bor (List ℕ))) → view_names ks ≡ spreads (selections_of x) →
      list_any (λ k. not (is_some (spread_by m k))) (view_names ks) ≡ spreads_unknown d x
  unfolding spreads_unknown
  unknown-is d x are ks is = any-unknown (fragments d) are (view_names ks) ∙ ap (list_any (λ k. is_none (fragment_of (fragments d) k))) is

pub itself-is : (d : Document) (x : Definition) (f : Fragment) → x ≡ fragment f → (ks : List Name) → ks ≡ spreads (selections_of x) →
    is_reached (fragments d) ks f.name.item ≡ spreads_itself d x
unfolding is_reached spreads_itself selections_of
itself-is d x f is ks e =
    ap (λ l. is_reached (fragments d) l f.name.item) (e ∙ ap (λ y. spreads (selections_of y)) is) ∙ ap (spreads_itself d) (sym is)

pub operation-never : (d : Document) (x : Definition) (o : Operation) → x ≡ operation o → false ≡ spreads_itself d x
unfolding spreads_itself
operation-never d x o is = ap (spreads_itself d) (sym is)
