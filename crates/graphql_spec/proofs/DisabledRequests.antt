-- Where introspection is disabled, what runs does not look at the schema.
use Rattle.std.proofs.Common.{◌≡◌, ◌&&◌, ◌||◌, ◌++◌, ℕ, zero, suc, Bool, true, false, List, length, Option, Some, None, refl, sym, ap, ◌∙◌, inl, inr, subst}
use Rattle.std.proofs.lemmas.Bool.{cases_Bool, both_ways, and_from}
use Rattle.std.proofs.lemmas.List.Folds.{list_any-append}
use Rattle.std.specs.List.{list_any}
use Rattle.std.specs.Option.{is_some}
use Rattle.graphql_spec.specs.Shown.{Name}
use Rattle.graphql_spec.specs.Documents.{Head, Directive, Selections, end, field, spread, inline, Fragment, operation, fragment, Document, fragments}
use Rattle.graphql_spec.specs.Directives.{admits, passes}
use Rattle.graphql_spec.specs.Fragments.{Contents, put_under, plain, filled, contents, fragment_of, expand}
use Rattle.graphql_spec.specs.Written.{heads, selections_of}
use Rattle.graphql_spec.specs.Rules.{is_introspection, has_root, can_look, looks_at_schema}
use Rattle.graphql_spec.specs.Requests.{selected}
use Rattle.graphql_spec.specs.Laws.{In}
use Rattle.graphql_spec.proofs.Found.{looks-hold, phases-hold}
use Rattle.graphql_spec.proofs.KnownSpreads.{found-fragment}
use Rattle.graphql_spec.proofs.ValidRuns.{runs_are_valid}
use Rattle.graphql_spec.proofs.Keeping.{options}
use Rattle.graphql_spec.specs.SeenNodes.{selects_only}
use Rattle.graphql_spec.specs.IntrospectionLaws.{is_users_field, DisabledLooksNowhere}

-- a field that looks at the schema
abbrev looks : Head → Bool
looks h = is_introspection h.name.item

neither : (a b : Bool) → (a || b) ≡ false → (a ≡ false) × (b ≡ false)
neither false b e = (refl, e)
neither true b e = absurd (both_ways false refl (sym e))

neither-part : (hs ks : List Head) → list_any looks (hs ++ ks) ≡ false → (list_any looks hs ≡ false) × (list_any looks ks ≡ false)
neither-part hs ks e = neither (list_any looks hs) (list_any looks ks) (sym (list_any-append looks hs ks) ∙ e)

-- what a spread stands for does not look
Blind : (Name → Option Contents) → Type 0
Blind inside = (k : Name) (c : Contents) → inside k ≡ Some c → selects_only is_users_field c.selections ≡ true

put-selects : (inside : Name → Option Contents) → Blind inside → (k : Name) (rest : _) → selects_only is_users_field rest ≡ true →
    selects_only is_users_field (put_under (inside k) rest) ≡ true
unfolding put_under selects_only Blind
put-selects inside b k rest e =
    elim (options (inside k)) [ inl q ↦ rw q e | inr (c, q) ↦ rw q (and_from (selects_only is_users_field c.selections) _ (b k c q) e) ]

plain-selects : (test : Directive → Bool) (inside : Name → Option Contents) → Blind inside → (set : Selections) → list_any looks (heads set) ≡ false →
    selects_only is_users_field (plain test inside set) ≡ true
unfolding plain heads selects_only is_users_field
plain-selects test inside b end e = refl
plain-selects test inside b (field h below rest) e =
    let a = neither (looks h) (list_any looks (heads below ++ heads rest)) e in
    let p = neither-part (heads below) (heads rest) a.1 in
    elim (cases_Bool (admits test h.directives)) [
      | inl q ↦ rw (q, a.0) (and_from (selects_only is_users_field (plain test inside below)) _ (plain-selects test inside b below p.0)
          (plain-selects test inside b rest p.1))
      | inr q ↦ rw q (plain-selects test inside b rest p.1)
    ]
plain-selects test inside b (spread x rest) e = elim (cases_Bool (admits test x.directives)) [
  | inl q ↦ rw q (put-selects inside b x.name.item (plain test inside rest) (plain-selects test inside b rest e))
  | inr q ↦ rw q (plain-selects test inside b rest e)
]
plain-selects test inside b (inline x below rest) e =
    let p = neither-part (heads below) (heads rest) e in
    elim (cases_Bool (admits test x.directives)) [
      | inl q ↦ rw q (and_from (selects_only is_users_field (plain test inside below)) _ (plain-selects test inside b below p.0)
          (plain-selects test inside b rest p.1))
      | inr q ↦ rw q (plain-selects test inside b rest p.1)
    ]

module _ (test : Directive → Bool) (d : Document) (none : (x : Fragment) → In (fragment x) d → list_any looks (heads x.selections) ≡ false) where
  contents-blind : (n : ℕ) → Blind (contents test (fragments d) n)
  unfolding contents filled Blind
  contents-blind zero k c e = absurd (cc)
  contents-blind (suc n) k c e = elim (options (fragment_of (fragments d) k)) [
    | inl q ↦ absurd (nothing-found c (rw q at e))
    | inr (x, q) ↦ subst (λ z. selects_only is_users_field z ≡ true) (found-selections x c (rw q at e))
        (plain-selects test (contents test (fragments d) n) (contents-blind n) x.selections (none x (found-fragment d k x q).0))
  ]
    where
      nothing-found : (c : Contents) → None ≡ Some c → ⊥
      nothing-found c e = cc

      found-selections : (x : Fragment) (c : Contents) → Some (record
          { condition = x.condition.item; selections = plain test (contents test (fragments d) n) x.selections }) ≡ Some c →
          plain test (contents test (fragments d) n) x.selections ≡ c.selections
      found-selections x c e = let w : record { condition = x.condition.item; selections = plain test (contents test (fragments d) n) x.selections } ≡ c = cc in
          ap (λ z. z.selections) w

pub disabled_looks_nowhere : DisabledLooksNowhere
unfolding selected expand looks_at_schema can_look has_root selections_of
disabled_looks_nowhere s n given read d o vars r =
    let v = runs_are_valid s true n given read d o vars r in
    let hold = looks-hold s true d (phases-hold s true d v.1).uses in
    let own : (has_root s o && list_any looks (heads o.selections)) ≡ false = hold (operation o) v.2 in
    plain-selects (passes vars) (contents (passes vars) (fragments d) (length (fragments d)))
    (contents-blind (passes vars) d (λ x i. hold (fragment x) i) (length (fragments d))) o.selections
    (subst (λ z. (is_some z && list_any looks (heads o.selections)) ≡ false) v.3.1 own)
