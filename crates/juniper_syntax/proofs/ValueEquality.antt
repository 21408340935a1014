-- `==` of values compares what they show.
use denote.RattleType.{RattleType}
use denote.Hole.Carrier
use denote.Hole.Compared.{compared, compared_is}
use mir.Syntax.{Dict}
use Rattle.std.proofs.Common.{◌≡◌, List, [], ◌∷◌, map, Bool, true, false, ◌&&◌, String, Global, refl, sym, ap, ap₂, subst, ◌∙◌}
use Rattle.std.specs.Cmp.Lexicographic.{pointwise}
use Rattle.std.specs.String.{string_eq}
use Rattle.std.specs.declared.cmp.PartialEq.{Ghosts}
use Rattle.std.specs.contracts.cmp.PartialEq.TheBound.{Lawful}
use Rattle.graphql_spec.specs.Shown.{Shown, same_shown}
use Rattle.graphql_spec.specs.Values as spec
use Rattle.graphql_spec.specs.Values.{same_value, same_items, same_entries}
use Rattle.juniper_syntax.specs.FieldWords.{fields_eq}
use Rattle.juniper_syntax.specs.ValueView.{view_value, view_object, view_values, view_entries}
use Rattle.juniper_syntax.specs.declared.value.Value.{Value, Value-F, out-Value, roll-Value, out-roll-Value, roll-out-Value, map-Value, ind-Value}
use Rattle.juniper_syntax.specs.declared.value.Value.TheOpen as open_value
use Rattle.juniper_syntax.specs.declared.value.Value.TheVariants.{rolls-Null, rolls-Scalar, rolls-List, rolls-Object}
use Rattle.juniper_syntax.specs.declared.value.Value.TheBlock as block
use Rattle.juniper_syntax.specs.declared.value.Object.{Object, Object-F, out-Object, roll-Object, out-roll-Object, map-Object}
use Rattle.juniper_syntax.specs.contracts.value.ValuePartialEq.TheImpl as impl
use Rattle.juniper_syntax.specs.contracts.value.ValuePartialEq.TheImpl.Laws as laws
use Rattle.juniper_syntax.proofs.Values.{Pair, view-Null, view-Scalar, view-List, view-Object, view-out, view-roll}

module _ {S : Type 0} (shown : S → Shown) (E : Value S → Value S → Bool) where
  -- a value that is compared as what it shows
  abbrev Seen : Value S → Type 0
  Seen u = (v : Value S) → E u v ≡ same_value (view_value shown u) (view_value shown v)

  items-same : (us : List ((u : Value S) × Seen u)) (vs : List (Value S)) →
      pointwise E (map (λ u. u.0) us) vs ≡ same_items (view_values shown (map (λ u. u.0) us)) (view_values shown vs)
  unfolding same_value
  items-same [] [] = refl
  items-same [] (v ∷ vs) = refl
  items-same (u ∷ us) [] = refl
  items-same (u ∷ us) (v ∷ vs) = ap₂ (λ a b. a && b) (u.1 v) (items-same us vs)

  and-last : (a b c : Bool) → ((a && b) && c) ≡ (a && (b && c))
  and-last true b c = refl
  and-last false b c = refl

  entries-same : (us : List (String Global × ((u : Value S) × Seen u))) (vs : List (Pair S))
      → fields_eq E (map (λ u. (u.0, u.1.0)) us) vs ≡ same_entries (view_entries shown (map (λ u. (u.0, u.1.0)) us)) (view_entries shown vs)
  unfolding same_value
  entries-same [] [] = refl
  entries-same [] (v ∷ vs) = refl
  entries-same (u ∷ us) [] = refl
  entries-same (u ∷ us) (v ∷ vs) =
      ap₂ (λ a b. (string_eq u.0 v.0 && a) && b) (u.1.1 v.1) (entries-same us vs)
      ∙ and-last (string_eq u.0 v.0) (same_value (view_value shown u.1.0) (view_value shown v.1))
      (same_entries (view_entries shown (map (λ u. (u.0, u.1.0)) us)) (view_entries shown vs))

module _ (T : RattleType) (E : Ghosts T.Denot) (E-dict : Dict) (lawful : Lawful T E E-dict) where
  abbrev eq-value : Value T.Denot → Value T.Denot → Bool
  eq-value = (impl.ghosts T E E-dict).eq

  abbrev eq-object : Object T.Denot → Object T.Denot → Bool
  eq-object =
      compared (block.the_members T.Denot) (Carrier.Values (block.the_members T.Denot) (block.the_sigs T.Denot) (block.the_carrier T.Denot))
      (block.the_depth T.Denot) Bool true
      (impl.the_step T E E-dict) block.member-Object

  -- two layers, with what they hold compared by `==`
  abbrev layers : Value-F T.Denot (Value T.Denot) (Object T.Denot) → Value-F T.Denot (Value T.Denot) (Object T.Denot) → Bool
  layers open_value.Null open_value.Null = true
  layers (open_value.Scalar a) (open_value.Scalar b) = E.eq a b
  layers (open_value.List v) (open_value.List w) = pointwise eq-value v.items w.items
  layers (open_value.Object o) (open_value.Object p) = eq-object o p
  layers _ _ = false

  abbrev opened : Value T.Denot → Value T.Denot → Bool
  opened = laws.unfolded T E E-dict lawful

  by-layers : (x y : Value-F T.Denot (Value T.Denot) (Object T.Denot)) (u v : Value T.Denot) → out-Value T.Denot u ≡ x → out-Value T.Denot v ≡ y →
      opened u v ≡ layers x y
  by-layers open_value.Null open_value.Null u v p q = rw (p, q) refl
  by-layers open_value.Null (open_value.Scalar y) u v p q = rw (p, q) refl
  by-layers open_value.Null (open_value.List y) u v p q = rw (p, q) refl
  by-layers open_value.Null (open_value.Object y) u v p q = rw (p, q) refl
  by-layers (open_value.Scalar x) open_value.Null u v p q = rw (p, q) refl
  by-layers (open_value.Scalar x) (open_value.Scalar y) u v p q = rw (p, q) refl
  by-layers (open_value.Scalar x) (open_value.List y) u v p q = rw (p, q) refl
  by-layers (open_value.Scalar x) (open_value.Object y) u v p q = rw (p, q) refl
  by-layers (open_value.List x) open_value.Null u v p q = rw (p, q) refl
  by-layers (open_value.List x) (open_value.Scalar y) u v p q = rw (p, q) refl
  by-layers (open_value.List x) (open_value.List y) u v p q = rw (p, q) refl
  by-layers (open_value.List x) (open_value.Object y) u v p q = rw (p, q) refl
  by-layers (open_value.Object x) open_value.Null u v p q = rw (p, q) refl
  by-layers (open_value.Object x) (open_value.Scalar y) u v p q = rw (p, q) refl
  by-layers (open_value.Object x) (open_value.List y) u v p q = rw (p, q) refl
  by-layers (open_value.Object x) (open_value.Object y) u v p q = rw (p, q) refl

  eq-rolled : (x y : Value-F T.Denot (Value T.Denot) (Object T.Denot)) → eq-value (roll-Value T.Denot x) (roll-Value T.Denot y) ≡ layers x y
  eq-rolled x y = laws.is T E E-dict lawful (roll-Value T.Denot x) (roll-Value T.Denot y)
      ∙ by-layers x y (roll-Value T.Denot x) (roll-Value T.Denot y) (out-roll-Value T.Denot x) (out-roll-Value T.Denot y)

  eq-opened : (o p : Object T.Denot) → eq-object o p ≡ fields_eq eq-value (out-Object T.Denot o).fields (out-Object T.Denot p).fields
  eq-opened o p =
      compared_is (block.the_members T.Denot) (Carrier.Values (block.the_members T.Denot) (block.the_sigs T.Denot) (block.the_carrier T.Denot))
      (block.the_depth T.Denot) Bool true
      (impl.the_step T E E-dict) (laws.local T E E-dict lawful) block.member-Object o p

  module _ (shown : T.Denot → Shown) (same : (a b : T.Denot) → E.eq a b ≡ same_shown (shown a) (shown b)) where
    abbrev ValueSeen : Value T.Denot → Type 0
    ValueSeen u = (v : Value T.Denot) → eq-value u v ≡ same_value (view_value shown u) (view_value shown v)

    abbrev ObjectSeen : Object T.Denot → Type 0
    ObjectSeen o = (p : Object T.Denot) → eq-object o p ≡ same_entries (view_object shown o) (view_object shown p)

    abbrev SeenLayer : Type 0
    SeenLayer = Value-F T.Denot ((u : Value T.Denot) × ValueSeen u) ((o : Object T.Denot) × ObjectSeen o)

    abbrev bare : SeenLayer → Value-F T.Denot (Value T.Denot) (Object T.Denot)
    bare = map-Value T.Denot ((u : Value T.Denot) × ValueSeen u) ((o : Object T.Denot) × ObjectSeen o) (Value T.Denot) (Object T.Denot) (λ u. u.0) (λ o. o.0)

    -- a layer, as it is seen
    abbrev seen : Value-F T.Denot (Value T.Denot) (Object T.Denot) → spec.Value
    seen open_value.Null = spec.null
    seen (open_value.Scalar a) = spec.scalar (shown a)
    seen (open_value.List v) = spec.list (view_values shown v.items)
    seen (open_value.Object o) = spec.object (view_object shown o)

    rolled-seen : (x : Value-F T.Denot (Value T.Denot) (Object T.Denot)) → view_value shown (roll-Value T.Denot x) ≡ seen x
    rolled-seen open_value.Null = ap (view_value shown) rolls-Null ∙ view-Null shown
    rolled-seen (open_value.Scalar a) = ap (view_value shown) (rolls-Scalar a) ∙ view-Scalar shown a
    rolled-seen (open_value.List v) = ap (view_value shown) (rolls-List v) ∙ view-List shown v
    rolled-seen (open_value.Object o) = ap (view_value shown) (rolls-Object o) ∙ view-Object shown o

    layers-same : (x : SeenLayer) (y : Value-F T.Denot (Value T.Denot) (Object T.Denot)) → layers (bare x) y ≡ same_value (seen (bare x)) (seen y)
    unfolding same_value
    layers-same open_value.Null open_value.Null = refl
    layers-same open_value.Null (open_value.Scalar y) = refl
    layers-same open_value.Null (open_value.List y) = refl
    layers-same open_value.Null (open_value.Object y) = refl
    layers-same (open_value.Scalar x) open_value.Null = refl
    layers-same (open_value.Scalar x) (open_value.Scalar y) = same x y
    layers-same (open_value.Scalar x) (open_value.List y) = refl
    layers-same (open_value.Scalar x) (open_value.Object y) = refl
    layers-same (open_value.List x) open_value.Null = refl
    layers-same (open_value.List x) (open_value.Scalar y) = refl
    layers-same (open_value.List x) (open_value.List y) = items-same shown eq-value x.items y.items
    layers-same (open_value.List x) (open_value.Object y) = refl
    layers-same (open_value.Object x) open_value.Null = refl
    layers-same (open_value.Object x) (open_value.Scalar y) = refl
    layers-same (open_value.Object x) (open_value.List y) = refl
    layers-same (open_value.Object x) (open_value.Object y) = x.1 y

    value-step : (x : SeenLayer) → ValueSeen (roll-Value T.Denot (bare x))
    value-step x v =
        let y = out-Value T.Denot v in
        subst (λ w. eq-value (roll-Value T.Denot (bare x)) w ≡ same_value (view_value shown (roll-Value T.Denot (bare x))) (view_value shown w))
        (roll-out-Value T.Denot v)
        (eq-rolled (bare x) y ∙ (layers-same x y ∙ sym (ap₂ same_value (rolled-seen (bare x)) (rolled-seen y))))

    abbrev SeenFields : Type 0
    SeenFields = Object-F T.Denot ((u : Value T.Denot) × ValueSeen u) ((o : Object T.Denot) × ObjectSeen o)

    abbrev bare-fields : SeenFields → Object-F T.Denot (Value T.Denot) (Object T.Denot)
    bare-fields =
        map-Object T.Denot ((u : Value T.Denot) × ValueSeen u) ((o : Object T.Denot) × ObjectSeen o) (Value T.Denot) (Object T.Denot) (λ u. u.0) (λ o. o.0)

    object-step : (x : SeenFields) → ObjectSeen (roll-Object T.Denot (bare-fields x))
    object-step x p =
        let y = out-Object T.Denot p in
        eq-opened (roll-Object T.Denot (bare-fields x)) p
        ∙ (ap (λ o. fields_eq eq-value o.fields y.fields) (out-roll-Object T.Denot (bare-fields x))
        ∙ (entries-same shown eq-value x.fields y.fields
        ∙ sym (ap₂ same_entries (view-roll shown (bare-fields x).fields) (view-out shown p))))

    pub values-same : (u v : Value T.Denot) → eq-value u v ≡ same_value (view_value shown u) (view_value shown v)
    values-same =
        ind-Value T.Denot ValueSeen ObjectSeen
        (λ x y e. subst (λ z. ValueSeen (roll-Value T.Denot z)) e (value-step y))
        (λ x y e. subst (λ z. ObjectSeen (roll-Object T.Denot z)) e (object-step y))
