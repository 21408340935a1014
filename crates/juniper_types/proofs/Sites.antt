-- The occurrences of a field, and the first of them.
use Rattle.std.proofs.Common.{◌≡◌, ◌<◌, List, [], ◌∷◌, length, get_or, map, refl, sym, ap, arith}
use Rattle.graphql_spec.specs.Shown.{Shown}
use Rattle.juniper_lookahead.specs.Expansion.{FragmentsByName, VariableMap, occurrence_at, seen_ahead}
use Rattle.juniper_lookahead.specs.OccurrencesView.{fields_ahead}
use Rattle.juniper_lookahead.specs.Sites.{IsFirstOf, view_fields}
use Rattle.juniper_lookahead.specs.declared.occurrences.Occurrence.{Occurrence}

pub first-is : {S : Type 0} (os : List (Occurrence S)) (o : Occurrence S) → 0 < length os → o ≡ get_or os 0 o → IsFirstOf o.field.now os
first-is [] o some is = absurd (omega (arith, some))
first-is (x ∷ os) o some is = ap (λ (y : Occurrence _). y.field.now) (sym is)

pub ahead-of-fields : {S : Type 0} (shown : S → Shown) (vars : VariableMap S) (m : FragmentsByName S) (os : List (Occurrence S)) →
    fields_ahead shown vars m os ≡ map seen_ahead (view_fields shown vars m os)
ahead-of-fields shown vars m [] = refl
ahead-of-fields shown vars m (o ∷ os) = ap (λ l. seen_ahead (occurrence_at shown vars m o.field.now) ∷ l) (ahead-of-fields shown vars m os)
