-- Looking up by name: a map's answer and that of its entries.
use Rattle.std.proofs.Common.{◌≡◌, Bool, true, false, cond, List, [], ◌∷◌, map, Option, Some, None, option_map, MatchOption, bytes_eq, refl, sym, ap, ◌∙◌}
use Rattle.std.specs.Option.{option_copied}
use Rattle.std.specs.Map.{lookup}
use Rattle.graphql_spec.specs.Shown.{Name}
use Rattle.graphql_spec.specs.Schema.{Entry}
use Rattle.graphql_spec.specs.Fields.{entry_in, shape_of, or_else}
use Rattle.juniper_meta.specs.MetaView.{Meta, entry_at}
use Rattle.juniper_schema.specs.SchemaView.{meta_of}
use denote.Ref.{Bor}

found_step : {K X : Type 0} (text : K → Name) (view : X → Meta) (b : Bool) (k : K) (x : X) (o : Option X) (p : Option Entry) →
    option_map view o ≡ option_map meta_of p →
    option_map view (cond b (Some x) o) ≡ option_map meta_of (cond b (Some (entry_at (text k) (view x))) p)
found_step text view true k x o p e = refl
found_step text view false k x o p e = e

-- what a map of declarations has at a name is what its entries have
found : {K X : Type 0} (text : K → Name) (view : X → Meta) (es : List (K × X)) (n : Name) →
    option_map view (lookup (λ k. bytes_eq n (text k)) es) ≡ option_map meta_of (entry_in (map (λ e. entry_at (text e.0) (view e.1)) es) n)
unfolding entry_in
found text view [] n = refl
found text view (e ∷ es) n = found_step text view (bytes_eq n (text e.0)) e.0 e.1 (lookup (λ k. bytes_eq n (text k)) es)
    (entry_in (map (λ e. entry_at (text e.0) (view e.1)) es) n) (found text view es n)

copied : {X Y : Type 0} (view : X → Y) (r : Option (Bor X)) → option_map (λ m. view m.now) r ≡ option_map view (option_copied r)
copied view None = refl
copied view (Some x) = refl

-- a borrowed answer of a map
pub entry_found : {K X : Type 0} (text : K → Name) (view : X → Meta) (es : List (K × X)) (n : Name) (r : Option (Bor X)) →
    option_copied r ≡ lookup (λ k. bytes_eq n (text k)) es →
    option_map (λ m. view m.now) r ≡ option_map meta_of (entry_in (map (λ e. entry_at (text e.0) (view e.1)) es) n)
entry_found text view es n r e = copied view r ∙ (ap (option_map view) e ∙ found text view es n)

-- the shape of what was found
pub shape_found : {X : Type 0} (view : X → Meta) (r : Option (Bor X)) (o : Option Entry) → option_map (λ m. view m.now) r ≡ option_map meta_of o →
    MatchOption r (shape_of o ≡ None) (λ m. shape_of o ≡ Some (view m.now).shape)
unfolding shape_of
shape_found view None None e = refl
shape_found view None (Some y) e = cc
shape_found view (Some x) None e = cc
shape_found view (Some x) (Some y) e = cc

-- the first of two answers
pub found_first : (o p : Option Entry) (m : Meta) → Some m ≡ option_map meta_of o →
    (Some m ≡ option_map meta_of (or_else o p)) × (shape_of (or_else o p) ≡ Some m.shape)
unfolding or_else shape_of
found_first None p m e = cc
found_first (Some x) p m e = (e, ap (option_map (λ y. y.shape)) (sym e))

-- the second, where there is no first
pub found_then : (o p : Option Entry) → None ≡ option_map meta_of o → or_else o p ≡ p
unfolding or_else
found_then None p e = refl
found_then (Some x) p e = cc
