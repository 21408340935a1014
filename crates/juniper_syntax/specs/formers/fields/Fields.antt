-- `Fields` as a type that may hold the type that holds it, by its values.
use Rattle.std.specs.Prelude.{◌≡◌, ◌≤◌, ℕ, max, ◌&&◌, List, [], ◌∷◌, map, length, zip, String}
use mathlib.Core.Path.{refl, sym, ap, subst, ◌∙◌}
use mathlib.Core.Former.{Former, Count, Row, one_more, this, const, pair, list, list_count, list_put, via, children}
use native.Mathlib.Bridge.{le_prop}
use native.Mathlib.Omega.{arith}
use lib.ListN.{length-map}
use base.Stored.{code_map, coded×, gcons}
use denote.RattleType.{RattleType}
use denote.HoleLaws.{Alike}
use denote.HolePlaces.{Recodes, struct_places, laid}
use denote.Hole.Carrier.{listed}
use denote.Hole.Fix.{over}
use denote.Param.Nested.{deepest}
use denote.Param.Weighed.{Weighed, most, none_max, List-puts, w_pair, w_const}
use denote.Model.Placed.{held, view_places_where}
use Rattle.std.specs.Global.{Global}
use Rattle.std.specs.Map.{values_of}
use Rattle.std.specs.String.{string_eq}
use Rattle.std.specs.formers.vec.Vec as vec
use Rattle.std.specs.contracts.alloc.Global as heap
use Rattle.std.specs.contracts.impls.GlobalAllocator.TheImpl.{ghosts}
use Rattle.std.specs.declared.cmp.PartialEq as eq
use Rattle.std.specs.declared.rc.Rc.{Rc}
use Rattle.juniper_syntax.specs.FieldWords.{key_code, fields_eq}
use Rattle.juniper_syntax.specs.declared.fields.Fields.TheInside.{Inside}
use Rattle.juniper_syntax.specs.declared.fields.Fields.TheView.{view, invariant}
use Rattle.juniper_syntax.specs.contracts.fields.Fields as F
use Rattle.juniper_syntax.specs.contracts.fields.Fields.TheInside as I

-- a key beside one of g's values
abbrev entry : Former {0} → Former {0}
entry g = pair (const (String Global)) g

abbrev pub the_former : Former {0} → Former {0}
the_former g = list (entry g)

pub most_values : {K Y : Type 0} (f : Y → ℕ) (es : List (K × Y)) → most (λ p. max 0 (f p.1)) es ≡ most f (values_of es)
most_values f [] = refl
most_values f (e ∷ es) = λ i. max (sym (none_max (f e.1)) i) (most_values f es i)

pub entries_puts : {g : Former {0}} (w : Weighed g) (X : Type 0) (μ : X → ℕ) (es : List (String Global × g.Of X)) (n : Count) (t : Row X n)
    → deepest μ (list_count (entry g) (map ((entry g).shape X) es) n) (list_put (entry g) X es n t) ≡ max (most (w.weight X μ) (values_of es)) (deepest μ n t)
entries_puts w X μ es n t = List-puts (w_pair (w_const (String Global)) w) X μ es n t ∙ ap (λ a. max a (deepest μ n t)) (most_values (w.weight X μ) es)

abbrev pub the_weighed : {g : Former {0}} → Weighed g → Weighed (the_former g)
the_weighed w = record { weight = λ X μ es. most (w.weight X μ) (values_of es); puts = λ X μ es. entries_puts w X μ es }

pub the_empty : List (String Global × ⊥)
the_empty = []

abbrev pub the_items : (X : Type 0) → List (String Global × X) → List X
the_items X es = values_of es

pub the_items_listed : (X : Type 0) (es : List (String Global × X)) → listed _ (children (the_former this) X es) ≡ the_items X es
the_items_listed X [] = refl
the_items_listed X (e ∷ es) = ap (λ l. e.1 ∷ l) (the_items_listed X es)

abbrev fields : Former {0}
fields = via (pair (const (Rc (List (String Global)) Global)) (vec.the_former this Global)) Inside (λ X a. (a.keys, a.values))
    (λ X v. record { keys = v.0; values = v.1 }) (λ X a. refl) (λ X v. refl)

-- the entry, with h applied to its value
abbrev on_value : {K X Y : Type 0} → (X → Y) → K × X → K × Y
on_value h p = (p.0, h p.1)

zip-map : {K X Y : Type 0} (h : X → Y) (ks : List K) (vs : List X) → zip ks (map h vs) ≡ map (on_value h) (zip ks vs)
zip-map h [] vs = refl
zip-map h (k ∷ ks) [] = refl
zip-map h (k ∷ ks) (v ∷ vs) = ap (λ l. (k, h v) ∷ l) (zip-map h ks vs)

zip-held : (X : Type 0) (ks : List (String Global)) (vs : List X) → length vs ≤ length ks → held (list (entry this)) X (zip ks vs) ≡ held (list this) X vs
zip-held X [] [] e = refl
zip-held X [] (v ∷ vs) e = absurd (omega arith)
zip-held X (k ∷ ks) [] e = refl
zip-held X (k ∷ ks) (v ∷ vs) e = λ i. (one_more (zip-held X ks vs (omega arith) i).0, (v, (zip-held X ks vs (omega arith) i).1))

at_most : {m n k : ℕ} → n ≡ m → m ≤ k → n ≤ k
at_most {k = k} e below = subst (λ j. j ≤ k) (sym e) below

module _ (R R' : RattleType) (h : R.Denot → R'.Denot) where
  pub the_places : Alike R R' h → Alike (F.the_row R) (F.the_row R') ((the_former this).map R.Denot R'.Denot h)
  the_places a = view_places_where fields (the_former this) view
      (λ X Y k u. zip-map k u.keys.value u.values.items)
      (λ X u. length u.values.items ≤ length u.keys.value) (λ X Y k u e. at_most (sym (length-map u.values.items k)) e)
      (λ X u e. zip-held X u.keys.value u.values.items e)
      R.Denot R'.Denot h (F.the_row R).coded (F.the_row R').coded
      (invariant R.Denot) (invariant R'.Denot) (λ u. le_prop) (λ u. le_prop)
      (λ u e. at_most (length-map u.values.items h) e) (λ u e. at_most (sym (length-map u.values.items h)) e) (λ u e. e)
      (over (I.the_row R)) (over (I.the_row R'))
      (struct_places (I.the_type R) (I.the_type R') (λ n. n, (vec.mapped h, tt)) _ (λ d. refl) refl
      ((refl, (λ n. refl, λ n. refl)), (laid _ _ _ (vec.the_places heap.the_row ghosts R R' h a), tt)))

  pub the_codes_placed : Recodes R R' h → Recodes (F.the_row R) (F.the_row R') ((the_former this).map R.Denot R'.Denot h)
  the_codes_placed e es =
      sym (code_map (coded× key_code R.coded).code (coded× key_code R'.coded).code (on_value h) (λ x i. gcons (key_code.code x.0) (sym (e x.1) i)) es)

-- `==` of two that were mapped is `==` along the map
pub the_eq_natural : (X Y : Type 0) (h : X → Y) (V : eq.Ghosts Y) (es fs : List (String Global × X))
    → fields_eq V.eq ((the_former this).map X Y h es) ((the_former this).map X Y h fs) ≡ fields_eq (λ x y. V.eq (h x) (h y)) es fs
the_eq_natural X Y h V [] [] = refl
the_eq_natural X Y h V [] (f ∷ fs) = refl
the_eq_natural X Y h V (e ∷ es) [] = refl
the_eq_natural X Y h V (e ∷ es) (f ∷ fs) = ap (λ b. (string_eq e.0 f.0 && V.eq (h e.1) (h f.1)) && b) (the_eq_natural X Y h V es fs)
