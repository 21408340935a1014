-- What stands at the names of a map, and how a map changes where something is put.
use Rattle.std.proofs.Common.{◌≡◌, Bool, true, false, not, cond, is_some, List, [], ◌∷◌, map, Option, Some, None, option_map, bytes_eq, refl, sym, ap, ◌∙◌, inl}
use Rattle.std.proofs.Common.{inr}
use Rattle.std.specs.Map.{lookup, update}
use Rattle.std.proofs.lemmas.Bool.{cases_Bool}
use Rattle.graphql_spec.specs.Shown.{Name}
use Rattle.graphql_spec.specs.Schema.{Entry}
use Rattle.graphql_spec.specs.Fields.{entry_in}
use Rattle.graphql_spec.proofs.Lists.{same_true, same_sym}
use Rattle.juniper_meta.specs.MetaView.{Meta, entry_at, is_placeholder}
use Rattle.juniper_registry.specs.Entries.{is_declared}

cond_map : {X Y : Type 0} (f : X → Y) (b : Bool) (x : X) (o : Option X) → option_map f (cond b (Some x) o) ≡ cond b (Some (f x)) (option_map f o)
cond_map f true x o = refl
cond_map f false x o = refl

is_some_map : {X Y : Type 0} (f : X → Y) (o : Option X) → is_some (option_map f o) ≡ is_some o
is_some_map f None = refl
is_some_map f (Some x) = refl

module _ {K X : Type 0} (text : K → Name) (view : X → Meta) where
  entries : List (K × X) → List Entry
  entries es = map (λ e. entry_at (text e.0) (view e.1)) es

  at : Name → List (K × X) → Option X
  at n es = lookup (λ k. bytes_eq n (text k)) es

  step : (n : Name) (k : K) (x : X) (o : Option Entry) (p : Option Entry) → o ≡ p →
      cond (bytes_eq n (text k)) (Some (entry_at (text k) (view x))) o ≡ cond (bytes_eq n (text k)) (Some (entry_at n (view x))) p
  step n k x o p e = elim (cases_Bool (bytes_eq n (text k))) [
    | inl y ↦ rw y (ap (λ z. Some (entry_at z (view x))) (sym (same_true n (text k) y)))
    | inr f ↦ rw f e
  ]

  -- the entry of a name is what is found there, at that name
  entry_at_name : (es : List (K × X)) (n : Name) → entry_in (entries es) n ≡ option_map (λ x. entry_at n (view x)) (at n es)
  unfolding entry_in entries at
  entry_at_name [] n = refl
  entry_at_name (e ∷ es) n = step n e.0 e.1 (entry_in (entries es) n) (option_map (λ x. entry_at n (view x)) (at n es)) (entry_at_name es n)
      ∙ sym (cond_map (λ x. entry_at n (view x)) (bytes_eq n (text e.0)) e.1 (at n es))

  -- a name is found exactly where an entry stands there
  pub stands_found : (es : List (K × X)) (n : Name) → is_some (lookup (λ k. bytes_eq n (text k)) es)
      ≡ is_some (entry_in (map (λ e. entry_at (text e.0) (view e.1)) es) n)
  unfolding entries at
  stands_found es n = sym (is_some_map (λ x. entry_at n (view x)) (at n es)) ∙ ap (λ o. is_some o) (sym (entry_at_name es n))

  -- nothing that is found is no declaration
  pub none_found : (es : List (K × X)) (n : Name) → None ≡ lookup (λ k. bytes_eq n (text k)) es →
      false ≡ is_declared (entry_in (map (λ e. entry_at (text e.0) (view e.1)) es) n)
  unfolding entries at
  none_found es n e = ap (λ o. is_declared (option_map (λ x. entry_at n (view x)) o)) e ∙ ap is_declared (sym (entry_at_name es n))

  -- what is found is a declaration, where it is no placeholder
  pub some_found : (es : List (K × X)) (n : Name) (x : X) → Some x ≡ lookup (λ k. bytes_eq n (text k)) es →
      not (is_placeholder (view x).shape) ≡ is_declared (entry_in (map (λ e. entry_at (text e.0) (view e.1)) es) n)
  unfolding entries at
  some_found es n x e = ap (λ o. is_declared (option_map (λ x. entry_at n (view x)) o)) e ∙ ap is_declared (sym (entry_at_name es n))

  put_at : (old new : List (K × X)) (bs n : Name) (v : X) → at n new ≡ cond (bytes_eq bs n) (Some v) (at n old) →
      entry_in (entries new) n ≡ cond (bytes_eq n bs) (Some (entry_at n (view v))) (entry_in (entries old) n)
  put_at old new bs n v e =
      entry_at_name new n ∙ (ap (option_map (λ x. entry_at n (view x))) e ∙ (cond_map (λ x. entry_at n (view x)) (bytes_eq bs n) v (at n old)
      ∙ (ap (λ b. cond b (Some (entry_at n (view v))) (option_map (λ x. entry_at n (view x)) (at n old))) (same_sym bs n)
      ∙ ap (cond (bytes_eq n bs) (Some (entry_at n (view v)))) (sym (entry_at_name old n)))))

  -- a declaration that is put at a name stands there, and what stood at others stays
  pub put_entry : (old new : List (K × X)) (bs : Name) (v : X) → ((n : Name) →
      lookup (λ k. bytes_eq n (text k)) new ≡ update bytes_eq (λ m. lookup (λ k. bytes_eq m (text k)) old) bs (Some v) n) → (n : Name) →
      entry_in (map (λ e. entry_at (text e.0) (view e.1)) new) n ≡ cond (bytes_eq n bs) (Some (entry_at n (view v)))
      (entry_in (map (λ e. entry_at (text e.0) (view e.1)) old) n)
  unfolding entries at
  put_entry old new bs v h n = put_at old new bs n v (h n)
