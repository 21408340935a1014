-- Texts that are used and kept, over plain variables.
use Rattle.std.proofs.Common.{◌≡◌, ℕ, Bool, true, false, cond, ◌||◌, zero, suc, List, [], ◌∷◌, ◌-◌, take, Contains, Option, Some, None, String}
use Rattle.std.proofs.Common.{Result, Ok, Err, refl, sym, ap, ◌∙◌, subst, inl, inr}
use Rattle.std.specs.Prelude.{string_bytes, OnOk, OnErr}
use Rattle.std.specs.List.{list_any}
use Rattle.std.specs.Map.{lookup, lookup_entry, remove_entry}
use Rattle.std.specs.Option.{is_some, option_map_or}
use Rattle.std.specs.Str.{bytes_eq}
use Rattle.std.specs.String.{string_eq}
use Rattle.std.specs.declared.alloc.Global.{Global}
use Rattle.std.proofs.lemmas.Bool.{cases_Bool}
use Rattle.lru.specs.LruCache.{LruCache, lru_cache, promoted, put_entries}
use Rattle.lru.proofs.CallerLemmas.{Contains-lookup, Contains-promoted, Contains-put_entries}
use Rattle.graphql_spec.specs.Shown.{Text}
use Rattle.graphql_spec.proofs.Lists.{same_refl, same_true}
use Rattle.juniper_cache.specs.Texts.{entry_texts, has_kept, once_used, taken_out}

-- a text that is used is one of those that are kept
pub used-among : (most : ℕ) (t : Text) (ts : List Text) → has_kept (once_used most t ts) t ≡ true
unfolding once_used has_kept
used-among most t ts = ap (λ b. b || list_any (bytes_eq t) (cond (list_any (bytes_eq t) ts) (taken_out t ts) (take (most - 1) ts))) (same_refl t)

-- the test of a look-up by a text
abbrev pub is_text : Text → String Global → Bool
is_text t k = bytes_eq t (string_bytes k)

module _ {V : Type 0} where
  -- a text is among those of the entries where it is found
  pub found-among : (t : Text) (es : List (String Global × V)) → is_some (lookup (is_text t) es) ≡ has_kept (entry_texts es) t
  unfolding has_kept
  found-among t [] = refl
  found-among t (e ∷ es) = elim (cases_Bool (bytes_eq t (string_bytes e.0))) [
    | inl is ↦ rw is refl
    | inr other ↦ rw other (found-among t es)
  ]

  taken-out : (t : Text) (es : List (String Global × V)) → entry_texts (remove_entry (is_text t) es) ≡ taken_out t (entry_texts es)
  unfolding taken_out
  taken-out t [] = refl
  taken-out t (e ∷ es) = elim (cases_Bool (bytes_eq t (string_bytes e.0))) [
    | inl is ↦ rw is refl
    | inr other ↦ rw other (ap (λ ts. string_bytes e.0 ∷ ts) (taken-out t es))
  ]

  taken : (n : ℕ) (es : List (String Global × V)) → entry_texts (take n es) ≡ take n (entry_texts es)
  taken zero es = refl
  taken (suc n) [] = refl
  taken (suc n) (e ∷ es) = ap (λ ts. string_bytes e.0 ∷ ts) (taken n es)

  -- what is known of a text where an entry is found at it, or none
  IsFound : Text → List (String Global × V) → Option (String Global × V) → Type 0
  IsFound t es None = has_kept (entry_texts es) t ≡ false
  IsFound t es (Some f) = (has_kept (entry_texts es) t ≡ true) × (t ≡ string_bytes f.0)

  found-later : (t : Text) (e : String Global × V) (es : List (String Global × V)) → bytes_eq t (string_bytes e.0) ≡ false →
      (o : Option (String Global × V)) → IsFound t es o → IsFound t (e ∷ es) o
  unfolding IsFound has_kept
  found-later t e es other None f = ap (λ b. b || has_kept (entry_texts es) t) other ∙ f
  found-later t e es other (Some x) f = (ap (λ b. b || has_kept (entry_texts es) t) other ∙ f.0, f.1)

  is-found : (t : Text) (es : List (String Global × V)) → IsFound t es (lookup_entry (is_text t) es)
  unfolding IsFound has_kept
  is-found t [] = refl
  is-found t (e ∷ es) = elim (cases_Bool (bytes_eq t (string_bytes e.0))) [
    | inl is ↦ rw is (ap (λ b. b || has_kept (entry_texts es) t) is, same_true t (string_bytes e.0) is)
    | inr other ↦ rw other (found-later t e es other (lookup_entry (is_text t) es) (is-found t es))
  ]

  -- a text that is found goes first
  promoted-of : (most : ℕ) (t : Text) (es : List (String Global × V)) (o : Option (String Global × V)) → IsFound t es o →
      entry_texts (option_map_or (λ e. e ∷ remove_entry (is_text t) es) o es) ≡ cond (has_kept (entry_texts es) t) (once_used most t (entry_texts es)) (entry_texts es)
  unfolding IsFound once_used
  promoted-of most t es None f = rw f refl
  promoted-of most t es (Some e) f = rw (f.0) (ap (λ x. x ∷ entry_texts (remove_entry (is_text t) es)) (sym f.1) ∙ ap (λ ts. t ∷ ts) (taken-out t es))

  pub promoted-texts : (most : ℕ) (t : Text) (es : List (String Global × V)) →
      entry_texts (promoted (is_text t) es) ≡ cond (has_kept (entry_texts es) t) (once_used most t (entry_texts es)) (entry_texts es)
  promoted-texts most t es = promoted-of most t es (lookup_entry (is_text t) es) (is-found t es)

  -- and so does one that is put in
  put-of : (c : LruCache (String Global) V) (k : String Global) (v : V) (o : Option (String Global × V)) → IsFound (string_bytes k) c.entries o →
      entry_texts (option_map_or (λ e. (e.0, v) ∷ remove_entry (is_text (string_bytes k)) c.entries) o ((k, v) ∷ take (c.cap - 1) c.entries))
      ≡ once_used c.cap (string_bytes k) (entry_texts c.entries)
  unfolding IsFound once_used
  put-of c k v None f = rw f (ap (λ ts. string_bytes k ∷ ts) (taken (c.cap - 1) c.entries))
  put-of c k v (Some e) f = rw (f.0) (ap (λ x. x ∷ entry_texts (remove_entry (is_text (string_bytes k)) c.entries)) (sym f.1)
      ∙ ap (λ ts. string_bytes k ∷ ts) (taken-out (string_bytes k) c.entries))

  pub put-texts : (c : LruCache (String Global) V) (k : String Global) (v : V) →
      entry_texts (put_entries string_eq c k v) ≡ once_used c.cap (string_bytes k) (entry_texts c.entries)
  put-texts c k v = put-of c k v (lookup_entry (is_text (string_bytes k)) c.entries) (is-found (string_bytes k) c.entries)

  -- ## What holds of all texts

  module _ (F : Text → Type 0) where
    abbrev pub AllFit : List (String Global × V) → Type 0
    AllFit es = (e : String Global × V) → Contains es e → F (string_bytes e.0)

    fits-of : (t : Text) (es : List (String Global × V)) → AllFit es → (o : Option V) → lookup (is_text t) es ≡ o → is_some o ≡ true → F t
    fits-of t es all None at is = cc
    fits-of t es all (Some v) at is =
        let found = Contains-lookup (is_text t) es v at in subst F (sym (same_true t (string_bytes found.0) found.2)) (all (found.0, v) found.1)

    pub fits : (t : Text) (es : List (String Global × V)) → AllFit es → has_kept (entry_texts es) t ≡ true → F t
    fits t es all is = fits-of t es all (lookup (is_text t) es) refl (found-among t es ∙ is)

    -- a text that was among those of some entries fits, where it was used first
    pub used-fit : (most : ℕ) (t : Text) (ts : List Text) (es : List (String Global × V)) (b : Bool) → AllFit es →
        entry_texts es ≡ cond b (once_used most t ts) ts → b ≡ true → F t
    used-fit most t ts es b all at is = fits t es all (ap (λ xs. has_kept xs t) (at ∙ ap (λ x. cond x (once_used most t ts) ts) is) ∙ used-among most t ts)

    pub promoted-fit : (test : String Global → Bool) (c n : LruCache (String Global) V) → n ≡ lru_cache (promoted test c.entries) c.cap → AllFit c.entries →
        AllFit n.entries
    promoted-fit test c n is all = subst (λ (m : LruCache (String Global) V). AllFit m.entries) (sym is) (λ e at. all e (Contains-promoted test c.entries e at))

    put-one : (c : LruCache (String Global) V) (k : String Global) (v : V) → AllFit c.entries → F (string_bytes k) → AllFit (put_entries string_eq c k v)
    put-one c k v all one = λ e at. elim (Contains-put_entries string_eq c k v e at) [
      | inl was ↦ all e was
      | inr put ↦ elim put.1 [ inl new ↦ subst (λ x. F (string_bytes x)) (sym new) one | inr old ↦ all (e.0, old.0) old.1 ]
    ]

    pub put-fit : {A E : Type 0} (r : Result A E) (c n : LruCache (String Global) V) (k : String Global) (v : V) →
        OnOk r (n ≡ lru_cache (put_entries string_eq c k v) c.cap) → OnErr r (n ≡ c) → AllFit c.entries → F (string_bytes k) → AllFit n.entries
    put-fit (Ok x) c n k v is same all one = subst (λ (m : LruCache (String Global) V). AllFit m.entries) (sym is) (put-one c k v all one)
    put-fit (Err x) c n k v is same all one = subst (λ (m : LruCache (String Global) V). AllFit m.entries) (sym same) all
