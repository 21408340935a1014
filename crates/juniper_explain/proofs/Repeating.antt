-- Names that stand earlier in a list.
use Rattle.std.proofs.Common.{◌≡◌, Bool, true, false, ◌||◌, cond, List, [], ◌∷◌, ◌++◌, map, refl, sym, ap, ap₂, append_assoc, append-nil, ◌∙◌}
use Rattle.std.specs.List.{list_any}
use Rattle.std.specs.Str.{bytes_eq}
use Rattle.graphql_spec.specs.Shown.{Name, Text}
use Rattle.graphql_spec.specs.Documents.{Word}
use Rattle.graphql_spec.specs.Written.{repeats}
use Rattle.juniper_explain.specs.declared.rule.Rule.{Rule}
use Rattle.juniper_explain.specs.Explanations.{Explanation, has_any, named}
use Rattle.juniper_explain.specs.Nodes.{repeated}
use Rattle.juniper_explain.proofs.Found.{AreOf, of-append, of-found, has-found}
use Rattle.juniper_written.proofs.Deciding.{any-seen}
use Rattle.juniper_explain.proofs.Joined.{has-append}

cond-or : (b c : Bool) → cond b true c ≡ (b || c)
cond-or true c = refl
cond-or false c = refl

or-swap : (a b c e : Bool) → ((a || b) || (c || e)) ≡ ((a || c) || (b || e))
or-swap true b c e = refl
or-swap false true true e = refl
or-swap false true false e = refl
or-swap false false true e = refl
or-swap false false false e = refl

any-or : {A : Type 0} (p q : A → Bool) (xs : List A) → list_any (λ x. p x || q x) xs ≡ (list_any p xs || list_any q xs)
any-or p q [] = refl
any-or p q (x ∷ xs) = ap (λ b. (p x || q x) || b) (any-or p q xs) ∙ or-swap (p x) (q x) (list_any p xs) (list_any q xs)

four : (t p q r : Bool) → (t || ((p || q) || r)) ≡ ((t || q) || (p || r))
four true p q r = refl
four false true true r = refl
four false true false r = refl
four false false true r = refl
four false false false r = refl

pub none-taken : (ws : List Word) → list_any (λ w. false) ws ≡ false
none-taken [] = refl
none-taken (w ∷ ws) = none-taken ws

module _ (r : Rule) (before after : Text) where
  pub repeated-same : (p q : Name → Bool) → ((n : Name) → p n ≡ q n) → (ws : List Word) → repeated r before after p ws ≡ repeated r before after q ws
  unfolding repeated
  repeated-same p q same [] = refl
  repeated-same p q same (w ∷ ws) = ap₂ (λ x y. named x r w before after ++ y) (same w.item)
      (repeated-same (λ n. bytes_eq w.item n || p n) (λ n. bytes_eq w.item n || q n) (λ n. ap (λ b. bytes_eq w.item n || b) (same n)) ws)

  pub of-repeated : (p : Name → Bool) (ws : List Word) → AreOf r (repeated r before after p ws)
  unfolding repeated named
  of-repeated p [] = tt
  of-repeated p (w ∷ ws) = of-append r _ _ (of-found (p w.item) r w.span.start _) (of-repeated (λ n. bytes_eq w.item n || p n) ws)

  pub repeated-has : (p : Name → Bool) (ws : List Word) →
      has_any (repeated r before after p ws) ≡ (list_any (λ w. p w.item) ws || repeats (map (λ w. w.item) ws))
  unfolding repeated named has_any repeats
  repeated-has p [] = refl
  repeated-has p (w ∷ ws) =
      let names = map (λ (v : Word). v.item) ws in
      has-append (named (p w.item) r w before after) (repeated r before after (λ n. bytes_eq w.item n || p n) ws)
      ∙ (ap₂ (λ a b. a || b) (has-found (p w.item) r w.span.start _) (repeated-has (λ n. bytes_eq w.item n || p n) ws
      ∙ ap (λ b. b || repeats names) (any-or (λ (v : Word). bytes_eq w.item v.item) (λ (v : Word). p v.item) ws
      ∙ ap (λ b. b || list_any (λ (v : Word). p v.item) ws) (any-seen (λ (v : Word). v.item) (bytes_eq w.item) ws)))
      ∙ four (p w.item) (list_any (bytes_eq w.item) names) (list_any (λ (v : Word). p v.item) ws) (repeats names))

  -- where nothing was seen before
  pub first-has : (ws : List Word) → has_any (repeated r before after (λ n. false) ws) ≡ repeats (map (λ w. w.item) ws)
  first-has ws = repeated-has (λ n. false) ws ∙ ap (λ b. b || repeats (map (λ (w : Word). w.item) ws)) (none-taken ws)

  pub repeats-next : (p q : Name → Bool) (w : Word) (ws : List Word) (mid new all : List Explanation) →
      ((n : Name) → q n ≡ cond (bytes_eq w.item n) true (p n)) → new ≡ mid ++ named (p w.item) r w before after →
      mid ++ repeated r before after p (w ∷ ws) ≡ all → new ++ repeated r before after q ws ≡ all
  unfolding repeated
  repeats-next p q w ws mid new all seen told so_far =
      ap (λ l. l ++ repeated r before after q ws) told
      ∙ (append_assoc mid (named (p w.item) r w before after) (repeated r before after q ws)
      ∙ (ap (λ l. mid ++ (named (p w.item) r w before after ++ l))
      (repeated-same q (λ n. bytes_eq w.item n || p n) (λ n. seen n ∙ cond-or (bytes_eq w.item n) (p n)) ws) ∙ so_far))

  pub repeats-all : (p : Name → Bool) (ws : List Word) (new all : List Explanation) → ws ≡ [] → new ++ repeated r before after p ws ≡ all → new ≡ all
  unfolding repeated
  repeats-all p ws new all none so_far = sym (append-nil new) ∙ (ap (λ l. new ++ repeated r before after p l) (sym none) ∙ so_far)
