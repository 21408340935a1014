-- Rounds over names, in each of which some are taken and the others left.
use Rattle.std.specs.Prelude.{ℕ, zero, Bool, true, false, ◌||◌, not, List, [], ◌∷◌, ◌++◌, length, get_or, drop, map, Option, Some, None, option_map, is_some}
use Rattle.std.specs.Prelude.{Vec, ◌≡◌, ◌≤◌, ◌<◌, ◌+◌}
use Rattle.std.specs.Borrow.{Bor}
use Rattle.std.specs.List.{list_all}
use Rattle.std.specs.Str.{bytes_eq}
use Rattle.std.specs.declared.alloc.Global.{Global}
use Rattle.std.proofs.lemmas.Bool.{or_cases, or_left, or_right}
use Rattle.std.proofs.lemmas.List.{append-nil, append_assoc, length-append, drop_all, drop_more}
use Rattle.std.proofs.Common.{refl, sym, ap, ◌∙◌, inl, inr, subst, arith}
use Rattle.graphql_spec.specs.Shown.{Name}
use Rattle.graphql_spec.specs.Documents.{Fragment}
use Rattle.graphql_spec.specs.Fragments.{fragment_of}
use Rattle.juniper_syntax.proofs.Lists.{seen-push}
use Rattle.juniper_written.specs.WrittenView.{named, view_names}
use Rattle.juniper_written.specs.declared.name_map.NameMap.{NameMap}
use Rattle.juniper_written.specs.Order.{found, is_ready, put}
use Rattle.juniper_written.specs.SpreadsView.{AreSpreadsOf, names_or_none, spread_by}
use Rattle.juniper_written.proofs.FragmentNames.{has, true_false, either, has_first, has_second, next, itself, or_unknown}
use Rattle.juniper_written.proofs.Looking.{found-by, known-is, next-is}
use Rattle.juniper_written.proofs.Taking.{IsStuck}

not-ready : (b : Bool) → not b ≡ true → b ≡ false
not-ready true e = sym e
not-ready false e = refl

module _ {T : Type 0} (taken : T → Name → Bool) (ready : (Name → Bool) → Name → Bool) (start : T) (names : List Name) where
  -- a round that has left some of the names it saw, and has others still to look at
  pub record IsRound (now : T) (left rest : List Name) (i : ℕ) : Type 0 where
    pub stays : (k : Name) → taken start k ≡ true → taken now k ≡ true
    pub all : (k : Name) → has names k ≡ true → (taken now k || (has left k || has rest k)) ≡ true
    pub fewer : length left ≤ i
    pub stuck : length left ≡ i → (now ≡ start) × ((k : Name) → has names k ≡ true → (has rest k || not (ready (taken start) k)) ≡ true)

  pub round-first : IsRound start [] names zero
  round-first = record {
    stays = λ k e. e;
    all = λ k e. or_right (taken start k) (has names k) e;
    fewer = omega arith;
    stuck = λ e. (refl, λ k h. or_left (has names k) (not (ready (taken start) k)) h);
  }

  -- the next name is taken
  pub round-taken : (now new : T) (left rest : List Name) (i : ℕ) (x : Name) → IsRound now left (x ∷ rest) i →
      ((k : Name) → taken now k ≡ true → taken new k ≡ true) → taken new x ≡ true → IsRound new left rest (i + 1)
  round-taken now new left rest i x r grows is = record {
    stays = λ k e. grows k (r.stays k e);
    all = λ k e. elim (or_cases (taken now k) (has left k || has (x ∷ rest) k) (r.all k e)) [
      | inl t ↦ or_left (taken new k) (has left k || has rest k) (grows k t)
      | inr h ↦ elim (or_cases (has left k) (has (x ∷ rest) k) h) [
        | inl l ↦ or_right (taken new k) (has left k || has rest k) (or_left (has left k) (has rest k) l)
        | inr m ↦ either k x rest m (λ q. or_left (taken new k) (has left k || has rest k) (subst (λ j. taken new j ≡ true) (sym q) is))
            (λ l. or_right (taken new k) (has left k || has rest k) (or_right (has left k) (has rest k) l))
      ]
    ];
    fewer = let f = r.fewer in omega (arith, f);
    stuck = λ e. absurd (let f = r.fewer in omega (arith, f, e));
  }

  -- the next name is left
  pub round-left : (now new : T) (left rest : List Name) (i : ℕ) (x : Name) → IsRound now left (x ∷ rest) i → new ≡ now → ready (taken now) x ≡ false →
      IsRound new (left ++ x ∷ []) rest (i + 1)
  round-left now new left rest i x r is un = record {
    stays = λ k e. subst (λ t. taken t k ≡ true) (sym is) (r.stays k e);
    all = λ k e. subst (λ t. (taken t k || (has (left ++ x ∷ []) k || has rest k)) ≡ true) (sym is)
        (elim (or_cases (taken now k) (has left k || has (x ∷ rest) k) (r.all k e)) [
          | inl t ↦ or_left (taken now k) (has (left ++ x ∷ []) k || has rest k) t
          | inr h ↦ or_right (taken now k) (has (left ++ x ∷ []) k || has rest k) (elim (or_cases (has left k) (has (x ∷ rest) k) h) [
            | inl l ↦ or_left (has (left ++ x ∷ []) k) (has rest k) (has_first left (x ∷ []) k l)
            | inr m ↦ either k x rest m (λ q. or_left (has (left ++ x ∷ []) k) (has rest k)
                (has_second left (x ∷ []) k (or_left (bytes_eq k x) false (subst (λ j. bytes_eq k j ≡ true) q (itself k)))))
                (λ l. or_right (has (left ++ x ∷ []) k) (has rest k) l)
          ])
        ]);
    fewer = let f = r.fewer in let n = length-append left (x ∷ []) in omega (arith, f, n);
    stuck = λ e. let n = length-append left (x ∷ []) in let s = r.stuck (omega (arith, n, e)) in (
      is ∙ s.0,
      λ k h. elim (or_cases (has (x ∷ rest) k) (not (ready (taken start) k)) (s.1 k h)) [
        | inl m ↦ either k x rest m
            (λ q. or_right (has rest k) (not (ready (taken start) k)) (ap not
            (subst (λ j. ready (taken start) j ≡ false) (sym q) (subst (λ t. ready (taken t) x ≡ false) s.0 un))))
            (λ l. or_left (has rest k) (not (ready (taken start) k)) l)
        | inr u ↦ or_right (has rest k) (not (ready (taken start) k)) u
      ],
    );
  }

  no-more : (b c : Bool) → (b || (c || false)) ≡ true → (b || c) ≡ true
  no-more true c e = refl
  no-more false true e = refl
  no-more false false e = e

  pub round-all : (now : T) (left : List Name) (i : ℕ) → IsRound now left [] i → (k : Name) → has names k ≡ true → (taken now k || has left k) ≡ true
  round-all now left i r k e = no-more (taken now k) (has left k) (r.all k e)

  pub round-stuck : (now : T) (left : List Name) (i : ℕ) → IsRound now left [] i → length left ≡ i → (k : Name) → has names k ≡ true →
      ready (taken now) k ≡ false
  round-stuck now left i r e k h = let s = r.stuck e in subst (λ t. ready (taken t) k ≡ false) (sym s.0) (not-ready (ready (taken start) k) (s.1 k h))

  -- the next of the names that the text holds
  pub round-seen : (now : T) (left : List Name) (xs : List (Bor (List ℕ))) (i : ℕ) (d : Bor (List ℕ)) → i < length xs →
      IsRound now left (view_names (drop i xs)) i → IsRound now left ((get_or xs i d).now ∷ view_names (drop (i + 1) xs)) i
  round-seen now left xs i d below r = subst (λ l. IsRound now left (view_names l) i) (drop_more xs i d below) r

  -- all of them were looked at
  pub round-ends : (now : T) (left : List Name) (xs : List (Bor (List ℕ))) (i : ℕ) → length xs ≤ i → IsRound now left (view_names (drop i xs)) i →
      IsRound now left [] i
  round-ends now left xs i past r = subst (λ l. IsRound now left (view_names l) i) (drop_all i xs past) r

-- ## The names of fragments

module _ (m : NameMap (Vec (Bor (List ℕ)) Global)) (fs : List Fragment) (are : AreSpreadsOf m fs) where
  -- the names of all fragments are names of the map
  pub known-among : (xs : List (Bor (List ℕ))) → ((k : Name) → has (view_names xs) k ≡ is_some (named m k)) → (k : Name) →
      is_some (fragment_of fs k) ≡ true → has (view_names xs) k ≡ true
  known-among xs all k e = all k ∙ (found-by m k ∙ (known-is m fs are k ∙ e))

  -- the names that a fragment spreads are taken, or no fragment's, as the document has it
  pub ready-is : (taken : Name → Bool) (k : Name) → is_ready m taken k ≡ list_all (or_unknown fs taken) (next fs k)
  unfolding is_ready
  ready-is taken k =
      let same : (λ (n : Name). taken n || not (is_some (spread_by m n))) ≡ or_unknown fs taken = λ i n. taken n || not (known-is m fs are n i) in
      ap (λ f. list_all f (names_or_none (spread_by m k))) same ∙ ap (list_all (or_unknown fs taken)) (next-is m fs are k)

  -- a round that took none ends the rounds
  pub rounds-end : (old now : Name → Bool) (left : List Name) → ((k : Name) → is_some (fragment_of fs k) ≡ true → (old k || has left k) ≡ true) →
      ((k : Name) → old k ≡ true → now k ≡ true) →
      ((k : Name) → has left k ≡ true → is_ready m now k ≡ false) → IsStuck fs now
  rounds-end old now left all stays stuck k known out = elim (or_cases (old k) (has left k) (all k known)) [
    | inl t ↦ true_false (now k) (stays k t) out
    | inr l ↦ sym (ready-is now k) ∙ stuck k l
  ]

  -- what is left of the names after one more round
  pub rounds-go-on : (old now : Name → Bool) (left kept : List Name) → ((k : Name) → is_some (fragment_of fs k) ≡ true → (old k || has left k) ≡ true) →
      ((k : Name) → old k ≡ true → now k ≡ true) →
      ((k : Name) → has left k ≡ true → (now k || has kept k) ≡ true) → (k : Name) → is_some (fragment_of fs k) ≡ true → (now k || has kept k) ≡ true
  rounds-go-on old now left kept all stays next k known = elim (or_cases (old k) (has left k) (all k known)) [
    | inl t ↦ or_left (now k) (has kept k) (stays k t)
    | inr l ↦ next k l
  ]

-- ## A loop over names

module _ {A : Type 0} (fs : List Fragment) (view : A → Fragment) where
  -- the next name has a fragment
  pub find-next : (old made : List A) (o : Option A) (x : A) (k : Name) (rest : List Name) → made ≡ old ++ x ∷ [] → o ≡ Some x →
      option_map view o ≡ fragment_of fs k →
      map view made ++ found fs rest ≡ map view old ++ found fs (k ∷ rest)
  unfolding found put
  find-next old made o x k rest more is e =
      ap (λ l. l ++ found fs rest) (seen-push view old made x more) ∙ (append_assoc (map view old) (view x ∷ []) (found fs rest)
      ∙ ap (λ p. map view old ++ put fs p (found fs rest)) (sym (ap (option_map view) is) ∙ e))

  -- the next name has none
  pub find-none : (old : List A) (o : Option A) (k : Name) (rest : List Name) → o ≡ None → option_map view o ≡ fragment_of fs k →
      map view old ++ found fs rest ≡ map view old ++ found fs (k ∷ rest)
  unfolding found put
  find-none old o k rest is e = ap (λ p. map view old ++ put fs p (found fs rest)) (sym (ap (option_map view) is) ∙ e)

  -- all names were looked at
  pub find-ends : (made : List A) (xs : List (Bor (List ℕ))) (i : ℕ) (all : List Fragment) → length xs ≤ i →
      map view made ++ found fs (view_names (drop i xs)) ≡ all → map view made ≡ all
  unfolding found
  find-ends made xs i all past e = sym (append-nil (map view made)) ∙ (ap (λ l. map view made ++ found fs (view_names l)) (sym (drop_all i xs past)) ∙ e)
