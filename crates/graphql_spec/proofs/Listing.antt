-- Errors that are listed in another order, and what a single failure lists.
use Rattle.std.proofs.Common.{◌≡◌, Bool, false, cond, List, [], ◌∷◌, ◌++◌, ◌+◌, refl, ap, inl, inr, arith}
use Rattle.graphql_spec.specs.Positions.{Position}
use Rattle.graphql_spec.specs.Types.{TypeRef, required}
use Rattle.graphql_spec.specs.Errors.{Place, Listed}
use Rattle.graphql_spec.specs.Resolvers.{Error}
use Rattle.graphql_spec.specs.Failures.{Failure, landing}
use Rattle.graphql_spec.specs.Laws.{In, pairs, pair_at, count}
use Rattle.graphql_spec.specs.Walk.{Met, told, count_listed}
use Rattle.graphql_spec.proofs.Grouping.{in_append, in_first, in_second}
use Rattle.graphql_spec.proofs.Walk.{count_listed-append}

-- the errors ds are the errors es in some order
pub record IsListedAs (ds es : List Listed) : Type 0 where
  pub counts : (p : Listed → Bool) → count_listed p ds ≡ count_listed p es
  pub inside : (x : Listed) → In x es → In x ds
  pub none : ds ≡ [] → es ≡ []

pub listed-same : (ds es : List Listed) → ds ≡ es → IsListedAs ds es
listed-same ds es e = record { counts = λ p. ap (count_listed p) e; inside = λ x i. rw e i; none = λ n. rw (← e) n }

nil-parts : (xs ys : List Listed) → xs ++ ys ≡ [] → (xs ≡ []) × (ys ≡ [])
nil-parts [] ys e = (refl, e)
nil-parts (x ∷ xs) ys e = cc

nil-both : (xs ys : List Listed) → xs ≡ [] → ys ≡ [] → xs ++ ys ≡ []
nil-both xs ys a b = rw (a, b) refl

-- what stands before and behind in two parts, each put together
pub listed-both : (a b c d es fs : List Listed) → IsListedAs (a ++ b) es → IsListedAs (c ++ d) fs → IsListedAs ((a ++ c) ++ (b ++ d)) (es ++ fs)
listed-both a b c d es fs x y = record {
  counts = λ p. let q = x.counts p in let r = y.counts p in let ab = count_listed-append p a b in let cd = count_listed-append p c d in
      let ac = count_listed-append p a c in let bd = count_listed-append p b d in
      let whole = count_listed-append p (a ++ c) (b ++ d) in let ef = count_listed-append p es fs in omega (arith, q, r, ab, cd, ac, bd, whole, ef);
  inside = λ l i. elim (in_append l es fs i) [
    | inl j ↦ elim (in_append l a b (x.inside l j)) [
      | inl k ↦ in_first l (a ++ c) (b ++ d) (in_first l a c k)
      | inr k ↦
          in_second l (a ++ c) (b ++ d) (in_first l b d k)
    ]
    | inr j ↦ elim (in_append l c d (y.inside l j)) [
      | inl k ↦ in_first l (a ++ c) (b ++ d) (in_second l a c k)
      | inr k ↦
          in_second l (a ++ c) (b ++ d) (in_second l b d k)
    ]
  ];
  none = λ e. let w = nil-parts (a ++ c) (b ++ d) e in let f = nil-parts a c w.0 in let g = nil-parts b d w.1 in
      nil-both es fs (x.none (nil-both a b f.0 g.0)) (y.none (nil-both c d f.1 g.1));
}

module _ (tell : Place → Place) where
  -- the order makes no difference
  pub met-listed : (rises : Bool) (ds es : List Listed) (fs : List Failure) (above : Place) (stands : List Place) → IsListedAs ds es →
      Met tell rises es fs above stands → Met tell rises ds fs above stands
  met-listed rises ds es fs above stands l m = record {
    counted = λ p. rw (l.counts p) (m.counted p);
    found = λ e. m.found (l.none e);
    explained = λ e to i. let r = m.explained e to i in (r.0, r.1, r.2, l.inside (told tell r.0) r.3);
    risen = λ e. let r = m.risen e in (r.0, r.1, r.2, l.inside (told tell r.0) r.3);
  }

  -- nothing fails
  pub met-nothing : (above : Place) → Met tell false [] [] above []
  unfolding pairs count_listed count
  met-nothing above = record {
    counted = λ p. omega arith;
    found = λ e. refl;
    explained = λ e to i. absurd i;
    risen = λ e. absurd (cc);
  }

  -- one failure, at one start
  pub met-failure : (here above : Place) (start : Position) (t : TypeRef) (x : Error) →
      Met tell (required t) (record { path = tell here; start = start; error = x } ∷ [])
      (record { path = here; starts = start ∷ []; error = x; rises_to = landing t here above } ∷ []) above (cond (required t) [] (here ∷ []))
  unfolding pairs pair_at count_listed count told landing
  met-failure here above start t x = record {
    counted = λ p. omega arith;
    found = λ e. cc;
    explained = λ e to i. let one = rw e at i in elim one [
      | inl g ↦ (record { path = here; start = start; error = x; rises_to = landing t here above }, inl refl, rw (e, g) refl, inl refl)
      | inr g ↦ absurd g
    ];
    risen = λ e. (record { path = here; start = start; error = x; rises_to = landing t here above }, inl refl, rw e refl, inl refl);
  }
