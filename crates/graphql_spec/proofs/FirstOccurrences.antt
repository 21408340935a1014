-- Answers that tell each failure at the first of its field's occurrences.
use Rattle.std.proofs.Common.{◌≡◌, List, [], ◌∷◌, map, refl, sym, ap, ◌∙◌, inl, inr, subst}
use Rattle.graphql_spec.specs.Shown.{Name}
use Rattle.graphql_spec.specs.Positions.{Position}
use Rattle.graphql_spec.specs.Errors.{Listed}
use Rattle.graphql_spec.specs.Failures.{Failure}
use Rattle.graphql_spec.specs.Resolvers.{World}
use Rattle.graphql_spec.specs.Mutation.{Mutation}
use Rattle.graphql_spec.specs.Laws.{In}
use Rattle.graphql_spec.specs.GroupLaws.{for_picked, first_start}
use Rattle.graphql_spec.specs.ExactAnswers.{whole, IsErrorOf}
use Rattle.graphql_spec.specs.FirstOccurrences.{IsFirstErrorOf, FirstsTell, FirstsAnswer, FirstsAnswerRuns}
use Rattle.graphql_spec.proofs.Answered.{is_answer}

-- a failure that is told for the first of its field's occurrences is one of those that are told for all
pub picked-of : (g : Failure) (fs : List Failure) → In g (map (for_picked first_start) fs) → (f : Failure) × In f fs × (g ≡ for_picked first_start f)
picked-of g [] i = absurd i
picked-of g (f ∷ fs) (inl e) = (f, inl refl, e)
picked-of g (f ∷ fs) (inr i) = let r = picked-of g fs i in (r.0, inr r.1, r.2)

pub first-start : (s : Position) (ss : List Position) → In s (first_start ss) → (others : List Position) × (ss ≡ s ∷ others)
unfolding first_start
first-start s [] i = absurd i
first-start s (t ∷ ss) (inl e) = (ss, ap (λ z. z ∷ ss) (sym e))
first-start s (t ∷ ss) (inr i) = absurd i

first-error : (x : Listed) (f : Failure) → IsErrorOf x (for_picked first_start f) → IsFirstErrorOf x f
unfolding for_picked
first-error x f (p, e, s) = (p, e, first-start x.start f.starts s)

any-error : (x : Listed) (f : Failure) → IsFirstErrorOf x f → IsErrorOf x f
any-error x f (p, e, (others, s)) = (p, e, subst (λ z. In x.start z) (sym s) (inl refl))

first-of : (x : Listed) (g : Failure) (fs : List Failure) → In g (map (for_picked first_start) fs) → IsErrorOf x g →
    (f : Failure) × In f fs × IsFirstErrorOf x f × (g.rises_to ≡ f.rises_to)
unfolding for_picked
first-of x g fs i e = let r = picked-of g fs i in
    (r.0, r.1, first-error x r.0 (subst (λ z. IsErrorOf x z) r.2 e), ap (λ (z : Failure). z.rises_to) r.2)

pub firsts-tell : FirstsTell
firsts-tell es fs stands t = (
  record {
    belongs = λ x i. let b = t.belongs x i in let r = first-of x b.0 fs b.1 b.2 in (r.0, r.1, r.2);
    once = t.once;
    explained = λ to i. let b = t.explained to i in let r = first-of b.0 b.2.0 fs b.2.1 b.2.2 in (b.0, b.1, (r.0, r.1, r.2, sym r.3 ∙ b.2.3));
  },
  record {
    belongs = λ x i. let b = t.belongs x i in let r = first-of x b.0 fs b.1 b.2 in (r.0, r.1, any-error x r.0 r.2);
    once = t.once;
    explained = λ to i. let b = t.explained to i in let r = first-of b.0 b.2.0 fs b.2.1 b.2.2 in
        (b.0, b.1, (r.0, r.1, any-error b.0 r.0 r.2, sym r.3 ∙ b.2.3));
  },
)

pub firsts-answer : {N : Type 0} (W : World N) → FirstsAnswer W
firsts-answer W T m s value es ds v met same sorted = is_answer whole value _ _ _ es ds v met same sorted

pub firsts-answer-runs : {C N : Type 0} (M : Mutation C N) (T : Name) → FirstsAnswerRuns M T
firsts-answer-runs M T s c after value es ds run same sorted = is_answer whole value _ _ _ es ds run.value run.errors same sorted
