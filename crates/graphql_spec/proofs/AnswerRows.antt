-- Worked rows: answers that are right, and answers that are refused.
use Rattle.std.proofs.Common.{◌≡◌, ◌+◌, ◌==◌, ℕ, Bool, true, false, cond, codes, List, [], ◌∷◌, map, Option, None, Some}
use Rattle.std.proofs.Common.{refl, sym, ap, ◌∙◌, inl, inr, subst, arith}
use Rattle.std.specs.Prelude.{pos}
use Rattle.std.specs.Str.{bytes_eq}
use Rattle.graphql_spec.specs.Shown.{Name, Text, int, text}
use Rattle.graphql_spec.specs.Inputs as i
use Rattle.graphql_spec.specs.Inputs.{Variables}
use Rattle.graphql_spec.specs.Constants as c
use Rattle.graphql_spec.specs.Constants.{Constant, Members, find}
use Rattle.graphql_spec.specs.Documents.{Selections, end, query}
use Rattle.graphql_spec.specs.Values.{Value, null, scalar, object, no_entries, entry, Entries, list, item, no_items}
use Rattle.graphql_spec.specs.Resolvers.{Reply, answered, failed, node, nothing}
use Rattle.graphql_spec.specs.Errors.{Place, key, index, Listed, null_at_non_null, compare_positions, compare_steps, compare, not_greater, is_least}
use Rattle.graphql_spec.specs.Errors.{is_sorted}
use Rattle.graphql_spec.specs.Nulls.{null_or, standing, reply_standing, key_standing, nulls, nulls_of}
use Rattle.graphql_spec.specs.Laws.{In, pair_at, pairs, count}
use Rattle.graphql_spec.specs.Walk.{told, count_listed, IsMutationAnswerFor}
use Rattle.graphql_spec.specs.Mutation.{Mutation, Run, torn_of, IsLeft, data_of_run, group_nulls, run_nulls, root_fields, mutation_run}
use Rattle.graphql_spec.specs.Requests.{selected}
use Rattle.graphql_spec.specs.Selections.{Forest, keys}
use Rattle.graphql_spec.proofs.Demo.{at, word, leaf_field, set_field, on, as_field, given_field, demo, Node, root, tally, bad, concrete_of, answer_of}
use Rattle.graphql_spec.proofs.Rows.{answer}
use Rattle.graphql_spec.specs.Outcomes.{Service, mutation_in, world_in, IsQueryAnswer, IsMutationAnswer}
use Rattle.graphql_spec.specs.ExactAnswers.{whole, PathsDiffer, TellsExactly, once_each, elsewhere, same_place, same_step}
use Rattle.graphql_spec.specs.FirstOccurrences.{TellsFirsts}
use Rattle.graphql_spec.specs.Failures.{Failure, failures_of}
use Rattle.graphql_spec.specs.GroupLaws.{for_picked, first_start}
use Rattle.graphql_spec.specs.Positions.{Position}
use Rattle.graphql_spec.specs.TypedData.{asked_type, MayHold, HasFields}

-- ## A service: the total and the count

data Sum : Type 0 where
  sum_of : ℕ → ℕ → Sum

unfoldable add_for : Sum → Option Constant → Sum × Reply Node
add_for (sum_of t n) (Some (c.scalar (int (pos x)))) = (sum_of (t + x) (n + 1), answered (node (tally (t + x) (n + 1))))
add_for k x = (k, answered nothing)

unfoldable step_for : Sum → Name → Members → Sum × Reply Node
step_for k f args = cond (bytes_eq f (codes "add")) (add_for k (find (codes "n") args)) (k, failed (bad (codes "failed")))

-- a step of `fail` that is cut short may leave another count
unfoldable torn_for : Sum → Name → Members → Sum → Bool
torn_for (sum_of t n) f args (sum_of u m) = cond (bytes_eq f (codes "fail")) (t == u) false

unfoldable serving : Service Sum Node
serving = record {
  schema = demo;
  introspection_disabled = true;
  concrete = λ c. concrete_of;
  answer = λ c. answer_of;
  root = root;
  mutation = Some (record { step = step_for; torn = torn_for });
}

unfoldable none_given : Variables
none_given n = None

abbrev M : Mutation Sum Node
M = mutation_in serving (record { step = step_for; torn = torn_for }) none_given

unfoldable asked : Selections → Forest
unfolding answer
asked s = selected [] (record {
  kind = query;
  name = None;
  variables = None;
  directives = [];
  selections = s;
  span = record { start = at 0; end = at 0 };
}) none_given

abbrev start : Sum
start = sum_of 0 0

abbrev error_at : Place → ℕ → Text → Listed
error_at p n t = record { path = p; start = at n; error = bad t }

abbrev adding : Text → ℕ → ℕ → Selections → Selections
adding a n at' rest = given_field (Some (word a at')) (codes "add") (codes "n") (i.scalar (int (pos n))) at' true
    (leaf_field (codes "total") (at' + 12) end) rest

-- ## mutation { a: add(n: 1) {total} b: fail c: add(n: 5) {total} }

abbrev three : Selections
three = adding (codes "a") 1 11 (as_field (codes "b") (codes "fail") 32 (adding (codes "c") 5 40 end))

unfoldable run-of : Selections → Sum → Run Sum
unfolding answer asked serving step_for add_for none_given
run-of s c = mutation_run M (codes "Mutation") (asked s) c

stops : run-of three start ≡ record {
  values = None;
  context = sum_of 1 1;
  failures =
      record { path = key (codes "b") ∷ []; starts = at 32 ∷ []; error = bad (codes "failed"); rises_to = [] } ∷ [];
}
unfolding run-of
stops = refl

-- null, one error, and the context after the first step
is_answered : IsMutationAnswer serving whole none_given (asked three) start null (error_at (key (codes "b") ∷ []) 32 (codes "failed") ∷ []) (sum_of 1 1)
unfolding run-of data_of_run run_nulls group_nulls reply_standing standing nulls_of nulls key_standing null_or pairs pair_at count told count_listed
    is_sorted is_least
is_answered = (
  record { step = step_for; torn = torn_for },
  codes "Mutation",
  (refl, refl),
  record {
    answer = record {
      is_data = refl;
      sorted = refl;
      belongs = λ x i. elim i [
        | inl e ↦ (
          record { path = key (codes "b") ∷ []; start = at 32; error = bad (codes "failed"); rises_to = [] },
          inl refl,
          sym e,
        )
        | inr j ↦ absurd j
      ];
      counted = λ p. omega arith;
      none = (λ e. cc, λ e. cc);
      explained = λ to i. elim i [
        | inl e ↦ (
          record { path = key (codes "b") ∷ []; start = at 32; error = bad (codes "failed"); rises_to = [] },
          inl refl,
          sym e,
          inl refl,
        )
        | inr j ↦ absurd j
      ];
    };
    context = refl;
  },
)

AnsweredBy : Value → List Listed → Sum → Type 0
AnsweredBy v es after = IsMutationAnswerFor M (codes "Mutation") whole (asked three) start v es after

abbrev failed_at_b : Listed
failed_at_b = error_at (key (codes "b") ∷ []) 32 (codes "failed")

-- no error; the error twice; an object; the context where the last group had run too
not_silent : AnsweredBy null [] (sum_of 1 1) → ⊥
unfolding AnsweredBy run-of pairs pair_at
not_silent a = let e = a.answer.none.0 refl in cc

not_twice : AnsweredBy null (failed_at_b ∷ failed_at_b ∷ []) (sum_of 1 1) → ⊥
unfolding AnsweredBy run-of pairs pair_at count told count_listed
not_twice a = let l = a.answer.counted (λ x. true) in absurd (omega (arith, l))

not_object : (es : Entries) (ds : List Listed) (k : Sum) → AnsweredBy (object es) ds k → ⊥
unfolding AnsweredBy run-of data_of_run
not_object es ds k a = let e = a.answer.is_data in cc

differ : (t n u m : ℕ) → sum_of t n ≡ sum_of u m → t ≡ u
differ t n u m e = cc

not_further : (v : Value) (es : List Listed) → AnsweredBy v es (sum_of 6 2) → ⊥
unfolding AnsweredBy run-of
not_further v es a = let z = differ 6 2 1 1 a.context in absurd (omega (arith, z))

-- what want of memory may leave: nothing stepped, the first step, and what `fail` tears; not what the third step leaves
Left : Sum → Type 0
Left k = IsLeft M (codes "Mutation") (keys (root_fields M (codes "Mutation") (asked three) start))
    (root_fields M (codes "Mutation") (asked three) start) start k

left : Left start × Left (sum_of 1 1) × Left (sum_of 1 7)
unfolding Left run-of torn_of torn_for
left = (inl refl, inr (inr (inl refl)), inr (inr (inr (refl, inr (inl refl)))))

not_left : Left (sum_of 6 2) → ⊥
unfolding Left run-of torn_of torn_for
not_left (inl e) = let z = differ 6 2 0 0 e in absurd (omega (arith, z))
not_left (inr (inl e)) = cc
not_left (inr (inr (inl e))) = let z = differ 6 2 1 1 e in absurd (omega (arith, z))
not_left (inr (inr (inr (e, inl f)))) = let z = differ 6 2 1 1 f in absurd (omega (arith, z))
not_left (inr (inr (inr (e, inr (inl f))))) = cc
not_left (inr (inr (inr (e, inr (inr (inl f)))))) = let z = differ 6 2 1 1 f in absurd (omega (arith, z))
not_left (inr (inr (inr (e, inr (inr (inr (f, g))))))) = cc

-- ## { fail fail }

abbrev doubled : Selections
doubled = leaf_field (codes "fail") 2 (leaf_field (codes "fail") 7 end)

abbrev failed_first : Listed
failed_first = error_at (key (codes "fail") ∷ []) 2 (codes "failed")

abbrev failed_second : Listed
failed_second = error_at (key (codes "fail") ∷ []) 7 (codes "failed")

Asked : Selections → Value → List Listed → Type 0
Asked s v es = IsQueryAnswer serving whole none_given (asked s) start v es start

-- an error for each occurrence belongs to a failure; the first of each place is one
twice_listed : Asked doubled (object (entry (codes "fail") null no_entries)) (failed_first ∷ failed_second ∷ [])
unfolding Asked run-of reply_standing standing nulls_of nulls key_standing null_or pairs pair_at count told count_listed compare_positions compare_steps
    compare not_greater is_sorted is_least
twice_listed = (
  record {
    is_data = refl;
    sorted = refl;
    belongs = λ x i. elim i [
      | inl e ↦ (record { path = key (codes "fail") ∷ []; start = at 2; error = bad (codes "failed"); rises_to = key (codes "fail") ∷ [] }, inl refl, sym e)
      | inr (inl e) ↦ (
        record { path = key (codes "fail") ∷ []; start = at 7; error = bad (codes "failed"); rises_to = key (codes "fail") ∷ [] },
        inr (inl refl),
        sym e,
      )
      | inr (inr j) ↦ absurd j
    ];
    counted = λ p. omega arith;
    none = (λ e. cc, λ e. cc);
    explained = λ to i. elim i [
      | inl e ↦ (
        record {
          path = key (codes "fail") ∷ [];
          start = at 2;
          error = bad (codes "failed");
          rises_to = key (codes "fail") ∷ [];
        },
        inl refl,
        sym e,
        inl refl,
      )
      | inr j ↦ absurd j
    ];
  },
  refl,
)

not_once : PathsDiffer (failed_first ∷ failed_second ∷ []) → ⊥
not_once d = d.0 failed_second (inl refl) refl

first_alone : once_each (failed_first ∷ failed_second ∷ []) ≡ failed_first ∷ []
unfolding once_each elsewhere same_place same_step
first_alone = refl

-- ## { ids }

abbrev ids : Selections
ids = leaf_field (codes "ids") 2 end

abbrev null_in : Place → Listed
null_in p = record { path = p; start = at 2; error = null_at_non_null }

-- the item's exact place belongs; the list's place does not
item_told : Asked ids (object (entry (codes "ids") null no_entries)) (null_in (key (codes "ids") ∷ index 1 ∷ []) ∷ [])
unfolding Asked run-of reply_standing standing nulls_of nulls key_standing null_or pairs pair_at count told count_listed is_sorted is_least
item_told = (
  record {
    is_data = refl;
    sorted = refl;
    belongs = λ x i. elim i [
      | inl e ↦ (
        record {
          path = key (codes "ids") ∷ index 1 ∷ [];
          start = at 2;
          error = null_at_non_null;
          rises_to = key (codes "ids") ∷ [];
        },
        inl refl,
        sym e,
      )
      | inr j ↦ absurd j
    ];
    counted = λ p. omega arith;
    none = (λ e. cc, λ e. cc);
    explained = λ to i. elim i [
      | inl e ↦ (
        record {
          path = key (codes "ids") ∷ index 1 ∷ [];
          start = at 2;
          error = null_at_non_null;
          rises_to = key (codes "ids") ∷ [];
        },
        inl refl,
        sym e,
        inl refl,
      )
      | inr j ↦ absurd j
    ];
  },
  refl,
)

list_not_told : (v : Value) → Asked ids v (null_in (key (codes "ids") ∷ []) ∷ []) → ⊥
unfolding Asked run-of pairs pair_at told
list_not_told v a = let b = a.0.belongs (null_in (key (codes "ids") ∷ [])) (inl refl) in
    elim b.1 [
      | inl e ↦ let z : b.0.path ≡ key (codes "ids") ∷ index 1 ∷ [] = ap (λ q. q.path) e in
          let w : b.0.path ≡ key (codes "ids") ∷ [] = ap (λ x. x.path) b.2 in cc
      | inr j ↦ j
    ]

-- ## Data that may not stand

Holds : Selections → Entries → Type 0
Holds s es = HasFields demo (codes "Query") (root_fields M (codes "Query") (asked s) start) (keys (root_fields M (codes "Query") (asked s) start)) es

abbrev id_asked : Selections
id_asked = leaf_field (codes "id") 2 end

held : Holds id_asked (entry (codes "id") (scalar (text (codes "q1"))) no_entries)
unfolding Holds run-of MayHold asked_type
held = (refl, refl, tt)

-- null at a non-null field; a number at a text's; another key; no key
not_held : (Holds id_asked (entry (codes "id") null no_entries) → ⊥) × (Holds (leaf_field (codes "__typename") 2 end)
    (entry (codes "__typename") (scalar (int (pos 1))) no_entries) → ⊥)
    × (Holds id_asked (entry (codes "name") (scalar (text (codes "q1"))) no_entries) → ⊥) × (Holds id_asked no_entries → ⊥)
unfolding Holds run-of MayHold asked_type
not_held = (λ h. let e = h.1 in cc, λ h. let e = h.1 in cc, λ h. let e = h.0 in cc, λ h. h)

-- ## { fail fail } at the first of its field's occurrences

failures_asked : Selections → List Failure
failures_asked s = failures_of (world_in serving none_given start) [] [] (codes "Query") root (asked s)

abbrev at_fail : Place
at_fail = key (codes "fail") ∷ []

-- the error at the first occurrence tells the failure
told_at_first : TellsFirsts (failed_first ∷ []) (failures_asked doubled) (at_fail ∷ [])
unfolding failures_asked run-of
told_at_first = record {
  belongs = λ x i. elim i [
    | inl e ↦ (
      record { path = at_fail; starts = at 2 ∷ at 7 ∷ []; error = bad (codes "failed"); rises_to = at_fail },
      inl refl,
      (ap (λ (y : Listed). y.path) e, ap (λ (y : Listed). y.error) e, (at 7 ∷ [], ap (λ (y : Listed). y.start ∷ at 7 ∷ []) (sym e))),
    )
    | inr j ↦ absurd j
  ];
  once = ((λ y i e. absurd i), tt);
  explained = λ to i. elim i [
    | inl e ↦ (
      failed_first,
      inl refl,
      (
        record { path = at_fail; starts = at 2 ∷ at 7 ∷ []; error = bad (codes "failed"); rises_to = at_fail },
        inl refl,
        (refl, refl, (at 7 ∷ [], refl)),
        sym e,
      ),
    )
    | inr j ↦ absurd j
  ];
}

-- the error at the second occurrence alone is of a failure, but not where each is told at the first
second_not_told : (stands : List Place) → TellsExactly (failed_second ∷ []) (map (for_picked first_start) (failures_asked doubled)) stands → ⊥
unfolding failures_asked run-of for_picked first_start
second_not_told stands t = let b = t.belongs failed_second (inl refl) in
    elim b.1 [
      | inl e ↦ (elim (subst (λ (ss : List Position). In (at 7) ss) (ap (λ (f : Failure). f.starts) e) b.2.2) [
        | inl q ↦ let z : 7 ≡ 2 = ap (λ (p : Position). p.index) q in absurd (omega (arith, z))
        | inr j ↦ j
      ])
      | inr j ↦ j
    ]

-- ## Wrong bodies that are wrong values

abbrev of_hero : Selections → Selections
of_hero below = set_field (codes "hero") 2 below end

abbrev under : Text → Value → Value
under k v = object (entry k v no_entries)

-- null for every request
null_for_all : (es : List Listed) → Asked id_asked null es → ⊥
unfolding Asked run-of
null_for_all es a = let e = a.0.is_data in cc

-- { hero { id } hero { name } }: the later object in place of the earlier
later_object_stays : (es : List Listed) → Asked (set_field (codes "hero") 2 (leaf_field (codes "id") 9 end)
    (set_field (codes "hero") 14 (leaf_field (codes "name") 21 end) end)) (under (codes "hero") (under (codes "name") (scalar (text (codes "R2-D2"))))) es → ⊥
unfolding Asked run-of
later_object_stays es a = let e = a.0.is_data in cc

-- { hero { id } hero { secret } }: the later null is ignored
later_null_ignored : (es : List Listed) → Asked (set_field (codes "hero") 2 (leaf_field (codes "id") 9 end)
    (set_field (codes "hero") 14 (leaf_field (codes "secret") 21 end) end)) (under (codes "hero") (under (codes "id") (scalar (text (codes "2001"))))) es → ⊥
unfolding Asked run-of
later_null_ignored es a = let e = a.0.is_data in cc

-- { grid { a } grid { b } }: lists in lists have the first occurrence's fields alone
first_fields_alone : (es : List Listed) → Asked (set_field (codes "grid") 2 (leaf_field (codes "a") 9 end)
    (set_field (codes "grid") 14 (leaf_field (codes "b") 21 end) end))
    (under (codes "grid") (list (item (list (item (under (codes "a") (scalar (int (pos 10)))) no_items))
    (item (list (item (under (codes "a") (scalar (int (pos 11)))) no_items)) no_items)))) es → ⊥
unfolding Asked run-of
first_fields_alone es a = let e = a.0.is_data in cc

-- { mustHero { secret } }: null stays at a non-null field, above and below
null_stays : (es : List Listed) → Asked (set_field (codes "mustHero") 2 (leaf_field (codes "secret") 13 end) end) (under (codes "mustHero") null) es → ⊥
unfolding Asked run-of
null_stays es a = let e = a.0.is_data in cc

null_stays_below : (es : List Listed) → Asked (set_field (codes "mustHero") 2 (leaf_field (codes "secret") 13 end) end)
    (under (codes "mustHero") (under (codes "secret") null)) es → ⊥
unfolding Asked run-of
null_stays_below es a = let e = a.0.is_data in cc

-- { hero { secret } }: null rises too high
null_too_high : (es : List Listed) → Asked (of_hero (leaf_field (codes "secret") 13 end)) null es → ⊥
unfolding Asked run-of
null_too_high es a = let e = a.0.is_data in cc

-- { ids }: null stays at an item of non-null type
null_item_stays : (es : List Listed) → Asked ids (under (codes "ids") (list (item (scalar (int (pos 1))) (item null no_items)))) es → ⊥
unfolding Asked run-of
null_item_stays es a = let e = a.0.is_data in cc

-- { hero { ... on Human { height } } } of a droid: a fragment for another type is taken
other_type_taken : (es : List Listed) → Asked (of_hero (on (codes "Human") 9 (leaf_field (codes "height") 20 end) end))
    (under (codes "hero") (under (codes "height") null)) es → ⊥
unfolding Asked run-of
other_type_taken es a = let e = a.0.is_data in cc

-- { id fail }: a key is lost
key_lost : (es : List Listed) → Asked (leaf_field (codes "id") 2 (leaf_field (codes "fail") 5 end)) (under (codes "id") (scalar (text (codes "q1")))) es → ⊥
unfolding Asked run-of
key_lost es a = let e = a.0.is_data in cc

-- ## Wrong lists of errors

abbrev fail_asked : Selections
fail_asked = leaf_field (codes "fail") 2 end

-- { fail }: no error; one at another place of the text; one of another message; the error twice
errors_dropped : (v : Value) → Asked fail_asked v [] → ⊥
unfolding Asked run-of pairs pair_at
errors_dropped v a = let e = a.0.none.0 refl in cc

other_start : (v : Value) → Asked fail_asked v (error_at at_fail 3 (codes "failed") ∷ []) → ⊥
unfolding Asked run-of pairs pair_at told
other_start v a = let b = a.0.belongs (error_at at_fail 3 (codes "failed")) (inl refl) in
    elim b.1 [
      | inl e ↦ let z : b.0.start ≡ at 2 = ap (λ q. q.start) e in
          let w : b.0.start ≡ at 3 = ap (λ (x : Listed). x.start) b.2 in
          let n : 2 ≡ 3 = ap (λ (p : Position). p.index) (sym z ∙ w) in absurd (omega (arith, n))
      | inr j ↦ j
    ]

error_twice : (v : Value) → Asked fail_asked v (failed_first ∷ failed_first ∷ []) → ⊥
unfolding Asked run-of pairs pair_at count told count_listed
error_twice v a = let l = a.0.counted (λ x. true) in absurd (omega (arith, l))

-- { fail a: fail }: the first error alone; both unsorted
abbrev two_fail : Selections
two_fail = leaf_field (codes "fail") 2 (as_field (codes "a") (codes "fail") 7 end)

first_error_alone : (v : Value) → Asked two_fail v (failed_first ∷ []) → ⊥
unfolding Asked run-of reply_standing standing nulls_of nulls key_standing null_or pairs pair_at told
first_error_alone v a = let b = a.0.explained (key (codes "a") ∷ []) (inr (inl refl)) in
    elim b.3 [
      | inl f ↦ (elim b.1 [
        | inl e ↦ let z : b.0.rises_to ≡ at_fail = ap (λ q. q.rises_to) e in let w : b.0.rises_to ≡ key (codes "a") ∷ [] = b.2 in cc
        | inr (inl e) ↦ let z : b.0.path ≡ key (codes "a") ∷ [] = ap (λ q. q.path) e in
            let w : b.0.path ≡ at_fail = ap (λ (x : Listed). x.path) f in cc
        | inr (inr j) ↦ j
      ])
      | inr j ↦ j
    ]

errors_unsorted : (v : Value) → Asked two_fail v (error_at (key (codes "a") ∷ []) 7 (codes "failed") ∷ failed_first ∷ []) → ⊥
unfolding Asked run-of compare_positions compare_steps compare not_greater is_sorted is_least
errors_unsorted v a = let e = a.0.sorted in cc

-- { hero { secret } fail }: a sibling's failure alone does not explain the null of hero
abbrev sibling : Selections
sibling = set_field (codes "hero") 2 (leaf_field (codes "secret") 9 end) (leaf_field (codes "fail") 18 end)

abbrev fail_alone : Listed
fail_alone = error_at at_fail 18 (codes "failed")

sibling_alone : (v : Value) → Asked sibling v (fail_alone ∷ []) → ⊥
unfolding Asked run-of reply_standing standing nulls_of nulls key_standing null_or pairs pair_at told
sibling_alone v a = let b = a.0.explained (key (codes "hero") ∷ []) (inl refl) in
    elim b.1 [
      | inl e ↦ (elim b.3 [
        | inl f ↦ let z : b.0.path ≡ key (codes "hero") ∷ key (codes "secret") ∷ [] = ap (λ q. q.path) e in
            let w : b.0.path ≡ at_fail = ap (λ (x : Listed). x.path) f in cc
        | inr j ↦ j
      ])
      | inr (inl e) ↦ let z : b.0.rises_to ≡ at_fail = ap (λ q. q.rises_to) e in let w : b.0.rises_to ≡ key (codes "hero") ∷ [] = b.2 in cc
      | inr (inr j) ↦ j
    ]

-- ## Wrong contexts

-- another one after a query
context_changed : (v : Value) (es : List Listed) → IsQueryAnswer serving whole none_given (asked id_asked) start v es (sum_of 1 0) → ⊥
context_changed v es a = let z = differ 1 0 0 0 a.1 in absurd (omega (arith, z))

-- mutation { a: add(n: 1) {total} a: add(n: 1) {total} }: the group is stepped twice
stepped_twice : (v : Value) (es : List Listed) →
    IsMutationAnswerFor M (codes "Mutation") whole (asked (adding (codes "a") 1 11 (adding (codes "a") 1 40 end))) start v es (sum_of 2 2) → ⊥
unfolding run-of
stepped_twice v es a = let z = differ 2 2 1 1 a.context in absurd (omega (arith, z))
