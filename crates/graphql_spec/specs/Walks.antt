-- What was walked of a selection set, and how one field after the other makes the whole (6.3, 6.4).
use Rattle.std.specs.Prelude.{ℕ, List, [], ◌∷◌, ◌++◌, ◌≡◌, ◌<◌, ◌&&◌, Bool, true, false, IsTrue}
use Rattle.graphql_spec.specs.Shown.{Name}
use Rattle.graphql_spec.specs.Documents.{response_key}
use Rattle.graphql_spec.specs.Values.{Value, null, object, Entries, no_entries, is_null, look_up, joined, join, put, keys_differ}
use Rattle.graphql_spec.specs.Types.{TypeRef, required}
use Rattle.graphql_spec.specs.Errors.{Place, key, Listed, is_sorted}
use Rattle.graphql_spec.specs.Selections.{Forest, depth, Occurrence, occurrences}
use Rattle.graphql_spec.specs.Resolvers.{World, Reply}
use Rattle.graphql_spec.specs.Execution.{type_of, reply_of, grouped}
use Rattle.graphql_spec.specs.Failures.{failures}
use Rattle.graphql_spec.specs.Nulls.{nulls}
use Rattle.graphql_spec.specs.Laws.{In, Agree}
use Rattle.graphql_spec.specs.Walk.{Met, count_listed, IsAnswerFor}
use Rattle.graphql_spec.specs.Skeletons.{Spot, reply_skeleton, reply_node_spots, reply_error_spots, listed_spots, fill}
use Rattle.graphql_spec.specs.CompletionLaws.{all_listed}

-- the entries after a further value at a key: the first one goes last, another is joined with what is there (6.4.3)
unfoldable pub joined_in : Name → Value → Entries → Entries
joined_in k u es = put k (joined (λ v. join v u) u (look_up k es)) es

module _ (tell : Place → Place) {N : Type 0} (W : World N) where
  -- the fields os of the node m were walked: the object's value, and what was listed of what fails in it
  pub record IsWalked (d : ℕ) (here above : Place) (T : Name) (m : N) (os : List Occurrence) (v : Value) (es : List Listed) : Type 0 where
    pub value : v ≡ grouped W d T m os
    pub errors : Met tell (is_null v) es (failures W d here above T m os) above (nulls W d here T m os)

  -- so were the selections s of a node at its place, wherever its null lands
  abbrev pub IsWalkedAt : Forest → Spot N → Value → List Listed → Type 0
  IsWalkedAt s x v es =
      (lands : Place) → IsWalked (depth s) x.place lands (W.concrete x.what) x.what (occurrences W.possible (W.concrete x.what) s) v es

  -- and those of each node
  abbrev pub AreWalkedAt : Forest → List (Spot N) → List Value → List (List Listed) → Type 0
  AreWalkedAt s [] [] [] = Unit {0}
  AreWalkedAt s (x ∷ xs) (v ∷ vs) (es ∷ ess) = IsWalkedAt s x v es × AreWalkedAt s xs vs ess
  AreWalkedAt s xs vs ess = ⊥

  -- no field
  abbrev pub NoneWalked : Type 0
  NoneWalked = (d : ℕ) (here above : Place) (T : Name) (m : N) → IsWalked d here above T m [] (object no_entries) []

  -- One more field, o: the nodes of its reply were walked, each at its place, their objects filled its holes, and what fails was
  -- listed of it and then of them. Where its null doesn't rise, it is joined with what its key holds; else the walk may end,
  -- whatever fields follow.
  abbrev pub OneMoreWalked : Type 0
  OneMoreWalked =
      (d : ℕ) (here above : Place) (T : Name) (m : N) (front rest : List Occurrence) (o : Occurrence) → depth o.below < d → Agree W d T (front ++ o ∷ rest) →
      (es : Entries) → IsTrue (keys_differ es) → (errors : List Listed) → IsWalked d here above T m front (object es) errors →
      (let at : Place = here ++ key (response_key o.head) ∷ [] in let t : TypeRef = type_of W T (o ∷ []) in let r : Reply N = reply_of W T m (o ∷ []) in
      (vs : List Value) (ess : List (List Listed)) → AreWalkedAt o.below (reply_node_spots W at t r) vs ess → (v : Value) →
      v ≡ (fill (reply_skeleton W t r) vs).value →
      (more : List Listed) → more ≡ errors ++ (listed_spots tell o.head.span.start (reply_error_spots W at t r) ++ all_listed ess) →
      ((is_null v && required t) ≡ false → IsWalked d here above T m (front ++ o ∷ []) (object (joined_in (response_key o.head) v es)) more)
      × ((is_null v && required t) ≡ true → IsWalked d here above T m (front ++ o ∷ rest) null more))

  -- what was walked of a whole request is an answer to it, with its errors in an order that is sorted
  abbrev pub WalkAnswers : Type 0
  WalkAnswers =
      (T : Name) (m : N) (s : Forest) (v : Value) (es ds : List Listed) → IsWalked (depth s) [] [] T m (occurrences W.possible T s) v es →
      ((p : Listed → Bool) → count_listed p ds ≡ count_listed p es) → IsTrue (is_sorted ds) → IsAnswerFor tell W T m s v ds

-- an object's keys go on to differ
abbrev pub KeysStayApart : Type 0
KeysStayApart = (k : Name) (v : Value) (es : Entries) → IsTrue (keys_differ es) → IsTrue (keys_differ (joined_in k v es))

-- what a field selects is nested less deep than the selections that hold it
abbrev pub FieldsAreShallower : Type 0
FieldsAreShallower = (possible : Name → Name → Bool) (T : Name) (s : Forest) (o : Occurrence) → In o (occurrences possible T s) → depth o.below < depth s

-- where occurrences agree to every depth, so does what each of them selects, for the object type of each node of its reply
abbrev pub AgreesBelow : {N : Type 0} → World N → Type 0
AgreesBelow {N} W = (T : Name) (m : N) (os : List Occurrence) → ((d : ℕ) → Agree W d T os) → (o : Occurrence) → In o os →
    (here : Place) (x : Spot N) → In x (reply_node_spots W here (type_of W T (o ∷ [])) (reply_of W T m (o ∷ []))) → (d : ℕ) →
    Agree W d (W.concrete x.what) (occurrences W.possible (W.concrete x.what) o.below)
