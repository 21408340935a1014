-- What a plan stands for: the response keys of an object, each with its occurrences (6.3.2).
use Rattle.std.specs.Prelude.{◌≡◌, ℕ, ◌+◌, ◌≤◌, ◌<◌, suc, Bool, List, [], ◌∷◌, ◌++◌, length, map, drop, set, slice_range, string_bytes}
use Rattle.graphql_spec.specs.Shown.{Shown, Name}
use Rattle.graphql_spec.specs.Documents.{Head}
use Rattle.graphql_spec.specs.Selections.{Forest, end, chain, Occurrence, all_below, keys, occurrences, with_key}
use Rattle.juniper_syntax.specs.DocumentView.{view_selections}
use Rattle.juniper_lookahead.specs.Collected.{expansion, view_all}
use Rattle.juniper_lookahead.specs.declared.collecting.Collector.{Collector}
use Rattle.juniper_lookahead.specs.declared.occurrences.Occurrence.{Occurrence as CodeOccurrence}
use Rattle.juniper_walk.specs.declared.asking.Walk.{Walk}
use Rattle.juniper_walk.specs.declared.plan.Below.{Below}
use Rattle.juniper_lookahead.specs.declared.occurrences.Enclosing.{Enclosing}
use Rattle.juniper_walk.specs.declared.plan.Group.{Group}
use Rattle.juniper_walk.specs.declared.plan.GroupRange.{GroupRange}
use Rattle.juniper_walk.specs.declared.plan.OccNo.{OccNo}
use Rattle.juniper_walk.specs.declared.plan.Plan.{Plan}
use Rattle.juniper_walk.specs.Asking.{IsAskedOf}
use Rattle.juniper_walk.specs.FieldWords.{head_of}

-- each response key with its occurrences, in the order in which the keys come first (6.3.2)
unfoldable pub grouped_by : List Occurrence → List (Name × List Occurrence)
grouped_by os = map (λ k. (k, with_key k os)) (keys os)

-- for each list of occurrences, in order, what its first asks
abbrev pub AllAsked : {Q : Type 0} → (Head → Q → Type 0) → List (List Occurrence) → List Q → Type 0
AllAsked asks [] [] = Unit {0}
AllAsked asks [] (q ∷ qs) = ⊥
AllAsked asks (os ∷ oss) [] = ⊥
AllAsked asks (os ∷ oss) (q ∷ qs) = IsAskedOf asks os q × AllAsked asks oss qs

-- the response key of the first group of a list
unfoldable pub first_key : List Group → Name
first_key [] = []
first_key (g ∷ gs) = g.key.now

-- what was made below the first group of a list
unfoldable pub first_made : List (List Below) → List Below
first_made [] = []
first_made (bs ∷ bss) = bs

-- the fields of each group stand among so many
abbrev pub AreWithin : ℕ → List Group → Type 0
AreWithin n [] = Unit {0}
AreWithin n (g ∷ gs) = (g.first.0 ≤ g.end.0) × (g.end.0 ≤ n) × AreWithin n gs

module _ {S : Type 0} where
  -- the fields of a group
  unfoldable pub fields_of : List (CodeOccurrence S) → Group → List (CodeOccurrence S)
  fields_of os g = slice_range os g.first.0 g.end.0

  -- those of the first group of a list, and its response key
  unfoldable pub first_fields : List (CodeOccurrence S) → List Group → List (CodeOccurrence S)
  first_fields os [] = []
  first_fields os (g ∷ gs) = fields_of os g

module _ {S Q : Type 0} where
  -- the fields of the group of a number
  unfoldable pub fields_at : Plan S Q → ℕ → List (CodeOccurrence S)
  fields_at p i = first_fields p.occurrences.items (drop i p.groups.items)

  -- how many groups there are
  abbrev pub group_count : Plan S Q → ℕ
  group_count p = length p.groups.items

  -- the fields of each group stand in the plan
  abbrev pub IsWithin : Plan S Q → Type 0
  IsWithin p = AreWithin (length p.occurrences.items) p.groups.items

  -- the response key of the group of a number
  unfoldable pub key_at : Plan S Q → ℕ → Name
  key_at p i = first_key (drop i p.groups.items)

  -- what was made below each group
  abbrev pub all_made : Plan S Q → List (List Below)
  all_made p = map (λ v. v.items) p.below.items

  -- what was made below the group of a number
  unfoldable pub made_at : Plan S Q → ℕ → List Below
  made_at p i = first_made (drop i (all_made p))

  -- a plan without groups, by which so many fields may be entered
  pub record IsBare (fields : ℕ) (p : Plan S Q) : Type 0 where
    pub groups : p.groups.items ≡ []
    pub occurrences : p.occurrences.items ≡ []
    pub questions : p.questions.items ≡ []
    pub below : p.below.items ≡ []
    pub left : p.left ≡ fields

  -- what stands is only added to, and no more fields may be entered than before
  pub record IsGrown (p q : Plan S Q) : Type 0 where
    pub more_groups : List Group
    pub more_occurrences : List (CodeOccurrence S)
    pub more_questions : List Q
    pub groups : q.groups.items ≡ p.groups.items ++ more_groups
    pub occurrences : q.occurrences.items ≡ p.occurrences.items ++ more_occurrences
    pub questions : q.questions.items ≡ p.questions.items ++ more_questions
    pub left : q.left ≤ p.left

module _ {S P : Type 0} (shown : S → Shown) (c : Collector S P) where
  -- selections, one slice after the other, with every fragment put in
  unfoldable pub all_expanded : List (Enclosing S) → Forest
  all_expanded [] = end
  all_expanded (e ∷ es) = chain (expansion shown c (view_selections shown e.selections.now)) (all_expanded es)

  -- groups: their response keys with their occurrences
  unfoldable pub view_groups : List (CodeOccurrence S) → List Group → List (Name × List Occurrence)
  view_groups os gs = map (λ g. (g.key.now, view_all shown c (fields_of os g))) gs

module _ {S P Q : Type 0} (shown : S → Shown) (c : Collector S P) (asks : Name → Head → Q → Type 0) where
  -- THE MEANING OF A PLAN: a range of groups stands for these occurrences of an object type where it has each of their response keys, in
  -- the order in which they come first, with its occurrences, and what they ask (6.3.2, 6.4.2)
  pub record StandsFor (T : Name) (p : Plan S Q) (r : GroupRange) (os : List Occurrence) : Type 0 where
    pub ordered : r.first.0 ≤ r.end.0
    pub inside : r.end.0 ≤ length p.groups.items
    pub groups : view_groups shown c p.occurrences.items (slice_range p.groups.items r.first.0 r.end.0) ≡ grouped_by os
    pub asked : AllAsked (asks T) (map (λ k. with_key k os) (keys os)) (slice_range p.questions.items r.first.0 r.end.0)

  module _ (possible : Name → Name → Bool) where
    -- what was made below the group of a number stands for what all of its occurrences select, for that object type (6.4.3)
    pub record IsRight (p : Plan S Q) (i : ℕ) (b : Below) : Type 0 where
      pub bound : i < length p.groups.items
      pub stands : StandsFor (string_bytes b.concrete) p b.groups
          (occurrences possible (string_bytes b.concrete) (all_below (view_all shown c (fields_at p i))))

    abbrev pub AreRight : Plan S Q → ℕ → List Below → Type 0
    AreRight p i [] = Unit {0}
    AreRight p i (b ∷ bs) = IsRight p i b × AreRight p i bs

    -- counted from i
    abbrev pub AllRight : Plan S Q → ℕ → List (List Below) → Type 0
    AllRight p i [] = Unit {0}
    AllRight p i (bs ∷ bss) = AreRight p i bs × AllRight p (suc i) bss

    -- all that was made is right
    pub record IsStanding (p : Plan S Q) : Type 0 where
      pub within : AreWithin (length p.occurrences.items) p.groups.items
      pub counted : length p.below.items ≡ length p.groups.items
      pub asked : length p.questions.items ≡ length p.groups.items
      pub below : AllRight p 0 (all_made p)

    -- the plan was added to, and all that was made is right
    pub record IsStep (p q : Plan S Q) : Type 0 where
      pub standing : IsStanding q
      pub grown : IsGrown p q

    -- the plan was added to, all that was made is right, and these groups stand for these occurrences of an object type
    pub record IsMade (T : Name) (os : List Occurrence) (p q : Plan S Q) (r : GroupRange) : Type 0 where
      pub standing : IsStanding q
      pub grown : IsGrown p q
      pub stands : StandsFor T q r os

    -- and they stand for what selections hold for it, one slice after the other
    abbrev pub IsMadeOf : Name → List (Enclosing S) → Plan S Q → Plan S Q → GroupRange → Type 0
    IsMadeOf T es p q r = IsMade T (occurrences possible T (all_expanded shown c es)) p q r

-- what is kept as asked for the group of a number is what these occurrences of an object type ask
pub record IsAskedAt {S Q : Type 0} (asks : Name → Head → Q → Type 0) (T : Name) (p : Plan S Q) (i : ℕ) (os : List Occurrence) : Type 0 where
  pub question : Q
  pub others : List Q
  pub kept : drop i p.questions.items ≡ question ∷ others
  pub asked : IsAskedOf (asks T) os question

-- ## Only private clauses cite what follows

module _ {S Q : Type 0} where
  -- what was made below a group was kept
  pub record IsKept (i : ℕ) (T : Name) (r : GroupRange) (p q : Plan S Q) : Type 0 where
    pub groups : q.groups.items ≡ p.groups.items
    pub occurrences : q.occurrences.items ≡ p.occurrences.items
    pub questions : q.questions.items ≡ p.questions.items
    pub kept : Below
    pub made_for : string_bytes kept.concrete ≡ T
    pub made : kept.groups ≡ r
    pub below : all_made q ≡ set (all_made p) i (made_at p i ++ kept ∷ [])
    pub left : q.left ≡ p.left

  -- the fields behind all others became a group, with what is asked for it
  pub record IsEnded (k : Name) (begins : OccNo) (asked : Q) (p q : Plan S Q) : Type 0 where
    pub added : Group
    pub key : added.key.now ≡ k
    pub first : added.first ≡ begins
    pub end : added.end.0 ≡ length p.occurrences.items
    pub groups : q.groups.items ≡ p.groups.items ++ added ∷ []
    pub occurrences : q.occurrences.items ≡ p.occurrences.items
    pub questions : q.questions.items ≡ p.questions.items ++ asked ∷ []
    pub below : all_made q ≡ all_made p ++ [] ∷ []
    pub left : q.left ≡ p.left

  -- a group was added, behind all others, with what is asked for it
  pub record IsOneAdded (k : Name) (os : List (CodeOccurrence S)) (asked : Q) (p q : Plan S Q) : Type 0 where
    pub added : Group
    pub key : added.key.now ≡ k
    pub first : added.first.0 ≡ length p.occurrences.items
    pub end : added.end.0 ≡ length q.occurrences.items
    pub groups : q.groups.items ≡ p.groups.items ++ added ∷ []
    pub occurrences : q.occurrences.items ≡ p.occurrences.items ++ os
    pub questions : q.questions.items ≡ p.questions.items ++ asked ∷ []
    pub below : all_made q ≡ all_made p ++ [] ∷ []
    pub left : q.left ≡ p.left

  pub record IsNoneAdded (p q : Plan S Q) : Type 0 where
    pub groups : q.groups.items ≡ p.groups.items
    pub occurrences : q.occurrences.items ≡ p.occurrences.items
    pub questions : q.questions.items ≡ p.questions.items
    pub below : all_made q ≡ all_made p
    pub left : q.left ≤ p.left

  -- so many fields were taken off those that may be entered
  pub record IsCharged (n : ℕ) (p q : Plan S Q) : Type 0 where
    pub groups : q.groups.items ≡ p.groups.items
    pub occurrences : q.occurrences.items ≡ p.occurrences.items
    pub questions : q.questions.items ≡ p.questions.items
    pub below : all_made q ≡ all_made p
    pub left : q.left + n ≡ p.left

  -- a group was added, and what its first field asks
  pub record IsFirstAsked (shown : S → Shown) (asks : Head → Q → Type 0) (k : Name) (o : CodeOccurrence S) (os : List (CodeOccurrence S)) (p q : Plan S Q) :
      Type 0 where
    pub question : Q
    pub asked : asks (head_of shown o.field.now) question
    pub one : IsOneAdded k (o ∷ os) question p q

  -- so it was, but where it has no fields
  abbrev pub IsGroupAdded : (S → Shown) → (Head → Q → Type 0) → Name → List (CodeOccurrence S) → Plan S Q → Plan S Q → Type 0
  IsGroupAdded shown asks k [] p q = IsNoneAdded p q × (q.left ≡ p.left)
  IsGroupAdded shown asks k (o ∷ os) p q = IsFirstAsked shown asks k o os p q

-- the groups of these occurrences of an object type were added, behind all others
pub record AreAdded {S P Q : Type 0} (shown : S → Shown) (c : Collector S P) (asks : Name → Head → Q → Type 0) (possible : Name → Name → Bool) (T : Name)
    (os : List Occurrence) (p q : Plan S Q) : Type 0 where
  pub step : IsStep shown c asks possible p q
  pub groups : view_groups shown c q.occurrences.items (drop (length p.groups.items) q.groups.items) ≡ grouped_by os
  pub asked : AllAsked (asks T) (map (λ k. with_key k os) (keys os)) (drop (length p.groups.items) q.questions.items)
  pub left : q.left ≡ p.left

-- the occurrences of the group of a number, with what they select, expanded
abbrev pub group_at : {S R Q : Type 0} → (S → Shown) → Walk S R → Plan S Q → ℕ → List Occurrence
group_at shown walk p i = view_all shown walk.collector (fields_at p i)
