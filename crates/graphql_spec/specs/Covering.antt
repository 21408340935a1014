-- What look-ahead shows covers what data holds (this project's own, over 6.3.2).
use Rattle.std.specs.Prelude.{◌≡◌, Bool, List, Option, None, Some}
use Rattle.graphql_spec.specs.Shown.{Name}
use Rattle.graphql_spec.specs.Documents.{response_key, Document, Operation}
use Rattle.graphql_spec.specs.Values.{Value, null, scalar, list, object, Values, no_items, item, Entries, no_entries, entry}
use Rattle.graphql_spec.specs.Schema.{Schema}
use Rattle.graphql_spec.specs.Fields.{is_possible}
use Rattle.graphql_spec.specs.Selections.{Forest, Occurrence, Child, occurrences, keys, with_key, all_below, children}
use Rattle.graphql_spec.specs.Laws.{In}
use Rattle.graphql_spec.specs.Inputs.{Variables}
use Rattle.graphql_spec.specs.Placed.{root_type}
use Rattle.graphql_spec.specs.Errors.{Place, Listed}
use Rattle.graphql_spec.specs.Requests.{runs, selected}
use Rattle.graphql_spec.specs.Outcomes.{Request, Service, responds, Becomes, IsOutcome}
use Rattle.graphql_spec.specs.TypedData.{HasFields}

-- each field that an object type has of selections is one of their children, whatever the type: no condition leaves it out (6.3.2)
abbrev pub OccurrencesAreChildren : Type 0
OccurrencesAreChildren = (possible : Name → Name → Bool) (U : Name) (s : Forest) (on : Option Name) (o : Occurrence) → In o (occurrences possible U s) →
    (c : Child) × In c (children on s) × (c.head ≡ o.head) × (c.below ≡ o.below)

-- the name is the response name of a child of one of a field's occurrences (6.3.2)
abbrev pub IsChildOf : List Occurrence → Name → Type 0
IsChildOf os k = (o : Occurrence) × In o os × ((c : Child) × In c (children None o.below) × (k ≡ response_key c.head))

-- each key of the object that a field gave is one (6.3.2)
abbrev pub KeysAreChildren : Type 0
KeysAreChildren = (possible : Name → Name → Bool) (U : Name) (os : List Occurrence) (k : Name) → In k (keys (occurrences possible U (all_below os))) →
    IsChildOf os k

module _ (possible : Name → Name → Bool) where
  -- each key of each object within the value that a field gave is the response name of a child of one of the occurrences of the
  -- field that gave this object (6.3.2, 6.4.3)
  unfoldable mutual
    pub IsCovered : List Occurrence → Value → Type 0
    IsCovered os null = Unit {0}
    IsCovered os (scalar x) = Unit {0}
    IsCovered os (list vs) = AllCovered os vs
    IsCovered os (object es) = (U : Name) × KeysCovered os (occurrences possible U (all_below os)) es

    -- each item (6.4.3)
    pub AllCovered : List Occurrence → Values → Type 0
    AllCovered os no_items = Unit {0}
    AllCovered os (item v vs) = IsCovered os v × AllCovered os vs

    -- each key, and what it holds; ps are the fields of the object (6.3)
    pub KeysCovered : List Occurrence → List Occurrence → Entries → Type 0
    KeysCovered os ps no_entries = Unit {0}
    KeysCovered os ps (entry k v es) = IsChildOf os k × IsCovered (with_key k ps) v × KeysCovered os ps es

  -- so it is below each key of the data's root (7.1.1)
  unfoldable pub CoveredBelow : List Occurrence → Entries → Type 0
  CoveredBelow os no_entries = Unit {0}
  CoveredBelow os (entry k v es) = IsCovered (with_key k os) v × CoveredBelow os es

-- data that a schema lets stand is covered (6.4.3)
abbrev pub TypedIsCovered : Type 0
TypedIsCovered = (s : Schema) (T : Name) (os : List Occurrence) (ks : List Name) (es : Entries) → HasFields s T os ks es → CoveredBelow (is_possible s) os es

-- and so is the data of each response (7.1.1)
abbrev pub ResponseIsCovered : {C N : Type 0} → Service C N → Type 0
ResponseIsCovered {C} S = (tell : Place → Place) (q : Request) (d : Document) (o : Operation) (vars : Variables) → Becomes S q (runs d o vars) →
    (c after : C) (data' : Entries) (es : List Listed) → IsOutcome S tell q c (responds (object data') es) after → (T : Name) →
    root_type S.schema o.kind ≡ Some T →
    CoveredBelow (is_possible S.schema) (occurrences (is_possible S.schema) T (selected d o vars)) data'
