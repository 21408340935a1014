-- What a schema lets data hold (CompleteValue and its field errors, 6.4.3, 6.4.4).
use Rattle.std.specs.Prelude.{◌≡◌, ◌⊎◌, false, List, [], ◌∷◌, Some, IsTrue}
use Rattle.graphql_spec.specs.Shown.{Name}
use Rattle.graphql_spec.specs.Values.{Value, null, scalar, list, object, Values, no_items, item, Entries, no_entries, entry}
use Rattle.graphql_spec.specs.Types.{TypeRef, named, list_of, required}
use Rattle.graphql_spec.specs.Inputs.{Variables}
use Rattle.graphql_spec.specs.Constants.{Members}
use Rattle.graphql_spec.specs.Documents.{Document, Operation}
use Rattle.graphql_spec.specs.Schema.{Schema}
use Rattle.graphql_spec.specs.Fields.{field_of, declared_type, is_possible, accepts}
use Rattle.graphql_spec.specs.Placed.{root_type}
use Rattle.graphql_spec.specs.Selections.{Forest, Occurrence, occurrences, keys, with_key, all_below}
use Rattle.graphql_spec.specs.Resolvers.{Reply, world_of}
use Rattle.graphql_spec.specs.Execution.{data_of}
use Rattle.graphql_spec.specs.Errors.{Place, Listed}
use Rattle.graphql_spec.specs.Requests.{runs, selected}
use Rattle.graphql_spec.specs.Outcomes.{Request, Service, responds, Becomes, IsOutcome}

module _ (s : Schema) where
  -- the type of the field that the occurrences of one key ask (6.3.2)
  unfoldable pub asked_type : Name → List Occurrence → TypeRef
  asked_type T [] = named false []
  asked_type T (o ∷ os) = declared_type (field_of s T o.head.name.item)

  -- A value may stand at a place of type t, for the selections there (6.4.3): null where the type is nullable, a scalar that the
  -- type accepts, a list of such items, the object of a type that is possible there.
  unfoldable mutual
    pub MayHold : TypeRef → Forest → Value → Type 0
    MayHold t below null = required t ≡ false
    MayHold (named r n) below (scalar x) = IsTrue (accepts s n x)
    MayHold (list_of r size t) below (list vs) = AllMayHold t below vs
    MayHold (named r n) below (object es) = (U : Name) × IsTrue (is_possible s U n) ×
        HasFields U (occurrences (is_possible s) U below) (keys (occurrences (is_possible s) U below)) es
    MayHold t below v = ⊥

    -- each item may (3.11)
    pub AllMayHold : TypeRef → Forest → Values → Type 0
    AllMayHold t below no_items = Unit {0}
    AllMayHold t below (item v vs) = MayHold t below v × AllMayHold t below vs

    -- these keys in order, and at each a value that may stand at its field, of the type T (6.3)
    pub HasFields : Name → List Occurrence → List Name → Entries → Type 0
    HasFields T os [] no_entries = Unit {0}
    HasFields T os (k ∷ ks) (entry j v es) = (j ≡ k) × MayHold (asked_type T (with_key k os)) (all_below (with_key k os)) v × HasFields T os ks es
    HasFields T os ks es = ⊥

  -- data for the selections of the type T: null, or the object of their keys (7.1.1)
  abbrev pub IsDataOf : Name → Forest → Value → Type 0
  IsDataOf T below v = (v ≡ null) ⊎ ((es : Entries) × (v ≡ object es) × HasFields T (occurrences (is_possible s) T below)
      (keys (occurrences (is_possible s) T below)) es)

  -- so is the data of each execution (6.3)
  abbrev pub DataIsTyped : Type 0 → Type 0
  DataIsTyped N = (vars : Variables) (concrete : N → Name) (answer : N → Name → Members → Reply N) (T : Name) (m : N) (below : Forest) →
      IsDataOf T below (data_of (world_of s vars concrete answer) T m below)

-- and so is that of each response, of the operation's root type (7.1.1)
abbrev pub ResponseIsTyped : {C N : Type 0} → Service C N → Type 0
ResponseIsTyped {C} S = (tell : Place → Place) (q : Request) (d : Document) (o : Operation) (vars : Variables) → Becomes S q (runs d o vars) →
    (c after : C) (value : Value) (es : List Listed) → IsOutcome S tell q c (responds value es) after → (T : Name) → root_type S.schema o.kind ≡ Some T →
    IsDataOf S.schema T (selected d o vars) value
