-- Scalars that their types take (6.4.3); only private clauses cite it.
use Rattle.std.specs.Prelude.{◌≡◌, true, [], IfOk, List, Result, Ok, None, map, string_bytes}
use Rattle.graphql_spec.specs.Shown.{Name, Shown}
use Rattle.graphql_spec.specs.Types.{TypeRef, innermost, required}
use Rattle.graphql_spec.specs.Errors.{Place}
use Rattle.graphql_spec.specs.Execution.{reply_of, type_of}
use Rattle.graphql_spec.specs.Resolvers.{World}
use Rattle.graphql_spec.specs.Selections.{Occurrence}
use Rattle.graphql_spec.specs.Skeletons.{filled}
use Rattle.juniper_syntax.specs.TypeView.{contents, view_type}
use Rattle.juniper_conversions.specs.ErrorView.{view_listed}
use Rattle.juniper_conversions.specs.declared.field_error.ResolveError.{ResolveError}
use Rattle.juniper_values.specs.declared.resolved.Resolved.{Resolved, Scalar}
use Rattle.juniper_assemble.specs.SkeletonView.{view_skeleton}
use Rattle.juniper_assemble.specs.SpotView.{view_nodes}
use Rattle.juniper_walk.specs.declared.asking.Asked.{Asked}
use Rattle.juniper_walk.specs.Lists.{IsAskedAbout}
use Rattle.juniper_walk.specs.PlanWalks.{IsGroupOf, IsPrepared}
use Rattle.juniper_walk.specs.declared.leaf.Reply.{Reply}
use Rattle.juniper_walk.specs.declared.leaf.Reply.TheVariants as reply
use Rattle.juniper_walk.specs.declared.preparing.Taken.{Taken}
use Rattle.juniper_walk.specs.declared.preparing.Taken.TheVariants as taken

module _ {N : Type 0} (W : World N) where
  -- a type takes a scalar: it is no list, and its name takes it
  pub record IsTakenAt (t : TypeRef) (x : Shown) : Type 0 where
    pub unlisted : contents t ≡ None
    pub accepted : W.accepts (innermost t) x ≡ true

  module _ {S : Type 0} (shown : S → Shown) where
    -- an answer is this scalar, which the type takes
    pub record IsLeaf (t : TypeRef) (a : Result (Resolved N S) (ResolveError S)) (x : S) : Type 0 where
      pub is : a ≡ Ok (Scalar x)
      pub fits : IsTakenAt t (shown x)

    -- a reply is a scalar that its type takes, or handed back
    abbrev pub IsReply : Asked N S → Reply N S → Type 0
    IsReply a (reply.Leaf x) = IsLeaf (view_type (λ n. string_bytes n) a.declared.now) a.answer x
    IsReply a (reply.Other b) = b ≡ a

    -- what the occurrences os of the response key k answer is a scalar that their type takes, or was taken apart from its nodes
    abbrev pub IsTaken : Place → Name → N → Name → List Occurrence → Taken N S → Type 0
    IsTaken at T m k os (taken.Leaf key_is x) = IsPrepared W at T m k os key_is.now (required (type_of W T os)) (filled (shown x)) [] []
    IsTaken at T m k os (taken.Apart p) = IsPrepared W at T m k os p.key.now p.is_non_null (view_skeleton shown p.skeleton) (view_nodes p.nodes.items)
        (map (view_listed shown) p.errors.items)

    -- whatever node was asked for the occurrences os of the response key k, the answer is what is taken of what was told
    abbrev pub TakesTold : {E : Type 0} → Place → Name → List Occurrence → Asked N S → Result (Taken N S) E → Type 0
    TakesTold at k os told result = (T : Name) → (m : N) → (all : List Occurrence) → IsGroupOf k all os →
        IsAskedAbout shown (type_of W T os) (λ n. reply_of W T n os) m told → IfOk result (λ a. IsTaken at T m k os a)
