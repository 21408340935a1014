-- What a field of nodes is answered at once (6.4.2).
use Rattle.std.proofs.Common.{◌≡◌, true, false, cond, Err, Global, IfOk, List, [], ◌∷◌, Ok, Result, Vec, map, sym, ap, subst}
use Rattle.std.specs.declared.alloc.AllocError.{AllocError}
use Rattle.std.specs.Borrow.{Bor}
use Rattle.std.specs.Str.{bytes_eq}
use Rattle.graphql_spec.specs.Documents.{Head}
use Rattle.graphql_spec.specs.Execution.{reply_to}
use Rattle.graphql_spec.specs.Fields.{typename}
use Rattle.graphql_spec.specs.Resolvers.{Reply, World, answered, leaf}
use Rattle.graphql_spec.specs.Shown.{Name, Shown, text}
use Rattle.juniper_conversions.specs.declared.field_error.ResolveError.{ResolveError}
use Rattle.juniper_conversions.specs.declared.field_error.ResolveError.TheVariants.{Field, Memory}
use Rattle.juniper_values.specs.ResolvedView.{AllAnswer, Answers}
use Rattle.juniper_values.specs.declared.resolved.Resolved.{Resolved}
use Rattle.juniper_execute.specs.Replied.{AreAllReplies, AreReplied, IsOnlyReply}
use Rattle.juniper_execute.specs.declared.node_resolver.Nodes.{Nodes}
use Rattle.juniper_execute.specs.declared.node_resolver.Nodes.TheVariants as nodes
use Rattle.juniper_execute.specs.declared.node_resolver.Replies.{Replies}
use Rattle.juniper_execute.specs.declared.node_resolver.Replies.TheVariants as replies

module _ {N S : Type 0} (shown : S → Shown) (reply other : N → Reply N) (same : (m : N) → reply m ≡ other m) where
  -- the same answers, to replies that are told otherwise
  pub all-alike : (ms : List N) (answers : List (Result (Resolved N S) (ResolveError S))) → AllAnswer shown reply ms answers → AllAnswer shown other ms answers
  all-alike [] [] all = record {}
  all-alike [] (a ∷ answers) all = absurd all
  all-alike (m ∷ ms) [] all = absurd all
  all-alike (m ∷ ms) (a ∷ answers) all = (subst (Answers shown a) (same m) all.0, all-alike ms answers all.1)

  pub replied-alike : (ns : Nodes N) (replied : Result (Replies N S) (ResolveError S)) → AreReplied shown reply ns replied → AreReplied shown other ns replied
  replied-alike (nodes.One n) (Ok (replies.One a)) is = subst (Answers shown (Ok a)) (same n.now) is
  replied-alike (nodes.One n) (Ok (replies.Many as')) is = absurd is
  replied-alike (nodes.One n) (Err e) is = subst (Answers shown (Err e)) (same n.now) is
  replied-alike (nodes.Many ns) (Ok (replies.One a)) is = absurd is
  replied-alike (nodes.Many ns) (Ok (replies.Many as')) is = all-alike (map (λ n. n.now) ns.now.items) as'.items is
  replied-alike (nodes.Many ns) (Err (Field e)) is = absurd is
  replied-alike (nodes.Many ns) (Err Memory) is = is

module _ {N : Type 0} (W : World N) (T : Name) (h : Head) where
  -- `__typename`, and any other field
  pub named-reply : bytes_eq h.name.item typename ≡ true → (m : N) → answered (leaf (text T)) ≡ reply_to W T m h
  unfolding reply_to
  named-reply e m = sym (ap (λ b. cond b (answered (leaf (text T))) (W.answer m h.name.item (W.arguments T h))) e)

  pub resolved-reply : bytes_eq h.name.item typename ≡ false → (m : N) → W.answer m h.name.item (W.arguments T h) ≡ reply_to W T m h
  unfolding reply_to
  resolved-reply e m = sym (ap (λ b. cond b (answered (leaf (text T))) (W.answer m h.name.item (W.arguments T h))) e)

-- ## One node, or many

-- memory may be wanting
pub memory-refused : {N S : Type 0} (shown : S → Shown) (reply : N → Reply N) (ns : Nodes N) → AreReplied shown reply ns (Err Memory)
memory-refused shown reply (nodes.One n) = record {}
memory-refused shown reply (nodes.Many ns) = record {}

-- what is made of the answer to one node
pub only-answers : {N S : Type 0} (shown : S → Shown) (reply : N → Reply N) (n : Bor N) (replied : Result (Replies N S) (ResolveError S))
    (r : Result (Resolved N S) (ResolveError S)) → AreReplied shown reply (nodes.One n) replied → IsOnlyReply shown replied r → Answers shown r (reply n.now)
only-answers shown reply n (Ok (replies.One a)) r is e = subst (λ x. Answers shown x (reply n.now)) (sym e) is
only-answers shown reply n (Ok (replies.Many as')) r is e = absurd is
only-answers shown reply n (Err x) r is e = subst (λ y. Answers shown y (reply n.now)) (sym e) is

-- what is made of the answers to many
pub many-answer : {N S : Type 0} (shown : S → Shown) (reply : N → Reply N) (ns : Bor (Vec (Bor N) Global)) (replied : Result (Replies N S) (ResolveError S))
    (r : Result (Vec (Result (Resolved N S) (ResolveError S)) Global) AllocError) → AreReplied shown reply (nodes.Many ns) replied →
    AreAllReplies shown replied r → IfOk r (λ made. AllAnswer shown reply (map (λ n. n.now) ns.now.items) made.items)
many-answer shown reply ns (Ok (replies.One a)) r is e = absurd is
many-answer shown reply ns (Ok (replies.Many as')) r is e =
    subst (λ x. IfOk x (λ made. AllAnswer shown reply (map (λ n. n.now) ns.now.items) made.items)) (sym e) is
many-answer shown reply ns (Err (Field x)) r is e = absurd is
many-answer shown reply ns (Err Memory) r is e =
    subst (λ x. IfOk x (λ made. AllAnswer shown reply (map (λ n. n.now) ns.now.items) made.items)) (sym e.1) tt
