-- The objects of nodes, each at its place, one after the other (6.4.3).
use Rattle.std.proofs.Common.{◌≡◌, List, [], ◌∷◌, ◌++◌, append_assoc, sym, ap, ◌∙◌, subst}
use Rattle.std.proofs.lemmas.List.{append-nil}
use Rattle.graphql_spec.specs.Shown.{Name}
use Rattle.graphql_spec.specs.Values.{Value}
use Rattle.graphql_spec.specs.Errors.{Listed}
use Rattle.graphql_spec.specs.ExactAnswers.{whole}
use Rattle.graphql_spec.specs.GroupLaws.{first_start}
use Rattle.graphql_spec.specs.Selections.{Forest}
use Rattle.graphql_spec.specs.Resolvers.{World}
use Rattle.graphql_spec.specs.Skeletons.{Spot}
use Rattle.graphql_spec.specs.CompletionLaws.{all_listed}
use Rattle.graphql_spec.specs.NodeLaws.{AreWalkedOnce, IsWalkedOnce}
use Rattle.juniper_walk.specs.PlanWalks.{AreObjectsWalked, IsObjectWalked}

pub listed-last : (ess : List (List Listed)) (es : List Listed) → all_listed (ess ++ es ∷ []) ≡ all_listed ess ++ es
unfolding all_listed
listed-last [] es = append-nil es
listed-last (fs ∷ ess) es = ap (λ l. fs ++ l) (listed-last ess es) ∙ sym (append_assoc fs (all_listed ess) es)

module _ {N : Type 0} (W : World N) (s : Forest) where
  abbrev Walked : List (Spot N) → List Value → List (List Listed) → Type 0
  Walked = AreWalkedOnce whole first_start W s

  -- the object of a node of its own type
  pub walked-once : (x : Spot N) (T : Name) (v : Value) (es : List Listed) → T ≡ W.concrete x.what → IsObjectWalked W x.place s T x.what v es →
      IsWalkedOnce whole first_start W s x v es
  walked-once x T v es typed one =
      let a = subst (λ U. IsObjectWalked W x.place s U x.what v es) typed one in record { value = a.value; errors = a.errors }

  walked-last : (ns : List (Spot N)) (vs : List Value) (ess : List (List Listed)) (n : Spot N) (v : Value) (es : List Listed) →
      Walked ns vs ess → IsWalkedOnce whole first_start W s n v es → Walked (ns ++ n ∷ []) (vs ++ v ∷ []) (ess ++ es ∷ [])
  walked-last [] [] [] n v es a b = (b, tt)
  walked-last [] [] (fs ∷ ess) n v es a b = absurd a
  walked-last [] (u ∷ vs) ess n v es a b = absurd a
  walked-last (m ∷ ns) [] ess n v es a b = absurd a
  walked-last (m ∷ ns) (u ∷ vs) [] n v es a b = absurd a
  walked-last (m ∷ ns) (u ∷ vs) (fs ∷ ess) n v es a b = (a.0, walked-last ns vs ess n v es a.1 b)

  pub none-yet : (ns : List (Spot N)) (vs : List Value) (es : List Listed) → ns ≡ [] → vs ≡ [] → es ≡ [] → AreObjectsWalked W s ns vs es
  unfolding all_listed
  none-yet ns vs es a b e = record { parts = []; walked = rw (a, b) tt; listed = e }

  pub one-more : (ns next : List (Spot N)) (vs more : List Value) (es further listed : List Listed) (n : Spot N) (T : Name) (v : Value) →
      AreObjectsWalked W s ns vs es → T ≡ W.concrete n.what → IsObjectWalked W n.place s T n.what v listed →
      next ≡ ns ++ n ∷ [] → more ≡ vs ++ v ∷ [] → further ≡ es ++ listed → AreObjectsWalked W s next more further
  one-more ns next vs more es further listed n T v all typed one a b e = record {
    parts = all.parts ++ listed ∷ [];
    walked = rw (a, b) (walked-last ns vs all.parts n v listed all.walked (walked-once n T v listed typed one));
    listed = e ∙ (ap (λ l. l ++ listed) all.listed ∙ sym (listed-last all.parts listed));
  }
