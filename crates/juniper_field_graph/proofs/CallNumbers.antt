-- What a map by the parts of calls has at a call.
use Rattle.std.specs.Prelude.{ℕ, true, false, cond, List, [], ◌≡◌, Option, Some, None, Vec}
use Rattle.std.specs.BTreeMap.{BTreeMap, get_by, is_at}
use Rattle.std.specs.BTreeMap as tree
use Rattle.std.specs.Cmp.Lexicographic.{slice_cmp}
use Rattle.std.specs.Map.{AreApart, IsKeyTest, KeepsOthers, lookup}
use Rattle.std.specs.Ordering.{eq_by_cmp, is_eq}
use Rattle.std.specs.declared.alloc.Global.{Global}
use Rattle.std.proofs.lemmas.Bool.{cases_Bool}
use Rattle.std.proofs.Common.{Ordering, Equal, Greater, Less, Bool, refl, sym, ap, ◌∙◌, inl, inr, subst}
use Rattle.juniper_field_graph.specs.CallParts.{Part, compare_parts, number_of_parts, view_parts}
use Rattle.juniper_field_graph.specs.Keys.{IsNumbered}
use Rattle.juniper_field_graph.specs.contracts.calls.PartOrd.TheImpl as parts
use Rattle.juniper_field_graph.specs.declared.calls.Part.{Part as CodePart}
use Rattle.juniper_field_graph.proofs.CallOrder.{parts-exact, parts-itself, parts-seen}
use Rattle.juniper_field_graph.proofs.Numbered.{new-number}

abbrev Call : Type 0
Call = Vec CodePart Global

-- the order of calls, and where one of these parts stands
abbrev order : Call → Call → Ordering
order x y = slice_cmp (parts.ghosts).cmp x.items y.items

abbrev at : List Part → Call → Ordering
at ps k = slice_cmp compare_parts ps (view_parts k.items)

never : {A : Type 0} → false ≡ true → A
never e = cc

equal : (o : Ordering) → is_eq o ≡ true → o ≡ Equal
equal Less e = never e
equal Equal e = refl
equal Greater e = never e

-- whether parts are the same
same : List Part → List Part → Bool
same ps qs = is_eq (slice_cmp compare_parts ps qs)

same-parts : (ps qs : List Part) → same ps qs ≡ true → ps ≡ qs
unfolding same
same-parts ps qs e = parts-exact ps qs (equal (slice_cmp compare_parts ps qs) e)

same-itself : (ps : List Part) → same ps ps ≡ true
unfolding same
same-itself ps = ap is_eq (parts-itself ps)

tests-keys : (ps : List Part) → IsKeyTest (eq_by_cmp order) (is_at (at ps))
unfolding same
tests-keys ps x y e =
    ap (λ qs. is_eq (slice_cmp compare_parts qs (view_parts y.items))) (same-parts ps (view_parts x.items) e)
    ∙ ap is_eq (sym (parts-seen x.items y.items))

stand-apart : (call : Call) (ps : List Part) → same (view_parts call.items) ps ≡ false → AreApart (is_at (order call)) (is_at (at ps))
unfolding same
stand-apart call ps other k e = elim (cases_Bool (is_eq (at ps k))) [
  | inl q ↦
      (let one : view_parts call.items ≡ view_parts k.items =
      same-parts (view_parts call.items) (view_parts k.items) (ap is_eq (sym (parts-seen call.items k.items)) ∙ e) in
      let two : ps ≡ view_parts k.items = same-parts ps (view_parts k.items) q in
      never (sym other ∙ (ap (λ qs. same qs ps) (one ∙ sym two) ∙ same-itself ps)))
  | inr q ↦ q
]

pub found-call : (m : BTreeMap Call ℕ) (call : Call) (o : Option ℕ) → o ≡ get_by (order call) m → o ≡ number_of_parts m (view_parts call.items)
unfolding number_of_parts
found-call m call o e = e ∙ (λ i. get_by (λ (k : Call). parts-seen call.items k.items i) m)

others-kept : (old new : BTreeMap Call ℕ) (call : Call) (ps : List Part) → same (view_parts call.items) ps ≡ false →
    KeepsOthers (eq_by_cmp order) (is_at (order call)) old.entries new.entries → get_by (at ps) new ≡ get_by (at ps) old
unfolding KeepsOthers
others-kept old new call ps other kept = kept (is_at (at ps)) (tests-keys ps) (stand-apart call ps other)

put-call : (old new : BTreeMap Call ℕ) (call : Call) (n : ℕ) → tree.UpdatesBy order (order call) old new (Some n) →
    (ps : List Part) → number_of_parts new ps ≡ cond (same (view_parts call.items) ps) (Some n) (number_of_parts old ps)
unfolding number_of_parts
put-call old new call n put ps = elim (cases_Bool (same (view_parts call.items) ps)) [
  | inl q ↦
      (let own : get_by (at (view_parts call.items)) new ≡ Some n = sym (found-call new call (get_by (order call) new) refl) ∙ put.1 in
      rw q (subst (λ qs. get_by (at qs) new ≡ Some n) (same-parts (view_parts call.items) ps q) own))
  | inr q ↦ rw q (others-kept old new call ps q put.3)
]

pub call-put : (old new : BTreeMap Call ℕ) (call : Call) (n : ℕ) → number_of_parts old (view_parts call.items) ≡ None →
    tree.UpdatesBy order (order call) old new (Some n) → IsNumbered (view_parts call.items) n n (number_of_parts old) (number_of_parts new)
call-put old new call n none put =
    let call' = view_parts call.items in
    new-number (same call') (number_of_parts old) (number_of_parts new) call' n (λ ps e. same-parts call' ps e) (same-itself call') none
    (put-call old new call n put)

pub no-calls : (m : BTreeMap Call ℕ) → m.entries ≡ [] → (ps : List Part) → number_of_parts m ps ≡ None
unfolding number_of_parts
no-calls m none ps = ap (λ es. lookup (is_at (at ps)) es) none
