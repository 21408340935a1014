-- Parts in their order: those that compare as equal are the same, and the code's parts go as they are seen.
use Rattle.std.specs.Prelude.{Bool, true, false, List, [], ◌∷◌, ◌≡◌}
use Rattle.std.specs.Cmp.Lexicographic.{slice_cmp}
use Rattle.std.specs.Ordering.{bool_cmp, ordering_then}
use Rattle.std.proofs.lemmas.Cmp.{int_cmp_total, nat_cmp_total, nat_list_cmp_total, tied_itself}
use Rattle.std.proofs.lemmas.Map.Lookups.{exact_bytes, exact_signed, exact_unsigned}
use Rattle.std.proofs.Common.{Ordering, Equal, Greater, Less, refl, ap, ap₂, ◌∙◌}
use Rattle.graphql_spec.specs.Shown.{Shown, boolean, int, text}
use Rattle.juniper_field_graph.specs.CallParts.{Part, a_key, a_list, a_name, a_null, a_scalar, a_variable, an_enum, an_object, the_end}
use Rattle.juniper_field_graph.specs.CallParts.{compare_held, compare_parts, compare_shown, rank, view_part, view_parts}
use Rattle.juniper_field_graph.specs.declared.calls.Part.{Part as CodePart}
use Rattle.juniper_field_graph.specs.declared.calls.Part.TheVariants as code
use Rattle.juniper_field_graph.specs.contracts.calls.PartOrd.TheImpl as parts

-- ## What compares as equal

both-equal : (a b : Ordering) → ordering_then a b ≡ Equal → (a ≡ Equal) × (b ≡ Equal)
both-equal Less b e = cc
both-equal Equal b e = (refl, e)
both-equal Greater b e = cc

truth-exact : (b c : Bool) → bool_cmp b c ≡ Equal → b ≡ c
truth-exact true true e = refl
truth-exact false false e = refl
truth-exact true false e = cc
truth-exact false true e = cc

shown-exact : (s t : Shown) → compare_shown s t ≡ Equal → s ≡ t
unfolding compare_shown
shown-exact (int i) (int j) e = ap int (exact_signed i j e)
shown-exact (text s) (text t) e = ap text (exact_bytes s t e)
shown-exact (boolean b) (boolean c) e = ap boolean (truth-exact b c e)
shown-exact s t e = cc

part-exact : (p q : Part) → compare_parts p q ≡ Equal → p ≡ q
unfolding compare_parts rank compare_held
part-exact (a_key k) (a_key l) e = ap a_key (exact_unsigned k l e)
part-exact (a_name n) (a_name m) e = ap a_name (exact_bytes n m e)
part-exact a_null a_null e = refl
part-exact (a_scalar s) (a_scalar t) e = ap a_scalar (shown-exact s t e)
part-exact (an_enum n) (an_enum m) e = ap an_enum (exact_bytes n m e)
part-exact (a_variable n) (a_variable m) e = ap a_variable (exact_bytes n m e)
part-exact a_list a_list e = refl
part-exact an_object an_object e = refl
part-exact the_end the_end e = refl
part-exact p q e = cc

pub parts-exact : (ps qs : List Part) → slice_cmp compare_parts ps qs ≡ Equal → ps ≡ qs
parts-exact [] [] e = refl
parts-exact [] (q ∷ qs) e = cc
parts-exact (p ∷ ps) [] e = cc
parts-exact (p ∷ ps) (q ∷ qs) e =
    let both = both-equal (compare_parts p q) (slice_cmp compare_parts ps qs) e in
    ap₂ (λ x xs. x ∷ xs) (part-exact p q both.0) (parts-exact ps qs both.1)

-- ## What is the same compares as equal

truth-itself : (b : Bool) → bool_cmp b b ≡ Equal
truth-itself true = refl
truth-itself false = refl

shown-itself : (s : Shown) → compare_shown s s ≡ Equal
unfolding compare_shown
shown-itself (int i) = tied_itself int_cmp_total i
shown-itself (text s) = tied_itself nat_list_cmp_total s
shown-itself (boolean b) = truth-itself b

part-itself : (p : Part) → compare_parts p p ≡ Equal
unfolding compare_parts rank compare_held
part-itself (a_key k) = tied_itself nat_cmp_total k
part-itself (a_name n) = tied_itself nat_list_cmp_total n
part-itself a_null = refl
part-itself (a_scalar s) = shown-itself s
part-itself (an_enum n) = tied_itself nat_list_cmp_total n
part-itself (a_variable n) = tied_itself nat_list_cmp_total n
part-itself a_list = refl
part-itself an_object = refl
part-itself the_end = refl

pub parts-itself : (ps : List Part) → slice_cmp compare_parts ps ps ≡ Equal
parts-itself [] = refl
parts-itself (p ∷ ps) = ap (λ o. ordering_then o (slice_cmp compare_parts ps ps)) (part-itself p) ∙ parts-itself ps

-- ## The code's parts

part-seen : (x y : CodePart) → (parts.ghosts).cmp x y ≡ compare_parts (view_part x) (view_part y)
unfolding compare_parts rank compare_held compare_shown view_part
part-seen (code.Key k) (code.Key l) = refl
part-seen (code.Name n) (code.Name m) = refl
part-seen code.Null code.Null = refl
part-seen (code.Int i) (code.Int j) = refl
part-seen (code.Text s) (code.Text t) = refl
part-seen (code.Boolean b) (code.Boolean c) = refl
part-seen (code.Enum n) (code.Enum m) = refl
part-seen (code.Variable n) (code.Variable m) = refl
part-seen code.List code.List = refl
part-seen code.Object code.Object = refl
part-seen code.End code.End = refl
part-seen x y = refl

pub parts-seen : (xs ys : List CodePart) → slice_cmp (parts.ghosts).cmp xs ys ≡ slice_cmp compare_parts (view_parts xs) (view_parts ys)
parts-seen [] [] = refl
parts-seen [] (y ∷ ys) = refl
parts-seen (x ∷ xs) [] = refl
parts-seen (x ∷ xs) (y ∷ ys) = ap₂ ordering_then (part-seen x y) (parts-seen xs ys)
