-- What is chosen: for an object type, and whatever the type conditions.
use Rattle.std.proofs.Common.{◌≡◌, Bool, true, false, cond, List, [], ◌∷◌, ◌++◌, map, Option, None, refl, ap, sym, ◌∙◌}
use Rattle.std.proofs.lemmas.List.{map-append}
use Rattle.graphql_spec.specs.Shown.{Name}
use Rattle.graphql_spec.specs.Documents.{Selections}
use Rattle.graphql_spec.specs.Selections.{Condition, nothing_asked, inline_on, spread_on, Forest, end, field, under, applies, occurrences, children, nearest}
use Rattle.juniper_lookahead.specs.Choices.{Choice, chosen, expanded_by, found, is_met}
use Rattle.juniper_lookahead.specs.Collected.{placed}

-- ## For an object type

applies-met : (possible : Name → Name → Bool) (T : Name) (c : Condition) → applies possible T c ≡ is_met (possible T) c
unfolding applies is_met
applies-met possible T nothing_asked = refl
applies-met possible T (inline_on k) = refl
applies-met possible T (spread_on k) = refl

map-cond : {A B : Type 0} (f : A → B) (b : Bool) (xs : List A) → map f (cond b xs []) ≡ cond b (map f xs) []
map-cond f true xs = refl
map-cond f false xs = refl

pub chosen-occurrences : (possible : Name → Name → Bool) (T : Name) (on : Option Name) (f : Forest) →
    map placed (chosen (possible T) on f) ≡ occurrences possible T f
unfolding occurrences chosen
chosen-occurrences possible T on end = refl
chosen-occurrences possible T on (field h x y) = ap (λ l. record { head = h; below = x } ∷ l) (chosen-occurrences possible T on y)
chosen-occurrences possible T on (under c x y) =
    map-append placed (cond (is_met (possible T) c) (chosen (possible T) (nearest c on) x) []) (chosen (possible T) on y)
    ∙ (ap (λ l. l ++ map placed (chosen (possible T) on y)) (map-cond placed (is_met (possible T) c) (chosen (possible T) (nearest c on) x))
    ∙ (ap (λ l. cond (is_met (possible T) c) l [] ++ map placed (chosen (possible T) on y)) (chosen-occurrences possible T (nearest c on) x)
    ∙ (ap (λ l. cond (is_met (possible T) c) (occurrences possible T x) [] ++ l) (chosen-occurrences possible T on y)
    ∙ ap (λ b. cond b (occurrences possible T x) [] ++ occurrences possible T y) (sym (applies-met possible T c)))))

-- the fields are the same, whatever stands around the selections
pub whatever-around : (h : Choice) (on : Option Name) (s : Selections) → map placed (found h None s) ≡ map placed (found h on s)
unfolding found
whatever-around h on s =
    chosen-occurrences (λ _. h.meets) [] None (expanded_by h s) ∙ sym (chosen-occurrences (λ _. h.meets) [] on (expanded_by h s))

-- ## Whatever the type conditions

always-met : (c : Condition) → is_met (λ k. true) c ≡ true
unfolding is_met
always-met nothing_asked = refl
always-met (inline_on k) = refl
always-met (spread_on k) = refl

pub chosen-children : (on : Option Name) (f : Forest) → chosen (λ k. true) on f ≡ children on f
unfolding children chosen
chosen-children on end = refl
chosen-children on (field h x y) = ap (λ l. record { head = h; below = x; applies_for = on } ∷ l) (chosen-children on y)
chosen-children on (under c x y) =
    ap (λ b. cond b (chosen (λ k. true) (nearest c on) x) [] ++ chosen (λ k. true) on y) (always-met c)
    ∙ (ap (λ l. l ++ chosen (λ k. true) on y) (chosen-children (nearest c on) x) ∙ ap (λ l. children (nearest c on) x ++ l) (chosen-children on y))
