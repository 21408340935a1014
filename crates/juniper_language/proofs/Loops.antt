-- Steps of the parser's loops.
use Rattle.std.proofs.Common.{◌≡◌, ◌≢◌, ℕ, zero, suc, ◌+◌, ◌-◌, ◌<◌, ◌≤◌, true, false, List, [], ◌∷◌, ◌++◌, map, length, Some, None, refl, ap, sym, ◌∙◌, arith}
use Rattle.std.proofs.Common.{append_assoc, append-nil}
use Rattle.graphql_spec.specs.Tokens.{Token}
use Rattle.graphql_spec.specs.Documents.{Selections, end, Definition}
use Rattle.graphql_spec.specs.Grammar.{At, most_brackets}
use Rattle.juniper_syntax.specs.DocumentView.{chain}
use Rattle.juniper_language.specs.Readers.{Reader, Outcome, and_then, pure, next, sees, while_sees, until, some_until, prepend, ◌>>=◌}
use Rattle.juniper_language.specs.Reading.{put_first, placed, Node, put, selection, selections, selections_of, inside_of, definition, definitions, if_none_left}
use Rattle.juniper_language.proofs.RuleSteps.{selections_is}

pub prepend_nil : {A : Type 0} (o : Outcome (List A)) → prepend [] o ≡ o
prepend_nil None = refl
prepend_nil (Some p) = refl

pub map_push : {A B : Type 0} (f : A → B) (xs : List A) (x : A) → map f (xs ++ x ∷ []) ≡ map f xs ++ f x ∷ []
map_push f [] x = refl
map_push f (y ∷ xs) x = ap (λ ys. f y ∷ ys) (map_push f xs x)

-- what was pushed, as it is seen
pub map_pushed : {A B : Type 0} (f : A → B) (xs ys : List A) (x : A) → ys ≡ xs ++ x ∷ [] → map f ys ≡ map f xs ++ f x ∷ []
map_pushed f xs ys x e = ap (map f) e ∙ map_push f xs x

left_suc : (e i : ℕ) → i < e → e - i ≡ suc (e - (i + 1))
left_suc e i h = omega arith

prepend_cons : {A : Type 0} (front : List A) (x : A) (o : Outcome (List A)) → prepend front (and_then o (λ xs. pure (x ∷ xs))) ≡ prepend (front ++ x ∷ []) o
prepend_cons front x None = refl
prepend_cons front x (Some p) = ap (λ v. Some (v, p.1)) (sym (append_assoc front (x ∷ []) p.0))

-- one more part, and what a reader reads behind it
abbrev pub behind : {A : Type 0} → Reader (List A) → List A → Outcome A → Outcome (List A)
behind r front (Some q) = prepend (front ++ q.0 ∷ []) (r q.1)
behind r front None = None

behind_from : {A : Type 0} (r : Reader (List A)) (front : List A) (o : Outcome A) →
    prepend front (and_then o (λ x. r >>= (λ xs. pure (x ∷ xs)))) ≡ behind r front o
behind_from r front None = refl
behind_from r front (Some q) = prepend_cons front q.0 (r q.1)

-- ---- parts as long as a mark is seen

pub while_more : {A : Type 0} (m : ℕ) (p : Reader A) (e i : ℕ) (front : List A) (s : At) → i < e → sees m s ≡ true
    → prepend front (while_sees m p (e - i) s) ≡ behind (while_sees m p (e - (i + 1))) front (p s)
unfolding while_sees
while_more m p e i front s below seen = rw (left_suc e i below, seen) (behind_from (while_sees m p (e - (i + 1))) front (p s))

pub while_done : {A : Type 0} (m : ℕ) (p : Reader A) (e i : ℕ) (front : List A) (s : At) → i < e → sees m s ≡ false
    → prepend front (while_sees m p (e - i) s) ≡ Some (front, s)
unfolding while_sees
while_done m p e i front s below other = rw (left_suc e i below, other) (ap (λ v. Some (v, s)) (append-nil front))

pub while_out : {A : Type 0} (m : ℕ) (p : Reader A) (e i : ℕ) (front : List A) (s : At) → e ≤ i → prepend front (while_sees m p (e - i) s) ≡ Some (front, s)
unfolding while_sees
while_out m p e i front s past = let z : e - i ≡ 0 = omega arith in rw z (ap (λ v. Some (v, s)) (append-nil front))

pub while_none : {A : Type 0} (m : ℕ) (p : Reader A) (k : ℕ) (s : At) → sees m s ≡ false → while_sees m p k s ≡ Some ([], s)
unfolding while_sees
while_none m p zero s other = refl
while_none m p (suc k) s other = rw other refl

-- one more part that begins with the mark
pub part_after : {A : Type 0} (m : ℕ) (p : Reader A) (e i : ℕ) (front more : List A) (x : A) (s t : At) (o : Outcome (List A)) → i < e → true ≡ sees m s →
    p s ≡ Some (x, t)
    → more ≡ front ++ x ∷ [] → prepend front (while_sees m p (e - i) s) ≡ o → prepend more (while_sees m p (e - (i + 1)) t) ≡ o
part_after m p e i front more x s t o below seen one is kept =
    ap (λ xs. prepend xs (while_sees m p (e - (i + 1)) t)) is ∙ sym
    (while_more m p e i front s below (sym seen) ∙ ap (behind (while_sees m p (e - (i + 1))) front) one) ∙ kept

-- ---- parts up to a closing mark

abbrev pub at_close : {A : Type 0} → List A → Outcome Token → Outcome (List A)
at_close front (Some q) = Some (front, q.1)
at_close front None = None

close_from : {A : Type 0} (front : List A) (o : Outcome Token) → prepend front (and_then o (λ t. pure [])) ≡ at_close front o
close_from front None = refl
close_from front (Some q) = ap (λ v. Some (v, q.1)) (append-nil front)

pub parts_more : {A : Type 0} (m : ℕ) (p : Reader A) (e i : ℕ) (front : List A) (s : At) → i < e → sees m s ≡ false
    → prepend front (until m p (e - i) s) ≡ behind (until m p (e - (i + 1))) front (p s)
unfolding until
parts_more m p e i front s below other = rw (left_suc e i below, other) (behind_from (until m p (e - (i + 1))) front (p s))

pub parts_end : {A : Type 0} (m : ℕ) (p : Reader A) (e i : ℕ) (front : List A) (s : At) → i < e → sees m s ≡ true →
    prepend front (until m p (e - i) s) ≡ at_close front (next s)
unfolding until
parts_end m p e i front s below close = rw (left_suc e i below, close) (close_from front (next s))

pub parts_none : {A : Type 0} (m : ℕ) (p : Reader A) (e i : ℕ) (front : List A) (s : At) → e ≤ i → prepend front (until m p (e - i) s) ≡ None
unfolding until
parts_none m p e i front s past = let z : e - i ≡ 0 = omega arith in rw z refl

-- one more part, behind those that are found
pub part_on : {A : Type 0} (m : ℕ) (p : Reader A) (e i : ℕ) (front more : List A) (x : A) (s t : At) (o : Outcome (List A)) → i < e → false ≡ sees m s →
    p s ≡ Some (x, t)
    → more ≡ front ++ x ∷ [] → prepend front (until m p (e - i) s) ≡ o → prepend more (until m p (e - (i + 1)) t) ≡ o
part_on m p e i front more x s t o below other one is kept =
    ap (λ xs. prepend xs (until m p (e - (i + 1)) t)) is ∙ sym (parts_more m p e i front s below (sym other) ∙ ap (behind (until m p (e - (i + 1))) front) one)
    ∙ kept

-- ---- definitions up to the last token

pub none_ahead : {A : Type 0} (ts : List Token) (x y : Outcome A) → length ts ≡ 0 → if_none_left ts x y ≡ x
none_ahead [] x y none = refl
none_ahead (c ∷ ts) x y none = absurd (omega (arith, none))

pub some_ahead : {A : Type 0} (ts : List Token) (x y : Outcome A) → length ts ≢ 0 → if_none_left ts x y ≡ y
some_ahead [] x y some = absurd (some refl)
some_ahead (c ∷ ts) x y some = refl

pub definitions_more : (e i : ℕ) (front : List Definition) (s : At) → i < e → length s.ahead ≢ 0
    → prepend front (definitions (e - i) s) ≡ behind (definitions (e - (i + 1))) front (definition most_brackets s)
unfolding definitions
definitions_more e i front s below some =
    rw (
      left_suc e i below,
      some_ahead {A = List Definition} s.ahead (pure [] s)
          ((definition most_brackets >>= (λ x. definitions (e - (i + 1)) >>= (λ xs. pure (x ∷ xs)))) s) some,
    )
    (behind_from (definitions (e - (i + 1))) front (definition most_brackets s))

pub definitions_done : (k : ℕ) (front : List Definition) (s : At) → length s.ahead ≡ 0 → prepend front (definitions k s) ≡ Some (front, s)
unfolding definitions
definitions_done zero front s none =
    ap (prepend front) (none_ahead {A = List Definition} s.ahead (pure [] s) None none) ∙ ap (λ v. Some (v, s)) (append-nil front)
definitions_done (suc k) front s none =
    ap (prepend front) (none_ahead {A = List Definition} s.ahead (pure [] s) _ none) ∙ ap (λ v. Some (v, s)) (append-nil front)

pub definitions_none : (e i : ℕ) (front : List Definition) (s : At) → e ≤ i → length s.ahead ≢ 0 → prepend front (definitions (e - i) s) ≡ None
unfolding definitions
definitions_none e i front s past some =
    let z : e - i ≡ 0 = omega arith in rw z (ap (prepend front) (some_ahead {A = List Definition} s.ahead (pure [] s) None some))

-- one more definition, behind those that are found
pub definition_on : (e i : ℕ) (front more : List Definition) (x : Definition) (s t : At) (o : Outcome (List Definition)) → i < e → length s.ahead ≢ 0 →
    definition most_brackets s ≡ Some (x, t)
    → more ≡ front ++ x ∷ [] → prepend front (definitions (e - i) s) ≡ o → prepend more (definitions (e - (i + 1)) t) ≡ o
definition_on e i front more x s t o below some one is kept =
    ap (λ xs. prepend xs (definitions (e - (i + 1)) t)) is ∙ sym (definitions_more e i front s below some ∙ ap (behind (definitions (e - (i + 1))) front) one)
    ∙ kept

-- ---- selections up to the closing brace

abbrev pub Putting : Type 0
Putting = Selections → Selections

abbrev pub behind_node : ℕ → Reader Node → ℕ → Putting → Outcome Putting → Outcome Selections
behind_node m p k front (Some q) = put_first (λ r. front (q.0 r)) (until m p k q.1)
behind_node m p k front None = None

abbrev pub at_mark : Putting → Outcome Token → Outcome Selections
at_mark front (Some q) = Some (front end, q.1)
at_mark front None = None

put_cons : (front : Putting) (x : Node) (o : Outcome (List Node)) → put_first front (and_then o (λ xs. pure (x ∷ xs))) ≡ put_first (λ r. front (put x r)) o
put_cons front x None = refl
put_cons front x (Some p) = refl

node_from : (m : ℕ) (p : Reader Node) (k : ℕ) (front : Putting) (o : Outcome Node)
    → put_first front (and_then o (λ x. until m p k >>= (λ xs. pure (x ∷ xs)))) ≡ behind_node m p k front (and_then o (λ x. pure (put x)))
node_from m p k front None = refl
node_from m p k front (Some q) = put_cons front q.0 (until m p k q.1)

mark_from : (front : Putting) (o : Outcome Token) → put_first front (and_then o (λ t. pure [])) ≡ at_mark front o
mark_from front None = refl
mark_from front (Some q) = refl

pub until_more : (m : ℕ) (p : Reader Node) (e i : ℕ) (front : Putting) (s : At) → i < e → sees m s ≡ false
    → put_first front (until m p (e - i) s) ≡ behind_node m p (e - (i + 1)) front (placed p s)
unfolding until
until_more m p e i front s below other = rw (left_suc e i below, other) (node_from m p (e - (i + 1)) front (p s))

pub until_end : (m : ℕ) (p : Reader Node) (e i : ℕ) (front : Putting) (s : At) → i < e → sees m s ≡ true →
    put_first front (until m p (e - i) s) ≡ at_mark front (next s)
unfolding until
until_end m p e i front s below close = rw (left_suc e i below, close) (mark_from front (next s))

pub until_none : (m : ℕ) (p : Reader Node) (e i : ℕ) (front : Putting) (s : At) → e ≤ i → put_first front (until m p (e - i) s) ≡ None
unfolding until
until_none m p e i front s past = let z : e - i ≡ 0 = omega arith in rw z refl

pub put_none : (o : Outcome (List Node)) → put_first (chain []) o ≡ and_then o (λ xs. pure (selections_of xs))
put_none None = refl
put_none (Some p) = refl

pub chain_push : (fs : List Putting) (f : Putting) → ◌≡◌ {A = Putting} (chain (fs ++ f ∷ [])) (λ r. chain fs (f r))
chain_push [] f = refl
chain_push (g ∷ fs) f = ap {B = Putting} (λ (h : Putting). λ r. g (h r)) (chain_push fs f)

-- one more selection, put behind those that are found
pub turn_on : (m : ℕ) (p : Reader Node) (e i : ℕ) (fs gs : List Putting) (f : Putting) (s t : At) (o : Outcome Selections) → i < e → false ≡ sees m s →
    placed p s ≡ Some (f, t) → gs ≡ fs ++ f ∷ []
    → put_first (chain fs) (until m p (e - i) s) ≡ o → put_first (chain gs) (until m p (e - (i + 1)) t) ≡ o
turn_on m p e i fs gs f s t o below other one is kept =
    let more : chain gs ≡ (λ r. chain fs (f r)) = ap chain is ∙ chain_push fs f in
    ap (λ (g : Putting). put_first g (until m p (e - (i + 1)) t)) more
    ∙ sym (until_more m p e i (chain fs) s below (sym other) ∙ ap (behind_node m p (e - (i + 1)) (chain fs)) one) ∙ kept

-- ---- one or more parts up to a closing mark: before the loop, and where it ends

pub some_refused : {A : Type 0} (m : ℕ) (p : Reader A) (s : At) → true ≡ sees m s → some_until m p s ≡ None
unfolding some_until
some_refused m p s close = rw (sym close) refl

pub some_begun : {A : Type 0} (m : ℕ) (p : Reader A) (s : At) → false ≡ sees m s → some_until m p s ≡ until m p (length s.ahead) s
unfolding some_until
some_begun m p s other = rw (sym other) refl

pub until_begun : {A B : Type 0} (m : ℕ) (p : Reader A) (view : B → A) (xs : List B) (e : ℕ) (s : At) → xs ≡ [] → e ≡ length s.ahead
    → prepend (map view xs) (until m p (e - 0) s) ≡ until m p (length s.ahead) s
until_begun m p view xs e s none all = let same : e - 0 ≡ length s.ahead = omega (arith, all) in rw (none, same) (prepend_nil (until m p (length s.ahead) s))

-- the closing mark, behind the parts that are found
pub until_closed : {A : Type 0} (m : ℕ) (p : Reader A) (e i : ℕ) (front : List A) (s t : At) (x : Token) (o : Outcome (List A)) → i < e → true ≡ sees m s →
    next s ≡ Some (x, t)
    → prepend front (until m p (e - i) s) ≡ o → o ≡ Some (front, t)
until_closed m p e i front s t x o below close one kept = sym kept ∙ (parts_end m p e i front s below (sym close) ∙ ap (at_close front) one)

-- no part, where one should stand
pub until_refused : {A : Type 0} (m : ℕ) (p : Reader A) (e i : ℕ) (front : List A) (s : At) (o : Outcome (List A)) → i < e → false ≡ sees m s → p s ≡ None
    → prepend front (until m p (e - i) s) ≡ o → o ≡ None
until_refused m p e i front s o below other none kept =
    sym kept ∙ (parts_more m p e i front s below (sym other) ∙ ap (behind (until m p (e - (i + 1))) front) none)

-- no closing mark
pub until_open : {A : Type 0} (m : ℕ) (p : Reader A) (e i : ℕ) (front : List A) (s : At) (o : Outcome (List A)) → e ≤ i →
    prepend front (until m p (e - i) s) ≡ o → o ≡ None
until_open m p e i front s o past kept = sym kept ∙ parts_none m p e i front s past

-- ---- selections up to the closing brace: before the loop, and where it ends

pub selections_refused : (n : ℕ) (s : At) → true ≡ sees 125 s → selections n s ≡ None
selections_refused n s close = selections_is n s ∙ ap (λ o. and_then o (λ xs. pure (selections_of xs))) (some_refused 125 (selection n (inside_of n)) s close)

pub selections_begun : (n : ℕ) (s : At) → false ≡ sees 125 s
    → selections n s ≡ and_then (until 125 (selection n (inside_of n)) (length s.ahead) s) (λ xs. pure (selections_of xs))
selections_begun n s other = selections_is n s ∙ ap (λ o. and_then o (λ xs. pure (selections_of xs))) (some_begun 125 (selection n (inside_of n)) s other)

pub put_begun : {B : Type 0} (m : ℕ) (p : Reader Node) (view : B → Putting) (xs : List B) (e : ℕ) (s : At) → xs ≡ [] → e ≡ length s.ahead
    → put_first (chain (map view xs)) (until m p (e - 0) s) ≡ and_then (until m p (length s.ahead) s) (λ xs. pure (selections_of xs))
put_begun m p view xs e s none all = let same : e - 0 ≡ length s.ahead = omega (arith, all) in rw (none, same) (put_none (until m p (length s.ahead) s))

pub put_closed : (m : ℕ) (p : Reader Node) (e i : ℕ) (front : Putting) (s t : At) (x : Token) (o : Outcome Selections) → i < e → true ≡ sees m s →
    next s ≡ Some (x, t)
    → put_first front (until m p (e - i) s) ≡ o → o ≡ Some (front end, t)
put_closed m p e i front s t x o below close one kept = sym kept ∙ (until_end m p e i front s below (sym close) ∙ ap (at_mark front) one)

pub put_open : (m : ℕ) (p : Reader Node) (e i : ℕ) (front : Putting) (s : At) (o : Outcome Selections) → e ≤ i → put_first front (until m p (e - i) s) ≡ o →
    o ≡ None
put_open m p e i front s o past kept = sym kept ∙ until_none m p e i front s past
