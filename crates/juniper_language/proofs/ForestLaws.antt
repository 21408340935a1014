-- Selections that are spelled so are read.
use Rattle.std.proofs.Common.{◌≡◌, ℕ, zero, suc, ◌<◌, ◌≤◌, ◌==◌, Bool, true, false, List, [], ◌∷◌, length, Option, Some, None, refl, ap, ap₂, sym, ◌∙◌, subst}
use Rattle.std.proofs.Common.{arith}
use Rattle.std.proofs.lemmas.Bool.{true≢false}
use Rattle.graphql_spec.specs.Positions.{Span}
use Rattle.graphql_spec.specs.Tokens.{mark, name}
use Rattle.graphql_spec.specs.Documents.{Word, Arguments, Directive, Head, Spread, Inline, Selections, end, field, spread, inline}
use Rattle.graphql_spec.specs.Grammar.{At, Mark, span_of, Opt, Many, AreDirectives, Set, OptSet, IsField, IsSpread, IsInline, TypeCondition, AreSelections}
use Rattle.graphql_spec.specs.Grammar.{is_end, on_word}
use Rattle.juniper_language.specs.Readers.{sees, some_until}
use Rattle.juniper_language.specs.Reading.{Node, field_node, spread_node, inline_node, selections_of, set_by, first_word, selection, selections, inside_of}
use Rattle.juniper_language.proofs.RuleSteps.{selections_is}
use Rattle.juniper_language.proofs.StepLaws.{fewer, mark_seen, other_seen, expect_read, name_read, until_read, IsPart}
use Rattle.juniper_language.proofs.LabelLaws.{label_read, alias_first, alias_fewer}
use Rattle.juniper_language.proofs.ValueLaws.{differs}
use Rattle.juniper_language.proofs.DirectiveLaws.{given_read, given_first, given_fewer, directives_read, directives_first, directives_fewer}
use Rattle.juniper_language.proofs.SelectionLaws.{IsNode, Braced, word_first}

-- what follows a selection is none of its parts
pub record Ends (t : At) : Type 0 where
  pub no_bracket : sees 40 t ≡ false
  pub no_colon : sees 58 t ≡ false
  pub no_directive : sees 64 t ≡ false
  pub no_brace : sees 123 t ≡ false

-- ## First tokens

set_first : (m : ℕ) (below : Selections) (n : ℕ) (s t : At) → 123 == m ≡ false → Set below (AreSelections below) n s t → sees m s ≡ false
set_first m below zero s t e h = absurd h
set_first m below (suc n) s t e h = other_seen 123 m s h.1 e h.3

pub set_opens : (below : Selections) (n : ℕ) (s t : At) → Set below (AreSelections below) n s t → sees 123 s ≡ true
set_opens below zero s t h = absurd h
set_opens below (suc n) s t h = mark_seen 123 s h.1 h.3

pub mark_no_word : (m : ℕ) (s t : At) → Mark m s t → first_word s.ahead ≡ None
mark_no_word m s t h = rw h.1.token refl

pub set_no_word : (below : Selections) (n : ℕ) (s t : At) → Set below (AreSelections below) n s t → first_word s.ahead ≡ None
set_no_word below zero s t h = absurd h
set_no_word below (suc n) s t h = mark_no_word 123 s h.1 h.3

pub directives_no_word : (n : ℕ) (ds : List Directive) (s t : At) → AreDirectives false n ds s t → first_word t.ahead ≡ None → first_word s.ahead ≡ None
directives_no_word n [] s t h none = ap (λ (u : At). first_word u.ahead) h ∙ none
directives_no_word n (d ∷ ds) s t h none = mark_no_word 64 s h.1.0 h.1.2

node_first : (m n : ℕ) (x : Node) (s t : At) → 46 == m ≡ false → IsNode n x s t → sees m s ≡ false
node_first m n (field_node h below) s t e f = alias_first m h.alias h.name s f.0 f.1 f.4 f.5
node_first m n (spread_node x) s t e f = other_seen 46 m s f.0 e f.2
node_first m n (inline_node x below) s t e f = other_seen 46 m s f.0 e f.3

-- ## A selection takes tokens

abbrev Lessens : Selections → Type 0
Lessens x = (n : ℕ) (s t : At) → AreSelections x n s t → length t.ahead ≤ length s.ahead

set_fewer : (below : Selections) → Lessens below → (n : ℕ) (s t : At) → Set below (AreSelections below) n s t → length t.ahead < length s.ahead
set_fewer below less zero s t h = absurd h
set_fewer below less (suc n) s t (some, a, b, opens, inside, closes) =
    omega (arith, fewer (mark 123) opens.0 s a opens.1, less n a b inside, fewer (mark 125) closes.0 b t closes.1)

set_if_fewer : (c : Bool) (below : Selections) → Lessens below → (n : ℕ) (s t : At) → OptSet c below (AreSelections below) n s t →
    length t.ahead ≤ length s.ahead
set_if_fewer true below less n s t h = omega (arith, set_fewer below less n s t h)
set_if_fewer false below less n s t h = omega (arith, ap (λ (u : At). length u.ahead) h.1)

field_fewer : (h : Head) (below : Selections) → Lessens below → (n : ℕ) (s t : At) → IsField h below (AreSelections below) n s t →
    length t.ahead < length s.ahead
field_fewer h below less n s t (a, b, d, e, aliased, word, argued, directed, set, place) =
    omega (
      arith,
      alias_fewer h.alias s a aliased,
      fewer (name h.name.item) h.name.span a b word,
      given_fewer false n h.arguments b d argued,
      directives_fewer false n h.directives d e directed,
      set_if_fewer h.has_set below less n e t set,
    )

spread_fewer : (x : Spread) (n : ℕ) (s t : At) → IsSpread x n s t → length t.ahead < length s.ahead
spread_fewer x n s t (a, b, dots, word, other, directed, place) =
    omega (arith, fewer (mark 46) dots.0 s a dots.1, fewer (name x.name.item) x.name.span a b word, directives_fewer false n x.directives b t directed)

condition_fewer : (o : Option Word) (s t : At) → Opt TypeCondition o s t → length t.ahead ≤ length s.ahead
condition_fewer None s t h = omega (arith, ap (λ (u : At). length u.ahead) h)
condition_fewer (Some w) s t (a, on, word) = omega (arith, fewer (name on_word) on.0 s a on.1, fewer (name w.item) w.span a t word)

inline_fewer : (x : Inline) (below : Selections) → Lessens below → (n : ℕ) (s t : At) → IsInline x below (AreSelections below) n s t →
    length t.ahead < length s.ahead
inline_fewer x below less n s t (a, b, d, dots, condition, directed, set, place) =
    omega (
      arith,
      fewer (mark 46) dots.0 s a dots.1,
      condition_fewer x.condition a b condition,
      directives_fewer false n x.directives b d directed,
      set_fewer below less n d t set,
    )

selections_fewer : (x : Selections) → Lessens x
selections_fewer end n s t h = omega (arith, ap (λ (u : At). length u.ahead) h)
selections_fewer (field h below rest) n s t (a, f, more) = omega (arith, field_fewer h below (selections_fewer below) n s a f, selections_fewer rest n a t more)
selections_fewer (spread x rest) n s t (a, f, more) = omega (arith, spread_fewer x n s a f, selections_fewer rest n a t more)
selections_fewer (inline x below rest) n s t (a, f, more) =
    omega (arith, inline_fewer x below (selections_fewer below) n s a f, selections_fewer rest n a t more)

-- ## A selection is read

-- a set that is spelled so is read
abbrev ReadsSet : Selections → Type 0
ReadsSet below = (n : ℕ) (s t : At) → Set below (AreSelections below) n s t → set_by (inside_of n) s ≡ Some (below, t)

field_read : (n : ℕ) (alias : Option Word) (x : Word) (as' : Arguments) (ds : List Directive) (c : Bool) (place : Span) (below : Selections) (s t : At) →
    ReadsSet below → Ends t
    → IsField (record { alias = alias; name = x; arguments = as'; directives = ds; has_set = c; span = place }) below (AreSelections below) n s t
    → selection n (inside_of n) s ≡ Some (field_node (record { alias = alias; name = x; arguments = as'; directives = ds; has_set = c; span = place }) below, t)
unfolding selection
field_read n alias x as' ds true place below s t reads ends (a, b, d, e, aliased, word, argued, directed, set, at) =
    let no_bracket = set_first 40 below n e t refl set in
    let colon = given_first 58 false n as' b d refl argued (directives_first 58 false n ds d e refl directed (set_first 58 below n e t refl set)) in
    let given_is = given_read false n as' b d argued (directives_first 40 false n ds d e refl directed no_bracket) in
    rw (
      alias_first 46 alias x s a b aliased word,
      label_read alias x s a b aliased word colon,
      given_is,
      directives_read false n ds d e directed no_bracket (set_first 64 below n e t refl set),
      set_opens below n e t set,
      reads n e t set,
    )
    (ap (λ p. Some (field_node (record { alias = alias; name = x; arguments = as'; directives = ds; has_set = true; span = p }) below, t)) (sym at))
field_read n alias x as' ds false place below s t reads ends (a, b, d, e, aliased, word, argued, directed, none, at) =
    let after : AreDirectives false n ds d t = subst (λ u. AreDirectives false n ds d u) none.1 directed in
    let colon = given_first 58 false n as' b d refl argued (directives_first 58 false n ds d t refl after ends.no_colon) in
    let given_is = given_read false n as' b d argued (directives_first 40 false n ds d t refl after ends.no_bracket) in
    rw (
      alias_first 46 alias x s a b aliased word,
      label_read alias x s a b aliased word colon,
      given_is,
      directives_read false n ds d t after ends.no_bracket ends.no_directive,
      ends.no_brace,
    )
    (ap₂ (λ p y. Some (field_node (record { alias = alias; name = x; arguments = as'; directives = ds; has_set = false; span = p }) y, t)) (sym at)
    (sym none.0))

spread_read : (n : ℕ) (x : Spread) (s t : At) → Ends t → IsSpread x n s t → selection n (inside_of n) s ≡ Some (spread_node x, t)
unfolding selection span_of
spread_read n x s t ends (a, b, dots, word, other, directed, place) =
    rw (
      mark_seen 46 s a dots,
      expect_read 46 s a dots,
      word_first x.name a b word,
      differs x.name.item on_word other,
      name_read x.name a b word,
      directives_read false n x.directives b t directed ends.no_bracket ends.no_directive,
    )
    (ap (λ p. Some (spread_node (record { name = x.name; directives = x.directives; span = p }), t)) (sym place))

inline_read : (n : ℕ) (o : Option Word) (ds : List Directive) (place : Span) (below : Selections) (s t : At) → ReadsSet below →
    IsInline (record { condition = o; directives = ds; span = place }) below (AreSelections below) n s t
    → selection n (inside_of n) s ≡ Some (inline_node (record { condition = o; directives = ds; span = place }) below, t)
unfolding selection span_of
inline_read n None ds place below s t reads (a, b, d, dots, same, directed, set, at) =
    let here : AreDirectives false n ds a d = subst (λ u. AreDirectives false n ds u d) (sym same) directed in
    let no_word = directives_no_word n ds a d here (set_no_word below n d t set) in
    rw (
      mark_seen 46 s a dots,
      expect_read 46 s a dots,
      no_word,
      directives_read false n ds a d here (set_first 40 below n d t refl set)
          (set_first 64 below n d t refl set),
      reads n d t set,
    )
    (ap (λ p. Some (inline_node (record { condition = None; directives = ds; span = p }) below, t)) (sym at))
inline_read n (Some w) ds place below s t reads (a, b, d, dots, (z, on, word), directed, set, at) =
    rw (
      mark_seen 46 s a dots,
      expect_read 46 s a dots,
      word_first (record { item = on_word; span = on.0 }) a z on.1,
      name_read (record { item = on_word; span = on.0 }) a z on.1,
      name_read w z b word,
      directives_read false n ds b d directed (set_first 40 below n d t refl set) (set_first 64 below n d t refl set),
      reads n d t set,
    )
    (ap (λ p. Some (inline_node (record { condition = Some w; directives = ds; span = p }) below, t)) (sym at))

-- ## Selections are read

nodes : Selections → List Node
nodes end = []
nodes (field h below rest) = field_node h below ∷ nodes rest
nodes (spread x rest) = spread_node x ∷ nodes rest
nodes (inline x below rest) = inline_node x below ∷ nodes rest

of_nodes : (x : Selections) → selections_of (nodes x) ≡ x
unfolding nodes
of_nodes end = refl
of_nodes (field h below rest) = ap (field h below) (of_nodes rest)
of_nodes (spread x rest) = ap (spread x) (of_nodes rest)
of_nodes (inline x below rest) = ap (inline x below) (of_nodes rest)

node_ends : (n : ℕ) (x : Node) (s t : At) → IsNode n x s t → Ends s
node_ends n x s t h = record {
  no_bracket = node_first 40 n x s t refl h;
  no_colon = node_first 58 n x s t refl h;
  no_directive = node_first 64 n x s t refl h;
  no_brace = node_first 123 n x s t refl h;
}

-- what follows a selection: another, or what follows them all
next_ends : (n : ℕ) (x : Selections) (s b : At) → AreSelections x n s b → Ends b → Ends s
next_ends n end s b h ends = subst (λ u. Ends u) (sym h) ends
next_ends n (field g below rest) s b h ends = node_ends n (field_node g below) s h.0 h.1
next_ends n (spread x rest) s b h ends = node_ends n (spread_node x) s h.0 h.1
next_ends n (inline x below rest) s b h ends = node_ends n (inline_node x below) s h.0 h.1

brace_ends : (b t : At) → Mark 125 b t → Ends b
brace_ends b t h = record {
  no_bracket = other_seen 125 40 b t refl h;
  no_colon = other_seen 125 58 b t refl h;
  no_directive = other_seen 125 64 b t refl h;
  no_brace = other_seen 125 123 b t refl h;
}

begins : (n : ℕ) (x : Selections) (s b : At) → AreSelections x n s b → is_end x ≡ false → sees 125 s ≡ false
unfolding is_end
begins n end s b h some = absurd (true≢false some)
begins n (field g below rest) s b h some = node_first 125 n (field_node g below) s h.0 refl h.1
begins n (spread x rest) s b h some = node_first 125 n (spread_node x) s h.0 refl h.1
begins n (inline x below rest) s b h some = node_first 125 n (inline_node x below) s h.0 refl h.1

abbrev Parts : Selections → Type 0
Parts x = (n : ℕ) (s b : At) → AreSelections x n s b → Ends b → Many (IsPart 125 false (selection n (inside_of n))) (nodes x) s b

braced_read : (x : Selections) → Parts x → (n : ℕ) (s t : At) → Braced x n s t → selections n s ≡ Some (x, t)
unfolding some_until
braced_read x parts n s t h =
    let all = until_read 125 (selection n (inside_of n)) (nodes x) (length s.ahead) s h.before_brace t
    (parts n s h.before_brace h.inside (brace_ends h.before_brace t h.closes)) h.closes (omega arith) in
    selections_is n s ∙ rw (begins n x s h.before_brace h.inside h.some, all) (ap (λ y. Some (y, t)) (of_nodes x))

set_read : (below : Selections) → Parts below → ReadsSet below
set_read below parts zero s t h = absurd h
set_read below parts (suc n) s t (some, a, b, opens, inside, closes) =
    rw (expect_read 123 s a opens) (braced_read below parts n a t (record { before_brace = b; inside = inside; closes = closes; some = some }))

all_parts : (x : Selections) → Parts x
unfolding nodes
all_parts end n s b h ends = h
all_parts (field h below rest) n s b (a, f, more) ends = (
  a,
  record {
    reads =
        field_read n h.alias h.name h.arguments h.directives h.has_set h.span below s a (set_read below (all_parts below)) (next_ends n rest a b more ends) f;
    less = field_fewer h below (selections_fewer below) n s a f;
    first = node_first 125 n (field_node h below) s a refl f;
  },
  all_parts rest n a b more ends,
)
all_parts (spread x rest) n s b (a, f, more) ends = (
  a,
  record {
    reads = spread_read n x s a (next_ends n rest a b more ends) f;
    less = spread_fewer x n s a f;
    first = node_first 125 n (spread_node x) s a refl f;
  },
  all_parts rest n a b more ends,
)
all_parts (inline x below rest) n s b (a, f, more) ends = (
  a,
  record {
    reads = inline_read n x.condition x.directives x.span below s a (set_read below (all_parts below)) f;
    less = inline_fewer x below (selections_fewer below) n s a f;
    first = node_first 125 n (inline_node x below) s a refl f;
  },
  all_parts rest n a b more ends,
)

-- a selection set that is spelled so is read, and takes tokens
pub set_spelled : (x : Selections) (n : ℕ) (s t : At) → Set x (AreSelections x) n s t → set_by (inside_of n) s ≡ Some (x, t)
set_spelled x n s t h = set_read x (all_parts x) n s t h

pub set_less : (x : Selections) (n : ℕ) (s t : At) → Set x (AreSelections x) n s t → length t.ahead < length s.ahead
set_less x n s t h = set_fewer x (selections_fewer x) n s t h

pub set_begins : (m : ℕ) (x : Selections) (n : ℕ) (s t : At) → 123 == m ≡ false → Set x (AreSelections x) n s t → sees m s ≡ false
set_begins m x n s t e h = set_first m x n s t e h
