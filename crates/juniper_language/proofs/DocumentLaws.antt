-- What the public call promises, from what reading gives.
use Rattle.std.proofs.Common.{◌≡◌, ℕ, true, false, List, Some, None, refl, ap, sym, ◌∙◌}
use Rattle.std.proofs.lemmas.Bool.{false≢true}
use Rattle.std.proofs.lemmas.Option.{none-some, same_Some}
use Rattle.graphql_spec.specs.Positions.{Position}
use Rattle.graphql_spec.specs.Tokens.{Token}
use Rattle.graphql_spec.specs.Documents.{Document}
use Rattle.graphql_spec.specs.Grammar.{At, IsDerived, Spells, before_all}
use Rattle.juniper_tokens.specs.Lexing.{Lexed, Ending, is_whole, whole, fault, lexed}
use Rattle.juniper_language.specs.Reading as read
use Rattle.juniper_tokens.proofs.LexLaws.{Complete, lexed_sound, lexed_complete}
use Rattle.juniper_language.proofs.DefinitionLaws.{document_sound, document_read}

-- what is read is derived, and what is derived is read
read_derived : (ts : List Token) (d : Document) (t : At) → read.document (before_all ts) ≡ Some (d, t) → IsDerived ts d
read_derived ts d t given = let h = document_sound (before_all ts) t d given in (h.0, t, h.1, h.2)

derived_read : (ts : List Token) (d : Document) (h : IsDerived ts d) → read.document (before_all ts) ≡ Some (d, h.1)
derived_read ts d (some, t, all, last) = document_read d (before_all ts) t some all last

-- what is read is spelled
read_spelled : (bytes : List ℕ) (p : Position) (d : Document) (t : At) → (lexed bytes).ending ≡ whole p →
    read.document (before_all (lexed bytes).tokens) ≡ Some (d, t) → Spells bytes d
read_spelled bytes p d t ends given = ((lexed bytes).tokens, lexed_sound bytes p ends, read_derived (lexed bytes).tokens d t given)

-- what is spelled is read, as itself
spelled_read : (bytes : List ℕ) (d : Document) → Spells bytes d →
    (t : At) × (p : Position) × ((lexed bytes).ending ≡ whole p) × (read.document (before_all (lexed bytes).tokens) ≡ Some (d, t))
spelled_read bytes d (ts, text, derived) =
    let all : Complete ts (lexed bytes) = lexed_complete bytes ts text in (
      derived.1,
      all.0,
      ap (λ (l : Lexed). l.ending) all.1,
      ap (λ (l : Lexed). read.document (before_all l.tokens)) all.1 ∙ derived_read ts d derived,
    )

whole_at : (e : Ending) → is_whole e ≡ true → (p : Position) × (e ≡ whole p)
whole_at (whole p) e = (p, refl)
whole_at (fault p) e = absurd (false≢true e)

pub spells_alone : (bytes : List ℕ) (l : Lexed) (d : Document) (t : At) → l ≡ lexed bytes → is_whole l.ending ≡ true →
    read.document (before_all l.tokens) ≡ Some (d, t)
    → Spells bytes d × ((e : Document) → Spells bytes e → e ≡ d)
spells_alone bytes l d t is ends given =
    let end = whole_at l.ending ends in
    let same : read.document (before_all (lexed bytes).tokens) ≡ Some (d, t) = ap (λ (x : Lexed). read.document (before_all x.tokens)) (sym is) ∙ given in (
      read_spelled bytes end.0 d t (ap (λ (x : Lexed). x.ending) (sym is) ∙ end.1) same,
      λ e h. let found = spelled_read bytes e h in ap (λ (q : Document × At). q.0) (same_Some (e, found.0) (d, t) (sym found.3 ∙ same)),
    )

pub nothing_read : (bytes : List ℕ) (l : Lexed) → l ≡ lexed bytes → read.document (before_all l.tokens) ≡ None → (d : Document) → Spells bytes d → ⊥
nothing_read bytes l is none d h =
    let found = spelled_read bytes d h in
    none-some (d, found.0) (sym none ∙ ap (λ (x : Lexed). read.document (before_all x.tokens)) is ∙ found.3)

pub fault_spells : (bytes : List ℕ) (l : Lexed) → l ≡ lexed bytes → is_whole l.ending ≡ false → (d : Document) → Spells bytes d → ⊥
fault_spells bytes l is ends d h =
    let found = spelled_read bytes d h in
    false≢true (sym ends ∙ ap (λ (x : Lexed). is_whole x.ending) is ∙ ap is_whole found.2)

-- a text spells at most one document
pub spelled_once : (bytes : List ℕ) (d e : Document) → Spells bytes d → Spells bytes e → d ≡ e
spelled_once bytes d e h k =
    let one = spelled_read bytes d h in
    let other = spelled_read bytes e k in
    ap (λ (q : Document × At). q.0) (same_Some (d, one.0) (e, other.0) (sym one.3 ∙ other.3))
