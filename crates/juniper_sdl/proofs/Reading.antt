-- Texts that are tokens of a part, before whatever ends a word.
use Rattle.std.proofs.Common.{◌≡◌, ℕ, Bool, true, false, not, ◌&&◌, ◌||◌, List, [], ◌∷◌, ◌++◌, Some, None, map, refl, ap, sym, ◌∙◌, subst}
use Rattle.std.proofs.lemmas.Bool.{and_parts, false≢true}
use Rattle.std.proofs.lemmas.List.{append_assoc, append-nil}
use Rattle.std.specs.List.{flat_map, list_all}
use Rattle.graphql_spec.specs.Positions.{Spot, beginning, past_byte, walk}
use Rattle.graphql_spec.specs.Tokens as token
use Rattle.graphql_spec.specs.Tokens.{Lexeme, Token, IsToken, IsText, continues_name, continues_int, ends_before, is_blank, is_ignored, is_name, is_quote}
use Rattle.graphql_spec.specs.Tokens.{between}
use Rattle.graphql_spec.specs.Tokens.{ignore_byte, is_mark, mark_text}
use Rattle.juniper_sdl.specs.Grammar.{Part, ◌then◌, Nothing, Mark, Word, Each, Spells}

-- ## Texts, word by word

-- what stands behind a word ends it, of whatever kind it is
pub record Stops (rest : List ℕ) : Type 0 where
  pub name : ends_before continues_name rest ≡ true
  pub int : ends_before continues_int rest ≡ true
  pub string : ends_before is_quote rest ≡ true

-- the same of what stands in between
pub record Follows (bytes : List ℕ) : Type 0 where
  pub by : (rest : List ℕ) → Stops rest → Stops (bytes ++ rest)

abbrev pub lexemes : List Token → List Lexeme
lexemes ts = map (λ t. t.lexeme) ts

-- before a rest of a text, a text is tokens of this part
abbrev pub ReadsAt : Part → List ℕ → Spot → List ℕ → List Token → Type 0
ReadsAt P bytes at rest more = IsText (walk at bytes) more rest → (ts : List Token) × IsText at ts (bytes ++ rest) × P (lexemes ts) (lexemes more)

-- before each rest that ends a word
pub record Reads (P : Part) (bytes : List ℕ) : Type 0 where
  pub by : (at : Spot) (rest : List ℕ) (more : List Token) → Stops rest → ReadsAt P bytes at rest more

-- before each rest
pub record ReadsBefore (P : Part) (bytes : List ℕ) : Type 0 where
  pub by : (at : Spot) (rest : List ℕ) (more : List Token) → ReadsAt P bytes at rest more

walk_both : (front back : List ℕ) (at : Spot) → walk at (front ++ back) ≡ walk (walk at front) back
unfolding walk
walk_both [] back at = refl
walk_both (b ∷ front) back at = walk_both front back (past_byte at b)

behind_both : (front back : List ℕ) (at : Spot) (more : List Token) (rest : List ℕ) →
    IsText (walk at (front ++ back)) more rest → IsText (walk (walk at front) back) more rest
behind_both front back at more rest is = subst (λ s. IsText s more rest) (walk_both front back at) is

both_before : (front back rest : List ℕ) (at : Spot) (ts : List Token) → IsText at ts (front ++ (back ++ rest)) → IsText at ts ((front ++ back) ++ rest)
both_before front back rest at ts is = subst (λ bytes. IsText at ts bytes) (sym (append_assoc front back rest)) is

-- the token that a word at a place is
abbrev token_at : Spot → Lexeme → List ℕ → Token
token_at at l word = record { lexeme = l; span = record { start = at.position; end = (walk at word).position } }

word_before : (at : Spot) (l : Lexeme) (word rest : List ℕ) (more : List Token) → IsToken l word rest → IsText (walk at word) more rest →
    IsText at (token_at at l word ∷ more) (word ++ rest)
unfolding walk is_ignored
word_before at l word rest more is next = ([], word, rest, refl, refl, is, refl, refl, next)

blank_step : (b : ℕ) → is_blank b ≡ true → ignore_byte between b ≡ Some between
unfolding ignore_byte
blank_step b blank = rw blank refl

blank_ignored : (b : ℕ) (bytes rest : List ℕ) → is_blank b ≡ true → is_ignored between bytes rest ≡ true → is_ignored between (b ∷ bytes) rest ≡ true
unfolding is_ignored
blank_ignored b bytes rest blank ignored = ap (λ z. elim z as (λ x. Bool) [ None ↦ false | Some n ↦ is_ignored n bytes rest ]) (blank_step b blank) ∙ ignored

blank_before : (at : Spot) (ts : List Token) (b : ℕ) (bytes : List ℕ) → is_blank b ≡ true → IsText (past_byte at b) ts bytes → IsText at ts (b ∷ bytes)
unfolding walk
blank_before at [] b bytes blank is = blank_ignored b bytes [] blank is
blank_before at (t ∷ ts) b bytes blank (gap, word, rest, same, ignored, is, start, end, next) =
    (b ∷ gap, word, rest, ap (λ z. b ∷ z) same, blank_ignored b gap (word ++ rest) blank ignored, is, start, end, next)

blanks_before : (at : Spot) (ts : List Token) (bs bytes : List ℕ) → list_all is_blank bs ≡ true → IsText (walk at bs) ts bytes → IsText at ts (bs ++ bytes)
unfolding walk
blanks_before at ts [] bytes blank is = is
blanks_before at ts (b ∷ bs) bytes blank is =
    let parts = and_parts (is_blank b) (list_all is_blank bs) blank in
    blank_before at ts b (bs ++ bytes) parts.0 (blanks_before (past_byte at b) ts bs bytes parts.1 is)

-- ## What follows

-- neither a quote nor of an Int or a Name
unfoldable pub stops : ℕ → Bool
stops b = not (continues_name b) && (not (continues_int b) && not (is_quote b))

pub stops_from : (b : ℕ) (bytes : List ℕ) → stops b ≡ true → Stops (b ∷ bytes)
unfolding ends_before stops
stops_from b bytes e =
    let first = and_parts (not (continues_name b)) (not (continues_int b) && not (is_quote b)) e in
    let second = and_parts (not (continues_int b)) (not (is_quote b)) first.1 in
    record { name = first.0; int = second.0; string = second.1 }

pub stops_end : Stops []
unfolding ends_before
stops_end = record { name = refl; int = refl; string = refl }

-- the bytes that stop, which are those of punctuators and of blanks that stand in texts
abbrev pub IsStop : ℕ → Type 0
IsStop b = stops b ≡ true

pub follows : (b : ℕ) → IsStop b → {bytes : List ℕ} → Follows (b ∷ bytes)
follows b e {bytes = bytes} = record { by = λ rest stop. stops_from b (bytes ++ rest) e }

pub follows_nothing : Follows []
follows_nothing = record { by = λ rest stop. stop }

pub follow_both : {front back : List ℕ} → Follows front → Follows back → Follows (front ++ back)
follow_both {front = front} {back = back} first second =
    record { by = λ rest stop. subst Stops (sym (append_assoc front back rest)) (first.by (back ++ rest) (second.by rest stop)) }

pub follow_each : {A : Type 0} (f : A → List ℕ) (xs : List A) → ((x : A) → Follows (f x)) → Follows (flat_map f xs)
follow_each f [] each = follows_nothing
follow_each f (x ∷ xs) each = follow_both (each x) (follow_each f xs each)

-- ## Parts

pub nothing : ReadsBefore Nothing []
unfolding walk
nothing = record { by = λ at rest more next. (more, next, refl) }

pub always : {P : Part} {bytes : List ℕ} → ReadsBefore P bytes → Reads P bytes
always reads = record { by = λ at rest more stop next. reads.by at rest more next }

pub both : {P Q : Part} {front back : List ℕ} → Reads P front → Reads Q back → Follows back → Reads (P then Q) (front ++ back)
both {front = front} {back = back} first second ends = record {
  by = λ at rest more stop next.
      let later = second.by (walk at front) rest more stop (behind_both front back at more rest next) in
      let sooner = first.by at (back ++ rest) later.0 (ends.by rest stop) later.1 in
      (sooner.0, both_before front back rest at sooner.0 sooner.1, (lexemes later.0, sooner.2, later.2));
}

-- what is read before every rest, and then another part
pub before : {P Q : Part} {front back : List ℕ} → ReadsBefore P front → Reads Q back → Reads (P then Q) (front ++ back)
before {front = front} {back = back} first second = record {
  by = λ at rest more stop next.
      let later = second.by (walk at front) rest more stop (behind_both front back at more rest next) in
      let sooner = first.by at (back ++ rest) later.0 later.1 in
      (sooner.0, both_before front back rest at sooner.0 sooner.1, (lexemes later.0, sooner.2, later.2));
}

pub one_token : (l : Lexeme) (word : List ℕ) → ((rest : List ℕ) → Stops rest → IsToken l word rest) → Reads (λ s t. s ≡ l ∷ t) word
one_token l word is =
    record { by = λ at rest more stop next. (token_at at l word ∷ more, word_before at l word rest more (is rest stop) next, refl) }

or_first : (p q : Bool) → p ≡ true → (p || q) ≡ true
or_first true q e = refl
or_first false q e = absurd (false≢true e)

-- a punctuator that is one byte
pub mark : (m : ℕ) → m ∷ [] ≡ mark_text m → is_mark m ≡ true → ReadsBefore (Mark m) (m ∷ [])
mark m text is = record {
  by = λ at rest more next.
      (token_at at (token.mark m) (m ∷ []) ∷ more, word_before at (token.mark m) (m ∷ []) rest more (text, or_first _ _ is) next, refl);
}

pub word : (w : List ℕ) → is_name w ≡ true → Reads (Word w) w
word w named = one_token (token.name w) w (λ rest stop. (refl, named, stop.name))

-- a blank, and then a part
pub blank : (b : ℕ) → is_blank b ≡ true → {P : Part} {bytes : List ℕ} → Reads P bytes → Reads P (b ∷ bytes)
unfolding walk
blank b is {bytes = bytes} reads = record {
  by = λ at rest more stop next.
      let r = reads.by (past_byte at b) rest more stop next in
      (r.0, blank_before at r.0 b (bytes ++ rest) is r.1, r.2);
}

-- a part, and then blanks
pub then_blanks : (b : ℕ) (bs : List ℕ) → list_all is_blank (b ∷ bs) ≡ true → IsStop b → {P : Part} {bytes : List ℕ} → Reads P bytes →
    ReadsBefore P (bytes ++ b ∷ bs)
then_blanks b bs blanks ends {bytes = bytes} reads = record {
  by = λ at rest more next.
      let behind = blanks_before (walk at bytes) more (b ∷ bs) rest blanks (behind_both bytes (b ∷ bs) at more rest next) in
      let r = reads.by at (b ∷ bs ++ rest) more (stops_from b (bs ++ rest) ends) behind in
      (r.0, both_before bytes (b ∷ bs) rest at r.0 r.1, r.2);
}

-- a part that is read as another
pub as_part : {P Q : Part} {bytes : List ℕ} → ((s t : List Lexeme) → P s t → Q s t) → Reads P bytes → Reads Q bytes
as_part turn reads = record {
  by = λ at rest more stop next.
      let r = reads.by at rest more stop next in
      (r.0, r.1, turn (lexemes r.0) (lexemes more) r.2);
}

-- parts of a list, which pass a test
pub each : {A : Type 0} (R : A → Part) (f : A → List ℕ) (test : A → Bool) (xs : List A) → list_all test xs ≡ true → ((x : A) → Follows (f x))
    → ((x : A) → test x ≡ true → Reads (R x) (f x)) → Reads (Each R xs) (flat_map f xs)
each R f test [] all ends reads = always nothing
each R f test (x ∷ xs) all ends reads =
    let parts = and_parts (test x) (list_all test xs) all in
    both (reads x parts.0) (each R f test xs parts.1 ends reads) (follow_each f xs ends)

nothing_left : is_ignored between [] [] ≡ true
unfolding is_ignored
nothing_left = refl

-- the whole text
pub whole : {P : Part} {bytes : List ℕ} → Reads P bytes → Spells P bytes
whole {bytes = bytes} reads =
    let r = reads.by beginning [] [] stops_end nothing_left in
    (r.0, subst (λ text. IsText beginning r.0 text) (append-nil bytes) r.1, r.2)
