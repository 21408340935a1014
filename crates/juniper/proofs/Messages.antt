-- The text of several messages: the first, and then each other one after a line feed.
use Rattle.std.proofs.Common.{◌≡◌, ℕ, ◌<◌, List, [], ◌∷◌, ◌++◌, map, length, get_or, take, drop, ◌-◌, sym, ap, append-nil, take_all, arith}
use Rattle.std.specs.List.{flat_map}
use Rattle.juniper_syntax.specs.RuleView.{view_rule_error}
use Rattle.juniper.specs.RequestErrors.{messages_text}
use Rattle.juniper_syntax.specs.declared.rule.RuleError.{RuleError}

abbrev pub more_text : List RuleError → List ℕ
more_text es = flat_map (λ e. 10 ∷ (view_rule_error e).message) es

messages_of_cons : (x : RuleError) (xs : List RuleError) → messages_text (map view_rule_error (x ∷ xs)) ≡ (view_rule_error x).message ++ more_text xs
messages_of_cons x [] = sym (append-nil _)
messages_of_cons x (y ∷ ys) = ap (λ t. (view_rule_error x).message ++ 10 ∷ t) (messages_of_cons y ys)

rest_of_cons : (y : RuleError) (ys : List RuleError) → take (length (y ∷ ys) - 1) (drop 1 (y ∷ ys)) ≡ ys
rest_of_cons y ys = take_all (length (y ∷ ys) - 1) ys (omega arith)

-- m is the first one's message, in the form that a call gives
pub messages_from_first : (xs : List RuleError) (x : RuleError) (m : List ℕ) → 0 < length xs → x ≡ get_or xs 0 x → m ≡ (view_rule_error x).message
    → m ++ more_text (take (length xs - 1) (drop 1 xs)) ≡ messages_text (map view_rule_error xs)
messages_from_first [] x m h e f = absurd (omega arith)
messages_from_first (y ∷ ys) x m h e f = rw (f, e, rest_of_cons y ys) (sym (messages_of_cons y ys))
