-- Sending objects member by member.
use Rattle.std.proofs.Common.{◌≡◌, ℕ, ◌+◌, List, [], ◌∷◌, true, false, codes, Some, refl, subst, ◌∙◌, arith}
use Rattle.graphql_spec.specs.Shown.{Text}
use Rattle.graphql_spec.specs.Positions.{Position}
use Rattle.graphql_spec.specs.Values.{Value, null, scalar, list, object, is_null}
use Rattle.graphql_spec.specs.Errors.{Listed, Place}
use Rattle.graphql_spec.specs.Resolvers.{Error}
use Rattle.serde.specs.Event.{Log, Logs, map_begins, map_ends, field_key, text}
use Rattle.serde.specs.declared.name.Case.TheVariants.{AsIs}
use Rattle.serde_json.specs.Data.{array, no_members, member}
use Rattle.serde_json.specs.Events.{SendsValue, SendsMembers, members_len}
use Rattle.juniper_json.specs.AnswerText.{value_data, items_data, location_data, step_data, extensions_data, error_data, errors_data, answer_data}

-- ## Extensions

none_is : (v : Value) → is_null v ≡ true → extensions_data v ≡ no_members
unfolding extensions_data is_null
none_is null e = refl
none_is (scalar x) e = cc
none_is (list vs) e = cc
none_is (object es) e = cc

some_is : (v : Value) → is_null v ≡ false → extensions_data v ≡ member (codes "extensions") (value_data v) no_members
unfolding extensions_data is_null
some_is null e = cc
some_is (scalar x) e = refl
some_is (list vs) e = refl
some_is (object es) e = refl

pub none_count : (v : Value) → is_null v ≡ true → 3 ≡ 3 + members_len (extensions_data v)
none_count v e = rw (none_is v e) refl

pub some_count : (v : Value) → is_null v ≡ false → 4 ≡ 3 + members_len (extensions_data v)
some_count v e = rw (some_is v e) refl

pub none_sent : (v : Value) (old new : Log) → is_null v ≡ true → Logs old new map_ends → SendsMembers (extensions_data v) old new
none_sent v old new e ended = rw (none_is v e) ended

pub some_sent : (v : Value) (old a b new : Log) → is_null v ≡ false → Logs old a (field_key (codes "extensions") AsIs) → SendsValue (value_data v) a b →
    Logs b new map_ends → SendsMembers (extensions_data v) old new
some_sent v old a b new e named sent ended = rw (some_is v e) (a, b, named, sent, ended)

-- ## Errors

pub error_sent : (e : Listed) (fe : Error) (m : Text) (at : Position) (p : Place) (x : Value) (n : ℕ) (a b c d f g h i new : Log) →
    fe ≡ e.error → m ≡ fe.message → at ≡ e.start → p ≡ e.path → x ≡ fe.extensions → n ≡ 3 + members_len (extensions_data x) →
    Logs a b (map_begins (Some n)) → Logs b c (field_key (codes "message") AsIs) → Logs c d (text m) →
    Logs d f (field_key (codes "locations") AsIs) → SendsValue (array (items_data location_data (at ∷ []))) f g →
    Logs g h (field_key (codes "path") AsIs) → SendsValue (array (items_data step_data p)) h i → SendsMembers (extensions_data x) i new →
    SendsValue (error_data e) a new
unfolding error_data
error_sent e fe m at p x n a b c d f g h i new is_error is_message is_start is_path is_extensions is_count begun named sent named_locations locations named_path
    path ended =
    let extensions : x ≡ e.error.extensions = cc in
    let message : m ≡ e.error.message = cc in
    let count : n ≡ members_len (extensions_data e.error.extensions) + 3 = subst (λ v. n ≡ members_len (extensions_data v) + 3) extensions (omega arith) in (
      b,
      subst (λ k. Logs a b (map_begins (Some k))) (count ∙ omega arith) begun,
      (
        c,
        d,
        named,
        subst (λ t. Logs c d (text t)) message sent,
        (
          f,
          g,
          named_locations,
          subst (λ q. SendsValue (array (items_data location_data (q ∷ []))) f g) is_start locations,
          (
            h,
            i,
            named_path,
            subst (λ q. SendsValue (array (items_data step_data q)) h i) is_path path,
            subst (λ v. SendsMembers (extensions_data v) i new) extensions ended,
          ),
        ),
      ),
    )

-- ## Answers

pub answer_sent : (v : Value) (es : List Listed) (n : ℕ) (a b c d new : Log) → n ≡ 1 + members_len (errors_data es) → Logs a b (map_begins (Some n)) →
    Logs b c (field_key (codes "data") AsIs) → SendsValue (value_data v) c d → SendsMembers (errors_data es) d new → SendsValue (answer_data v es) a new
unfolding answer_data
answer_sent v es n a b c d new is_count begun named sent ended =
    (b, subst (λ k. Logs a b (map_begins (Some k))) (omega arith) begun, (c, d, named, sent, ended))
