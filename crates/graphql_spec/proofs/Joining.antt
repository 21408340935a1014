-- Joining an object with one further key (6.4.3).
use Rattle.std.proofs.Common.{◌≡◌, Bool, true, false, cond, bytes_eq, refl, sym, ap, ◌∙◌, inl, inr, subst}
use Rattle.std.proofs.lemmas.Bool.{cases_Bool, or_parts}
use Rattle.graphql_spec.specs.Shown.{Name}
use Rattle.graphql_spec.specs.Values.{Value, object, Entries, no_entries, entry, look_up, has_entry, append, others, joined, join, join_entries, put}
use Rattle.graphql_spec.specs.Values.{keys_differ}
use Rattle.graphql_spec.proofs.Lists.{same_true, same_sym}
use Rattle.graphql_spec.specs.Walks.{joined_in, KeysStayApart}

-- a key that is not there leaves the entries
stays-out : (k : Name) (u : Value) (es : Entries) → has_entry k es ≡ false → join_entries es (entry k u no_entries) ≡ es
unfolding join_entries look_up has_entry joined
stays-out k u no_entries e = refl
stays-out k u (entry j w rest) e =
    let parts = or_parts (bytes_eq k j) (has_entry k rest) e in
    let other : bytes_eq j k ≡ false = same_sym j k ∙ parts.0 in
    rw other (ap (entry j w) (stays-out k u rest parts.1))

others-out : (k : Name) (u : Value) (es : Entries) → has_entry k es ≡ false → others es (entry k u no_entries) ≡ entry k u no_entries
unfolding others
others-out k u es e = rw e refl

others-in : (k : Name) (u : Value) (es : Entries) → has_entry k es ≡ true → others es (entry k u no_entries) ≡ no_entries
unfolding others
others-in k u es e = rw e refl

append-last : (k : Name) (u : Value) (es : Entries) → has_entry k es ≡ false → append es (entry k u no_entries) ≡ put k u es
unfolding append put has_entry
append-last k u no_entries e = refl
append-last k u (entry j w rest) e =
    let parts = or_parts (bytes_eq k j) (has_entry k rest) e in
    rw (parts.0) (ap (entry j w) (append-last k u rest parts.1))

append-none : (es : Entries) → append es no_entries ≡ es
unfolding append
append-none no_entries = refl
append-none (entry j w rest) = ap (entry j w) (append-none rest)

differ-parts : (b c : Bool) → cond b false c ≡ true → (b ≡ false) × (c ≡ true)
differ-parts true c e = cc
differ-parts false c e = (refl, e)

-- nothing is found where no key is
none-found : (k : Name) (u : Value) (es : Entries) → has_entry k es ≡ false → joined (λ v. join v u) u (look_up k es) ≡ u
unfolding has_entry look_up joined
none-found k u no_entries e = refl
none-found k u (entry j w rest) e = let parts = or_parts (bytes_eq k j) (has_entry k rest) e in rw (parts.0) (none-found k u rest parts.1)

found-behind : (k j : Name) (w : Value) (rest : Entries) → bytes_eq k j ≡ false → look_up k (entry j w rest) ≡ look_up k rest
unfolding look_up
found-behind k j w rest e = rw e refl

-- a key that is there: its value is joined
joins-at : (k : Name) (u : Value) (es : Entries) → keys_differ es ≡ true → has_entry k es ≡ true →
    join_entries es (entry k u no_entries) ≡ put k (joined (λ v. join v u) u (look_up k es)) es
unfolding join_entries look_up has_entry keys_differ put joined
joins-at k u no_entries d h = cc
joins-at k u (entry j w rest) d h =
    let parts = differ-parts (has_entry j rest) (keys_differ rest) d in
    elim (cases_Bool (bytes_eq k j)) [
      | inl e ↦ let one : k ≡ j = same_true k j e in
          let out : has_entry k rest ≡ false = subst (λ i. has_entry i rest ≡ false) (sym one) (parts.0) in
          let back : bytes_eq j k ≡ true = same_sym j k ∙ e in
          rw (e, back) (ap (entry j (join w u)) (stays-out k u rest out))
      | inr e ↦ let back : bytes_eq j k ≡ false = same_sym j k ∙ e in
          let there : has_entry k rest ≡ true = rw e at h in
          rw (e, back) (ap (entry j w) (joins-at k u rest parts.1 there ∙ ap (λ z. put k (joined (λ v. join v u) u z) rest) (sym (found-behind k j w rest e))))
    ]

join-parts : (us vs : Entries) → join (object us) (object vs) ≡ object (append (join_entries us vs) (others us vs))
unfolding join
join-parts us vs = refl

pub join-one : (k : Name) (u : Value) (es : Entries) → keys_differ es ≡ true → join (object es) (object (entry k u no_entries)) ≡ object (joined_in k u es)
unfolding joined_in
join-one k u es d = join-parts es (entry k u no_entries) ∙ ap object (elim (cases_Bool (has_entry k es)) [
  | inl e ↦ rw (others-in k u es e) (append-none (join_entries es (entry k u no_entries)) ∙ joins-at k u es d e)
  | inr e ↦ rw (others-out k u es e, stays-out k u es e, none-found k u es e) (append-last k u es e)
])

has-put : (j k : Name) (v : Value) (es : Entries) → bytes_eq j k ≡ false → has_entry j es ≡ false → has_entry j (put k v es) ≡ false
unfolding has_entry put
has-put j k v no_entries e h = rw e refl
has-put j k v (entry i w rest) e h =
    let parts = or_parts (bytes_eq j i) (has_entry j rest) h in
    elim (cases_Bool (bytes_eq k i)) [
      | inl g ↦ rw (g, parts.0, parts.1) refl
      | inr g ↦ rw (g, parts.0) (has-put j k v rest e parts.1)
    ]

put-differs : (k : Name) (v : Value) (es : Entries) → keys_differ es ≡ true → keys_differ (put k v es) ≡ true
unfolding keys_differ put has_entry
put-differs k v no_entries d = refl
put-differs k v (entry i w rest) d =
    let parts = differ-parts (has_entry i rest) (keys_differ rest) d in
    elim (cases_Bool (bytes_eq k i)) [
      | inl g ↦ rw (g, parts.0) parts.1
      | inr g ↦ let back : bytes_eq i k ≡ false = same_sym i k ∙ g in rw (g, has-put i k v rest back parts.0) (put-differs k v rest parts.1)
    ]

pub keys-stay-apart : KeysStayApart
unfolding joined_in
keys-stay-apart k v es d = put-differs k (joined (λ w. join w v) v (look_up k es)) es d
