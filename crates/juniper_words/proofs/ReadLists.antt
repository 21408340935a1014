-- Lists as they are read, item by item and by their shape.
use Rattle.std.proofs.Common.{◌≡◌, ◌≤◌, ◌<◌, ◌+◌, ℕ, true, false, codes, List, [], ◌∷◌, ◌++◌, Some, None, Result, Ok, Err, map, length, drop, get_or}
use Rattle.std.proofs.Common.{ap, sym, subst, refl, ◌∙◌}
use Rattle.std.proofs.lemmas.List.{at_drop_more, drop_all, append-nil, append_assoc}
use Rattle.graphql_spec.specs.Constants.{Constant, null, scalar, enumerated, variable, list, object, is_null, meaning}
use Rattle.graphql_spec.specs.Resolvers.{Error}
use Rattle.graphql_spec.specs.Shown.{Shown}
use Rattle.juniper_conversions.specs.ListConversions.{list_of}
use Rattle.juniper_conversions.specs.ErrorView.{view_error}
use Rattle.juniper_conversions.specs.Messages.{message_alone}
use Rattle.juniper_conversions.specs.declared.field_error.ResolveError.{ResolveError}
use Rattle.juniper_conversions.specs.declared.field_error.ResolveError.TheVariants.{Field, Memory}
use Rattle.juniper_syntax.specs.declared.position.Span.{Span}
use Rattle.juniper_syntax.specs.declared.position.Spanning.{Spanning}
use Rattle.juniper_syntax.specs.InputView.{view_input}
use Rattle.juniper_syntax.specs.declared.input.InputValue.{InputValue}
use Rattle.juniper_words.specs.InputsRead.{ReadsAs, before_read, items_read, read_items, read_list}

-- what an item means
abbrev pub meant : {S : Type 0} → (S → Shown) → Spanning (InputValue S) Span → Constant
meant shown x = meaning (view_input shown x.item)

-- what was read, put before what is read of the rest
abbrev pub after : {A : Type 0} → List A → Result (List A) Error → Result (List A) Error
after xs (Ok ys) = Ok (xs ++ ys)
after xs (Err e) = Err e

pub after-none : {A : Type 0} (r : Result (List A) Error) → after [] r ≡ r
after-none (Ok ys) = refl
after-none (Err e) = refl

after-more : {A : Type 0} (xs : List A) (x : A) (r : Result (List A) Error) → after xs (before_read x r) ≡ after (xs ++ x ∷ []) r
after-more xs x (Ok ys) = ap Ok (sym (append_assoc xs (x ∷ []) ys))
after-more xs x (Err e) = refl

module _ {A B : Type 0} (read : Constant → Result A Error) (f : B → Constant) (items : List B) where
  abbrev pub left : ℕ → Result (List A) Error
  left i = read_items read (map f (drop i items))

  next : (i : ℕ) (b : B) → i < length items → b ≡ get_or items i b → left i ≡ items_read (read (f b)) (left (i + 1))
  next i b below is =
      at_drop_more (λ ys. read_items read (map f ys)) items i b below
      ∙ subst (λ y. read_items read (map f (y ∷ drop (i + 1) items)) ≡ items_read (read (f b)) (left (i + 1))) is refl

  -- an item is read
  pub item_read : (i : ℕ) (b : B) (xs : List A) (x : A) (whole : Result (List A) Error) → i < length items → b ≡ get_or items i b →
      whole ≡ after xs (left i) → read (f b) ≡ Ok x → whole ≡ after (xs ++ x ∷ []) (left (i + 1))
  item_read i b xs x whole below is so_far e =
      so_far ∙ (ap (after xs) (next i b below is ∙ ap (λ r. items_read r (left (i + 1))) e) ∙ after-more xs x (left (i + 1)))

  -- an item is refused
  pub item_refused : (i : ℕ) (b : B) (xs : List A) (e : Error) (whole : Result (List A) Error) → i < length items → b ≡ get_or items i b →
      whole ≡ after xs (left i) → read (f b) ≡ Err e → whole ≡ Err e
  item_refused i b xs e whole below is so_far refused =
      so_far ∙ ap (after xs) (next i b below is ∙ ap (λ r. items_read r (left (i + 1))) refused)

  -- nothing is left
  pub all_read : (i : ℕ) (xs : List A) (whole : Result (List A) Error) → length items ≤ i → whole ≡ after xs (left i) → whole ≡ Ok xs
  all_read i xs whole done so_far = so_far ∙ (ap (λ ys. after xs (read_items read (map f ys))) (drop_all i items done) ∙ ap Ok (append-nil xs))

-- an error of an item is the list's
pub error_stays : {A B C D S : Type 0} (seen : A → B) (other : C → D) (shown : S → Shown) (error : ResolveError S) (r : Result B Error) (whole : Result D Error)
    → ((e : Error) → r ≡ Err e → whole ≡ Err e) → ReadsAs seen shown (Err error) r → ReadsAs other shown (Err error) whole
error_stays seen other shown (Field e) r whole refused reads = refused (view_error shown e) reads
error_stays seen other shown Memory r whole refused reads = tt

module _ {A : Type 0} (read : Constant → Result A Error) where
  pub list-null : (v : Constant) → is_null v ≡ true → read_list read v ≡ Err (message_alone (codes "Failed to convert into `Vec`: Value cannot be `null`"))
  list-null null e = refl
  list-null (scalar s) e = cc
  list-null (enumerated n) e = cc
  list-null (variable x) e = cc
  list-null (list vs) e = cc
  list-null (object ms) e = cc

  pub list-items : (v : Constant) (items : List Constant) → Some items ≡ list_of v → read_list read v ≡ read_items read items
  list-items null items e = cc
  list-items (scalar s) items e = cc
  list-items (enumerated n) items e = cc
  list-items (variable x) items e = cc
  list-items (list vs) items e = cc
  list-items (object ms) items e = cc

  pub list-single : (v : Constant) → is_null v ≡ false → None ≡ list_of v → read_list read v ≡ read_items read (v ∷ [])
  list-single null e f = cc
  list-single (scalar s) e f = refl
  list-single (enumerated n) e f = refl
  list-single (variable x) e f = refl
  list-single (list vs) e f = cc
  list-single (object ms) e f = refl
