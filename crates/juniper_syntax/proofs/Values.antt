-- A value beside what it stands for: level by level, and changes at a key.
use Rattle.std.proofs.Common.{◌≡◌, suc, List, [], ◌∷◌, length, Option, Some, None, is_some, option_map, IfSome, Result, Ok, Err, IfOk, Bor, Bool, true, false}
use Rattle.std.proofs.Common.{◌||◌, cond, Vec, String, Global, string_bytes, bytes_eq, inl, inr, refl, sym, ap, ◌∙◌, rules}
use Rattle.std.proofs.lemmas.Bool.{cases_Bool}
use Rattle.std.specs.Map.{lookup, set_value}
use Rattle.std.specs.Option.{option_copied}
use Rattle.indexmap.specs.IndexMap.{insert_entry}
use Rattle.graphql_spec.specs.Shown.{Shown, Name}
use Rattle.graphql_spec.specs.Values as spec
use Rattle.graphql_spec.specs.Values.{Entries, no_entries, entry, look_up, has_entry, put, count_entries}
use Rattle.juniper_syntax.specs.FieldWords.{is_key, said}
use Rattle.juniper_syntax.specs.ValueView.{view_value, view_object, view_values, view_entries}
use Rattle.juniper_syntax.specs.declared.value.Value.{Value, Null, Scalar, List as ListOf, Object as ObjectOf, the_lemmas}
use Rattle.juniper_syntax.specs.declared.value.Object.{Object, out-Object, roll-Object}

abbrev pub Pair : Type 0 → Type 0
Pair S = String Global × Value S

module _ {S : Type 0} (shown : S → Shown) where
  pub view-Null : view_value shown Null ≡ spec.null
  view-Null = search (rules, the_lemmas)

  pub view-Scalar : (s : S) → view_value shown (Scalar s) ≡ spec.scalar (shown s)
  view-Scalar s = search (rules, the_lemmas)

  pub view-List : (v : Vec (Value S) Global) → view_value shown (ListOf v) ≡ spec.list (view_values shown v.items)
  view-List v = search (rules, the_lemmas)

  pub view-Object : (o : Object S) → view_value shown (ObjectOf o) ≡ spec.object (view_object shown o)
  view-Object o = search (rules, the_lemmas)

  pub view-out : (o : Object S) → view_object shown o ≡ view_entries shown (out-Object S o).fields
  view-out o = search (rules, the_lemmas)

  pub view-roll : (es : List (Pair S)) → view_object shown (roll-Object S (record { fields = es })) ≡ view_entries shown es
  view-roll es = search (rules, the_lemmas)

  pub count-view : (es : List (Pair S)) → count_entries (view_entries shown es) ≡ length es
  unfolding count_entries
  count-view [] = refl
  count-view (e ∷ es) = ap suc (count-view es)

-- the views of a value, level by level
pub ruleset value_views = (view-Null, view-Scalar, view-List, view-Object)

either_found : (b : Bool) (v : spec.Value) (o : Option spec.Value) (there : Bool) → is_some o ≡ there → is_some (cond b (Some v) o) ≡ (b || there)
either_found true v o there e = refl
either_found false v o there e = e

-- a key is there where a value is found at it
pub found_is_there : (k : Name) (es : Entries) → is_some (look_up k es) ≡ has_entry k es
unfolding look_up has_entry
found_is_there k no_entries = refl
found_is_there k (entry j v rest) = either_found (bytes_eq k j) v (look_up k rest) (has_entry k rest) (found_is_there k rest)

still_some : {A B : Type 0} (f : A → B) (o : Option A) → is_some o ≡ is_some (option_map f o)
still_some f None = refl
still_some f (Some x) = refl

pub found_some : {A : Type 0} (f : A → spec.Value) (o : Option A) (k : Name) (es : Entries) → option_map f o ≡ look_up k es → is_some o ≡ has_entry k es
found_some f o k es e = still_some f o ∙ (ap is_some e ∙ found_is_there k es)

-- what is found at a key, and what a change at it shows
module _ {S : Type 0} (shown : S → Shown) (key : Name) where
  looked : (b : Bool) (v : Value S) (o : Option (Value S)) → cond b (Some (view_value shown v)) (option_map (view_value shown) o)
      ≡ option_map (view_value shown) (cond b (Some v) o)
  looked true v o = refl
  looked false v o = refl

  pub look_up-view : (es : List (Pair S)) → look_up key (view_entries shown es) ≡ option_map (view_value shown) (lookup (is_key key) es)
  unfolding look_up
  look_up-view [] = refl
  look_up-view (e ∷ es) =
      ap (cond (bytes_eq key (string_bytes e.0)) (Some (view_value shown e.1))) (look_up-view es)
      ∙ looked (bytes_eq key (string_bytes e.0)) e.1 (lookup (is_key key) es)

  -- a value written where the key is
  pub put-set : (es : List (Pair S)) (v w : Value S) → lookup (is_key key) es ≡ Some v →
      view_entries shown (set_value (is_key key) es w) ≡ put key (view_value shown w) (view_entries shown es)
  unfolding put
  put-set [] v w there = cc
  put-set (e ∷ es) v w there =
      elim (cases_Bool (bytes_eq key (string_bytes e.0))) [
        | inl here ↦ rw here refl
        | inr here ↦ rw here (ap (entry (string_bytes e.0) (view_value shown e.1))
            (put-set es v w (sym (ap (λ b. cond b (Some e.1) (lookup (is_key key) es)) here) ∙ there)))
      ]

  -- nothing is written where it is not
  pub set-none : (es : List (Pair S)) (w : Value S) → lookup (is_key key) es ≡ None → set_value (is_key key) es w ≡ es
  set-none [] w none = refl
  set-none (e ∷ es) w none =
      elim (cases_Bool (bytes_eq key (string_bytes e.0))) [
        | inl here ↦ cc
        | inr here ↦ rw here (ap (λ l. e ∷ l) (set-none es w (sym (ap (λ b. cond b (Some e.1) (lookup (is_key key) es)) here) ∙ none)))
      ]

-- entries, by what their keys say
module _ {S : Type 0} (shown : S → Shown) where
  abbrev seen_said : List (Name × Value S) → Entries
  seen_said [] = no_entries
  seen_said (p ∷ ps) = entry p.0 (view_value shown p.1) (seen_said ps)

  view-said : (es : List (Pair S)) → view_entries shown es ≡ seen_said (said es)
  view-said [] = refl
  view-said (e ∷ es) = ap (entry (string_bytes e.0) (view_value shown e.1)) (view-said es)

  pub same-view : (es fs : List (Pair S)) → said es ≡ said fs → view_entries shown es ≡ view_entries shown fs
  same-view es fs same = view-said es ∙ ap seen_said same ∙ sym (view-said fs)

  put-said : (ps : List (Name × Value S)) (k : Name) (w : Value S) → seen_said (insert_entry bytes_eq ps k w) ≡ put k (view_value shown w) (seen_said ps)
  unfolding put
  put-said [] k w = refl
  put-said (p ∷ ps) k w =
      elim (cases_Bool (bytes_eq k p.0)) [
        | inl here ↦ rw here refl
        | inr here ↦ rw here (ap (entry p.0 (view_value shown p.1)) (put-said ps k w))
      ]

  -- a value put at a key
  pub put-view : (es fs : List (Pair S)) (k : Name) (w : Value S) → said fs ≡ insert_entry bytes_eq (said es) k w →
      view_entries shown fs ≡ put k (view_value shown w) (view_entries shown es)
  put-view es fs k w more = view-said fs ∙ ap seen_said more ∙ put-said (said es) k w ∙ ap (put k (view_value shown w)) (sym (view-said es))

-- what is seen behind the reference, and what follows of an answer's value
pub option_map-copied : {A B : Type 0} (f : A → B) (o : Option (Bor A)) → option_map (λ v. f v.now) o ≡ option_map f (option_copied o)
option_map-copied f None = refl
option_map-copied f (Some v) = refl

pub if_ok_weaker : {T E : Type 0} (r : Result T E) (P Q : T → Type 0) → ((x : T) → P x → Q x) → IfOk r P → IfOk r Q
if_ok_weaker (Ok x) P Q f h = f x h
if_ok_weaker (Err e) P Q f h = tt

pub if_some : {T : Type 0} (o : Option T) (P : T → Type 0) → ((x : T) → o ≡ Some x → P x) → IfSome o P
if_some None P f = tt
if_some (Some x) P f = f x refl
