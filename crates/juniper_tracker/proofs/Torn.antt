-- Tables that have not changed are as they were.
use Rattle.std.proofs.Common.{◌≡◌, Bool, true, List, [], ◌∷◌, Option, None, Some, Result, Ok, Err, refl, sym}
use Rattle.std.proofs.lemmas.Cmp.{nat_eq_equiv}
use Rattle.std.proofs.lemmas.Slice.Eq.{bytes_eq-Decides}
use Rattle.std.specs.Cmp.Derive.{both_true}
use Rattle.std.specs.Cmp.Lexicographic.{pointwise}
use Rattle.std.specs.Str.{bytes_eq}
use Rattle.juniper.specs.Server.{Leaves, Text}
use Rattle.juniper_conversions.specs.declared.field_error.ResolveError.{ResolveError}
use Rattle.juniper_conversions.specs.declared.field_error.ResolveError.TheVariants.{Field, Memory}
use Rattle.juniper_tracker.specs.Replies.{is_same_issue, is_same_text, is_same_user, torn}
use Rattle.juniper_tracker.specs.Tables.{Tables, state_name}
use Rattle.juniper_tracker.specs.declared.tracker.Issue.{Issue}
use Rattle.juniper_tracker.specs.declared.tracker.User.{User}

all_same : {A : Type 0} (eq : A → A → Bool) → ((x : A) → eq x x ≡ true) → (xs : List A) → pointwise eq xs xs ≡ true
all_same eq same [] = refl
all_same eq same (x ∷ xs) = both_true (same x) (all_same eq same xs)

text_same : (t : Text) → bytes_eq t t ≡ true
text_same t = (bytes_eq-Decides t t).1 refl

maybe_same : (t : Option Text) → is_same_text t t ≡ true
maybe_same None = refl
maybe_same (Some t) = text_same t

user_same : (u : User) → is_same_user u u ≡ true
user_same u = both_true (text_same u.id) (both_true (text_same u.login) (maybe_same u.email))

issue_same : (i : Issue) → is_same_issue i i ≡ true
issue_same i = both_true (both_true (text_same i.id) (text_same i.title))
    (both_true (both_true (text_same (state_name i.state)) (text_same i.color)) (nat_eq_equiv.refl i.author))

pub nothing_torn : (t : Tables) → torn t t ≡ true
unfolding torn
nothing_torn t = both_true (all_same is_same_user user_same t.users) (all_same is_same_issue issue_same t.issues)

-- so they are left, whatever is answered
pub left_alone : {A S : Type 0} (t next : Tables) (r : Result A (ResolveError S)) → next ≡ t → Leaves next (torn t) r t
left_alone t next (Ok x) same = sym same
left_alone t next (Err (Field e)) same = sym same
left_alone t next (Err Memory) same = nothing_torn t
