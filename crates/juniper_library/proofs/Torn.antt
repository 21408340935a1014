-- A catalogue that has not changed is as it was.
use Rattle.std.proofs.Common.{◌≡◌, Bool, true, List, [], ◌∷◌, refl}
use Rattle.std.proofs.lemmas.Cmp.{int_eq_equiv, nat_eq_equiv}
use Rattle.std.proofs.lemmas.Slice.Eq.{bytes_eq-Decides}
use Rattle.std.specs.Cmp.Derive.{both_true}
use Rattle.std.specs.Cmp.Lexicographic.{pointwise}
use Rattle.std.specs.Str.{bytes_eq}
use Rattle.juniper.specs.Server.{Text}
use Rattle.juniper_library.specs.Catalogue.{Catalogue, genre_name}
use Rattle.juniper_library.specs.Entries.{Named}
use Rattle.juniper_library.specs.Replies.{is_same_book, is_same_entry, torn}
use Rattle.juniper_library.specs.declared.catalogue.Book.{Book}

all_same : {A : Type 0} (eq : A → A → Bool) → ((x : A) → eq x x ≡ true) → (xs : List A) → pointwise eq xs xs ≡ true
all_same eq same [] = refl
all_same eq same (x ∷ xs) = both_true (same x) (all_same eq same xs)

text_same : (t : Text) → bytes_eq t t ≡ true
text_same t = (bytes_eq-Decides t t).1 refl

entry_same : (e : Named) → is_same_entry e e ≡ true
entry_same e = both_true (text_same e.id) (text_same e.name)

book_same : (b : Book) → is_same_book b b ≡ true
book_same b = both_true (entry_same b.titled) (both_true (text_same (genre_name b.genre)) (nat_eq_equiv.refl b.author))

pub nothing_torn : (c : Catalogue) → torn c c ≡ true
unfolding torn
nothing_torn c = both_true (both_true (all_same is_same_book book_same c.books) (all_same is_same_entry entry_same c.films))
    (both_true (all_same is_same_entry entry_same c.authors) (all_same _ int_eq_equiv.refl c.copies))
