-- The catalogue as data: each book, film and author is known by its place, and so is the number of a book's copies.
use Rattle.std.specs.Prelude.{ℤ, List, [], ◌∷◌, codes}
use Rattle.juniper.specs.Server.{Name}
use Rattle.juniper_library.specs.Entries.{Named}
use Rattle.juniper_library.specs.declared.catalogue.Book.{Book}
use Rattle.juniper_library.specs.declared.catalogue.Genre.{Genre}
use Rattle.juniper_library.specs.declared.catalogue.Genre.TheVariants.{Novel, Poetry, Science}

pub record Catalogue : Type 0 where
  pub books : List Book
  pub films : List Named
  pub authors : List Named
  pub copies : List ℤ

-- the name of a genre (3.9)
abbrev pub genre_name : Genre → Name
genre_name Novel = codes "NOVEL"
genre_name Poetry = codes "POETRY"
genre_name Science = codes "SCIENCE"

abbrev pub genres : List Genre
genres = Novel ∷ Poetry ∷ Science ∷ []
