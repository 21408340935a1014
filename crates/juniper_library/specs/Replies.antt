-- What the library's resolvers reply, and what its mutations leave (6.2.2, 6.4.2).
use Rattle.std.specs.Prelude.{ℕ, ℤ, pos, negsuc, Bool, true, ◌&&◌, codes, eqb, cond, [], ◌∷◌, ◌++◌, List, length, take, Option, Some, None, option_map}
use Rattle.std.specs.Prelude.{unwrap_or, Result, Ok, string_bytes}
use Rattle.std.specs.Cmp.Lexicographic.{pointwise}
use Rattle.std.specs.Ordering.{int_eq}
use Rattle.juniper.specs.Server.{Constant, Error, Members, Name, Reply, Text, answered, bytes_eq, decimal, find, given, input_field, input_field_or, int_reply}
use Rattle.juniper.specs.Server.{named_among, nat_eq, node, nodes_reply, nodes_where, nothing, object_or_null, position, read_enum, read_id, read_int}
use Rattle.juniper.specs.Server.{read_option, read_text, slice_get, starts_with, text_reply, then_read, with_read, with_step}
use Rattle.juniper_library.specs.Catalogue.{Catalogue, genre_name, genres}
use Rattle.juniper_library.specs.Entries.{Named}
use Rattle.juniper_library.specs.declared.catalogue.Book.{Book}
use Rattle.juniper_library.specs.declared.catalogue.Genre.{Genre}
use Rattle.juniper_library.specs.declared.catalogue.Genre.TheVariants.{Novel}
use Rattle.juniper_library.specs.declared.resolvers.Node.{Node}
use Rattle.juniper_library.specs.declared.resolvers.Node.TheVariants as at
use Rattle.juniper_library.specs.declared.resolvers.NewBook.{NewBook}

-- ## What is read (3.9, 3.10)

abbrev pub read_genre : Constant → Result Genre Error
read_genre = read_enum (named_among genre_name genres)

pub record Draft : Type 0 where
  pub title : Text
  pub genre : Genre

abbrev pub seen : NewBook → Draft
seen b = record { title = string_bytes b.title; genre = b.genre }

abbrev pub read_new_book : Constant → Result Draft Error
read_new_book v = then_read (input_field read_text (codes "title") v)
    (λ title. then_read (input_field_or read_genre (codes "genre") Novel v) (λ genre. Ok (record { title = title; genre = genre })))

-- ## Objects

-- the object type of a node
abbrev pub concrete_type : Node → Name
concrete_type at.Query = codes "Query"
concrete_type (at.Book i) = codes "Book"
concrete_type (at.Film i) = codes "Film"
concrete_type (at.Author i) = codes "Author"

-- `book`: the place of the first of this number
abbrev pub book : Catalogue → Text → Option ℕ
book c id = position (λ b. bytes_eq b.titled.id id) c.books

-- `books`: the first so many of a genre
abbrev pub is_of : Option Genre → Book → Bool
is_of None b = true
is_of (Some g) b = bytes_eq (genre_name b.genre) (genre_name g)

abbrev pub limit : ℤ → ℕ
limit (pos n) = n
limit (negsuc n) = 0

abbrev pub books : Catalogue → Option ℤ → Option Genre → List Node
books c first genre = take (limit (unwrap_or first (pos 10))) (nodes_where at.Book (is_of genre) c.books)

-- `search`: books, films and authors whose name begins so
abbrev pub begins : Text → Named → Bool
begins needle e = starts_with eqb e.name needle

abbrev pub found : Catalogue → Text → List Node
found c needle = (nodes_where at.Book (λ b. begins needle b.titled) c.books ++ nodes_where at.Film (begins needle) c.films)
    ++ nodes_where at.Author (begins needle) c.authors

abbrev pub query_field : Catalogue → Name → Members → Reply Node
query_field c field arguments =
    cond (bytes_eq field (codes "book")) (with_read (given read_id (find (codes "isbn") arguments)) (λ id. object_or_null (option_map at.Book (book c id))))
    (cond (bytes_eq field (codes "books")) (with_read (given (read_option read_int) (find (codes "first") arguments))
    (λ first. with_read (given (read_option read_genre) (find (codes "genre") arguments)) (λ genre. nodes_reply (books c first genre))))
    (cond (bytes_eq field (codes "search")) (with_read (given read_text (find (codes "text") arguments)) (λ needle. nodes_reply (found c needle)))
    (answered nothing)))

abbrev pub book_field : Option Book → Name → Reply Node
book_field None field = answered nothing
book_field (Some b) field =
    cond (bytes_eq field (codes "id")) (text_reply b.titled.id) (cond (bytes_eq field (codes "title")) (text_reply b.titled.name)
    (cond (bytes_eq field (codes "genre")) (text_reply (genre_name b.genre))
    (cond (bytes_eq field (codes "author")) (answered (node (at.Author b.author))) (answered nothing))))

abbrev pub film_field : Option Named → Name → Reply Node
film_field None field = answered nothing
film_field (Some f) field = cond (bytes_eq field (codes "id")) (text_reply f.id) (cond (bytes_eq field (codes "title")) (text_reply f.name) (answered nothing))

abbrev pub books_by : Catalogue → ℕ → List Node
books_by c author = nodes_where at.Book (λ b. nat_eq b.author author) c.books

abbrev pub author_field : Catalogue → ℕ → Option Named → Name → Reply Node
author_field c i None field = answered nothing
author_field c i (Some a) field =
    cond (bytes_eq field (codes "name")) (text_reply a.name) (cond (bytes_eq field (codes "books")) (nodes_reply (books_by c i)) (answered nothing))

-- `copies`: how many there are of a book, if that is known
abbrev pub copies : List ℤ → Node → Option ℤ
copies known at.Query = None
copies known (at.Book i) = slice_get known i
copies known (at.Film i) = None
copies known (at.Author i) = None

abbrev pub copies_reply : Option ℤ → Reply Node
copies_reply None = answered nothing
copies_reply (Some number) = int_reply number

-- a field that is not `copies`
abbrev pub other_field : Catalogue → Node → Name → Members → Reply Node
other_field c at.Query field arguments = query_field c field arguments
other_field c (at.Book i) field arguments = book_field (slice_get c.books i) field
other_field c (at.Film i) field arguments = film_field (slice_get c.films i) field
other_field c (at.Author i) field arguments = author_field c i (slice_get c.authors i) field

-- the reply to a field of a node, in a catalogue
abbrev pub reply : Catalogue → Node → Name → Members → Reply Node
reply c n field arguments = cond (bytes_eq field (codes "copies")) (copies_reply (copies c.copies n)) (other_field c n field arguments)

-- ## Mutations (6.2.2)

-- a new book, behind the others: its number is made of its place, and its author is the first one
abbrev pub add_book : Catalogue → Draft → Catalogue × Reply Node
add_book c d =
    let new : Book = record { titled = record { id = codes "new-" ++ decimal (length c.books); name = d.title }; genre = d.genre; author = 0 } in
    (record c { books = c.books ++ new ∷ [] }, answered (node (at.Book (length c.books))))

abbrev pub step : Catalogue → Name → Members → Catalogue × Reply Node
step c field arguments =
    cond (bytes_eq field (codes "addBook")) (with_step c (given read_new_book (find (codes "new") arguments)) (add_book c)) (c, answered nothing)

-- two entries that hold the same, and two books
abbrev pub is_same_entry : Named → Named → Bool
is_same_entry a b = bytes_eq a.id b.id && bytes_eq a.name b.name

abbrev pub is_same_book : Book → Book → Bool
is_same_book a b = is_same_entry a.titled b.titled && (bytes_eq (genre_name a.genre) (genre_name b.genre) && nat_eq a.author b.author)

-- where memory is wanting no table has changed
unfoldable pub torn : Catalogue → Catalogue → Bool
torn c after = (pointwise is_same_book after.books c.books && pointwise is_same_entry after.films c.films)
    && (pointwise is_same_entry after.authors c.authors && pointwise int_eq after.copies c.copies)
