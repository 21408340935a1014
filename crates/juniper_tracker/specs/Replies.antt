-- What the tracker's resolvers reply, and what its mutations leave (6.2.2, 6.4.2).
use Rattle.std.specs.Prelude.{ℕ, ℤ, pos, negsuc, Bool, true, false, ◌&&◌, ◌==◌, ◌-◌, codes, cond, eqb, nat_le, nat_lt, List, [], ◌∷◌, ◌++◌}
use Rattle.std.specs.Prelude.{length, map, set, take}
use Rattle.std.specs.Prelude.{Option, Some, None, option_map, unwrap_or, Result, Ok, string_bytes}
use Rattle.std.specs.Char.{is_ascii_hexdigit}
use Rattle.std.specs.Cmp.Lexicographic.{pointwise}
use Rattle.std.specs.List.{list_all, list_any}
use Rattle.std.specs.Option.{option_or}
use Rattle.juniper.specs.Server.{Constant, Error, Members, Name, Reply, Text, answered, argument, boolean_reply, bytes_eq, count_reply, decimal, enumerate_from}
use Rattle.juniper.specs.Server.{filter, find, found_or, found_or_code, given, id_text, input_field, named_among, nat_eq, node, nodes_at}
use Rattle.juniper.specs.Server.{nodes_reply, nodes_where, nothing, object_or_null, read_enum, read_id, read_int, read_list, read_option, read_text}
use Rattle.juniper.specs.Server.{slice_get, starts_with, text_or_null, text_reply, then_read, unanswered_reply, value_reply, with_read, with_step}
use Rattle.juniper_tracker.specs.Tables.{Tables, cursor, issue_of, state_name, states, user_of}
use Rattle.juniper_tracker.specs.declared.resolvers.IssueFilter.{IssueFilter}
use Rattle.juniper_tracker.specs.declared.resolvers.NewIssue.{NewIssue}
use Rattle.juniper_tracker.specs.declared.resolvers.Node.{Node}
use Rattle.juniper_tracker.specs.declared.resolvers.Node.TheVariants as at
use Rattle.juniper_tracker.specs.declared.resolvers.Page.{Page}
use Rattle.juniper_tracker.specs.declared.tracker.Issue.{Issue}
use Rattle.juniper_tracker.specs.declared.tracker.State.{State}
use Rattle.juniper_tracker.specs.declared.tracker.State.TheVariants.{Open, Closed}
use Rattle.juniper_tracker.specs.declared.tracker.User.{User}

abbrev pub concrete_type : Node → Name
concrete_type at.Query = codes "Query"
concrete_type (at.User i) = codes "User"
concrete_type (at.Issue i) = codes "Issue"
concrete_type (at.Connection p) = codes "IssueConnection"

pub record Filter : Type 0 where
  pub states : List State
  pub author : Option Text

abbrev pub seen_filter : IssueFilter → Filter
seen_filter f = record { states = f.states.items; author = option_map id_text f.author }

abbrev pub read_filter : Constant → Result Filter Error
read_filter v = then_read (input_field (read_list (read_enum (named_among state_name states))) (codes "states") v)
    (λ states. then_read (input_field (read_option read_id) (codes "author") v) (λ author. Ok (record { states = states; author = author })))

abbrev pub is_among : List State → State → Bool
is_among states s = list_any (λ x. bytes_eq (state_name x) (state_name s)) states

-- a place that is asked for, where one is
abbrev pub if_asked : Text → Option (Option ℕ) → Result (Option ℕ) Error
if_asked message None = Ok None
if_asked message (Some found) = then_read (found_or_code message (codes "NOT_FOUND") found) (λ place. Ok (Some place))

abbrev pub size : ℤ → Option ℕ
size (pos n) = cond (nat_le n 100) (Some n) None
size (negsuc n) = None

abbrev pub asked : Tables → Filter → Option ℤ → Option Text → Result Page Error
asked t f first after = then_read (if_asked (codes "Unknown author") (option_map (user_of t) f.author))
    (λ author. then_read (if_asked (codes "Unknown cursor") (option_map (issue_of t) after))
    (λ after. then_read (found_or_code (codes "`first` is from 0 to 100") (codes "BAD_USER_INPUT") (size (unwrap_or first (pos 10)))) (λ first.
    Ok (record { takes_open = is_among f.states Open; takes_closed = is_among f.states Closed; author = author; after = after; first = first }))))

abbrev pub or_any : (ℕ → Bool) → Option ℕ → Bool
or_any test None = true
or_any test (Some place) = test place

abbrev pub takes : Page → State → Bool
takes p Open = p.takes_open
takes p Closed = p.takes_closed

abbrev pub lists : Page → ℕ → Issue → Bool
lists p place i = takes p i.state && (or_any (λ after. nat_lt after place) p.after && or_any (nat_eq i.author) p.author)

abbrev pub places : Tables → Page → List ℕ
places t p = map (λ e. e.0) (filter (λ e. lists p e.0 e.1) (enumerate_from 0 t.issues))

abbrev pub shown : Tables → Page → List ℕ
shown t p = take p.first (places t p)

abbrev pub found : Tables → Text → List Node
found t needle = nodes_where at.Issue (λ i. starts_with eqb i.title needle) t.issues ++ nodes_where at.User (λ u. starts_with eqb u.login needle) t.users

abbrev pub query_field : Tables → Name → Members → Reply Node
query_field t field arguments =
    cond (bytes_eq field (codes "issues")) (with_read (given read_filter (find (codes "filter") arguments))
    (λ filter. with_read (argument read_int (find (codes "first") arguments)) (λ first. with_read (argument read_id (find (codes "after") arguments))
    (λ after. with_read (asked t filter first after) (λ p. answered (node (at.Connection p)))))))
    (cond (bytes_eq field (codes "issue")) (with_read (given read_id (find (codes "id") arguments))
    (λ id. object_or_null (option_map at.Issue (issue_of t id))))
    (cond (bytes_eq field (codes "node")) (with_read (given read_id (find (codes "id") arguments))
    (λ id. object_or_null (option_or (option_map at.Issue (issue_of t id)) (option_map at.User (user_of t id)))))
    (cond (bytes_eq field (codes "search")) (with_read (given read_text (find (codes "text") arguments)) (λ needle. nodes_reply (found t needle)))
    unanswered_reply)))

abbrev pub user_field : User → Name → Reply Node
user_field u field =
    cond (bytes_eq field (codes "id")) (text_reply u.id) (cond (bytes_eq field (codes "login")) (text_reply u.login)
    (cond (bytes_eq field (codes "email")) (with_read (found_or_code (codes "The address is not public") (codes "FORBIDDEN") u.email) text_reply)
    unanswered_reply))

abbrev pub issue_field : Issue → Name → Reply Node
issue_field i field =
    cond (bytes_eq field (codes "id")) (text_reply i.id) (cond (bytes_eq field (codes "author")) (answered (node (at.User i.author)))
    (cond (bytes_eq field (codes "title")) (text_reply i.title) (cond (bytes_eq field (codes "state")) (value_reply state_name i.state)
    (cond (bytes_eq field (codes "color")) (text_reply i.color) unanswered_reply))))

abbrev pub connection_field : Tables → Page → Name → Reply Node
connection_field t p field =
    cond (bytes_eq field (codes "nodes")) (nodes_reply (nodes_at at.Issue (shown t p)))
    (cond (bytes_eq field (codes "totalCount")) (count_reply (length (places t (record p { after = None }))))
    (cond (bytes_eq field (codes "hasNextPage")) (boolean_reply (nat_lt p.first (length (places t p))))
    (cond (bytes_eq field (codes "endCursor")) (text_or_null (cursor t (slice_get (shown t p) (length (shown t p) - 1)))) unanswered_reply)))

abbrev pub or_nothing : {A : Type 0} → (A → Reply Node) → Option A → Reply Node
or_nothing field None = answered nothing
or_nothing field (Some x) = field x

-- the reply to a field of a node
abbrev pub reply : Tables → Node → Name → Members → Reply Node
reply t at.Query field arguments = query_field t field arguments
reply t (at.User i) field arguments = or_nothing (λ u. user_field u field) (slice_get t.users i)
reply t (at.Issue i) field arguments = or_nothing (λ j. issue_field j field) (slice_get t.issues i)
reply t (at.Connection p) field arguments = connection_field t p field

-- ## Mutations (6.2.2)

abbrev pub are_digits : Text → Bool
are_digits digits = list_all is_ascii_hexdigit digits

abbrev pub color_of : Text → Option Text
color_of [] = None
color_of (c ∷ digits) = cond ((c == 35) && ((length digits == 6) && are_digits digits)) (Some (c ∷ digits)) None

abbrev pub read_color : Constant → Result Text Error
read_color v = then_read (read_text v) (λ t. found_or (codes "Expected `Color` as `#rrggbb`") (color_of t))

pub record Draft : Type 0 where
  pub title : Text
  pub author : Text
  pub color : Text

abbrev pub seen_issue : NewIssue → Draft
seen_issue n = record { title = string_bytes n.title; author = id_text n.author; color = string_bytes n.color.text }

abbrev pub read_issue : Constant → Result Draft Error
read_issue v = then_read (input_field read_text (codes "title") v) (λ title. then_read (input_field read_id (codes "author") v)
    (λ author. then_read (input_field read_color (codes "color") v) (λ color. Ok (record { title = title; author = author; color = color }))))

-- an issue behind the others: its number is made of its place
abbrev pub create_issue : Tables → Draft → Tables × Reply Node
create_issue t d = with_step t (found_or_code (codes "Unknown author") (codes "NOT_FOUND") (user_of t d.author)) (λ author.
    let new : Issue = record { id = codes "new-" ++ decimal (length t.issues); title = d.title; state = Open; color = d.color; author = author } in
    (record t { issues = t.issues ++ new ∷ [] }, answered (node (at.Issue (length t.issues)))))

abbrev pub in_state : Tables → ℕ → State → Option Issue → Tables
in_state t place s None = t
in_state t place s (Some i) = record t { issues = set t.issues place (record i { state = s }) }

abbrev pub set_state : Tables → Text → State → Tables × Reply Node
set_state t id s = with_step t (found_or_code (codes "Unknown issue") (codes "NOT_FOUND") (issue_of t id))
    (λ place. (in_state t place s (slice_get t.issues place), answered (node (at.Issue place))))

abbrev pub step : Tables → Name → Members → Tables × Reply Node
step t field arguments =
    cond (bytes_eq field (codes "createIssue")) (with_step t (given read_issue (find (codes "input") arguments)) (create_issue t))
    (cond (bytes_eq field (codes "setState")) (with_step t (given read_id (find (codes "id") arguments))
    (λ id. with_step t (given (read_enum (named_among state_name states)) (find (codes "state") arguments)) (set_state t id)))
    (t, unanswered_reply))

-- two texts, if there are any, that are the same; two users, and two issues, that hold the same
abbrev pub is_same_text : Option Text → Option Text → Bool
is_same_text None None = true
is_same_text (Some a) (Some b) = bytes_eq a b
is_same_text a b = false

abbrev pub is_same_user : User → User → Bool
is_same_user a b = bytes_eq a.id b.id && (bytes_eq a.login b.login && is_same_text a.email b.email)

abbrev pub is_same_issue : Issue → Issue → Bool
is_same_issue a b = (bytes_eq a.id b.id && bytes_eq a.title b.title)
    && ((bytes_eq (state_name a.state) (state_name b.state) && bytes_eq a.color b.color) && nat_eq a.author b.author)

-- where memory is wanting no table has changed
unfoldable pub torn : Tables → Tables → Bool
torn t after = pointwise is_same_user after.users t.users && pointwise is_same_issue after.issues t.issues
