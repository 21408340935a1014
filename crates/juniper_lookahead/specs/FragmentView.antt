-- How the fragments of a document are seen (2.8).
use Rattle.std.specs.Prelude.{◌≡◌, ℕ, Bool, List, map, length, Option, option_map}
use Rattle.std.specs.Borrow.{Bor}
use Rattle.std.specs.BTreeMap.{BTreeMap}
use Rattle.std.specs.HashMap.{HashMap, get_by}
use Rattle.std.specs.Map.{lookup}
use Rattle.std.specs.Str.{bytes_eq}
use Rattle.graphql_spec.specs.Shown.{Shown, Name}
use Rattle.graphql_spec.specs.Documents as spec
use Rattle.graphql_spec.specs.Documents.{fragments}
use Rattle.graphql_spec.specs.Fragments.{expand, fragment_of}
use Rattle.graphql_spec.specs.Positions.{origin}
use Rattle.juniper_syntax.specs.DocumentView.{view_definition, view_directives, view_selections, view_word}
use Rattle.juniper_syntax.specs.declared.ast.Fragment.{Fragment}
use Rattle.juniper_lookahead.specs.declared.fragments.FragmentMap.{FragmentMap}

-- a fragment, but for where it is written
abbrev pub unplaced : spec.Fragment → spec.Fragment
unplaced f =
    record { name = f.name; condition = f.condition; directives = f.directives; selections = f.selections; span = record { start = origin; end = origin } }

-- the first fragment of a name, but for where it is written (2.8)
unfoldable pub fragment_named : List spec.Fragment → Name → Option spec.Fragment
fragment_named fs k = option_map unplaced (fragment_of fs k)

module _ {S : Type 0} (shown : S → Shown) where
  -- a fragment of which it is not known where it is written
  abbrev pub view_lent_fragment : Fragment S → spec.Fragment
  view_lent_fragment f = record {
    name = view_word f.name;
    condition = view_word f.type_condition;
    directives = view_directives shown f.directives;
    selections = view_selections shown f.selection_set.items;
    span = record { start = origin; end = origin };
  }

  -- the fragment that the map has at a name
  unfoldable pub fragment_at : {H : Type 0} → HashMap (Bor (List ℕ)) (Bor (Fragment S)) H → Name → Option spec.Fragment
  fragment_at m k = option_map (λ f. view_lent_fragment f.now) (get_by (λ n. bytes_eq k n.now) m)

  -- the fragment that an ordered map has at a name
  unfoldable pub fragment_in_order : BTreeMap (Bor (List ℕ)) (Bor (Fragment S)) → Name → Option spec.Fragment
  fragment_in_order m k = option_map (λ f. view_lent_fragment f.now) (lookup (λ n. bytes_eq k n.now) m.entries)

  -- the fragments of the document that it was made of
  unfoldable pub fragments_in : FragmentMap S → List spec.Fragment
  fragments_in m = fragments (map (view_definition shown) m.document.now)

  -- each is found by its name in either map, of those of one name the first (2.8), and they are counted
  pub record IsMade (m : FragmentMap S) : Type 0 where
    pub in_order : (k : Name) → fragment_in_order m.ordered k ≡ fragment_named (fragments_in m) k
    pub named : (k : Name) → fragment_at m.lent k ≡ fragment_named (fragments_in m) k
    pub counted : m.count ≡ length (fragments_in m)

-- selections are expanded with the one list of fragments as with the other (2.8)
abbrev pub ExpandAlike : List spec.Fragment → List spec.Fragment → Type 0
ExpandAlike fs gs = (test : spec.Directive → Bool) (s : spec.Selections) → expand test fs s ≡ expand test gs s
