-- How fields and directives with their arguments are seen.
use Rattle.std.specs.Prelude.{codes, ◌++◌, List, map}
use Rattle.graphql_spec.specs.Shown.{Shown, Text}
use Rattle.graphql_spec.specs.Documents.{written}
use Rattle.juniper_meta.specs.MetaView.{view_argument}
use Rattle.juniper_syntax.specs.Positions.{view_position}
use Rattle.juniper_syntax.specs.DocumentView.{view_arguments}
use Rattle.juniper_explain.specs.Sites as spec
use Rattle.juniper_explain.specs.declared.sites.Owner.{Owner}
use Rattle.juniper_explain.specs.declared.sites.Owner.TheVariants as owner
use Rattle.juniper_explain.specs.declared.sites.Site.{Site}

-- as it is called
abbrev pub owner_text : Owner → Text
owner_text (owner.Field p n) = p.now ++ (codes "." ++ n.now)
owner_text (owner.Directive n) = codes "@" ++ n.now

module _ {S : Type 0} (shown : S → Shown) where
  abbrev pub view_site : Site S → spec.Site
  view_site i = record {
    owner = owner_text i.owner;
    place = view_position i.location;
    declared = map (view_argument shown) i.declared.now;
    given = written (view_arguments shown i.given.now);
  }

  abbrev pub view_sites : List (Site S) → List spec.Site
  view_sites = map view_site
