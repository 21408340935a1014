-- How an ID is read, by what a scalar shows, and that it comes back (3.5.5).
use Rattle.std.proofs.Common.{◌≡◌, ℤ, Some, None, Result, Ok, Err, refl}
use Rattle.std.specs.Prelude.{MatchResult}
use Rattle.std.specs.Fmt.{signed_decimal}
use Rattle.graphql_spec.specs.Shown.{Text, Shown, int, text, boolean, shown_int, shown_text}
use Rattle.graphql_spec.specs.Constants.{scalar}
use Rattle.graphql_spec.specs.Resolvers.{Error}
use Rattle.juniper_conversions.specs.declared.identifier.ID.{ID}
use Rattle.juniper_conversions.specs.IdText.{id_text}
use Rattle.juniper_conversions.specs.Conversions.{GivesScalar}
use Rattle.juniper_conversions.specs.Identifiers.{shown_id, id_of}

pub id_of_text : (s : Shown) (t : Text) → Some t ≡ shown_text s → Some t ≡ shown_id s
unfolding shown_text
id_of_text (int z) t e = cc
id_of_text (text u) t e = e
id_of_text (boolean b) t e = cc

pub id_of_int : (s : Shown) (z : ℤ) → Some z ≡ shown_int s → Some (signed_decimal z) ≡ shown_id s
unfolding shown_int
id_of_int (int y) z e = cc
id_of_int (text u) z e = cc
id_of_int (boolean b) z e = cc

pub id_of_neither : (s : Shown) → None ≡ shown_text s → None ≡ shown_int s → None ≡ shown_id s
unfolding shown_text shown_int
id_of_neither (int z) e f = cc
id_of_neither (text u) e f = cc
id_of_neither (boolean b) e f = refl

pub id_back : {E : Type 0} (error : E → Error) (kind : Text) (t : Text) (answer : Result ID E) → GivesScalar id_text error kind id_of (scalar (text t)) answer
    → MatchResult answer (λ id. id_text id ≡ t) (λ e. ⊥)
id_back error kind t (Ok id) e = cc
id_back error kind t (Err e) h = let none = h.0 in cc
