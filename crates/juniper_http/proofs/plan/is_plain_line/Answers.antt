use Rattle.std.proofs.Common.{◌≡◌, ◌==◌, ◌&&◌, ℕ, List, Bool, refl, sym, ap, ◌∙◌}
use Rattle.std.proofs.lemmas.List.Sums.{list_all-from_AllPass}
use Rattle.std.specs.List.{list_all, slice_split}
use Rattle.http_header.specs.FieldValue.{FieldValue, IsVisibleAscii}
use Rattle.http_header.specs.Token.{is_visible_or_blank}
use Rattle.juniper_http.specs.ContentTypes.{is_identity, is_plain_line}
use Rattle.juniper_http.proofs.plan.is_plain_line.Goals as goal

-- a line that is visible ASCII
shown_line : (v : FieldValue) (text : List ℕ) (b : Bool) → IsVisibleAscii v.bytes → text ≡ v.bytes
    → b ≡ list_all is_identity (slice_split (λ c. c == 44) text) → b ≡ is_plain_line v
shown_line v text b visible e is =
    is ∙ ap (λ t. list_all is_identity (slice_split (λ c. c == 44) t)) e
    ∙ sym (ap (λ shown. shown && list_all is_identity (slice_split (λ c. c == 44) v.bytes)) (list_all-from_AllPass is_visible_or_blank v.bytes visible))

pub returns-in-Ok : goal.returns-in-Ok
returns-in-Ok c =
    shown_line c.args.value.now c.in-Ok.text.now c.are_identity.result (c.in-Ok.ensures.succeeds.0 refl) c.in-Ok.ensures.ok c.are_identity.ensures
