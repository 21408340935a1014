-- The code's nodes are what they are seen as.
use Rattle.std.proofs.Common.{◌≡◌, refl, ap}
use Rattle.juniper_intro.specs.HandleView.{code_handle, code_input, code_type, view_handle, view_input_place, view_type_place}
use Rattle.juniper_intro.specs.declared.handle.InputPlace.{InputPlace}
use Rattle.juniper_intro.specs.declared.handle.InputPlace.TheVariants as place
use Rattle.juniper_intro.specs.declared.handle.TypePlace.{TypePlace}
use Rattle.juniper_intro.specs.declared.handle.TypePlace.TheVariants as reference
use Rattle.juniper_intro.specs.declared.handle.Handle.{Handle}
use Rattle.juniper_intro.specs.declared.handle.Handle.TheVariants as handle

pub input_viewed : (p : InputPlace) → code_input (view_input_place p) ≡ p
input_viewed (place.OfField i j k) = refl
input_viewed (place.OfInputObject i j) = refl
input_viewed (place.OfDirective i j) = refl

pub type_viewed : (p : TypePlace) → code_type (view_type_place p) ≡ p
type_viewed (reference.ByName i) = refl
type_viewed (reference.AtField i j) = refl
type_viewed (reference.AtInput p) = ap (λ q. reference.AtInput q) (input_viewed p)

pub code_viewed : (h : Handle) → code_handle (view_handle h) ≡ h
code_viewed handle.Schema = refl
code_viewed (handle.Type p d) = ap (λ q. handle.Type q d) (type_viewed p)
code_viewed (handle.Field i j) = refl
code_viewed (handle.Input p) = ap (λ q. handle.Input q) (input_viewed p)
code_viewed (handle.Value i j) = refl
code_viewed (handle.Directive i) = refl
