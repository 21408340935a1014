-- What a scalar shows decides how it is sent.
use Rattle.std.proofs.Common.{◌≡◌, ℤ, Bool, Option, Some}
use Rattle.graphql_spec.specs.Shown.{Text, Shown, int, text, boolean, shown_int, shown_text, shown_boolean}
use Rattle.serde_json.specs.Data as json
use Rattle.serde_json.specs.Data.{Data}
use Rattle.serde_json.specs.Find.{of_integer}
use Rattle.juniper_json.specs.AnswerText.{scalar_data}

pub number_data : (x : Shown) (o : Option ℤ) (i : ℤ) → o ≡ shown_int x → o ≡ Some i → scalar_data x ≡ json.number (of_integer i)
unfolding shown_int scalar_data
number_data (int j) o i e f = cc
number_data (text t) o i e f = cc
number_data (boolean b) o i e f = cc

pub truth_data : (x : Shown) (o : Option Bool) (b : Bool) → o ≡ shown_boolean x → o ≡ Some b → scalar_data x ≡ json.boolean b
unfolding shown_boolean scalar_data
truth_data (int j) o b e f = cc
truth_data (text t) o b e f = cc
truth_data (boolean c) o b e f = cc

pub text_data : (x : Shown) (o : Option Text) (t : Text) → o ≡ shown_text x → o ≡ Some t → scalar_data x ≡ json.string t
unfolding shown_text scalar_data
text_data (int j) o t e f = cc
text_data (text s) o t e f = cc
text_data (boolean c) o t e f = cc
