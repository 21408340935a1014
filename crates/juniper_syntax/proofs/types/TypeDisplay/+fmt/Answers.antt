use Rattle.std.proofs.Common.{sym, ap, ◌∙◌, rules}
use Rattle.std.proofs.Output.{has_written_append, has_written_of_eq}
use Rattle.graphql_spec.specs.Types.{type_text}
use Rattle.juniper_syntax.specs.TypeView.{view_type}
use Rattle.juniper_syntax.proofs.TypeTexts.{text-Named, text-NonNullNamed, text-List, text-NonNullList}
use Rattle.juniper_syntax.proofs.types.TypeDisplay.+fmt.Goals as goal

pub returns-in-Named-clause-writes : goal.returns-in-Named-clause-writes
returns-in-Named-clause-writes g t c plain ok =
    let name = g.N.AsStr.text in
    let seen = ap (λ t. type_text (view_type name t)) c.in-Named.is ∙ text-Named name c.in-Named.name in
    has_written_of_eq _ _ _ _ _ (sym seen) (rw c.as_str.ensures at c.write_str.ensures.writes plain ok)

pub returns-in_ok-write_str-in-NonNullNamed-clause-writes : goal.returns-in_ok-write_str-in-NonNullNamed-clause-writes
returns-in_ok-write_str-in-NonNullNamed-clause-writes g t c plain ok =
    let name = g.N.AsStr.text in
    let seen = ap (λ t. type_text (view_type name t)) c.in-NonNullNamed.is ∙ text-NonNullNamed name c.in-NonNullNamed.name in
    let written = rw c.as_str-in-NonNullNamed.ensures at c.write_str-in-NonNullNamed.ensures.writes plain (search rules) in
    let mark = c.write_str-in-NonNullNamed-2.ensures.writes written.plain ok in
    has_written_of_eq _ _ _ _ _ (sym seen) (has_written_append _ _ _ _ _ _ written mark)

pub returns-in_ok-fmt-in-List-clause-writes : goal.returns-in_ok-fmt-in-List-clause-writes
returns-in_ok-fmt-in-List-clause-writes g t c plain ok =
    let name = g.N.AsStr.text in
    let seen = ap (λ t. type_text (view_type name t)) c.in-List.is ∙ text-List name c.in-List.inner c.in-List.field-1 in
    let opened = c.write_str-in-List.ensures.writes plain (search rules) in
    let inside = rw c.deref.ensures at c.fmt.ensures.writes opened.plain (search rules) in
    let closed = c.write_str-in-List-2.ensures.writes inside.plain ok in
    has_written_of_eq _ _ _ _ _ (sym seen) (has_written_append _ _ _ _ _ _ opened (has_written_append _ _ _ _ _ _ inside closed))

pub returns-in_ok-fmt-in-NonNullList-clause-writes : goal.returns-in_ok-fmt-in-NonNullList-clause-writes
returns-in_ok-fmt-in-NonNullList-clause-writes g t c plain ok =
    let name = g.N.AsStr.text in
    let seen = ap (λ t. type_text (view_type name t)) c.in-NonNullList.is ∙ text-NonNullList name c.in-NonNullList.inner c.in-NonNullList.field-1 in
    let opened = c.write_str-in-NonNullList.ensures.writes plain (search rules) in
    let inside = rw c.deref-in-NonNullList.ensures at c.fmt-in-NonNullList.ensures.writes opened.plain (search rules) in
    let closed = c.write_str-in-NonNullList-2.ensures.writes inside.plain ok in
    has_written_of_eq _ _ _ _ _ (sym seen) (has_written_append _ _ _ _ _ _ opened (has_written_append _ _ _ _ _ _ inside closed))
