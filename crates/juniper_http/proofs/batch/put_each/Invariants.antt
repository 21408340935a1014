use Rattle.std.proofs.Common.{◌≡◌, ℕ, List, ◌++◌, codes, map, take, string_bytes, IfOk, Some}
use Rattle.std.specs.List.{join_with_byte}
use denote.Text.{Utf8}
use denote.Shadow.{shadow}
use Rattle.serde_json.specs.View.{view}
use Rattle.juniper_http.specs.Batches.{PutsEach}
use Rattle.juniper_http.proofs.InTurn.{before_next}
use Rattle.juniper_http.proofs.batch.put_each.Given as goal

-- the members so far were put, and their texts stand behind the bracket
abbrev pub invariant-loop-member : goal.invariant-loop-member
invariant-loop-member g l =
    shadow (Utf8 l.separator)
    × ((texts : List (List ℕ))
    × PutsEach g.E.Endpoint.replies (Some l.most) (map view (take l.member-index l.member-items)) l.initial.endpoint texts l.endpoint l.left
    × IfOk l.text (λ t. string_bytes t ≡ codes "[" ++ join_with_byte 44 texts)
    × (l.separator ≡ before_next texts))
