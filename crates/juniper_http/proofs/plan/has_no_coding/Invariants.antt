use Rattle.std.proofs.Common.{◌≡◌, codes}
use Rattle.http.specs.Request.{head_of}
use Rattle.http_header.specs.HeaderMap.{get_all}
use Rattle.juniper_http.specs.ContentTypes.{are_plain}
use Rattle.juniper_http.proofs.plan.has_no_coding.Given as goal

-- the lines to come decide
abbrev pub invariant-loop-value : goal.invariant-loop-value
invariant-loop-value l = are_plain l.value-iterator ≡ are_plain (get_all (head_of l.request).headers (codes "content-encoding"))
