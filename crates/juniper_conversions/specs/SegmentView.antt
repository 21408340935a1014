-- How the steps of a path are seen (7.1.2).
use Rattle.std.specs.Prelude.{string_bytes}
use Rattle.graphql_spec.specs.Errors.{Step, key, index}
use Rattle.juniper_conversions.specs.declared.segment.PathSegment.{PathSegment}
use Rattle.juniper_conversions.specs.declared.segment.PathSegment.TheVariants as segment
use Rattle.juniper_conversions.specs.declared.segment.PathPart.{PathPart}
use Rattle.juniper_conversions.specs.declared.segment.PathPart.TheVariants as part

-- a step as an error holds it
abbrev pub view_segment : PathSegment → Step
view_segment (segment.Index n) = index n
view_segment (segment.Key k) = key (string_bytes k)

-- a step of which an error is made
abbrev pub view_part : PathPart → Step
view_part (part.Index n) = index n
view_part (part.Key k) = key k.now
