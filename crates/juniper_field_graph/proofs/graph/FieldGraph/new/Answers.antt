use Rattle.std.proofs.Common.{map, ap}
use Rattle.juniper_merging.specs.MergingGraph.{view_vertex}
use Rattle.juniper_field_graph.proofs.Graphs.{empty-graph}
use Rattle.juniper_field_graph.proofs.graph.FieldGraph.new.Goals as goal

pub returns-clause-graph : goal.returns-clause-graph
returns-clause-graph g c s =
    empty-graph g.S.ScalarValue.shown s _ c.new.ensures.items c.new-2.ensures.items c.new-3.ensures.items c.new-4.ensures.empty
    c.new-5.ensures.empty c.new-6.ensures.empty

pub returns-clause-empty : goal.returns-clause-empty
returns-clause-empty g c = ap (map (view_vertex _)) c.new.ensures.items
