-- Kinds of edges.
use Rattle.std.specs.Prelude.{◌≡◌}
use Rattle.gl_edges.specs.declared.edge.Edge.{Edge}

-- the two edges are of one kind: they hold and want the same locks, in the same modes, under the same guards
pub record AreOfOneKind (e f : Edge) : Type 0 where
  pub held : e.held ≡ f.held
  pub held_mode : e.held_mode ≡ f.held_mode
  pub wanted : e.wanted ≡ f.wanted
  pub wanted_mode : e.wanted_mode ≡ f.wanted_mode
  pub guards : e.guards ≡ f.guards
