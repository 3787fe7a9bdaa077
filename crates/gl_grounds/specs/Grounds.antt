-- What a search of signatures is told of the edges.
use Rattle.std.specs.Prelude.{◌≡◌, ℕ, Bool, List, [], length}
use Rattle.gl_event.specs.declared.events.Segment.{Segment}
use Rattle.gl_edges.specs.declared.edge.Edge.{Edge}
use Rattle.gl_edges.specs.declared.edge.Sample.{Sample}
use Rattle.gl_filters.specs.declared.query.Mode.{Mode}
use Rattle.gl_filters.specs.Picked.{edges_of_table}
use Rattle.gl_index.specs.Indexes.{AreChainedKept, AreClosers}
use Rattle.gl_index.specs.declared.sides.Side.TheVariants.{Leader}
use Rattle.gl_sought.specs.OffCycles.{KeepsCycles}
use Rattle.gl_grounds.specs.Classes.{classes_of}
use Rattle.gl_grounds.specs.Models.{AreModels, IsNextClass}
use Rattle.gl_grounds.specs.Running.{AreRunners}
use Rattle.gl_grounds.specs.Passing.{ArePassages}
use Rattle.gl_grounds.specs.Spanning.{AreReached}
use Rattle.gl_grounds.specs.declared.grounds.Grounds.{Grounds}

-- it is so
pub record AreGrounds (before : Segment → Segment → Bool) (mode : Mode) (len : ℕ)
    (table : List (Edge × Sample)) (g : Grounds) : Type 0 where
  pub same_classes : g.classes.items ≡ classes_of table
  pub keeps : KeepsCycles before mode len (edges_of_table table) g.kept.items
  pub long : length g.models.items ≡ length table
  pub have : AreModels (edges_of_table table) (classes_of table) g.kept.items g.models.items
  pub follow : IsNextClass (length table) (classes_of table) g.models.items g.next.items
  pub run : AreRunners (edges_of_table table) (classes_of table) g.kept.items g.runners.items
  pub pass : ArePassages (edges_of_table table) (classes_of table) g.models.items g.passages
  pub held_by : AreChainedKept Leader (edges_of_table table) g.models.items 0 g.holders
  pub closed_by : AreClosers (edges_of_table table) g.models.items 0 g.closers
  pub begin : AreReached mode (edges_of_table table) (classes_of table) g.models.items len []
      g.begins
