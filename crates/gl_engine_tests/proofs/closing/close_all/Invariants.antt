use Rattle.std.proofs.Common.{◌≡◌, ◌++◌, map}
use Rattle.std.specs.Vec.Iter.{into_iter_items}
use Rattle.gl_engine.specs.Recording.{identity_of, left_by}
use Rattle.gl_engine_tests.proofs.closing.close_all.Given as goal

-- the recorders so far have left their receipts
abbrev pub invariant-loop-recorder : goal.invariant-loop-recorder
invariant-loop-recorder l = record {
  next : goal.iterator-loop-recorder.can_next l.recorder-iterator;
  finite : goal.iterator-loop-recorder.is_finite l.recorder-iterator;
  all : l.yielded ++ into_iter_items l.recorder-iterator ≡ l.fn.recorders.items;
  left : map left_by l.receipts.items ≡ map identity_of l.yielded;
}
