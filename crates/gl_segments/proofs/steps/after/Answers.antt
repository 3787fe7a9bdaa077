use Rattle.std.proofs.Common.{◌≡◌, [], ◌∷◌, ◌++◌, length, ap, ◌∙◌, arith, rules}
use Rattle.gl_event.specs.Lawful.{lists_of}
use Rattle.gl_segments.specs.bodies.Tables.{joined_last}
use Rattle.gl_segments.proofs.Tabling.{items_at, joined_here, joined_none, joined_other}
use Rattle.gl_segments.proofs.steps.after.Goals as goal
use Rattle.gl_segments.proofs.steps.after.Goals.{in-Join+then-joined-cuts+in_ok-push-2, in-Join+else-joined-cuts, in_default}

pub overflow_cast-index : goal.overflow_cast-index
overflow_cast-index c =
    let at = items_at c.args.cuts.now c.number-joined.result c.index-cuts-joined.result c.if-joined-cuts.true c.index-cuts-joined.is in
    let small = c.requires.small _ _ at in
    let len : c.len-index.result ≡ length c.index-cuts-joined.result.items = search rules in
    omega arith

pub returns : goal.returns
returns c =
    let lists = lists_of c.args.cuts.now in
    let one : c.push.new.self.items ≡ c.args.closed ∷ [] = c.in_ok-push.ensures.items ∙ ap (λ xs. xs ++ c.args.closed ∷ []) c.new-sources.ensures.items in
    elim c.match-cut.branch [
      | in-Join+then-joined-cuts+in_ok-push-2 w ↦
          let len : w.len-index.result ≡ length w.index-cuts-joined.result.items = search rules in
          let here = joined_here c.args.cuts.now w.number-joined.result w.in-Join.loc w.index-cuts-joined.result w.if-joined-cuts.true w.index-cuts-joined.is in
          rw (w.sources-is, w.in_ok-push-2.ensures.items, one, w.in-Join.is, ← w.number-joined.ensures, here, len)
      | in-Join+else-joined-cuts w ↦
          let none = joined_none c.args.cuts.now w.number-joined.result w.in-Join.loc w.if-joined-cuts.false in
          rw (w.sources-is, one, w.in-Join.is, ← w.number-joined.ensures, none)
      | in_default w ↦
          let none : joined_last lists c.args.cut ≡ [] = joined_other lists c.args.cut w.in_default.not-Join in
          rw (w.sources-is, one, none)
    ]
