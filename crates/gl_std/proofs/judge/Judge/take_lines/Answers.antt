use Rattle.std.proofs.Common.{◌≡◌, ◌+◌, ◌<◌, Err, length, map, take, sym, ap, subst, ◌∙◌, arith}
use Rattle.std.proofs.lemmas.Grind.{common_steps}
use Rattle.gl_std.specs.bodies.Blocks.{after_shapes, shape_in, HasTakenShapes, IsNumbered}
use Rattle.gl_std.specs.bodies.Judgements.{AreApart}
use Rattle.gl_std.specs.declared.faults.ReadFault.TheVariants.{Line}
use Rattle.std.proofs.lemmas.List.{get_or-map, length-map}
use Rattle.gl_std.proofs.NumberedLines.{failed_push, go_on_then, length_map_take, map_take_next, map_take_rest, taken_push}
use Rattle.gl_std.proofs.judge.Judge.take_lines.Goals as goal

pub take_numbered-requires : goal.take_numbered-requires
take_numbered-requires c =
    let so_far = c.loop-i.invariant in
    let shape = shape_in c.args.names.now c.index-lines-i.result in
    let within = c.loop-i-test.true in
    record {
      can = record { sound = so_far.sound; countable = omega (arith, within, so_far.line, c.requires.countable) };
      numbered = subst (IsNumbered c.args.names.now) (sym c.index-lines-i.is) (c.requires.numbered c.loop-i.i c.index-lines-i.result (omega (arith, within)));
      apart = subst AreApart (get_or-map (shape_in c.args.names.now) c.args.lines.now c.loop-i.i c.index-lines-i.result shape (omega (arith, within)) ∙ ap (shape_in c.args.names.now) (sym c.index-lines-i.is)) (c.requires.apart c.loop-i.i shape (omega (arith, within, length-map c.args.lines.now (shape_in c.args.names.now))));
      known = so_far.known;
    }

pub loop-i-preserved : goal.loop-i-preserved
loop-i-preserved c =
    let so_far = c.loop-i.invariant in
    let old = c.args.self.now in
    let says = shape_in c.args.names.now in
    let taken = c.in_ok-take_numbered.ensures in
    let within : c.loop-i.i < length c.args.lines.now = omega (arith, c.loop-i-test.true) in
    record {
      taken = λ told judged listed.
          subst (λ shapes. HasTakenShapes old.limits old.line told shapes c.take_numbered.new.self c.take_numbered.new.lists)
          (sym (map_take_next says c.args.lines.now c.loop-i.i c.index-lines-i.result within c.index-lines-i.is))
          (taken_push old.limits old.line told (map says (take c.loop-i.i c.args.lines.now)) (says c.index-lines-i.result) c.loop-i.self c.take_numbered.new.self c.loop-i.lists c.take_numbered.new.lists (old.line + c.loop-i.i)
          (so_far.taken told judged listed) (ap (λ n. old.line + n) (sym (length_map_take says c.args.lines.now c.loop-i.i (omega (arith, within))))) taken.tells so_far.limits so_far.line);
      known = taken.known;
      sound = taken.sound;
      limits = c.take_numbered.ensures.limits ∙ so_far.limits;
      grows = go_on_then old.names c.loop-i.self.names c.take_numbered.new.self.names so_far.grows taken.grows;
      line = omega (arith, taken.line, so_far.line);
    }

-- a line is at fault
pub returns-in_err-take_numbered-clause-fault : goal.returns-in_err-take_numbered-clause-fault
returns-in_err-take_numbered-clause-fault c = λ number kind is told judged listed.
    let so_far = c.loop-i.invariant in
    let old = c.args.self.now in
    let says = shape_in c.args.names.now in
    let failed : c.take_numbered.result ≡ Err (Line number kind) = let was = c.in_err-take_numbered.was in let of = c.from_residual.ensures in grind (arith, common_steps, was, of, is) in
    let taken = so_far.taken told judged listed in
    let within : c.loop-i.i < length c.args.lines.now = omega (arith, c.loop-i-test.true) in
    let rest = map_take_rest says c.args.lines.now c.loop-i.i c.index-lines-i.result within c.index-lines-i.is in
    ap (after_shapes old.limits old.line told) rest.1
    ∙ failed_push old.limits old.line told (map says (take c.loop-i.i c.args.lines.now)) rest.0 (says c.index-lines-i.result) c.loop-i.self c.loop-i.lists (Line number kind) taken so_far.limits
    (so_far.line ∙ ap (λ n. old.line + n) (sym (length_map_take says c.args.lines.now c.loop-i.i (omega (arith, within)))))
    (c.take_numbered.ensures.fault number kind failed taken.later taken.judged taken.listed)
