use Rattle.std.proofs.Common.{Ok, Err, sym, ap, subst, ◌∙◌}
use Rattle.gl_std.specs.Trace.{trace_of}
use Rattle.gl_std.specs.bodies.Taking.{TakesLast}
use Rattle.gl_std.specs.declared.faults.ReadFault.TheVariants.{Line}
use Rattle.gl_std.proofs.from_source.finish.Goals as goal

-- the last line, or none
pub returns-in-Ok : goal.returns-in-Ok
returns-in-Ok c = record {
  heard = λ now failed limits turns start text told ended same.
      let taken = c.in-Ok.ensures.takes in
      record {
        text = text;
        read = ended.0;
        trace =
            ap (λ l. trace_of l text) (sym ended.1) ∙ taken.trace text told ended.2
            ∙ ap (λ t. Ok t) (sym (c.of.ensures _ (rw c.into_judge.ensures (taken.has_judged text told ended.2)) (rw c.names.ensures at (c.in_ok-add-in-Ok.ensures told (sym same)))));
      };
}

-- it is at fault
pub returns-in-Err-Line : goal.returns-in-Err-Line
returns-in-Err-Line c = record {
  heard = λ now failed limits turns start text told ended same.
      record {
        text = text;
        read = ended.0;
        trace =
            ap (λ l. trace_of l text) (sym ended.1)
            ∙ subst (λ fault. TakesLast c.args.reader c.last.new.self (Err fault)) c.in-Err-Line.field-0-is c.in-Err-Line.ensures.takes text told ended.2
            ∙ sym (λ i. Err (Line (c.in-Err-Line.line-is i) (c.in-Err-Line.kind-is i)));
      };
}
