use Rattle.std.proofs.Common.{◌+◌, List, [], length, length-append, map, replicate, Vec, Global, ap, inr, arith}
use Rattle.std.proofs.lemmas.List.{length-map, length-replicate}
use Rattle.gl_event.specs.declared.events.Event.{Event}
use Rattle.gl_std.proofs.JudgedLines.{grown_more}
use Rattle.gl_std.proofs.lists.grow.Goals as goal

pub loop-alloc-preserved : goal.loop-alloc-preserved
loop-alloc-preserved c =
    let so_far = c.loop-alloc.invariant in
    let rows = λ (v : Vec Event Global). v.items in
    let none : List Event = [] in
    record {
      more = so_far.more + 1;
      grown = grown_more (λ es. es.items) c.loop-alloc.lists.items c.push.new.self.items c.new.result (map (λ es. es.items) c.args.lists.now.items) so_far.more _ c.in_ok-push.ensures.items c.new.ensures.items so_far.grown;
      few = inr (omega (arith, c.loop-alloc.lists.ok.0, c.args.lists.now.ok.0, c.len.ensures, c.loop-alloc-test.true, ap length so_far.grown, length-map c.loop-alloc.lists.items rows, length-map c.args.lists.now.items rows, length-append (map rows c.args.lists.now.items) (replicate so_far.more []), length-replicate so_far.more none));
    }
