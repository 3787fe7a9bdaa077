use Rattle.std.proofs.Common.{length, ap, ◌∙◌, arith}
use Rattle.std.specs.Result.{is_ok}
use Rattle.gl_std.proofs.NumberedLines.{known_grown}
use Rattle.gl_std.proofs.names.known.Known.make_room.Goals as goal

-- those that get a place weren't looked up
pub returns : goal.returns
returns c = λ names are.
    let block = c.args.block.now in
    let old = c.args.self.now in
    let count1 = c.len.ensures.len ∙ ap (λ b. length b.threads) c.block.view_is in
    let count2 = c.len-2.ensures.len ∙ ap (λ b. length b.locks) c.block.view_is in
    let count3 = c.len-3.ensures.len ∙ ap (λ b. length b.locs) c.block.view_is in
    let all1 = c.in_ok-resize.ensures.len ∙ count1 in
    let all2 = c.in_ok-resize-2.ensures.len ∙ count2 in
    let all3 = c.in_ok-resize-3.ensures.len ∙ count3 in
    record {
      so_far = record {
        threads = known_grown block.threads names.threads old.threads.items c.resize.new.self.items
            (λ k d low. c.resize.ensures.by_index.0 k d (omega (arith, low, are.some_threads, count1)) (omega (arith, low)))
            (λ k d high within. c.resize.ensures.by_index.1 k d (ap is_ok c.in_ok-resize.was) (omega (arith, high)) (omega (arith, within, c.in_ok-resize.ensures.len)))
            are.threads;
        locks = known_grown block.locks names.locks old.locks.items c.resize-2.new.self.items
            (λ k d low. c.resize-2.ensures.by_index.0 k d (omega (arith, low, are.some_locks, count2)) (omega (arith, low)))
            (λ k d high within. c.resize-2.ensures.by_index.1 k d (ap is_ok c.in_ok-resize-2.was) (omega (arith, high)) (omega (arith, within, c.in_ok-resize-2.ensures.len)))
            are.locks;
        locs = known_grown block.locs names.locs old.locs.items c.resize-3.new.self.items
            (λ k d low. c.resize-3.ensures.by_index.0 k d (omega (arith, low, are.some_locs, count3)) (omega (arith, low)))
            (λ k d high within. c.resize-3.ensures.by_index.1 k d (ap is_ok c.in_ok-resize-3.was) (omega (arith, high)) (omega (arith, within, c.in_ok-resize-3.ensures.len)))
            are.locs;
        some_threads = omega (arith, all1);
        some_locks = omega (arith, all2);
        some_locs = omega (arith, all3);
      };
      all_threads = all1;
      all_locks = all2;
      all_locs = all3;
    }
