use Rattle.std.proofs.Common.{◌+◌, ◌-◌, ◌≤◌, length, arith}
use Rattle.gl_bytes.proofs.Nearby.{joined, run_passes, run_stops}
use Rattle.gl_bytes.proofs.near.find_from.Goals as goal

pub returns-then-run-lt-LANES : goal.returns-then-run-lt-LANES
returns-then-run-lt-LANES c =
    let text = c.args.text.now in
    let byte = c.args.byte in
    let run = c.run_before-run.result in
    let room : c.loop-at.at + 16 ≤ length text = omega (arith, c.if-length-at-ge-LANES.true, c.loop-at.invariant.1) in (
      record {
        low = omega (arith, c.loop-at.invariant.0);
        high = omega (arith, room, c.if-run-lt-LANES.true);
        before = joined c.loop-at.invariant.2 (run_passes byte text c.loop-at.at run room c.run_before-run.ensures);
      },
      run_stops byte text c.loop-at.at run room c.run_before-run.ensures c.if-run-lt-LANES.true,
    )

pub loop-at-preserved : goal.loop-at-preserved
loop-at-preserved c =
    let text = c.args.text.now in
    let at = c.loop-at.at in
    let room : at + 16 ≤ length text = omega (arith, c.if-length-at-ge-LANES.true, c.loop-at.invariant.1) in
    let passed = run_passes c.args.byte text at c.run_before-run.result room c.run_before-run.ensures in (
      omega (arith, c.loop-at.invariant.0),
      room,
      joined c.loop-at.invariant.2 (λ k low high. passed k low (omega (arith, c.if-run-lt-LANES.false))),
    )

pub returns-then-run-lt-LANES-2 : goal.returns-then-run-lt-LANES-2
returns-then-run-lt-LANES-2 c =
    let text = c.args.text.now in
    let byte = c.args.byte in
    let last = length text - 16 in
    let run = c.run_before-run-2.result in
    let room : last + 16 ≤ length text = omega (arith, c.if-length-from-lt-LANES.false) in
    let passed = run_passes byte text last run room c.run_before-run-2.ensures in
    let near : last ≤ c.loop-at.at = omega (arith, c.if-length-at-ge-LANES-2.false, c.loop-at.invariant.1) in (
      record {
        low = omega (arith, c.if-length-from-lt-LANES.false, c.requires);
        high = omega (arith, room, c.if-run-lt-LANES-2.true);
        before = joined c.loop-at.invariant.2 (λ k low high. passed k (omega (arith, near)) high);
      },
      run_stops byte text last run room c.run_before-run-2.ensures c.if-run-lt-LANES-2.true,
    )

pub returns-else-run-lt-LANES-2 : goal.returns-else-run-lt-LANES-2
returns-else-run-lt-LANES-2 c =
    let text = c.args.text.now in
    let last = length text - 16 in
    let run = c.run_before-run-2.result in
    let room : last + 16 ≤ length text = omega (arith, c.if-length-from-lt-LANES.false) in
    let passed = run_passes c.args.byte text last run room c.run_before-run-2.ensures in
    let near : last ≤ c.loop-at.at = omega (arith, c.if-length-at-ge-LANES-2.false, c.loop-at.invariant.1) in
    joined c.loop-at.invariant.2 (λ k low high. passed k (omega (arith, near)) (omega (arith, room, c.if-run-lt-LANES-2.false)))
