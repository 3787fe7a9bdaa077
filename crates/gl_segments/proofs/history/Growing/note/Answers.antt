use Rattle.std.proofs.Common.{◌≡◌, ◌<◌, length, refl, ap, ◌∙◌, inr, Some, arith}
use Rattle.std.specs.Prelude.{slice_get}
use Rattle.std.proofs.lemmas.List.{length-set}
use Rattle.std.proofs.lemmas.Option.{slice_get_read}
use Rattle.gl_segments.proofs.Noting.{counted_more, either_more, latest_is}
use Rattle.gl_segments.proofs.history.Growing.note.Goals as goal

pub loop-link-init : goal.loop-link-init
loop-link-init c = record {
  same_thread = refl;
  same_segments = refl;
  width = let w = c.requires.width in omega arith;
  counted = λ k x below. absurd (omega arith);
  either = λ thread. inr refl;
  noted = λ clocks some noted. noted;
}

pub note_count-requires : goal.note_count-requires
note_count-requires c =
    let here : slice_get c.args.found.now c.loop-link.link-index ≡ Some c.link-item.result = slice_get_read c.args.found.now _ c.loop-link.link-index c.link-item.result refl c.loop-link-test.true c.link-item.is in
    let within = c.requires.among c.loop-link.link-index c.link-item.result here in
    let width = c.loop-link.invariant.width in
    omega arith

pub loop-link-preserved : goal.loop-link-preserved
loop-link-preserved c =
    let inv = c.loop-link.invariant in
    let set = c.in_ok-note_count.ensures.latest in
    let latest = c.loop-link.self.latest in
    let clock = c.args.clock.now in
    let link = c.link-item.result in
    let here : slice_get c.args.found.now c.loop-link.link-index ≡ Some link = slice_get_read c.args.found.now _ c.loop-link.link-index link refl c.loop-link-test.true c.link-item.is in
    let among = c.requires.among c.loop-link.link-index link here in
    let within : link.segment.thread < length latest = let width = inv.width in omega arith in
    record {
      same_thread = c.in_ok-note_count.ensures.still.thread ∙ inv.same_thread;
      same_segments = c.in_ok-note_count.ensures.still.segments ∙ inv.same_segments;
      width = ap length set ∙ length-set latest link.segment.thread c.ahead.result ∙ inv.width;
      counted = rw (set, c.ahead.ensures) (counted_more c.args.found.now latest clock c.loop-link.link-index link here within inv.counted);
      either = rw (set, c.ahead.ensures) (either_more c.args.self.now.latest latest clock link.segment.thread within inv.either);
      noted = λ clocks some noted. c.in_ok-note_count.ensures.noted clocks some (inv.noted clocks some noted);
    }

pub returns-clause-latest : goal.returns-clause-latest
returns-clause-latest c =
    let inv = c.loop-link.invariant in
    latest_is c.args.self.now.latest c.loop-link.self.latest c.args.clock.now c.args.found.now c.loop-link.link-index (omega arith) inv.width c.requires.grown inv.counted inv.either
