use Rattle.std.proofs.Common.{◌≡◌, ◌-◌, true, ◌&&◌, length, take, drop, sym, ap, ◌∙◌, arith}
use Rattle.std.specs.Str.{bytes_eq}
use Rattle.gl_bytes.proofs.Sameness.{by_two, last_piece, more_same, other_pieces}
use Rattle.gl_bytes.proofs.same.is_same.Goals as goal

pub returns-then-has_same : goal.returns-then-has_same
returns-then-has_same c =
    let one = c.args.one.now in
    let other = c.args.other.now in
    let first : bytes_eq (take 4 (drop 0 one)) (take 4 (drop 0 other)) ≡ true = sym c.has_same.ensures ∙ c.if-has_same.true in
    let second = bytes_eq (take 4 (drop (length one - 4) one)) (take 4 (drop (length one - 4) other)) in
    let long : length one ≡ length other = omega (arith, c.if-length-other.false) in
    c.has_same-then-has_same.ensures ∙ ap (λ v. v && second) (sym first) ∙ by_two one other 4 long (omega (arith, c.if-length-lt4.false)) (omega (arith, c.if-length-lt8.true))

pub returns-then-has_same-2 : goal.returns-then-has_same-2
returns-then-has_same-2 c =
    let one = c.args.one.now in
    let other = c.args.other.now in
    let first : bytes_eq (take 8 (drop 0 one)) (take 8 (drop 0 other)) ≡ true = sym c.has_same-then-length-lt-LANES.ensures ∙ c.if-has_same-2.true in
    let second = bytes_eq (take 8 (drop (length one - 8) one)) (take 8 (drop (length one - 8) other)) in
    let long : length one ≡ length other = omega (arith, c.if-length-other.false) in
    c.has_same-then-has_same-2.ensures ∙ ap (λ v. v && second) (sym first) ∙ by_two one other 8 long (omega (arith, c.if-length-lt8.false)) (omega (arith, c.if-length-lt-LANES.true))

pub returns-then-not-has_same : goal.returns-then-not-has_same
returns-then-not-has_same c = other_pieces c.args.one.now c.args.other.now c.loop-at.at 16 (sym c.has_same-in-loop-at.ensures ∙ c.if-not-has_same.true)

pub loop-at-preserved : goal.loop-at-preserved
loop-at-preserved c = (
  omega (arith, c.loop-at-test.true, c.loop-at.invariant.0),
  more_same c.args.one.now c.args.other.now c.loop-at.at 16 c.loop-at.invariant.1 (sym c.has_same-in-loop-at.ensures ∙ c.if-not-has_same.false),
)

pub returns : goal.returns
returns c =
    let one = c.args.one.now in
    let other = c.args.other.now in
    c.has_same-2.ensures ∙ last_piece one other c.loop-at.at 16 (omega (arith, c.if-length-other.false)) (omega (arith, c.if-length-lt-LANES.false)) (omega (arith, c.loop-at-test.false, c.loop-at.invariant.0)) c.loop-at.invariant.1
