use Rattle.std.proofs.Common.{length, map, ap, arith}
use Rattle.std.proofs.lemmas.Bool.{not-false}
use Rattle.std.proofs.lemmas.List.{length-map}
use Rattle.gl_segments.specs.Clocks.{is_before}
use Rattle.gl_findings.proofs.Below.{finding_room}
use Rattle.gl_findings.proofs.Prepared.{alone, full}
use Rattle.gl_findings.proofs.finder.Finder.add_own.Goals as goal

-- the signature may not be longer
pub returns-then-signature-self-clause-whole : goal.returns-then-signature-self-clause-whole
returns-then-signature-self-clause-whole c = λ no.
    alone c.args.self.now c.requires.ready c.args.signature.now _ _
    (omega (arith, c.requires.room, length-map c.args.found.now.items (λ cycle. cycle.items))) (omega arith) c.in_ok-add_shown.ensures.grown

-- no cycle's signature goes on from it
pub returns-clause-whole : goal.returns-clause-whole
returns-clause-whole c = λ no.
    let s = c.args.self.now in
    let signature = c.args.signature.now in
    let short = c.requires.short in
    let room = finding_room (is_before s.order.now) s.mode s.len s.table.now signature s.cap (map (λ cycle. cycle.items) c.args.found.now.items)
    (omega (arith, c.requires.room, length-map c.args.found.now.items (λ cycle. cycle.items))) in
    full s c.requires.ready signature _ _ (omega (arith, short, c.if-signature-self.false)) (omega (arith, room, ap length c.in_ok-add_shown.ensures.grown)) (c.is_full.ensures (not-false _ no)) c.in_ok-add_shown.ensures.grown
