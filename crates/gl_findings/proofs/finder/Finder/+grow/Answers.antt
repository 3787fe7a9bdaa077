use Rattle.std.proofs.Common.{◌-◌, ◌∙◌, length, map, ap, arith, rules}
use Rattle.std.proofs.lemmas.List.{length-map}
use Rattle.std.proofs.lemmas.Result.{on_ok_weaker}
use Rattle.gl_segments.specs.Clocks.{is_before}
use Rattle.gl_findings.proofs.Below.{grown_room, finding_room}
use Rattle.gl_cycles.specs.Cycles.{cycles_in}
use Rattle.gl_findings.proofs.Prepared.{none_longer, nothing_more, begin, step, lower, whole}
use Rattle.gl_findings.proofs.Spanned.{spans_on}
use Rattle.gl_filters.specs.Picked.{edges_of_table}
use Rattle.gl_grounds.specs.Classes.{classes_of}
use Rattle.gl_findings.proofs.finder.Finder.+grow.Goals as goal

-- nothing goes on from the signature
pub grow-returns-then-not-branch-clause-grown : goal.grow-returns-then-not-branch-clause-grown
grow-returns-then-not-branch-clause-grown t c = c.in_ok-add_own.ensures.whole c.if-not-branch.true

pub grow-grow_on-requires : goal.grow-grow_on-requires
grow-grow_on-requires t c =
    let s = c.args.self.now in
    let signature = c.args.signature.now in
    let short = c.requires.short in
    let first = c.requires.within 0 0 (omega (arith, c.requires.some)) in
    let room = finding_room (is_before s.order.now) s.mode s.len s.table.now signature s.cap (map (λ cycle. cycle.items) c.args.found.now.items)
    (omega (arith, c.args.found.now.ok.0, c.len.ensures, length-map c.args.found.now.items (λ cycle. cycle.items))) in (
      search rules,
      (
        c.in_ok-add_own.ensures.short c.if-not-branch.false,
        (
          c.requires.within,
          (
            omega (arith, first),
            (
              (λ i below. lower s c.requires.ready (s.len - length signature - 1) signature i c.requires.some below),
              (c.requires.ready, (c.in_ok-reached.ensures.reached, omega (arith, room, ap length c.in_ok-add_own.ensures.own, length-map c.add_own.new.found.items (λ cycle. cycle.items)))),
            ),
          ),
        ),
      ),
    )

pub grow-returns-clause-grown : goal.grow-returns-clause-grown
grow-returns-clause-grown t c =
    let s = c.args.self.now in
    on_ok_weaker c.grow_on.result (λ grown. whole s c.requires.ready c.args.signature.now _ _ _ (c.in_ok-add_own.ensures.short c.if-not-branch.false) c.in_ok-add_own.ensures.own grown) c.grow_on.ensures.grown

-- before the first class
pub grow_on-loop-next-init : goal.grow_on-loop-next-init
grow_on-loop-next-init t c =
    let s = c.args.self.now in
    let n = s.len - length c.args.signature.now - 1 in
    let next = c.next_class-next.ensures in
    begin s c.requires.ready n c.args.signature.now c.args.from _ _
    (omega (arith, c.requires.room, length-map c.args.found.now.items (λ cycle. cycle.items))) next.within c.requires.none (λ i low below. next.none c.args.signature.now i c.requires.short c.requires.reached low below)

pub grow_on-grow_by-requires : goal.grow_on-grow_by-requires
grow_on-grow_by-requires t c =
    let s = c.args.self.now in
    let short = c.requires.short in
    let room = grown_room (is_before s.order.now) s.mode s.len s.table.now (s.len - length c.args.signature.now - 1) c.args.signature.now s.cap _ _ _ c.loop-next.invariant in
    let spans = spans_on s.mode (edges_of_table s.table.now) (classes_of s.table.now) s.among_models.ground.flags.now s.len c.args.signature.now c.loop-next.next c.args.reached.now c.in_ok-spans.spans c.requires.reached c.in_ok-spans.ensures.all c.in_ok-spans.ensures.has in (
      search rules,
      (short, (c.requires.within, (omega arith, (c.requires.ready, (spans, omega (arith, room, length-map c.loop-next.found.items (λ cycle. cycle.items))))))),
    )

pub grow_on-loop-next-smaller : goal.grow_on-loop-next-smaller
grow_on-loop-next-smaller t c = omega (arith, c.next_class-next-in-loop-next.ensures.from, c.next_class-next-in-loop-next.ensures.within)

-- one class more
pub grow_on-loop-next-preserved : goal.grow_on-loop-next-preserved
grow_on-loop-next-preserved t c =
    let s = c.args.self.now in
    let n = s.len - length c.args.signature.now - 1 in
    let next = c.next_class-next-in-loop-next.ensures in
    step s c.requires.ready n c.args.signature.now _ _ _ c.loop-next.next _ c.loop-next.invariant c.in_ok-grow_by.ensures.grown next.from next.within (λ j low below. next.none c.args.signature.now j c.requires.short c.requires.reached low below)

-- nothing goes on with the class
pub grow_by-returns-then-not-branch-clause-grown : goal.grow_by-returns-then-not-branch-clause-grown
grow_by-returns-then-not-branch-clause-grown t c =
    let s = c.args.self.now in
    nothing_more s c.requires.ready (cycles_in c.args.found.now.items) _ (omega (arith, c.requires.room, length-map c.args.found.now.items (λ cycle. cycle.items)))
    (none_longer s c.requires.ready c.args.signature.now _ c.args.class (c.as_slice.ensures.value ∙ c.longer-longer.ensures) (c.in_ok-may_grow.ensures.none c.if-not-branch.true))
