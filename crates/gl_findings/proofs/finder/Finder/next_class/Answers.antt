use Rattle.gl_grounds.specs.Spanning.{span_of}
use Rattle.gl_findings.proofs.Prepared.{next_at, skipped}
use Rattle.gl_findings.proofs.Spanned.{none_on}
use Rattle.gl_findings.proofs.finder.Finder.next_class.Goals as goal

-- nothing is known of the spans
pub returns-then-not-reached-clause-none : goal.returns-then-not-reached-clause-none
returns-then-not-reached-clause-none c = λ front i short reached low below.
    let s = c.args.self.now in
    skipped s c.requires.ready _ front c.args.from _ i (next_at s c.requires.ready c.args.from c.requires.within) low below

-- no chain has a span of one of these classes
pub returns-clause-none : goal.returns-clause-none
returns-clause-none c = λ front i short reached low below.
    let s = c.args.self.now in
    none_on s c.requires.ready front i short (λ a b e f chain due. c.next_class.ensures.skipped (span_of a b e f i) (reached.each c.if-not-reached.false i a b e f chain due) low below)
