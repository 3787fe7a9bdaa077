use Rattle.std.proofs.Common.{◌≡◌, rules}
use Rattle.std.proofs.lemmas.List.{take_all}
use Rattle.gl_segments.proofs.Ending.{padded_counts}
use Rattle.gl_segments.proofs.clock.Clock.from_front.Goals as goal

pub returns-clause-counts : goal.returns-clause-counts
returns-clause-counts c =
    let front = c.args.front.now in
    let copied : c.extend_from_slice.new.self.items ≡ front = search rules in
    λ thread. rw (c.in_ok-resize.ensures.items, copied, take_all c.args.threads front c.requires) (padded_counts front _ thread)
