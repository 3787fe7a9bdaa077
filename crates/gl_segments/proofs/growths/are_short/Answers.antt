use Rattle.std.proofs.Common.{rules}
use Rattle.std.proofs.lemmas.Iterator.{YieldsList-from_slice}
use Rattle.std.proofs.lemmas.Iterator.Search.{all_from_yields_List}
use borrow.Author.Tests.{tests}
use Rattle.gl_segments.specs.bodies.Growths.{is_short}
use Rattle.gl_segments.proofs.growths.are_short.Goals as goal

pub returns : goal.returns
returns c = all_from_yields_List is_short _ _ _ c.all.ensures.ran (YieldsList-from_slice c.args.growths.now cc) (λ x b q k. search (rules, tests))
