use Rattle.gl_findings.proofs.ListingsAgree.{listings_agree}
use Rattle.gl_findings.proofs.laws.listings_are_unique.Goals as goal

pub returns : goal.returns
returns c = listings_agree
