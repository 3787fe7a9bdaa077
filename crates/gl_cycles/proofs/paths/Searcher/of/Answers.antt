use Rattle.gl_cycles.proofs.paths.Searcher.of.Goals as goal

-- what the search relies on
pub returns-clause-ready : goal.returns-clause-ready
returns-clause-ready c = record {
  fits = c.requires.fits;
  kept = c.requires.kept;
  indexed = rw c.deref.ensures.value at c.in_ok-index.ensures;
  limits = c.requires.limited;
}
