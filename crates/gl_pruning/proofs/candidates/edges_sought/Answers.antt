use Rattle.gl_pruning.proofs.candidates.edges_sought.Goals as goal

-- the edges are those of the list
pub returns-clause-alone : goal.returns-clause-alone
returns-clause-alone c = rw c.of.ensures.table at c.kept_edges.ensures.alone
