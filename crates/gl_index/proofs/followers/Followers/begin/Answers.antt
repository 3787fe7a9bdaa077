use Rattle.std.proofs.lemmas.Option.{slice_get_read}
use Rattle.gl_index.proofs.followers.Followers.begin.Goals as goal

pub returns : goal.returns
returns c = λ edges kept e is at. is.begins c.args.i e c.index.result.now at (slice_get_read c.args.self.now.first.items _ c.args.i _ c.args.self.now.first.ok.0 c.requires c.index.ensures)
