-- Sessions of one thread.
use Rattle.std.proofs.Common.{◌≡◌, ℕ, List, [], ◌∷◌, ◌++◌, length, Some, ap, ◌∙◌}
use Rattle.std.specs.Prelude.{slice_get}
use Rattle.gl_event.specs.Bounds.{Bounds}
use Rattle.gl_event.proofs.Depths.{slice_get_last}
use Rattle.gl_engine.specs.Collecting.{Collecting, IsOpened}
use Rattle.gl_engine.specs.Recording.{Recording}

module _ (session : ℕ) (limits : Bounds) (recorders : List Recording) (c : Collecting) (opened : IsOpened session limits recorders c) (rest : List Recording) (r : Recording) (last : recorders ≡ rest ++ r ∷ []) where
  here : slice_get recorders (length rest) ≡ Some r
  here = ap (λ rs. slice_get rs (length rest)) last ∙ slice_get_last rest r

  pub only_session : r.session ≡ session
  only_session = ap (λ (x : Recording). x.session) (opened.fresh (length rest) r here)

  pub only_limits : r.limits ≡ limits
  only_limits = ap (λ (x : Recording). x.limits) (opened.fresh (length rest) r here)
