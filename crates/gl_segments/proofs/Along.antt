-- The counts in the clocks that growths tell.
use Rattle.std.proofs.Common.{◌≡◌, ◌≢◌, ℕ, ◌<◌, ◌≤◌, ◌⊎◌, true, false, eqb, List, [], ap, ◌∙◌, inl, inr, arith}
use Rattle.std.specs.Prelude.{slice_index, slice_index_or}
use Rattle.std.proofs.lemmas.Bool.{cases_lt}
use Rattle.gl_segments.specs.declared.growths.Growth.{Growth}
use Rattle.gl_segments.specs.bodies.Histories.{count_at, count_along, clocks_along, tabulated}
use Rattle.gl_segments.proofs.Tabulating.{tabulated_at, tabulated_past}

module _ (own segments threads : ℕ) (first : List ℕ) (gs : List Growth) (index thread : ℕ) where
  clock_here : index < segments → slice_index_or (clocks_along own segments threads first gs) index [] ≡ tabulated threads (count_along own first gs index)
  unfolding clocks_along
  clock_here below = tabulated_at segments (λ i. tabulated threads (count_along own first gs i)) index [] below

  no_clock : segments ≤ index → slice_index_or (clocks_along own segments threads first gs) index [] ≡ []
  unfolding clocks_along
  no_clock past = tabulated_past segments (λ i. tabulated threads (count_along own first gs i)) index [] past

  -- within the clocks
  count_here : index < segments → thread < threads → slice_index (slice_index_or (clocks_along own segments threads first gs) index []) thread ≡ count_along own first gs index thread
  count_here below within = ap (λ c. slice_index c thread) (clock_here below) ∙ tabulated_at threads (count_along own first gs index) thread 0 within

  -- outside them
  pub count_outside : (segments ≤ index) ⊎ (threads ≤ thread) → slice_index (slice_index_or (clocks_along own segments threads first gs) index []) thread ≡ 0
  count_outside (inl past) = ap (λ c. slice_index c thread) (no_clock past)
  count_outside (inr past) =
      elim (cases_lt index segments) [
        | inl below ↦ ap (λ c. slice_index c thread) (clock_here below) ∙ tabulated_past threads (count_along own first gs index) thread 0 past
        | inr above ↦ ap (λ c. slice_index c thread) (no_clock above)
      ]

  -- of the thread itself
  pub count_own : index < segments → thread < threads → thread ≡ own → slice_index (slice_index_or (clocks_along own segments threads first gs) index []) thread ≡ index
  count_own below within same = let is : eqb thread own ≡ true = grind arith in count_here below within ∙ (rw is)

  -- of another thread
  pub count_of_other : index < segments → thread < threads → thread ≢ own → slice_index (slice_index_or (clocks_along own segments threads first gs) index []) thread ≡ count_at (slice_index first thread) gs index thread
  count_of_other below within other = let is : eqb thread own ≡ false = grind arith in count_here below within ∙ (rw is)
