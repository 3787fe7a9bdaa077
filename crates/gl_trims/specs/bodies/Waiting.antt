-- Which positions wait to be looked at.
use Rattle.std.specs.Prelude.{◌≡◌, ◌+◌, ◌-◌, ◌<◌, ◌||◌, ℕ, Bool, true, false, nat_le}
use Rattle.std.specs.BTreeSet.{contains, btree_set_len}
use Rattle.std.specs.Ordering.{nat_cmp}
use Rattle.gl_trims.specs.declared.waiting.Waiting.{Waiting}

-- the position waits: once more, or as all do that weren't looked at yet
abbrev pub waits : Waiting → ℕ → Bool
waits w i = contains nat_cmp w.again i || nat_le w.next i

-- those that wait once more were looked at
abbrev pub AreEarlier : Waiting → Type 0
AreEarlier w = (i : ℕ) → contains nat_cmp w.again i ≡ true → i < w.next

-- of the positions below the end, this is the first one that waits
pub record IsFirstWaiting (end : ℕ) (w : Waiting) (i : ℕ) : Type 0 where
  pub within : i < end
  pub it_waits : waits w i ≡ true
  pub none_before : (j : ℕ) → j < i → waits w j ≡ false

-- how many of the positions below the end wait, at most
abbrev pub still_waiting : ℕ → Waiting → ℕ
still_waiting end w = btree_set_len w.again + (end - w.next)
