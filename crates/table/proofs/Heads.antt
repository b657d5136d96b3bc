-- The form of a head, as bounds on its numbers that its place sets.
use mathlib.Core.Path.{◌≡◌}
use mathlib.Core.Bool.{Bool, true, cond, ◌&&◌, ◌||◌}
use Prim.Native.Nat.{ℕ, ◌-◌, ◌≤◌}
use native.Mathlib.Omega.{arith}
use lib.Dec.{eqb, leb}
use Rattle.std.proofs.lemmas.Bool.Decides.{nat_tests}
use Rattle.station.specs.declared.Head.{Head}
use Rattle.station.specs.Names.{SENDING, WAITING, HOLDING, GIVING}
use Rattle.station.specs.Stations.{is_station, is_asking}
use Rattle.form.specs.Form.{next_ok, due_ok, own_ok, head_ok}

-- where p goes from peer to peer, where answers can be due, and where the station is asking
abbrev looping : ℕ → Bool
looping place = eqb place SENDING || eqb place GIVING

abbrev expecting : ℕ → Bool
expecting place = eqb place SENDING || eqb place WAITING

abbrev asking : ℕ → Bool
asking place = leb SENDING place && leb place HOLDING

abbrev most_next : ℕ → ℕ → ℕ
most_next n place = cond (looping place) n 1

abbrev most_due : ℕ → ℕ → ℕ
most_due n place = cond (expecting place) (n - 1) 0

abbrev least_own : ℕ → ℕ
least_own place = cond (asking place) 1 0

pub record Stands (n place next due own : ℕ) : Type 0 where
  pub place_high : place ≤ GIVING
  pub next_low : 1 ≤ next
  pub next_high : next ≤ most_next n place
  pub due_high : due ≤ most_due n place
  pub own_low : least_own place ≤ own

-- ---- the whole head
pub stands : (n : ℕ) (h : Head) → head_ok n h ≡ true → Stands n h.place h.next h.due h.own
unfolding head_ok next_ok due_ok own_ok is_asking is_station
stands n h e = grind (arith, nat_tests)

pub formed : (n : ℕ) (h : Head) → 2 ≤ n → Stands n h.place h.next h.due h.own → head_ok n h ≡ true
unfolding head_ok next_ok due_ok own_ok is_asking is_station
formed n h low s = grind (arith, nat_tests)
