-- The runs of specs/ShortRuns.antt: the first two by computation, the long one by induction on its rounds.
use mathlib.Core.Path.{◌≡◌, refl, ap, ◌∙◌}
use mathlib.Core.Bool.{true, false}
use mathlib.Core.List.{List, [], ◌++◌}
use Prim.Native.Nat.{ℕ, zero, suc, ◌+◌, ◌≤◌}
use native.Mathlib.Omega.{arith}
use borrow.Author.Tests.{eq-eqb}
use Rattle.station.specs.declared.Station.{Station}
use Rattle.station.specs.declared.Step.TheVariants.{Ask}
use Rattle.station.specs.Names.{LAST_NUMBER, NO_NUMBER_LEFT}
use Rattle.table.specs.Table.{answer}
use Rattle.engines.specs.Engines.{ours, table_after, entries}
use Rattle.runs.specs.ShortRuns.{BoundMet, untaken, lap, laps, Repeats, round, rounds, NumbersEnd}
use Rattle.engines.proofs.Computed.{computed}
use Rattle.engines.proofs.Lists.{after_append, entries_append}
use Rattle.runs.proofs.Rounds.{rest, round_leaves}

pub bound_met : BoundMet
unfolding computed
bound_met = record { taken = refl; waits = refl; enters = refl }

lap_unchanged : table_after ours 2 untaken lap ≡ untaken
unfolding computed
lap_unchanged = refl

lap_enters : entries ours 2 1 untaken lap ≡ 1
unfolding computed
lap_enters = refl

unchanged : (k : ℕ) → table_after ours 2 untaken (laps k) ≡ untaken
unfolding laps table_after
unchanged zero = refl
unchanged (suc k) =
    after_append ours 2 untaken lap (laps k) ∙ (ap (λ (t : List Station). table_after ours 2 t (laps k)) lap_unchanged ∙ unchanged k)

enters : (k : ℕ) → entries ours 2 1 untaken (laps k) ≡ k
unfolding laps entries
enters zero = refl
enters (suc k) =
    omega (arith, entries_append ours 2 1 untaken lap (laps k), lap_enters, ap (λ (t : List Station). entries ours 2 1 t (laps k)) lap_unchanged, enters k)

pub repeats : Repeats
unfolding computed
repeats = record { number = refl; request = refl; accepted = refl; unchanged = unchanged; enters = enters }

abbrev asks : List Station → ℕ
asks t = answer 2 t (Ask 2)

spent : (a m b : ℕ) → m ≡ 65534 → asks (table_after ours 2 (rest true a m b (m + 1)) []) ≡ NO_NUMBER_LEFT
unfolding computed
spent a m b e = rw (eq-eqb (m + 1) LAST_NUMBER (omega arith))

end : (k a m b h : ℕ) → m + (k + k) ≡ 65534 → h ≤ m → asks (table_after ours 2 (rest true a m b h) (rounds k)) ≡ NO_NUMBER_LEFT
unfolding rounds
end zero a m b h e l = ap asks (round_leaves a m b h (omega arith) l true []) ∙ spent (m + 1) m b (omega arith)
end (suc k) a m b h e l =
    ap asks (round_leaves a m b h (omega arith) l true (round 2 1 ++ rounds k))
    ∙ ap asks (round_leaves b (m + 1) (m + 1) m (omega arith) (omega arith) false (rounds k))
    ∙ end k (m + 1) (m + 1 + 1) (m + 1 + 1) (m + 1) (omega arith) (omega arith)

pub numbers_end : NumbersEnd
numbers_end = end 32767 0 0 0 0 refl (omega arith)
