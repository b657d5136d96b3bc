-- A step keeps the form of a table, and an opened table has it.
use mathlib.Core.Path.{◌≡◌, refl}
use mathlib.Core.Bool.{true}
use mathlib.Core.List.{List}
use Prim.Native.Nat.{ℕ, ◌<◌}
use native.Mathlib.Omega.{arith}
use lib.Dec.{leb}
use lib.ListN.{length}
use Rattle.std.proofs.lemmas.Bool.{cond_both}
use Rattle.station.specs.declared.Station.{Station}
use Rattle.station.specs.declared.Step.{Step}
use Rattle.station.specs.Names.{STATIONS}
use Rattle.station.specs.Stations.{count_ok, index_of}
use Rattle.station.proofs.Laws.{count_range}
use Rattle.form.specs.Form.{new_cells, new_station, new_head, record_ok}
use Rattle.walks.proofs.Along.{scan_all}
use Rattle.form.proofs.Scans.{cells_scan}
use Rattle.table.proofs.Heads.{formed}
use Rattle.table.proofs.Wires.{new_ok}
use Rattle.table.specs.Table.{head_in, cells_in, opened, records_ok, sized, well_formed, seat, peer_seat, outcome_in, after}
use Rattle.table.specs.Kept.{FormKept}
use Rattle.table.proofs.Answers.{formed_size, formed_length, formed_records, done, passed, after_length}
use Rattle.table.proofs.Fits.{front_ok, outcome_fits}
use Rattle.table.proofs.Records.{records_scan, head_ok_in, cells_ok_in, landed_in}

module _ (n : ℕ) (t : List Station) (x : Step) (form : well_formed n t ≡ true) where
  inside : (s : ℕ) → index_of s < length t
  unfolding index_of
  inside s = omega (arith, formed_length n t form)

  records : records_ok n 1 (done n t x) ≡ true
  records =
      let i = seat x in
      let j = peer_seat t x in
      let all = formed_records n t form in
      landed_in n t i j (outcome_in n t x) all (inside _) (inside _) (outcome_fits n x (head_in t i) (cells_in t i j) (cells_in t j i) (record {
        head = head_ok_in n t all i (inside _);
        mine = cells_ok_in n t all i (inside _) j;
        theirs = cells_ok_in n t all j (inside _) i;
      }))

  stepped : well_formed n (after n t x) ≡ true
  unfolding well_formed
  stepped = rw (after_length n t x, formed_size n t form, ← (passed n t x form).1, records)

-- ---- what opening writes
new_front : (n s : ℕ) → count_ok n ≡ true → front_ok n s new_station.head ≡ true
unfolding new_head
new_front n s ok = cond_both (leb s n) _ _ (λ b. b ≡ true) (λ _. formed n new_station.head (count_range n ok).0 (omega arith)) (λ _. refl)

opened_formed : (n : ℕ) → count_ok n ≡ true → well_formed n opened ≡ true
unfolding well_formed sized record_ok
opened_formed n ok =
    rw (
      ok,
      scan_all (records_scan n) STATIONS 1 new_station (λ s.
          rw (new_front n s ok, scan_all (cells_scan n s) STATIONS 1 new_cells (new_ok n s))),
    )

pub form_kept : FormKept
form_kept = record { opened = opened_formed; stepped = stepped }
