-- 01, "Frames and the bench program": "Codes 2 and 8 can only be met through the library", said of the bytes that a run writes.
use Rattle.std.specs.Prelude.{◌≢◌, List, ℕ, ◌*◌, take, drop}
use Rattle.station.specs.Names.{NOT_WELL_FORMED, AT_ODDS}
use Rattle.session.specs.Session.{pair_line, run_lines}

-- the first two characters of line k of what a run writes, lines counted from 0: its code; none past the last line
abbrev pub code_of_line : List ℕ → ℕ → List ℕ
code_of_line written k = take 2 (drop (9 * k) written)

-- for any input, no line has code 2 or 8
abbrev pub NeverFromTheBench : Type 0
NeverFromTheBench =
    (input : List ℕ) (k : ℕ)
    → (code_of_line (run_lines input) k ≢ pair_line NOT_WELL_FORMED) × (code_of_line (run_lines input) k ≢ pair_line AT_ODDS)
