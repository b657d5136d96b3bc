-- No line of a run has code 2 or 8: its tables are reached, and there the rules never answer so.
use mathlib.Core.Path.{◌≡◌, sym, ap, ◌∙◌}
use mathlib.Core.Logic.{◌≢◌}
use mathlib.Core.Bool.{true}
use mathlib.Core.List.{List, [], ◌∷◌, ◌++◌}
use Prim.Native.Nat.{ℕ, zero, suc, ◌*◌, ◌<◌}
use native.Mathlib.Omega.{arith}
use Rattle.std.specs.Prelude.{Option, Some, None}
use lib.Dec.{ltb}
use lib.ListN.{length}
use lib.Seq.{drop-nil}
use Rattle.station.specs.declared.Step.{Step}
use Rattle.station.specs.Names.{ACCEPTED, BAD_COUNT, NOT_WELL_FORMED, AT_ODDS}
use Rattle.station.specs.Stations.{count_ok}
use Rattle.std.proofs.lemmas.Bool.{cond_both}
use Rattle.table.specs.Table.{opened, answer, after}
use Rattle.table.proofs.Answers.{answer_byte}
use Rattle.frames.specs.declared.Frame.{Frame}
use Rattle.frames.specs.declared.Frame.TheVariants as frame
use Rattle.frames.specs.Frames.{pair_of}
use Rattle.frames.proofs.Back.{reads_back}
use Rattle.network.specs.Network.{stepped_by}
use Rattle.session.specs.Session.{BAD_FRAME, TOO_LONG, INPUT_LIMIT, pair_line, line_of, step_line, step_lines, session_lines, run_lines, lines_in, frames_from}
use Rattle.engines.specs.Engines.{ours, table_after, reached}
use Rattle.demands.specs.Bench.{code_of_line, NeverFromTheBench}
use Rattle.demands.proofs.Demand2.{demand_2}
use Rattle.engines.proofs.Lists.{after_append}

-- two bytes with the same two characters are one
same_byte : (v w : ℕ) → v < 256 → w < 256 → pair_line v ≡ pair_line w → v ≡ w
unfolding pair_line
same_byte v w a b e =
    let high : (pair_of v).high ≡ (pair_of w).high = cc in
    let low : (pair_of v).low ≡ (pair_of w).low = cc in
    let read : Some v ≡ Some w = sym (reads_back.byte_back v a) ∙ rw (high, low) (reads_back.byte_back w b) in
    cc

-- ---- line by line
abbrev Other : List ℕ → Type 0
Other pair = (pair ≢ pair_line NOT_WELL_FORMED) × (pair ≢ pair_line AT_ODDS)

abbrev Never : List ℕ → Type 0
Never bytes = (k : ℕ) → Other (code_of_line bytes k)

-- a code that a line may have
record Fair (code : ℕ) : Type 0 where
  byte : code < 256
  not_2 : code ≢ NOT_WELL_FORMED
  not_8 : code ≢ AT_ODDS

never_none : Never []
unfolding pair_line
never_none k = rw drop-nil (λ e. omega (arith, ap length e), λ e. omega (arith, ap length e))

never_line : (code place due held : ℕ) (rest : List ℕ) → Fair code → Never rest → Never (line_of code place due held ++ rest)
unfolding line_of pair_line
never_line code place due held rest f never zero = (λ e. f.not_2 (same_byte code 2 f.byte (omega arith) e), λ e. f.not_8 (same_byte code 8 f.byte (omega arith) e))
never_line code place due held rest f never (suc k) =
    let nine : 9 * suc k ≡ suc (suc (suc (suc (suc (suc (suc (suc (suc (9 * k))))))))) = omega arith in
    rw nine (never k)

never_alone : (code : ℕ) → Fair code → Never (line_of code 0 0 0)
unfolding line_of pair_line
never_alone code f = never_line code 0 0 0 [] f never_none

-- ---- the run
never_steps : (n : ℕ) → count_ok n ≡ true → (xs : List Step) (fs : List (Option Frame)) → Never (step_lines n (reached ours n xs) fs)
unfolding step_lines step_line stepped_by table_after
never_steps n ok xs [] = never_none
never_steps n ok xs (Some (frame.Move x) ∷ fs) =
    let t = reached ours n xs in
    let (two, eight) = (demand_2 n ok).never_2_or_8 xs x in
    let next : reached ours n (xs ++ (x ∷ [])) ≡ after n t x = after_append ours n opened xs (x ∷ []) in
    never_line (answer n t x) _ _ _ _ (record { byte = answer_byte n t x; not_2 = two; not_8 = eight }) (rw next at (never_steps n ok (xs ++ (x ∷ [])) fs))
never_steps n ok xs (Some (frame.Open m) ∷ fs) = never_alone BAD_FRAME (omega arith)
never_steps n ok xs (None ∷ fs) = never_alone BAD_FRAME (omega arith)

never_session : (fs : List (Option Frame)) → Never (session_lines fs)
unfolding session_lines table_after
never_session [] = never_alone BAD_FRAME (omega arith)
never_session (Some (frame.Open n) ∷ fs) =
    cond_both (count_ok n) _ _ Never (λ ok. never_line ACCEPTED 0 0 0 _ (omega arith) (never_steps n ok [] fs)) (λ _. never_alone BAD_COUNT (omega arith))
never_session (Some (frame.Move x) ∷ fs) = never_alone BAD_FRAME (omega arith)
never_session (None ∷ fs) = never_alone BAD_FRAME (omega arith)

pub never_from_the_bench : NeverFromTheBench
unfolding run_lines
never_from_the_bench s = cond_both (ltb INPUT_LIMIT (length s)) _ _ Never (λ _. never_alone TOO_LONG (omega arith)) (λ _. never_session (frames_from (lines_in (length s)) 0 s))
