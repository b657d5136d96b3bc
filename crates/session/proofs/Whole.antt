-- Laws of the whole run: the room that it asks for, and what it writes, case by case.
use Prim.Native.Nat.{ℕ, zero, suc, ◌+◌, ◌-◌, ◌*◌, ◌<◌, ◌≤◌}
use mathlib.Core.Path.{◌≡◌, refl, sym, ◌∙◌, ap}
use mathlib.Core.Bool.{Bool, true, false, cond}
use mathlib.Core.List.{List, [], ◌∷◌, ◌++◌, append_assoc}
use native.Mathlib.Omega.{arith}
use Rattle.std.specs.Prelude.{Option, Some, None, Result, Ok, Err, IfSome, IsErrAnd, IsSome}
use lib.Dec.{eqb, ltb}
use lib.ListN.{length, take, drop, length-append, length-drop}
use lib.Seq.{sets, sets-eq, length-sets, length-take-le}
use borrow.Author.Tests.{lt-ltb, le-ltb, ltb-false, ne_eqb}
use Rattle.station.specs.declared.Station.{Station}
use Rattle.std.proofs.lemmas.Bool.{cond_both}
use Rattle.station.specs.declared.codes.Refusal.{Refusal}
use Rattle.station.specs.Codes.{refusal_code, code_of}
use Rattle.station.proofs.Tells.{refusal_above}
use Rattle.station.specs.Names.{ACCEPTED, BAD_COUNT}
use Rattle.station.specs.Stations.{count_ok}
use Rattle.table.specs.Table.{open_code, opened}
use Rattle.frames.specs.declared.Frame.{Frame}
use Rattle.frames.specs.declared.Frame.TheVariants as frame
use Rattle.frames.specs.Frames.{frame_at}
use Rattle.network.specs.Network.{opened_for, OpensNetwork}
use Rattle.network.specs.declared.Network.{Network}
use Rattle.session.specs.declared.TheConstants.{OUTPUT_MOST}
use Rattle.session.specs.declared.stops.Stop.{Stop}
use Rattle.session.specs.Session.{BAD_FRAME, TOO_LONG, INPUT_LIMIT, RefusedAs, Begins, counted, line_of, bad_line, count_of, lines_in, frames_from, session_lines, run_lines, room_for, written, Ran, LinesWritten}
use Rattle.session.proofs.Stores.{sets_next, line_length}
use Rattle.session.proofs.Steps.{lines_left}

-- ---- the room
pub room_least : (len : ℕ) → 9 ≤ room_for len
unfolding room_for lines_in
room_least zero = omega arith
room_least (suc m) =
    rw (ne_eqb (suc m) 0 (λ e. omega arith))
    (cond_both (ltb INPUT_LIMIT (suc m)) _ _ (λ (room : ℕ). 9 ≤ room) (λ _. omega arith) (λ _. omega arith))

pub room_line : (len room : ℕ) → room_for len ≤ room → 9 ≤ room
room_line len room h = omega (arith, room_least len)

pub room_lines : (len room : ℕ) → 1 ≤ len → len ≤ INPUT_LIMIT → room_for len ≤ room → 9 * lines_in len ≤ room
unfolding room_for
room_lines len room some short h =
    let e : room_for len ≡ lines_in len * 9 = rw (le-ltb _ _ short, ne_eqb len 0 (λ e. omega arith)) in
    omega arith

-- ---- what is written
counted_some : (n : ℕ) → 1 ≤ n → counted n ≡ Some n
counted_some zero h = absurd (omega arith)
counted_some (suc n) h = refl

module _ (s old : List ℕ) where
  pub no_room : length old < room_for (length s) → Ran s old old None
  unfolding written
  no_room h = record { count = rw (lt-ltb _ _ h); bytes = rw (lt-ltb _ _ h) }

  module _ (room : room_for (length s) ≤ length old) where
    all_written : written s (length old) ≡ run_lines s
    unfolding written
    all_written = rw (le-ltb _ _ room)

    -- a run of one line
    pub one_line :
        (code : ℕ) (out : List ℕ) →
        run_lines s ≡ line_of code 0 0 0 →
        out ≡ sets old 0 (line_of code 0 0 0) →
        Ran s old out (Some 9)
    one_line code out e stores =
        let line = line_of code 0 0 0 in
        let nine : 0 + length line ≡ 9 = omega (arith, line_length code 0 0 0) in
        record {
          count = rw (all_written, e, line_length code 0 0 0);
          bytes = stores ∙ sets-eq line old 0 (omega (arith, room_least (length s))) ∙ rw (all_written, e, nine, line_length code 0 0 0);
        }

    -- a run whose first line is followed by others
    pub more_lines :
        (code n r : ℕ) (t : List Station) (first out : List ℕ) →
        run_lines s ≡ line_of code 0 0 0 ++ lines_left s n (lines_in (length s)) t 1 →
        first ≡ sets old 0 (line_of code 0 0 0) →
        length out ≡ length first →
        LinesWritten s n t first out r →
        Ran s old out (Some r)
    more_lines code n r t first out e stores kept lines =
        let line = line_of code 0 0 0 in
        let others = lines_left s n (lines_in (length s)) t 1 in
        let nine : length line ≡ 9 = line_length code 0 0 0 in
        let size : length first ≡ length old = ap length stores ∙ length-sets old 0 line in
        let nine_of_first : length (take 9 first) ≡ 9 = length-take-le 9 first (omega (arith, room_least (length s))) in
        let sum = simp (length-append, length-drop) at (ap length lines.bytes) in
        let fits : 9 + length others ≤ length first = omega (arith, lines.count) in
        let both : 0 + length (line ++ others) ≡ r = omega (arith, length-append line others, lines.count) in
        let whole_length : length (line ++ others) ≡ r = omega arith in
        let behind : out ≡ sets first 9 others =
        lines.bytes
        ∙ sym (append_assoc (take 9 first) others (drop r first))
        ∙ rw lines.count (sym (sets-eq others first 9 fits)) in
        let whole : sets first 9 others ≡ sets old 0 (line ++ others) = rw stores (sets_next line others old 0 9 (omega arith)) in
        record {
          count = sym (counted_some r (omega (arith, lines.count))) ∙ rw (all_written, e, whole_length);
          bytes = behind ∙ whole ∙ sets-eq (line ++ others) old 0 (omega arith) ∙ rw (all_written, e, both, whole_length);
        }

-- ---- the lines, case by case
pub too_long : (s : List ℕ) → INPUT_LIMIT < length s → run_lines s ≡ line_of TOO_LONG 0 0 0
unfolding run_lines
too_long s h = rw (lt-ltb _ _ h)

within : (s : List ℕ) → length s ≤ INPUT_LIMIT → run_lines s ≡ session_lines (frames_from (lines_in (length s)) 0 s)
unfolding run_lines
within s h = rw (le-ltb _ _ h)

first_frame :
    (s : List ℕ) → 1 ≤ length s →
    frames_from (lines_in (length s)) 0 s ≡ frame_at s 0 ∷ frames_from (lines_in (length s) - 1) 1 s
unfolding frames_from lines_in
first_frame s h =
    let some : lines_in (length s) ≡ suc (lines_in (length s) - 1) = omega arith in
    ap (λ (left : ℕ). frames_from left 0 s) some

opens : (f : Option Frame) (n : ℕ) → count_of f ≡ Some n → f ≡ Some (frame.Open n)
opens (Some (frame.Open m)) n e = let same : m ≡ n = cc in rw same
opens (Some (frame.Move x)) n e = cc
opens None n e = cc

no_open : (f : Option Frame) (fs : List (Option Frame)) → count_of f ≡ None → session_lines (f ∷ fs) ≡ bad_line
unfolding session_lines
no_open (Some (frame.Open n)) fs e = cc
no_open (Some (frame.Move x)) fs e = refl
no_open None fs e = refl

pub not_opened :
    (s : List ℕ) → length s ≤ INPUT_LIMIT → count_of (frame_at s 0) ≡ None → run_lines s ≡ bad_line
unfolding session_lines frames_from lines_in
not_opened [] h other = within [] h
not_opened (x ∷ xs) h other =
    within (x ∷ xs) h
    ∙ ap session_lines (first_frame (x ∷ xs) (omega arith))
    ∙ no_open (frame_at (x ∷ xs) 0) (frames_from (lines_in (length (x ∷ xs)) - 1) 1 (x ∷ xs)) other

pub opening_some : (s : List ℕ) (n : ℕ) → count_of (frame_at s 0) ≡ Some n → 1 ≤ length s
unfolding frame_at
opening_some [] n e = cc
opening_some (x ∷ xs) n e = omega arith

module _ (s : List ℕ) (n : ℕ) (short : length s ≤ INPUT_LIMIT) (first : count_of (frame_at s 0) ≡ Some n) where
  abbrev others : List ℕ
  others = lines_left s n (lines_in (length s)) opened 1

  opening_lines : run_lines s ≡ cond (count_ok n) (line_of ACCEPTED 0 0 0 ++ others) (line_of BAD_COUNT 0 0 0)
  unfolding session_lines
  opening_lines = within s short ∙ rw (first_frame s (opening_some s n first), opens (frame_at s 0) n first)

  code_is : (r : Result Network Refusal) → OpensNetwork n r → code_of r ≡ cond (count_ok n) ACCEPTED BAD_COUNT
  unfolding opened_for open_code
  code_is r opens = opens.answers

  pub refused : (refusal : Refusal) → OpensNetwork n (Err refusal) → run_lines s ≡ line_of (refusal_code refusal) 0 0 0
  refused refusal opens = opening_lines ∙ go (count_ok n) (code_is (Err refusal) opens)
    where
      go : (ok : Bool) → refusal_code refusal ≡ cond ok ACCEPTED BAD_COUNT → cond ok (line_of ACCEPTED 0 0 0 ++ others) (line_of BAD_COUNT 0 0 0) ≡ line_of (refusal_code refusal) 0 0 0
      go true d = absurd (omega (arith, refusal_above refusal))
      go false d = rw d

  pub accepted : (new : Network) → OpensNetwork n (Ok new) → run_lines s ≡ line_of ACCEPTED 0 0 0 ++ lines_left s new.count (lines_in (length s)) new.table 1
  unfolding opened_for
  accepted new opens = rw (opens.leaves.0, opens.leaves.1) (opening_lines ∙ go (count_ok n) (code_is (Ok new) opens))
    where
      go : (ok : Bool) → ACCEPTED ≡ cond ok ACCEPTED BAD_COUNT → cond ok (line_of ACCEPTED 0 0 0 ++ others) (line_of BAD_COUNT 0 0 0) ≡ line_of ACCEPTED 0 0 0 ++ others
      go true d = refl
      go false d = absurd (omega arith)

-- a refused opening, as `?` hands it on
pub begun :
    (s : List ℕ) (n : ℕ) → length s ≤ INPUT_LIMIT → count_of (frame_at s 0) ≡ Some n →
    (r : Result Network Stop) (refusal : Refusal) → IsErrAnd r (RefusedAs refusal) → OpensNetwork n (Err refusal) → Begins s r
begun s n short first (Err stop) refusal h opens = rw h (refused s n short first refusal opens)
begun s n short first (Ok new) refusal h opens = absurd h

-- what a run writes lies in its output
pub written_fits : (s old out : List ℕ) (r : Option ℕ) → Ran s old out r → IfSome r (λ n. n ≤ length out)
written_fits s old out r ran = rw ran.count (go (length (written s (length old))) (omega (arith, simp length-append at (ap length ran.bytes))))
  where
    go : (n : ℕ) → n ≤ length out → IfSome (counted n) (λ m. m ≤ length out)
    go zero h = tt
    go (suc n) h = h

-- ---- a run into the most room, for callers that lend that much
room_most : (len : ℕ) → room_for len ≤ OUTPUT_MOST
unfolding room_for lines_in
room_most len =
    cond_both (ltb INPUT_LIMIT len) _ _ (λ (room : ℕ). room ≤ OUTPUT_MOST) (λ _. omega arith)
    (λ short. cond_both (eqb len 0) _ _ (λ (room : ℕ). room ≤ OUTPUT_MOST) (λ _. omega arith) (λ _. omega (arith, ltb-false INPUT_LIMIT len short)))

line_first : (code : ℕ) (others : List ℕ) → 1 ≤ length (line_of code 0 0 0 ++ others)
line_first code others = omega (arith, length-append (line_of code 0 0 0) others, line_length code 0 0 0)

line_alone : (code : ℕ) → 1 ≤ length (line_of code 0 0 0)
line_alone code = omega (arith, line_length code 0 0 0)

session_some : (fs : List (Option Frame)) → 1 ≤ length (session_lines fs)
unfolding session_lines
session_some [] = line_alone BAD_FRAME
session_some (Some (frame.Open n) ∷ fs) = cond_both (count_ok n) _ _ (λ (l : List ℕ). 1 ≤ length l) (λ _. line_first ACCEPTED _) (λ _. line_alone BAD_COUNT)
session_some (Some (frame.Move x) ∷ fs) = line_alone BAD_FRAME
session_some (None ∷ fs) = line_alone BAD_FRAME

run_some : (s : List ℕ) → 1 ≤ length (run_lines s)
unfolding run_lines
run_some s = cond_both (ltb INPUT_LIMIT (length s)) _ _ (λ (l : List ℕ). 1 ≤ length l) (λ _. line_alone TOO_LONG) (λ _. session_some _)

pub ran_some : (s old out : List ℕ) (r : Option ℕ) → Ran s old out r → OUTPUT_MOST ≤ length old → IsSome r
unfolding written
ran_some s old out r ran most =
    let fits : room_for (length s) ≤ length old = omega (arith, room_most (length s)) in
    let whole : written s (length old) ≡ run_lines s = rw (le-ltb _ _ fits) in
    let some : r ≡ Some (length (run_lines s)) = ran.count ∙ rw whole (counted_some _ (run_some s)) in
    rw some
