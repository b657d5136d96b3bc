-- Laws of the lines behind the first: what is left of them at each pass of the loop, and what is written when it ends.
use Prim.Native.Nat.{ℕ, zero, suc, ◌+◌, ◌-◌, ◌*◌, ◌<◌, ◌≤◌}
use mathlib.Core.Path.{◌≡◌, refl, ◌∙◌, ap}
use mathlib.Core.List.{List, [], ◌∷◌, ◌++◌, append_assoc}
use native.Mathlib.Omega.{arith}
use Rattle.std.specs.Prelude.{Option, Some, None, IfSome}
use Rattle.std.specs.Option.{unwrap_or}
use lib.Dec.{eqb}
use lib.ListN.{length, take, length-append}
use lib.Seq.{sets, sets-eq, length-sets}
use Rattle.station.specs.declared.Station.{Station}
use Rattle.station.specs.declared.Step.{Step}
use Rattle.std.proofs.lemmas.Bool.{cond_both}
use Rattle.station.specs.Names.{HOLDING}
use Rattle.table.specs.Table.{after, holder_from, holder, in_holding}
use Rattle.table.proofs.Answers.{after_length}
use Rattle.frames.specs.declared.Frame.{Frame}
use Rattle.frames.specs.declared.Frame.TheVariants as frame
use Rattle.frames.specs.Frames.{frame_at}
use Rattle.station.specs.Codes.{code_of}
use Rattle.network.specs.declared.Network.{Network}
use Rattle.network.specs.declared.Stepped.{Stepped}
use Rattle.network.specs.Network.{stepped_by, StepsNetwork}
use Rattle.session.specs.declared.lines.Line.{Line}
use Rattle.session.specs.Session.{step_of, shown_of, line_of, step_line, bad_line, lines_in, frames_from, step_lines, LinesWritten}
use Rattle.session.proofs.Stores.{sets_next, line_length}

-- ---- the station in Holding, as a line has it
holder_most : (s : ℕ) (t : List Station) → holder_from s t ≤ s + length t
unfolding holder_from
holder_most s [] = omega arith
holder_most s (r ∷ rs) =
    let later = holder_most (s + 1) rs in
    cond_both (eqb r.head.place HOLDING) _ _ (λ (h : ℕ). h ≤ s + suc (length rs)) (λ _. omega arith) (λ _. omega arith)

pub holder_byte :
    (was : Network) (x : Step) (stepped : Stepped) (now : Network) →
    length was.table ≡ 32 →
    StepsNetwork was x stepped now →
    IfSome stepped.holder (λ s. s < 256)
unfolding stepped_by
holder_byte was x stepped now e steps =
    let t = after was.count was.table x in
    rw steps.holder (go (holder t) (omega (arith, holder_most 1 t, after_length was.count was.table x)))
  where
    go : (h : ℕ) → h < 256 → IfSome (in_holding h) (λ s. s < 256)
    go zero l = tt
    go (suc s) l = l

held_back : (h : ℕ) → unwrap_or (in_holding h) 0 ≡ h
held_back zero = refl
held_back (suc s) = refl

-- ---- the lines that are left
-- those from line k on, of a run over `total` lines whose table is then t
abbrev pub lines_left : List ℕ → ℕ → ℕ → List Station → ℕ → List ℕ
lines_left s n total t k = step_lines n t (frames_from (total - k) k s)

-- what holds at the head of the loop: storing the lines that are left behind those that are written gives the whole
pub record Going (s : List ℕ) (n : ℕ) (first : List Station) (old : List ℕ) (total : ℕ) (out : List ℕ) (t : List Station) (k : ℕ) : Type 0 where
  pub low : 1 ≤ k
  pub high : k ≤ total
  pub size : length out ≡ length old
  pub stations : length t ≡ 32
  pub count : 9 * k + length (lines_left s n total t k) ≡ 9 + length (lines_left s n total first 1)
  pub bytes : sets out (9 * k) (lines_left s n total t k) ≡ sets old 9 (lines_left s n total first 1)

moves : (f : Option Frame) (x : Step) → step_of f ≡ Some x → f ≡ Some (frame.Move x)
moves (Some (frame.Open m)) x e = cc
moves (Some (frame.Move y)) x e = let same : y ≡ x = cc in rw same
moves None x e = cc

no_step : (n : ℕ) (t : List Station) (f : Option Frame) (fs : List (Option Frame)) → step_of f ≡ None → step_lines n t (f ∷ fs) ≡ bad_line
unfolding step_lines
no_step n t (Some (frame.Open m)) fs e = refl
no_step n t (Some (frame.Move x)) fs e = cc
no_step n t None fs e = refl

module _ (s : List ℕ) (n total k : ℕ) (t : List Station) (more : k < total) where
  one_more : total - k ≡ suc (total - (k + 1))
  one_more = omega arith

  left_move :
      (x : Step) → step_of (frame_at s (7 * k)) ≡ Some x →
      lines_left s n total t k ≡ step_line (stepped_by t n x) ++ lines_left s n total (after n t x) (k + 1)
  unfolding frames_from step_lines
  left_move x e = rw (one_more, moves (frame_at s (7 * k)) x e)

  left_bad : step_of (frame_at s (7 * k)) ≡ None → lines_left s n total t k ≡ bad_line
  unfolding frames_from
  left_bad h = rw one_more (no_step n t (frame_at s (7 * k)) (frames_from (total - (k + 1)) (k + 1) s) h)

-- the whole, once it is stored
stored :
    (s : List ℕ) (n : ℕ) (first : List Station) (old : List ℕ) (total : ℕ) (out : List ℕ) (r : ℕ) →
    total ≡ lines_in (length s) →
    r ≡ 9 + length (lines_left s n total first 1) →
    r ≤ length old →
    out ≡ sets old 9 (lines_left s n total first 1) →
    LinesWritten s n first old out r
stored s n first old total out r all count fits bytes = record {
  count = rw (← all) count;
  bytes =
      rw (← all)
      (bytes
      ∙ sets-eq (lines_left s n total first 1) old 9 (omega arith)
      ∙ rw count (append_assoc (take 9 old) (lines_left s n total first 1) _));
}

module _
    (s : List ℕ) (n : ℕ) (first : List Station) (old : List ℕ) (total : ℕ) (out : List ℕ) (t : List Station) (k : ℕ)
    (going : Going s n first old total out t k) where
  -- a step's line is written, and the loop goes on
  step_done :
      (x : Step) → k < total → step_of (frame_at s (7 * k)) ≡ Some x →
      Going s n first old total (sets out (9 * k) (step_line (stepped_by t n x))) (after n t x) (k + 1)
  unfolding step_line
  step_done x more e =
      let line = step_line (stepped_by t n x) in
      let left = lines_left s n total (after n t x) (k + 1) in
      let nine : length line ≡ 9 = line_length _ _ _ _ in
      let split : lines_left s n total t k ≡ line ++ left = left_move s n total k t more x e in
      record {
        low = omega arith;
        high = omega arith;
        size = length-sets out (9 * k) line ∙ going.size;
        stations = after_length n t x ∙ going.stations;
        count = omega (arith, going.count, ap length split, length-append line left);
        bytes = sets_next line left out (9 * k) (9 * (k + 1)) (omega arith) ∙ rw split at going.bytes;
      }

  -- the same, of the values that the loop's calls give
  pub stepped_done :
      (was : Network) (x : Step) (stepped : Stepped) (now : Network) (line : Line) (out' : List ℕ) →
      was.table ≡ t → was.count ≡ n → k < total → step_of (frame_at s (7 * k)) ≡ Some x →
      StepsNetwork was x stepped now →
      line.code ≡ code_of stepped.answer →
      line.place ≡ shown_of line.code stepped.head.place →
      line.due ≡ shown_of line.code stepped.head.due →
      line.holder ≡ unwrap_or stepped.holder 0 →
      out' ≡ sets out (9 * k) (line_of line.code line.place line.due line.holder) →
      Going s n first old total out' now.table (k + 1)
  unfolding stepped_by step_line
  stepped_done was x stepped now line out' et en more e steps ec ep ed eh eo =
      let code = ec ∙ steps.answers in
      let held : line.holder ≡ holder (after was.count was.table x) =
      eh ∙ ap (λ (h : Option ℕ). unwrap_or h 0) steps.holder ∙ held_back (holder (after was.count was.table x)) in
      rw (eo, ep, ed, held, code, steps.head, steps.leaves, et, en) (step_done x more e)

  module _ (all : total ≡ lines_in (length s)) (room : 9 * total ≤ length old) where
    -- the loop is left at a frame that is no step
    pub stopped :
        k < total → step_of (frame_at s (7 * k)) ≡ None →
        LinesWritten s n first old (sets out (9 * k) bad_line) (9 * k + 9)
    stopped more h =
        let last : lines_left s n total t k ≡ bad_line = left_bad s n total k t more h in
        let nine : length bad_line ≡ 9 = line_length 9 0 0 0 in
        stored s n first old total (sets out (9 * k) bad_line) (9 * k + 9) all
        (omega (arith, going.count, ap length last))
        (omega arith)
        (rw last at going.bytes)

    -- the loop is left behind the last line
    pub ended : total ≤ k → LinesWritten s n first old out (9 * total)
    unfolding frames_from step_lines
    ended e =
        let none : total - k ≡ 0 = omega arith in
        let last : lines_left s n total t k ≡ [] = rw none in
        stored s n first old total out (9 * total) all
        (omega (arith, going.count, going.high, ap length last))
        (omega arith)
        (rw last at going.bytes)
