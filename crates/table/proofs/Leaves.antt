-- Whatever comes out of a step: its code is a byte, and under another code than 0 all is as it went in.
use mathlib.Core.Path.{◌≡◌, refl}
use mathlib.Core.Bool.{Bool, false, cond, true≢false}
use Prim.Native.Nat.{ℕ, ◌<◌}
use native.Mathlib.Omega.{arith}
use lib.Dec.{eqb}
use Rattle.station.specs.declared.Head.{Head}
use Rattle.station.specs.declared.Cells.{Cells}
use Rattle.station.specs.declared.Step.{Step}
use Rattle.station.specs.declared.Step.TheVariants.{Ask, Send, Enter, Leave, Give, TakeRequest, TakeAnswer}
use Rattle.station.specs.Names.{ACCEPTED, IDLE, SENDING, WAITING, HOLDING, GIVING, LAST_NUMBER}
use Rattle.station.specs.Stations.{count_ok, stations_ok}
use Rattle.std.proofs.lemmas.Bool.{cond_both}
use Rattle.rows.specs.Rows.{Outcome, outcome_of, answers_now, ask_rule, send_rule, enter_rule, leave_rule, give_rule, take_request_rule, take_answer_rule, step_rule, outcome}

module _ (head : Head) (mine theirs : Cells) where
  pub record Leaves (out : Outcome) : Type 0 where
    pub byte : out.code < 256
    pub same : eqb out.code ACCEPTED ≡ false → out ≡ outcome_of out.code head mine theirs

  gone : {code : ℕ} → code < 256 → Leaves (outcome_of code head mine theirs)
  gone small = record { byte = small; same = λ _. refl }

  taken : {h : Head} {m t : Cells} → Leaves (outcome_of ACCEPTED h m t)
  taken = record { byte = omega arith; same = λ no. absurd (true≢false no) }

  either : (b : Bool) {x y : Outcome} → Leaves x → Leaves y → Leaves (cond b x y)
  either b p q = cond_both b _ _ Leaves (λ _. p) (λ _. q)

  row_leaves : (n : ℕ) (x : Step) → Leaves (step_rule n x head mine theirs)
  unfolding step_rule ask_rule send_rule enter_rule leave_rule give_rule take_request_rule take_answer_rule
  row_leaves n (Ask s) = either (eqb head.place IDLE) (either (eqb head.high LAST_NUMBER) (gone (omega arith)) taken) (gone (omega arith))
  row_leaves n (Send s) =
      either (eqb head.place SENDING) (either (eqb head.next s) taken (either (eqb theirs.request 0) taken (gone (omega arith)))) (gone (omega arith))
  row_leaves n (Enter s) = either (eqb head.place WAITING) (either (eqb head.due 0) taken (gone (omega arith))) (gone (omega arith))
  row_leaves n (Leave s) = either (eqb head.place HOLDING) taken (gone (omega arith))
  row_leaves n (Give s) = either (eqb head.place GIVING) (either mine.mark (either theirs.answer (gone (omega arith)) taken) taken) (gone (omega arith))
  row_leaves n (TakeRequest s t) =
      either (eqb mine.request 0) (gone (omega arith))
      (either (answers_now mine.request t head.place head.own s)
      (either theirs.answer (gone (omega arith)) taken)
      (either mine.mark (gone (omega arith)) taken))
  row_leaves n (TakeAnswer s t) = either mine.answer (either (eqb head.due 0) (gone (omega arith)) taken) (gone (omega arith))

  pub outcome_leaves : (n : ℕ) (x : Step) → Leaves (outcome n x head mine theirs)
  unfolding outcome
  outcome_leaves n x = either (count_ok n) (either (stations_ok n x) (row_leaves n x) (gone (omega arith))) (gone (omega arith))
