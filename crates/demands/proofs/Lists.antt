-- Lists of steps as lists of transitions: taken apart, and the entries in them.
use mathlib.Core.Path.{◌≡◌, refl, sym}
use mathlib.Core.Bool.{Bool, true, false, cond, ◌&&◌, and-true, and-false}
use mathlib.Core.List.{List, [], ◌∷◌, ◌++◌, append_assoc}
use Prim.Native.Nat.{ℕ, ◌+◌}
use native.Mathlib.Nat.{zero-add}
use native.Mathlib.Omega.{arith}
use Rattle.station.specs.declared.Station.{Station}
use Rattle.station.specs.declared.Step.{Step}
use Rattle.station.specs.declared.Step.TheVariants.{Ask, Send, Enter, Leave, Give, TakeRequest, TakeAnswer}
use Rattle.station.specs.Names.{ACCEPTED}
use Rattle.figure1.specs.Figure1.{State, Label, can, does, Run, stop, move}
use Rattle.figure1.specs.Assertions as claims
use Rattle.figure1.specs.Assertions.{bit}
use Rattle.engines.specs.Engines.{Engine, accepts, table_after, accepted_of, enters, entries}
use Rattle.engines.proofs.Lists.{accepted_append}
use Rattle.demands.specs.Demands.{word, words}

words_append : (xs ys : List Step) → words (xs ++ ys) ≡ words xs ++ words ys
unfolding words
words_append [] ys = refl
words_append (x ∷ xs) ys = rw (words_append xs ys, append_assoc)

-- what a run does after its beginning
pub run_after : {n : ℕ} {σ τ υ : State} {ls ks : List Label} → Run n σ ls τ → Run n σ (ls ++ ks) υ → Run n τ ks υ
run_after stop Q = Q
run_after (move e R) (move f Q) = run_after R Q

pub begun : {n : ℕ} {σ τ : State} {l : Label} {ls : List Label} → Run n σ (l ∷ ls) τ → (can n σ l ≡ true) × Run n (does n σ l) ls τ
begun (move e R) = (e, R)

-- a step enters where its transitions do
word_entries : (y : ℕ) (x : Step) (ls : List Label) → claims.entries y (word x ++ ls) ≡ bit (enters y x) + claims.entries y ls
unfolding claims.entries
word_entries y (Ask s) ls = rw and-false (omega arith)
word_entries y (Send s) ls = rw and-false (omega arith)
word_entries y (Enter s) ls = rw and-true
word_entries y (Leave s) ls = rw and-false (omega arith)
word_entries y (Give s) ls = rw and-false (omega arith)
word_entries y (TakeRequest s t) ls = refl
word_entries y (TakeAnswer s t) ls = refl

-- a step that is kept or dropped, among the entries
kept_entries : (y : ℕ) (b : Bool) (x : Step) (us : List Step)
    → claims.entries y (words (cond b (x ∷ us) us)) ≡ bit (b && enters y x) + claims.entries y (words us)
unfolding words
kept_entries y true x us = word_entries y x (words us)
kept_entries y false x us = sym (zero-add _)

module _ (E : Engine) (n : ℕ) where
  -- a step accepted after others, in the program's transitions
  pub accepted_next : (t : List Station) (xs : List Step) (x : Step) (ys : List Step) → E.answer n (table_after E n t xs) x ≡ ACCEPTED
      → words (accepted_of E n t (xs ++ (x ∷ ys)))
      ≡ words (accepted_of E n t xs) ++ (word x ++ words (accepted_of E n (E.after n (table_after E n t xs) x) ys))
  unfolding accepted_of words
  accepted_next t xs x ys h = rw (accepted_append E n t xs (x ∷ ys), words_append (accepted_of E n t xs), h)

  pub entries_words : (y : ℕ) (t : List Station) (xs : List Step) → entries E n y t xs ≡ claims.entries y (words (accepted_of E n t xs))
  unfolding entries accepted_of words claims.entries
  entries_words y t [] = refl
  entries_words y t (x ∷ xs) = rw (entries_words y (E.after n t x) xs) (sym (kept_entries y (accepts E n t x) x _))
