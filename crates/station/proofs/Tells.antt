-- A number tells what it stands for: no two refusals have one code, no two answers, and no two places one number.
use Prim.Native.Nat.{ℕ, ◌≤◌}
use native.Mathlib.Omega.{arith}
use mathlib.Core.Path.{◌≡◌, refl, sym, ap, ◌∙◌}
use mathlib.Core.Bool.{cond}
use lib.Dec.{eqb}
use Rattle.std.specs.Prelude.{Result, Ok, Err}
use Rattle.station.specs.declared.codes.Refusal.{Refusal}
use Rattle.station.specs.declared.codes.Refusal.TheVariants.{BadCount, NotWellFormed, NoSuchStation, WrongPlace, AnswersDue, EmptyWire, NoNumberLeft, AtOdds}
use Rattle.station.specs.declared.places.Place.{Place}
use Rattle.station.specs.declared.places.Place.TheVariants.{Idle, Sending, Waiting, Holding, Giving}
use Rattle.station.specs.Codes.{refusal_code, code_of}
use Rattle.station.specs.Places.{place_number}

pub refusal_above : (r : Refusal) → 1 ≤ refusal_code r
refusal_above BadCount = omega arith
refusal_above NotWellFormed = omega arith
refusal_above NoSuchStation = omega arith
refusal_above WrongPlace = omega arith
refusal_above AnswersDue = omega arith
refusal_above EmptyWire = omega arith
refusal_above NoNumberLeft = omega arith
refusal_above AtOdds = omega arith

-- the refusal of a code
abbrev refusal_of : ℕ → Refusal
refusal_of code =
    cond (eqb code 1) BadCount
    (cond (eqb code 2) NotWellFormed
    (cond (eqb code 3) NoSuchStation
    (cond (eqb code 4) WrongPlace
    (cond (eqb code 5) AnswersDue (cond (eqb code 6) EmptyWire (cond (eqb code 7) NoNumberLeft AtOdds))))))

refusal_back : (r : Refusal) → refusal_of (refusal_code r) ≡ r
refusal_back BadCount = refl
refusal_back NotWellFormed = refl
refusal_back NoSuchStation = refl
refusal_back WrongPlace = refl
refusal_back AnswersDue = refl
refusal_back EmptyWire = refl
refusal_back NoNumberLeft = refl
refusal_back AtOdds = refl

pub refusal_tells : (a b : Refusal) → refusal_code a ≡ refusal_code b → a ≡ b
refusal_tells a b e = sym (refusal_back a) ∙ ap refusal_of e ∙ refusal_back b

-- two answers with one code are one, where two acceptances with it are
pub answer_tells : {A : Type 0} (a b : Result A Refusal) → ((x y : A) → a ≡ Ok x → b ≡ Ok y → x ≡ y) → code_of a ≡ code_of b → a ≡ b
answer_tells (Ok x) (Ok y) same e = ap Ok (same x y refl refl)
answer_tells (Ok x) (Err r) same e = absurd (omega (arith, refusal_above r))
answer_tells (Err r) (Ok y) same e = absurd (omega (arith, refusal_above r))
answer_tells (Err q) (Err r) same e = ap Err (refusal_tells q r e)

pub place_most : (place : Place) → place_number place ≤ 4
place_most Idle = omega arith
place_most Sending = omega arith
place_most Waiting = omega arith
place_most Holding = omega arith
place_most Giving = omega arith

-- the place of a number
abbrev place_of : ℕ → Place
place_of number = cond (eqb number 0) Idle (cond (eqb number 1) Sending (cond (eqb number 2) Waiting (cond (eqb number 3) Holding Giving)))

place_back : (place : Place) → place_of (place_number place) ≡ place
place_back Idle = refl
place_back Sending = refl
place_back Waiting = refl
place_back Holding = refl
place_back Giving = refl

pub place_tells : (a b : Place) → place_number a ≡ place_number b → a ≡ b
place_tells a b e = sym (place_back a) ∙ ap place_of e ∙ place_back b
