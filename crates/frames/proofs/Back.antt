-- What is written is read back: a digit, a byte, a step.
use mathlib.Core.Path.{◌≡◌, refl}
use Prim.Native.Nat.{ℕ, ◌+◌, ◌*◌, ◌/◌, ◌%◌, ◌<◌}
use native.Mathlib.Omega.{arith}
use Rattle.std.specs.Prelude.{Some}
use Rattle.std.proofs.lemmas.Bool.Decides.{nat_tests}
use Rattle.station.specs.declared.Step.{Step}
use Rattle.station.specs.declared.Step.TheVariants.{Ask, Send, Enter, Leave, Give, TakeRequest, TakeAnswer}
use Rattle.station.specs.Stations.{named_by}
use Rattle.frames.specs.declared.Frame.TheVariants as frame
use Rattle.frames.specs.Frames.{digit_of, byte_of, hex_of, pair_of, alone_of, meaning_of, kind_of, other_of, ReadsBack}

digit_back : (v : ℕ) → digit_of (hex_of v) ≡ Some (v % 16)
unfolding digit_of hex_of
digit_back v = grind (arith, nat_tests)

byte_back : (v : ℕ) → v < 256 → byte_of (pair_of v).high (pair_of v).low ≡ Some v
unfolding byte_of pair_of
byte_back v h =
    let whole : v / 16 % 16 * 16 + v % 16 ≡ v = omega arith in
    rw (digit_back (v / 16), digit_back v, whole)

step_back : (x : Step) → meaning_of (kind_of x) (named_by x) (other_of x) ≡ Some (frame.Move x)
unfolding meaning_of alone_of
step_back (Ask s) = refl
step_back (Send s) = refl
step_back (Enter s) = refl
step_back (Leave s) = refl
step_back (Give s) = refl
step_back (TakeRequest s t) = refl
step_back (TakeAnswer s t) = refl

pub reads_back : ReadsBack
reads_back = record { byte_back = byte_back; step_back = step_back }
