-- Laws of stores that follow one another, and the store of a line.
use Prim.Native.Nat.{ℕ, suc, ◌+◌, ◌≤◌}
use mathlib.Core.Path.{◌≡◌, refl, sym, ◌∙◌, ap}
use mathlib.Core.List.{List, [], ◌∷◌, ◌++◌}
use native.Mathlib.Omega.{arith}
use lib.ListN.{length, set}
use lib.Seq.{sets, sets-eq}
use borrow.Rule.Slice.PartMut.{put_mid}
use Rattle.std.proofs.lemmas.Slice.{put_mid-paste}
use Rattle.session.specs.Session.{pair_line, line_of}

-- two runs of stores, the second where the first ends, are one
pub sets_append : (a b l : List ℕ) (i : ℕ) → sets l i (a ++ b) ≡ sets (sets l i a) (i + length a) b
sets_append [] b l i = ap (λ (j : ℕ). sets l j b) (omega arith)
sets_append (x ∷ a) b l i =
    sets_append a b (set l i x) (suc i) ∙ ap (λ (j : ℕ). sets (sets (set l i x) (suc i) a) j b) (omega arith)

pub sets_next :
    (a b l : List ℕ) (i j : ℕ) → j ≡ i + length a → sets (sets l i a) j b ≡ sets l i (a ++ b)
sets_next a b l i j e = rw e (sym (sets_append a b l i))

pub line_length : (code place due held : ℕ) → length (line_of code place due held) ≡ 9
unfolding line_of pair_line
line_length code place due held = refl

-- a line stored as one piece, as a copy into a part of the output leaves it
pub line_stored :
    (l new : List ℕ) (i k code place due held : ℕ) →
    new ≡ line_of code place due held → k ≡ 9 → i + 9 ≤ length l →
    put_mid i k l new ≡ sets l i (line_of code place due held)
unfolding line_of pair_line
line_stored l new i k code place due held e nine fits =
    put_mid-paste i k l new (line_of code place due held) 9 e (sym nine) refl
    ∙ sym (sets-eq (line_of code place due held) l i fits)
