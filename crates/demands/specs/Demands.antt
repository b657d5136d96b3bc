-- Demands 2 and 3, of an engine's rules. Its terms are those of Figure 1 (crate figure1), of 01's table (crate table) and of what an engine makes of a list of steps (crate engines).
use Rattle.std.specs.Prelude.{◌≡◌, ◌≢◌, Bool, true, cond, not, List, [], ◌∷◌, ◌++◌, ℕ, ◌+◌, ◌-◌, ◌≤◌, ◌<◌, nat_eq, nat_le, length}
use Rattle.station.specs.declared.Head.{Head}
use Rattle.station.specs.declared.Station.{Station}
use Rattle.station.specs.declared.Step.{Step}
use Rattle.station.specs.declared.Step.TheVariants.{Ask, Send, Enter, Leave, Give, TakeRequest, TakeAnswer}
use Rattle.station.specs.Names.{IDLE, SENDING, WAITING, HOLDING, GIVING, LAST_NUMBER, ACCEPTED, NOT_WELL_FORMED, AT_ODDS}
use Rattle.station.specs.Stations.{count_ok}
use Rattle.table.specs.Table.{head_in, cells_in, opened, well_formed, answer}
use Rattle.engines.specs.Engines.{Engine, reached, accepted_of, entries}
use Rattle.figure1.specs.Assertions.{bit, In}
use Rattle.figure1.specs.Figure1.{Location, m1, m2, m31, m32, m4, m5, m6, m71, m72, Node, State, initial, Label, M, q1, r1, does, Run}

-- ---- how steps and transitions correspond: 01, "Against Figure 1"
-- "m1 and m2 are Ask; m32 is Send; m4 is Enter; m5 and m6 are Leave; m72 is Give; q1 and r1 are the takes", with the loop test that follows
abbrev pub word : Step → List Label
word (Ask s) = M m1 s ∷ M m2 s ∷ M m31 s ∷ []
word (Send s) = M m32 s ∷ M m31 s ∷ []
word (Enter s) = M m4 s ∷ []
word (Leave s) = M m5 s ∷ M m6 s ∷ M m71 s ∷ []
word (Give s) = M m72 s ∷ M m71 s ∷ []
word (TakeRequest s t) = q1 s t ∷ []
word (TakeAnswer s t) = r1 s t ∷ []

-- the transitions of a list of steps, one step after the other
unfoldable pub words : List Step → List Label
words [] = []
words (x ∷ xs) = word x ++ words xs

-- the other way, for any interleaving: a step counts where its variables change, at m2 and m6; "The loop tests m31 and m71 are no steps"
abbrev pub step_at : Label → List Step
step_at (M m1 s) = []
step_at (M m2 s) = Ask s ∷ []
step_at (M m31 s) = []
step_at (M m32 s) = Send s ∷ []
step_at (M m4 s) = Enter s ∷ []
step_at (M m5 s) = []
step_at (M m6 s) = Leave s ∷ []
step_at (M m71 s) = []
step_at (M m72 s) = Give s ∷ []
step_at (q1 s t) = TakeRequest s t ∷ []
step_at (r1 s u) = TakeAnswer s u ∷ []

-- the steps of a list of transitions
unfoldable pub steps_of : List Label → List Step
steps_of [] = []
steps_of (l ∷ ls) = step_at l ++ steps_of ls

-- ---- a table shows a state of the program, cell by cell
-- the place and p: "the paper's p = N + 1 appears here as the next place with p = 1"
abbrev pub in_loop : ℕ → Node → ℕ → ℕ → ℕ
in_loop n a looping past = cond (nat_le a.p n) looping past

-- the place, by where M stands; past a loop's last peer it is the next place
abbrev pub place_at : ℕ → Location → Node → ℕ
place_at n m1 a = IDLE
place_at n m2 a = IDLE
place_at n m31 a = in_loop n a SENDING WAITING
place_at n m32 a = SENDING
place_at n m4 a = WAITING
place_at n m5 a = HOLDING
place_at n m6 a = HOLDING
place_at n m71 a = in_loop n a GIVING IDLE
place_at n m72 a = GIVING

-- p, "1 to N in Sending and Giving and 1 elsewhere"
abbrev pub next_at : ℕ → Location → Node → ℕ
next_at n m1 a = 1
next_at n m2 a = 1
next_at n m31 a = in_loop n a a.p 1
next_at n m32 a = a.p
next_at n m4 a = 1
next_at n m5 a = 1
next_at n m6 a = 1
next_at n m71 a = in_loop n a a.p 1
next_at n m72 a = a.p

-- 01, "The table": place, own number (osn), highest seen (hsn), next peer (p), answers due (c)
abbrev pub head_shown : ℕ → Node → Head
head_shown n a = record { place = place_at n a.at a; own = a.osn; high = a.hsn; next = next_at n a.at a; due = a.c }

-- "Its wires are queues without bound; ours have one slot each"; "0 means an empty wire"
abbrev pub request_queue : ℕ → List ℕ
request_queue request = cond (nat_eq request 0) [] (request ∷ [])

-- "an answer under way from that peer (yes or no)"; an answer is the paper's 1
abbrev pub answer_queue : Bool → List ℕ
answer_queue answer = cond answer (1 ∷ []) []

-- by its form, the table holds nothing else
pub record Shows (n : ℕ) (t : List Station) (σ : State) : Type 0 where
  pub form : well_formed n t ≡ true
  pub heads : (s : ℕ) → In n s → head_in t (s - 1) ≡ head_shown n (σ.node s)
  pub requests : (s u : ℕ) → In n s → In n u → σ.chq u s ≡ request_queue (cells_in t (s - 1) (u - 1)).request
  pub answers : (s u : ℕ) → In n s → In n u → σ.chp u s ≡ answer_queue (cells_in t (s - 1) (u - 1)).answer
  pub marks : (s u : ℕ) → In n s → In n u → (σ.node s).rd u ≡ (cells_in t (s - 1) (u - 1)).mark

-- ---- demand 2
-- "and a number is left"
abbrev pub NumberLeft : State → Step → Type 0
NumberLeft σ (Ask s) = (σ.node s).hsn < LAST_NUMBER
NumberLeft σ (Send s) = Unit {0}
NumberLeft σ (Enter s) = Unit {0}
NumberLeft σ (Leave s) = Unit {0}
NumberLeft σ (Give s) = Unit {0}
NumberLeft σ (TakeRequest s t) = Unit {0}
NumberLeft σ (TakeAnswer s t) = Unit {0}

-- no m2 of a run is taken at hsn 65,535 or above
unfoldable pub NumbersLeft : ℕ → State → List Label → Type 0
NumbersLeft n σ [] = Unit {0}
NumbersLeft n σ (l ∷ ls) = AllLeft σ (step_at l) × NumbersLeft n (does n σ l) ls
  where
    AllLeft : State → List Step → Type 0
    AllLeft σ [] = Unit {0}
    AllLeft σ (x ∷ xs) = NumberLeft σ x × AllLeft σ xs

-- the program can take the step x in the state σ, and a number is left
pub record Takes (n : ℕ) (σ : State) (x : Step) : Type 0 where
  pub next : State
  pub run : Run n σ (word x) next
  pub number : NumberLeft σ x

-- the table t shows the state that the transitions ls lead to from the start
pub record ShowsRun (n : ℕ) (ls : List Label) (t : List Station) : Type 0 where
  pub state : State
  pub run : Run n initial ls state
  pub shows : Shows n t state

-- the program is in the state σ after just the accepted ones of the offered steps xs
abbrev pub Led : Engine → ℕ → List Step → State → Type 0
Led E n xs σ = Run n initial (words (accepted_of E n opened xs)) σ

-- demand 2 for the count n, sentence by sentence
pub record Demand2At (E : Engine) (n : ℕ) : Type 0 where
  -- "it does what the program .. does": the table reached shows what the program reaches by just the accepted steps
  pub follows : (xs : List Step) → ShowsRun n (words (accepted_of E n opened xs)) (reached E n xs)
  -- "A step is accepted exactly when that program can take it and a number is left": this way round it shuts out the engine that always says 0, and the one that works once and then says 0
  pub accepted_takes : (xs : List Step) (σ : State) → Led E n xs σ → (x : Step) → E.answer n (reached E n xs) x ≡ ACCEPTED → Takes n σ x
  -- and this way round the engine that refuses everything
  pub takes_accepted : (xs : List Step) (σ : State) → Led E n xs σ → (x : Step) → Takes n σ x → E.answer n (reached E n xs) x ≡ ACCEPTED
  -- "and the state afterwards is that program's state": it shuts out the engine that answers and does nothing
  pub lands : (xs : List Step) (σ : State) → Led E n xs σ → (x : Step) → E.answer n (reached E n xs) x ≡ ACCEPTED
      → (τ : State) → Run n σ (word x) τ → Shows n (E.after n (reached E n xs) x) τ
  -- every run of the program, in any interleaving, that never asks beyond 65,535 is matched by accepted steps
  pub matched : (ls : List Label) (σ : State) → Run n initial ls σ → NumbersLeft n initial ls
      → (accepted_of E n opened (steps_of ls) ≡ steps_of ls) × Shows n (reached E n (steps_of ls)) σ
  -- "Its wires are queues without bound; ours have one slot each, and that this is enough .. is part of demand 2"
  pub never_2_or_8 : (xs : List Step) (x : Step)
      → (E.answer n (reached E n xs) x ≢ NOT_WELL_FORMED) × (E.answer n (reached E n xs) x ≢ AT_ODDS)
  pub one_slot : (ls : List Label) (σ : State) → Run n initial ls σ → (s t : ℕ) → In n s → In n t
      → (length (σ.chq s t) ≤ 1) × (length (σ.chp s t) ≤ 1)

-- demand 2: for "a network of 2 to 32 stations"
abbrev pub Demand2 : Engine → Type 0
Demand2 E = (n : ℕ) → count_ok n ≡ true → Demand2At E n

-- ---- demand 3
-- the request of i under way to j, j's mark for i and the answer of j under way to i, counted
abbrev pub under_way : List Station → ℕ → ℕ → ℕ
under_way t i j =
    bit (not (nat_eq (cells_in t (j - 1) (i - 1)).request 0)) + bit (cells_in t (j - 1) (i - 1)).mark + bit (cells_in t (i - 1) (j - 1)).answer

-- "at most one station holds the turn"
abbrev pub OneHolder : Engine → ℕ → Type 0
OneHolder E n =
    (xs : List Step) (i j : ℕ) → In n i → In n j
    → (head_in (reached E n xs) (i - 1)).place ≡ HOLDING → (head_in (reached E n xs) (j - 1)).place ≡ HOLDING → i ≡ j

-- demand 3 for the count n, sentence by sentence. An engine that does nothing meets it too: it is demand 2 that shuts such engines out (Useless.antt)
pub record Demand3At (E : Engine) (n : ℕ) : Type 0 where
  pub one_holder : OneHolder E n
  -- "the first's request under way, its mark at the second and the second's answer under way come to one at most"
  pub one_errand : (xs : List Step) (i j : ℕ) → In n i → In n j → under_way (reached E n xs) i j ≤ 1
  -- "Once Y has taken in Z's request of a round, Y enters at most once before Z enters in that round"
  pub one_entry : (xs : List Step) (y z : ℕ) → E.answer n (reached E n xs) (TakeRequest y z) ≡ ACCEPTED → (ys : List Step)
      → entries E n z (E.after n (reached E n xs) (TakeRequest y z)) ys ≡ 0
      → entries E n y (E.after n (reached E n xs) (TakeRequest y z)) ys ≤ 1

-- demand 3: for "a network of 2 to 32 stations"
abbrev pub Demand3 : Engine → Type 0
Demand3 E = (n : ℕ) → count_ok n ≡ true → Demand3At E n

-- "demand 3 is stated over those rules": it holds of every engine that meets demand 2
abbrev pub Demand3Follows : Type 0
Demand3Follows = (E : Engine) → Demand2 E → Demand3 E
