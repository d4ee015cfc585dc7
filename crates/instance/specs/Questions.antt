-- The questions asked of the instance bytes, 1 to 9, of the horizon, 10, and of the movement rule, 31: under each number, what is asked
-- and the place that a no names. Every call asks them first.
use Rattle.std.specs.Prelude.{List, [], ◌∷◌, ◌++◌, Bool, ◌&&◌, ◌||◌, ℕ, suc, ◌+◌, ◌*◌, ◌-◌, length, leb, ltb, eqb}
use Rattle.lists.specs.Loop.{pairs, unlike_earlier}
use Rattle.answers.specs.declared.Answer.{Answer}
use Rattle.answers.specs.Answers.{Question, ask, ask_each, refuse, decide, by_number}
use Rattle.instance.specs.declared.Checked.{Checked}
use Rattle.instance.specs.Instance.{free, vertices, agents, edges, lows, starts, goals, low_end, high_end, start_of, goal_of, checked, unchecked}

-- The tests that are asked of several items.
module _ (b : List ℕ) where
  -- edge j: low end < high end < n
  abbrev pub proper_edge : ℕ → Bool
  proper_edge j = ltb (low_end b j) (high_end b j) && ltb (high_end b j) (vertices b)

  -- edge j comes after edge i, by low end, then high end
  abbrev pub later_edge : ℕ → ℕ → Bool
  later_edge j i = ltb (low_end b i) (low_end b j) || eqb (low_end b i) (low_end b j) && ltb (high_end b i) (high_end b j)

  -- f a is below n and unlike f 0, .., f (a - 1)
  abbrev pub new_vertex : (ℕ → ℕ) → ℕ → Bool
  new_vertex f a = ltb (f a) (vertices b) && unlike_earlier f a

  -- agent a is free, or its goal is such a vertex
  abbrev pub new_goal : ℕ → Bool
  new_goal a = free (goal_of b a) || new_vertex (goal_of b) a

module _ (b : List ℕ) where
  -- Has the instance 4 bytes or more?
  abbrev pub question1 : Question
  question1 = ask (leb 4 (length b)) (refuse 1 (length b))

  -- Is n from 1 to 64?
  abbrev pub question2 : Question
  question2 = ask (leb 1 (vertices b) && leb (vertices b) 64) (refuse 2 0)

  -- Is k from 1 to 16 and at most n?
  abbrev pub question3 : Question
  question3 = ask (leb 1 (agents b) && leb (agents b) 16 && leb (agents b) (vertices b)) (refuse 3 1)

  -- Is e at most n(n-1)/2?
  abbrev pub question4 : Question
  question4 = ask (leb (edges b) (pairs (vertices b))) (refuse 4 2)

  -- Is the length exactly 4+2e+2k?
  abbrev pub question5 : Question
  question5 = ask (eqb (length b) (4 + 2 * edges b + 2 * agents b)) (refuse 5 (length b))

  -- Edge j: low end < high end < n?
  abbrev pub question6 : Question
  question6 = ask_each (edges b) (proper_edge b) λ j. refuse 6 (lows b + j)

  -- Does edge j come after edge j-1, by low end, then high end? Edge 0 has none before it.
  abbrev pub question7 : Question
  question7 = ask_each (edges b - 1) (λ i. later_edge b (suc i) i) λ i. refuse 7 (lows b + suc i)

  -- Is each start below n and unlike earlier starts?
  abbrev pub question8 : Question
  question8 = ask_each (agents b) (new_vertex b (start_of b)) λ a. refuse 8 (starts b + a)

  -- Is each goal below n and unlike earlier goals? Free agents are passed over.
  abbrev pub question9 : Question
  question9 = ask_each (agents b) (new_goal b) λ a. refuse 9 (goals b + a)

-- Is m at most 32?
abbrev pub question10 : ℕ → Question
question10 m = ask (leb m 32) (refuse 10 0)

-- Is the rule 1 or 2?
abbrev pub question31 : ℕ → Question
question31 rule = ask (eqb rule 1 || eqb rule 2) (refuse 31 0)

-- of the bytes alone: 1 to 9
abbrev pub bytes_questions : List ℕ → List Question
bytes_questions b =
    question1 b
    ∷ question2 b
    ∷ question3 b
    ∷ question4 b
    ∷ question5 b
    ∷ question6 b
    ∷ question7 b
    ∷ question8 b
    ∷ question9 b
    ∷ []

module _ (b : List ℕ) (m rule : ℕ) where
  -- of the bytes, the horizon and the rule: 1 to 10, 31
  unfoldable pub instance_questions : List Question
  instance_questions = bytes_questions b ++ question10 m ∷ question31 rule ∷ []

  unfoldable pub instance_answer : Answer
  instance_answer = decide instance_questions 0

  -- the checked instance, of zeros where it is refused
  unfoldable pub instance_checked : Checked
  instance_checked = by_number instance_answer.number (checked b m rule) unchecked
