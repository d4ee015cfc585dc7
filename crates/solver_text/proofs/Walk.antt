-- What a loop meets line after line is the form: each line is asked after those before it, and what was said is what stands there.
use mathlib.Core.Path.{◌≡◌, refl, sym, ◌∙◌, ap, ap₂, subst}
use mathlib.Core.List.{List, [], ◌∷◌, ◌++◌, append-nil, append_assoc}
use mathlib.Core.Bool.{Bool, true, false, not, ◌&&◌, ◌||◌}
use Prim.Native.Nat.{ℕ, zero, suc, ◌+◌, ◌<◌}
use native.Mathlib.Omega.{arith}
use lib.Dec.{T}
use lib.ListN.{length, get_or, take}
use Rattle.std.specs.Prelude.{Option, None, Some, is_some, option_map, unwrap_or}
use Rattle.lists.specs.Loop.{for, sum, unless, any}
use Rattle.lists.proofs.Tests.{or_false, not_iff}
use Rattle.lists.proofs.Loops.{for_ext}
use Rattle.answers.specs.Answers.{Question, refuse, ask_each}
use Rattle.answers.specs.Fault.{FirstFault}
use Rattle.answers.proofs.Faults.{fault_first}
use Rattle.solver_text.specs.declared.Verdict.{Verdict}
use Rattle.solver_text.specs.declared.Said.{Said}
use Rattle.solver_text.specs.Text.{Kind, skipped, status, values, neither, kind, lines, tokens?}
use Rattle.solver_text.specs.Form.{is_status, is_satisfiable, is_closing, status?, satisfiable?, closing?, may_follow, complete?, right_line, status_place}
use Rattle.solver_text.specs.Form as form
use Rattle.solver_text.specs.Walk.{nothing, stated?, satisfied?, place_or, right?, after, said_after, wrong_lines, whole?}

-- a test that comes out one way or the other
pub split : {C : Type 0} (b : Bool) → (b ≡ true → C) → (b ≡ false → C) → C
split true f g = f refl
split false f g = g refl

or_true : (a : Bool) → (a || true) ≡ true
or_true true = refl
or_true false = refl

or_assoc : (a b c : Bool) → ((a || b) || c) ≡ (a || (b || c))
or_assoc true b c = refl
or_assoc false b c = refl

-- ---- what was said
module _ (at : ℕ) (said : Said) where
  stated_one : (k : Kind) (r : Bool) → (stated? (after at said k) || r) ≡ (stated? said || (is_status k || r))
  stated_one skipped r = refl
  stated_one (status s) r = sym (or_true (stated? said))
  stated_one (values ts) r = refl
  stated_one neither r = refl

  satisfiable_one : (k : Kind) (r : Bool) → (satisfied? (after at said k) || r) ≡ (satisfied? said || (is_satisfiable k || r))
  satisfiable_one skipped r = refl
  satisfiable_one (status s) r = or_assoc (satisfied? said) s r
  satisfiable_one (values ts) r = refl
  satisfiable_one neither r = refl

  closed_one : (k : Kind) (r : Bool) → ((after at said k).closed || r) ≡ (said.closed || (is_closing k || r))
  closed_one skipped r = refl
  closed_one (status s) r = refl
  closed_one (values ts) r = or_assoc said.closed _ r
  closed_one neither r = refl

stated_is : (at : ℕ) (said : Said) (ls : List (List ℕ)) → stated? (said_after at said ls) ≡ (stated? said || any status? ls)
unfolding said_after status?
stated_is at said [] = sym (or_false (stated? said))
stated_is at said (l ∷ ls) = stated_is (at + length l + 1) (after at said (kind l)) ls ∙ stated_one at said (kind l) _

satisfiable_is : (at : ℕ) (said : Said) (ls : List (List ℕ)) → satisfied? (said_after at said ls) ≡ (satisfied? said || any satisfiable? ls)
unfolding said_after satisfiable?
satisfiable_is at said [] = sym (or_false (satisfied? said))
satisfiable_is at said (l ∷ ls) = satisfiable_is (at + length l + 1) (after at said (kind l)) ls ∙ satisfiable_one at said (kind l) _

closed_is : (at : ℕ) (said : Said) (ls : List (List ℕ)) → (said_after at said ls).closed ≡ (said.closed || any closing? ls)
unfolding said_after closing?
closed_is at said [] = sym (or_false said.closed)
closed_is at said (l ∷ ls) = closed_is (at + length l + 1) (after at said (kind l)) ls ∙ closed_one at said (kind l) _

-- so a line is right after those before it where it may follow them
right_is : (N at : ℕ) (ls : List (List ℕ)) (k : Kind) → right? N (said_after at nothing ls) k ≡ may_follow N ls k
right_is N at ls skipped = refl
right_is N at ls (status s) = ap not (stated_is at nothing ls)
right_is N at ls (values ts) = ap (λ (c : Bool). tokens? N c ts) (closed_is at nothing ls)
right_is N at ls neither = refl

module _ (text : List ℕ) where
  pub whole_is : whole? (said_after 0 nothing (lines text)) ≡ complete? (lines text)
  unfolding complete?
  whole_is =
      ap₂ (λ (x : Bool) (y : Bool). x && y) (stated_is 0 nothing (lines text))
      (ap₂ (λ (x : Bool) (y : Bool). not x || y) (satisfiable_is 0 nothing (lines text)) (closed_is 0 nothing (lines text)))

  pub satisfied_is : satisfied? (said_after 0 nothing (lines text)) ≡ any satisfiable? (lines text)
  satisfied_is = satisfiable_is 0 nothing (lines text)

-- ---- the lines asked one by one
for_front : {A : Type 0} (n : ℕ) (g : ℕ → List A) → for (suc n) g ≡ g 0 ++ for n (λ i. g (suc i))
for_front zero g = sym (append-nil (g 0))
for_front (suc n) g = ap (λ (l : List _). l ++ g (suc n)) (for_front n g) ∙ append_assoc (g 0) (for n (λ i. g (suc i))) (g (suc n))

sum_front : (n : ℕ) (h : ℕ → ℕ) → sum (suc n) h ≡ h 0 + sum n (λ i. h (suc i))
sum_front zero h = omega arith
sum_front (suc n) h = omega (arith, sum_front n h)

-- the offset of line i, counted from `at`
abbrev offset : ℕ → List (List ℕ) → ℕ → ℕ
offset at ls i = at + sum i (λ j. length (get_or ls j []) + 1)

offset_next : (at : ℕ) (l : List ℕ) (ls : List (List ℕ)) (i : ℕ) → offset (at + length l + 1) ls i ≡ offset at (l ∷ ls) (suc i)
offset_next at l ls i = omega (arith, sum_front i (λ j. length (get_or (l ∷ ls) j []) + 1))

wrong_lines_lem : (N at : ℕ) (said : Said) (ls : List (List ℕ))
    → wrong_lines N at said ls ≡ (for (length ls) λ i. unless (right? N (said_after at said (take i ls)) (kind (get_or ls i []))) (refuse 27 (offset at ls i)))
unfolding wrong_lines said_after
wrong_lines_lem N at said [] = refl
wrong_lines_lem N at said (l ∷ ls) =
    let g : ℕ → Question = λ i. unless (right? N (said_after at said (take i (l ∷ ls))) (kind (get_or (l ∷ ls) i []))) (refuse 27 (offset at (l ∷ ls) i)) in
    let e : at + 0 ≡ at = omega arith in
    let front : unless (right? N said (kind l)) (refuse 27 at) ≡ g 0 = ap (λ (p : ℕ). unless (right? N said (kind l)) (refuse 27 p)) (sym e) in
    ap₂ (λ (x : Question) (y : Question). x ++ y) front
    (wrong_lines_lem N (at + length l + 1) (after at said (kind l)) ls
    ∙ for_ext (length ls) _ (λ i. g (suc i))
    (λ i h.
    ap (λ (p : ℕ). unless (right? N (said_after (at + length l + 1) (after at said (kind l)) (take i ls)) (kind (get_or ls i []))) (refuse 27 p))
    (offset_next at l ls i)))
    ∙ sym (for_front (length ls) g)

pub lines_asked : (N : ℕ) (text : List ℕ)
    → ask_each (length (lines text)) (right_line text N) (λ i. refuse 27 (form.offset text i)) ≡ wrong_lines N 0 nothing (lines text)
unfolding ask_each right_line form.offset
lines_asked N text =
    sym
    (wrong_lines_lem N 0 nothing (lines text)
    ∙ for_ext (length (lines text)) _ _
    (λ i h.
    ap₂ (λ (b : Bool) (p : ℕ). unless b (refuse 27 p)) (right_is N 0 (take i (lines text)) (kind (get_or (lines text) i [])))
    (let e : offset 0 (lines text) i ≡ sum i (λ j. length (get_or (lines text) j []) + 1) = omega arith in e)))

-- ---- the place of the s line
place_known : (v : Option Verdict) (p q : ℕ) → is_some v ≡ true → unwrap_or (option_map (λ v. v.place) v) p ≡ unwrap_or (option_map (λ v. v.place) v) q
place_known None p q e = absurd (subst T (sym e) tt)
place_known (Some v) p q e = refl

place_none : (v : Option Verdict) (p : ℕ) → is_some v ≡ false → unwrap_or (option_map (λ v. v.place) v) p ≡ p
place_none None p e = refl
place_none (Some v) p e = absurd (subst T e tt)

place_one : (at : ℕ) (said : Said) (k : Kind) → stated? said ≡ true → (stated? (after at said k) ≡ true) × (place_or 0 (after at said k) ≡ place_or 0 said)
place_one at said skipped e = (e, refl)
place_one at said (status s) e = (refl, place_known said.verdict at 0 e)
place_one at said (values ts) e = (e, refl)
place_one at said neither e = (e, refl)

place_kept : (at : ℕ) (said : Said) (ls : List (List ℕ)) → stated? said ≡ true → place_or 0 (said_after at said ls) ≡ place_or 0 said
unfolding said_after
place_kept at said [] e = refl
place_kept at said (l ∷ ls) e =
    let (s, p) = place_one at said (kind l) e in place_kept (at + length l + 1) (after at said (kind l)) ls s ∙ p

place_new : (at : ℕ) (said : Said) (k : Kind) → stated? said ≡ false → is_status k ≡ true → (stated? (after at said k) ≡ true) × (place_or 0 (after at said k) ≡ at)
place_new at said skipped f e = absurd (subst T (sym e) tt)
place_new at said (status s) f e = (refl, place_none said.verdict at f)
place_new at said (values ts) f e = absurd (subst T (sym e) tt)
place_new at said neither f e = absurd (subst T (sym e) tt)

still_none : (at : ℕ) (said : Said) (k : Kind) → stated? said ≡ false → is_status k ≡ false → stated? (after at said k) ≡ false
still_none at said skipped f e = f
still_none at said (status s) f e = absurd (subst T e tt)
still_none at said (values ts) f e = f
still_none at said neither f e = f

-- line r is the first s line, and its offset is the place
record Stated (at : ℕ) (said : Said) (ls : List (List ℕ)) : Type 0 where
  r : ℕ
  inside : r < length ls
  before : FirstFault (length ls) (λ i. not (status? (get_or ls i []))) r
  place : place_or 0 (said_after at said ls) ≡ offset at ls r

stated : (at : ℕ) (said : Said) (ls : List (List ℕ)) → stated? said ≡ false → T (any status? ls) → Stated at said ls
unfolding said_after status?
stated at said [] f h = absurd h
stated at said (l ∷ ls) f h =
    split (is_status (kind l))
    (λ e.
    let (s, p) = place_new at said (kind l) f e in
    record {
      r = 0;
      inside = omega arith;
      before = record { within = omega arith; before = λ i z. absurd (let o : ⊥ = omega arith in o); here = λ z t. (not_iff (is_status (kind l))).0 t (subst T (sym e) tt) };
      place = place_kept (at + length l + 1) (after at said (kind l)) ls s ∙ p ∙ omega arith;
    })
    (λ e.
    let w : Stated (at + length l + 1) (after at said (kind l)) ls =
    stated (at + length l + 1) (after at said (kind l)) ls (still_none at said (kind l) f e) (subst (λ (b : Bool). T (b || any status? ls)) e h) in
    let b = w.before in
    record {
      r = suc w.r;
      inside = omega (arith, w.inside);
      before = record {
        within = omega (arith, b.within);
        before = below w.r e b.before;
        here = λ z t. b.here (omega arith) t;
      };
      place = w.place ∙ offset_next at l ls w.r;
    })
  where
    below : (r : ℕ) → is_status (kind l) ≡ false → ((i : ℕ) → i < r → T (not (status? (get_or ls i [])))) → (i : ℕ) → i < suc r → T (not (status? (get_or (l ∷ ls) i [])))
    below r e b zero z = subst (λ (x : Bool). T (not x)) (sym e) tt
    below r e b (suc i) z = b i (omega arith)

pub place_is : (text : List ℕ) → T (any status? (lines text)) → place_or 0 (said_after 0 nothing (lines text)) ≡ status_place text
unfolding status_place form.offset
place_is text h =
    let w = stated 0 nothing (lines text) refl h in
    let e = (fault_first (length (lines text)) (λ i. status? (get_or (lines text) i [])) w.r w.before w.inside).1 in
    w.place ∙ (let o : offset 0 (lines text) w.r ≡ sum w.r (λ j. length (get_or (lines text) j []) + 1) = omega arith in o)
    ∙ ap (λ (i : ℕ). sum i (λ j. length (get_or (lines text) j []) + 1)) (sym e)
