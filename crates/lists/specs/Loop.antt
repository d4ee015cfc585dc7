-- The words in which the tables are written. A test comes out true or false; a proposition is a statement to be proved.
--     for n f                 f 0, then f 1, .., then f (n - 1)
--     when b l                l where the test b holds, nothing where it fails
--     unless b x              x alone where the test b fails, nothing where it holds
--     each f l                f of each element of l, one after another
--     some n p, every n p     the test p holds at some number, at every number below n
--     any p l, all p l        the test p holds of some element, of every element of l
--     first n p               the lowest number below n at which the test p holds
--     sum n f                 f 0 + f 1 + .. + f (n - 1)
--     greatest n f            the greatest of f 0, f 1, .., f (n - 1), and 0 where n is 0
--     pairs n                 how many pairs v < w of numbers below n there are
--     unlike_earlier f a       f a is unlike f 0, .., f (a - 1)
use Rattle.std.specs.Prelude.{List, [], ◌∷◌, ◌++◌, Bool, true, false, not, ◌&&◌, ◌||◌, cond, ℕ, zero, suc, ◌+◌, ◌*◌, ◌-◌, ◌/◌, max, eqb}

module _ {A : Type 0} where
  abbrev pub for : ℕ → (ℕ → List A) → List A
  for zero f = []
  for (suc n) f = for n f ++ f n

  abbrev pub when : Bool → List A → List A
  when true l = l
  when false l = []

  abbrev pub unless : Bool → A → List A
  unless true x = []
  unless false x = x ∷ []

  abbrev pub each : {B : Type 0} → (A → List B) → List A → List B
  each f [] = []
  each f (x ∷ l) = f x ++ each f l

  abbrev pub any : (A → Bool) → List A → Bool
  any p [] = false
  any p (x ∷ l) = p x || any p l

  abbrev pub all : (A → Bool) → List A → Bool
  all p [] = true
  all p (x ∷ l) = p x && all p l

abbrev pub some : ℕ → (ℕ → Bool) → Bool
some zero p = false
some (suc n) p = some n p || p n

abbrev pub every : ℕ → (ℕ → Bool) → Bool
every zero p = true
every (suc n) p = every n p && p n

-- where p holds at no number below n, this is some number that says nothing
abbrev pub first : ℕ → (ℕ → Bool) → ℕ
first zero p = 0
first (suc n) p = cond (some n p) (first n p) n

abbrev pub sum : ℕ → (ℕ → ℕ) → ℕ
sum zero f = 0
sum (suc n) f = sum n f + f n

abbrev pub greatest : ℕ → (ℕ → ℕ) → ℕ
greatest zero f = 0
greatest (suc n) f = max (greatest n f) (f n)

abbrev pub pairs : ℕ → ℕ
pairs n = n * (n - 1) / 2

abbrev pub unlike_earlier : (ℕ → ℕ) → ℕ → Bool
unlike_earlier f a = every a λ b. not (eqb (f b) (f a))
