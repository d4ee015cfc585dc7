-- Lines by their kinds, and one after another.
use mathlib.Core.Path.{◌≡◌, refl, sym, ◌∙◌, ap, ap₂}
use mathlib.Core.Logic.{by_cases, ◌⊎◌, inl, inr, ⊎_elim}
use mathlib.Core.List.{List, [], ◌∷◌}
use mathlib.Core.Bool.{Bool, true, false, ◌&&◌, ◌||◌, cond}
use Prim.Native.Nat.{ℕ, zero, suc, ◌+◌, ◌-◌, ◌≤◌, ◌<◌}
use native.Mathlib.Nat.{le_refl, not-suc-le-zero}
use native.Mathlib.Decide.{dec_lt}
use native.Mathlib.Omega.{arith}
use borrow.Author.Tests.{ne_eqb, eqb-true, eqb-false, le-leb, lt-leb, lt-ltb, le-ltb}
use lib.Dec.{leb, ltb, eqb}
use lib.ListN.{length, take, drop, length-drop}
use lib.Seq.{drop-drop, take_all}
use Rattle.std.specs.Prelude.{min, Option, None, Some, is_some, option_map, unwrap_or}
use Rattle.std.specs.List.{position, position_or_len}
use Rattle.std.specs.Cmp.Lexicographic.{pointwise}
use Rattle.std.proofs.lemmas.List.Recursion.{is_position_or_len}
use Rattle.lists.specs.Loop.{any}
use Rattle.answers.specs.Answers.{Question, refuse, decide}
use Rattle.solver_text.specs.declared.Verdict.{Verdict}
use Rattle.solver_text.specs.declared.Said.{Said}
use Rattle.solver_text.specs.Text.{ahead, behind, pieces, lines, same, zero?, Kind, skipped, status, values, neither, kind, satisfiable, unsatisfiable, unknown}
use Rattle.solver_text.specs.Form.{literals_on, literals_of}
use Rattle.solver_text.specs.Walk.{stated?, right?, after, said_after, wrong_lines}
use Rattle.solver_text.proofs.Walk.{split}
use Rattle.solver_tokens.specs.Token.{byte, line}
use Rattle.solver_tokens.proofs.Laws.{line_end, line_more, some_cond, none_cond}
use Rattle.solver_lines.specs.declared.Mark.{Mark}
use Rattle.solver_lines.specs.declared.Status.{Status}
use Rattle.solver_lines.specs.declared.Status.TheVariants.{Satisfiable, Unsatisfiable, Unknown}
use Rattle.solver_lines.specs.declared.Values.{Values}
use Rattle.solver_lines.specs.declared.Line.{Line}
use Rattle.solver_lines.specs.Lines.{marked, values_of, status_of, line_of}
use Rattle.solver_lines.proofs.LineTokens.{marked_append, literals_in}

-- ---- the end of a line
ahead_length : (s : ℕ) (l : List ℕ) → length (ahead s l) ≡ position_or_len (λ d. eqb d s) l
unfolding ahead
ahead_length s l = is_position_or_len (λ r. length (ahead s r)) (λ d. eqb d s) refl step l
  where
    step : (x : ℕ) (l : List ℕ) → length (ahead s (x ∷ l)) ≡ cond (eqb x s) 0 (1 + length (ahead s l))
    step x l = split (eqb x s) (λ h. rw h) (λ h. rw h (omega arith))

ahead_most : (s : ℕ) (l : List ℕ) → length (ahead s l) ≤ length l
unfolding ahead
ahead_most s [] = le_refl 0
ahead_most s (x ∷ l) = split (eqb x s) (λ h. rw h (omega arith)) (λ h. rw h (omega (arith, ahead_most s l)))

pub line_length : (text : List ℕ) (at : ℕ) → unwrap_or (position (λ d. eqb d 10) (drop at text)) (length (drop at text)) ≡ length (line text at)
unfolding line
line_length text at = by_position (position_or_len (λ d. eqb d 10) (drop at text)) (sym (ahead_length 10 (drop at text)))
  where
    by_position : (k : ℕ) → k ≡ length (ahead 10 (drop at text)) → unwrap_or (cond (ltb k (length (drop at text))) (Some k) None) (length (drop at text)) ≡ length (ahead 10 (drop at text))
    by_position k e =
        let m : length (ahead 10 (drop at text)) ≤ length (drop at text) = ahead_most 10 (drop at text) in
        by_cases (dec_lt k (length (drop at text)))
        (λ h. rw (lt-ltb k (length (drop at text)) h) e)
        (λ h. rw (le-ltb k (length (drop at text)) (omega arith)) (omega arith))

ahead_taken : (s : ℕ) (l : List ℕ) → take (length (ahead s l)) l ≡ ahead s l
unfolding ahead
ahead_taken s [] = refl
ahead_taken s (x ∷ l) = split (eqb x s) (λ h. rw h) (λ h. rw h (ap (λ (r : List ℕ). x ∷ r) (ahead_taken s l)))

-- the first bytes of a line, found among as many of the text
ahead_take : (s n : ℕ) (l : List ℕ) → ahead s (take n l) ≡ take n (ahead s l)
unfolding ahead
ahead_take s zero l = refl
ahead_take s (suc n) [] = refl
ahead_take s (suc n) (x ∷ l) = split (eqb x s) (λ h. rw h) (λ h. rw h (ap (λ (r : List ℕ). x ∷ r) (ahead_take s n l)))

take_most : (n : ℕ) (l : List ℕ) → take (min (length l) n) l ≡ take n l
take_most n l =
    by_cases (dec_lt n (length l))
    (λ h. ap (λ (k : ℕ). take k l) (let e : min (length l) n ≡ n = omega arith in e))
    (λ h. ap (λ (k : ℕ). take k l) (let e : min (length l) n ≡ length l = omega arith in e) ∙ take_all (length l) l (le_refl (length l)) ∙ sym (take_all n l (omega arith)))

pub line_begun : (text : List ℕ) (at n end : ℕ) (near : List ℕ) → near ≡ take (min (length (drop at text)) n) (drop at text)
    → end ≡ unwrap_or (position (λ d. eqb d 10) near) (length near) → take end near ≡ take n (line text at)
unfolding line
line_begun text at n end near e f =
    ap (λ (k : ℕ). take k near) (f ∙ line_length near 0) ∙ ahead_taken 10 near ∙ ap (ahead 10) (e ∙ take_most n (drop at text)) ∙ ahead_take 10 n (drop at text)

pub line_taken : (text : List ℕ) (at end : ℕ) → end ≡ at + length (line text at) → take (end - at) (drop at text) ≡ line text at
unfolding line
line_taken text at end e =
    let k : end - at ≡ length (ahead 10 (drop at text)) = omega arith in
    rw k (ahead_taken 10 (drop at text))

pub line_room : (text : List ℕ) (at : ℕ) → at ≤ length text → at + length (line text at) ≤ length text
unfolding line
line_room text at h = omega (arith, ahead_most 10 (drop at text), length-drop at text)

-- ---- an s line's kind
pub same_is : (a b : List ℕ) → pointwise eqb a b ≡ same a b
same_is [] [] = refl
same_is [] (y ∷ b) = refl
same_is (x ∷ a) [] = refl
same_is (x ∷ a) (y ∷ b) = ap (λ (c : Bool). eqb x y && c) (same_is a b)

-- a word is compared with as much of a line as is longer than it
same_start : (n : ℕ) (l w : List ℕ) → length w < n → same (take n l) w ≡ same l w
same_start zero l w h = absurd (not-suc-le-zero h)
same_start (suc n) [] w h = refl
same_start (suc n) (x ∷ l) [] h = refl
same_start (suc n) (x ∷ l) (y ∷ w) h = ap (λ (b : Bool). eqb x y && b) (same_start n l w (omega arith))

pub status_start : (l : List ℕ) → status_of (take 16 l) ≡ status_of l
unfolding status_of
status_start l = rw (same_start 16 l satisfiable (omega arith), same_start 16 l unsatisfiable (omega arith), same_start 16 l unknown (omega arith))

abbrev kind_of : Option Status → Kind
kind_of None = neither
kind_of (Some Satisfiable) = status true
kind_of (Some Unsatisfiable) = status false
kind_of (Some Unknown) = status false

kind_by : (p q r : Bool) → cond p (status true) (cond (q || r) (status false) neither)
    ≡ kind_of (cond p (Some Satisfiable) (cond q (Some Unsatisfiable) (cond r (Some Unknown) None)))
kind_by true q r = refl
kind_by false true r = refl
kind_by false false true = refl
kind_by false false false = refl

abbrev pub is_satisfiable : Status → Bool
is_satisfiable Satisfiable = true
is_satisfiable Unsatisfiable = false
is_satisfiable Unknown = false

kind_some : (s : Status) → kind_of (Some s) ≡ status (is_satisfiable s)
kind_some Satisfiable = refl
kind_some Unsatisfiable = refl
kind_some Unknown = refl

no_literals : (o : Option Status) → literals_on (kind_of o) ≡ []
no_literals None = refl
no_literals (Some Satisfiable) = refl
no_literals (Some Unsatisfiable) = refl
no_literals (Some Unknown) = refl

wrong_again : (N : ℕ) (said : Said) → stated? said ≡ true → (o : Option Status) → right? N said (kind_of o) ≡ false
wrong_again N said e None = refl
wrong_again N said e (Some Satisfiable) = rw e
wrong_again N said e (Some Unsatisfiable) = rw e
wrong_again N said e (Some Unknown) = rw e

none_is : {A : Type 0} (o : Option A) → is_some o ≡ false → o ≡ None
none_is None e = refl
none_is (Some x) e = cc

-- ---- what a line of each kind says
module _ (text : List ℕ) (N at : ℕ) (said : Said) where
  abbrev l : List ℕ
  l = line text at

  -- the line's kind is known
  wrong_kind : (k : Kind) → kind l ≡ k → right? N said k ≡ false → None ≡ line_of N l at said
  unfolding line_of
  wrong_kind k e h = rw (e, h)

  right_kind : (k : Kind) → kind l ≡ k → right? N said k ≡ true → Some (record { end = at + length l; said = after at said k }) ≡ line_of N l at said
  unfolding line_of
  right_kind k e h = rw (e, h)

  -- nothing, or c
  empty_kind : byte text at ≡ 10 → kind l ≡ skipped
  unfolding kind
  empty_kind z = ap kind (line_end text at z)

  pub line_none : byte text at ≡ 10 → Some (record { end = at; said = said }) ≡ line_of N l at said
  line_none z =
      let e : at + length l ≡ at = omega (arith, ap length (line_end text at z)) in
      ap (λ (i : ℕ). Some (record { end = i; said = said })) (sym e) ∙ right_kind skipped (empty_kind z) refl

  pub marks_none : (ms : List Mark) → byte text at ≡ 10 → ms ≡ marked ms (literals_on (kind l))
  unfolding marked
  marks_none ms z = rw (empty_kind z)

  c_kind : byte text at ≡ 99 → kind l ≡ skipped
  unfolding kind
  c_kind z = ap kind (line_more text at (λ y. omega arith) ∙ ap (λ (x : ℕ). x ∷ line text (at + 1)) z)

  pub line_c : (end : ℕ) → end ≡ at + length l → byte text at ≡ 99 → Some (record { end = end; said = said }) ≡ line_of N l at said
  line_c end en z = ap (λ (i : ℕ). Some (record { end = i; said = said })) en ∙ right_kind skipped (c_kind z) refl

  pub marks_c : (ms : List Mark) → byte text at ≡ 99 → ms ≡ marked ms (literals_on (kind l))
  unfolding marked
  marks_c ms z = rw (c_kind z)

  pub line_other : (byte text at ≡ 118 → ⊥) → (byte text at ≡ 115 → ⊥) → (byte text at ≡ 99 → ⊥) → (byte text at ≡ 10 → ⊥) → None ≡ line_of N l at said
  unfolding kind
  line_other a b d c =
      let e : kind l ≡ neither =
      ap kind (line_more text at c)
      ∙ rw (ne_eqb (byte text at) 99 d, ne_eqb (byte text at) 115 b, ne_eqb (byte text at) 118 a) in
      wrong_kind neither e refl

  -- s
  module _ (z : byte text at ≡ 115) where
    s_line : l ≡ 115 ∷ line text (at + 1)
    s_line = line_more text at (λ y. omega arith) ∙ ap (λ (x : ℕ). x ∷ line text (at + 1)) z

    s_kind : kind l ≡ kind_of (status_of l)
    unfolding kind status_of
    s_kind = rw s_line (kind_by (same (115 ∷ line text (at + 1)) satisfiable) (same (115 ∷ line text (at + 1)) unsatisfiable) (same (115 ∷ line text (at + 1)) unknown))

    pub line_s_none : None ≡ status_of l → None ≡ line_of N l at said
    line_s_none e = wrong_kind neither (s_kind ∙ ap kind_of (sym e)) refl

    pub line_s_again : stated? said ≡ true → None ≡ line_of N l at said
    line_s_again e = wrong_kind _ s_kind (wrong_again N said e (status_of l))

    pub line_s : (s : Status) → Some s ≡ status_of l → stated? said ≡ false
        → Some (record { end = at + length l; said = record { verdict = Some (record { satisfiable = is_satisfiable s; place = at }); closed = said.closed } }) ≡ line_of N l at said
    line_s s e f =
        ap (λ (v : Option Verdict). Some (record { end = at + length l; said = record { verdict = Some (record { satisfiable = unwrap_or (option_map (λ u. u.satisfiable) v) false || is_satisfiable s; place = unwrap_or (option_map (λ u. u.place) v) at }); closed = said.closed } })) (sym (none_is said.verdict f))
        ∙ right_kind (status (is_satisfiable s)) (s_kind ∙ ap kind_of (sym e) ∙ kind_some s) (rw f)

    pub marks_s : (ms : List Mark) → ms ≡ marked ms (literals_on (kind l))
    unfolding marked
    marks_s ms = rw (s_kind, no_literals (status_of l))

  -- v
  module _ (z : byte text at ≡ 118) where
    v_line_lem : l ≡ 118 ∷ line text (at + 1)
    v_line_lem = line_more text at (λ y. omega arith) ∙ ap (λ (x : ℕ). x ∷ line text (at + 1)) z

    -- y is the byte behind the v
    module _ (y : ℕ) (ey : y ≡ byte text (at + 1)) where
      v_next : (y ≡ 32 → ⊥) → kind (118 ∷ line text (at + 1)) ≡ neither
      unfolding kind
      v_next d =
          split (eqb (byte text (at + 1)) 10)
          (λ h. rw (line_end text (at + 1) (eqb-true (byte text (at + 1)) 10 h)))
          (λ h. rw (line_more text (at + 1) (eqb-false (byte text (at + 1)) 10 h), ne_eqb (byte text (at + 1)) 32 (λ w. d (ey ∙ w))))

      pub line_v_other : (y ≡ 32 → ⊥) → None ≡ line_of N l at said
      line_v_other d = wrong_kind neither (ap kind v_line_lem ∙ v_next d) refl

      module _ (e : y ≡ 32) where
        v_both : l ≡ 118 ∷ 32 ∷ line text (at + 2)
        v_both =
            v_line_lem
            ∙ ap (λ (x : List ℕ). 118 ∷ x) (line_more text (at + 1) (λ w. omega arith) ∙ ap₂ (λ (x : ℕ) (j : ℕ). x ∷ line text j) (sym ey ∙ e) (let j : at + 1 + 1 ≡ at + 2 = omega arith in j))

        v_kind : kind l ≡ values (pieces 32 (line text (at + 2)))
        unfolding kind
        v_kind = ap kind v_both

        pub line_v_ended : said.closed ≡ true → None ≡ line_of N l at said
        line_v_ended t = wrong_kind (values (pieces 32 (line text (at + 2)))) v_kind (rw t)

        pub marks_v : literals_on (kind l) ≡ literals_in (line text (at + 2))
        marks_v = ap literals_on v_kind

        module _ (t : said.closed ≡ false) where
          pub line_v_wrong : None ≡ values_of N (line text (at + 2)) (at + 2) → None ≡ line_of N l at said
          unfolding values_of
          line_v_wrong h = wrong_kind (values (pieces 32 (line text (at + 2)))) v_kind (rw t (none_cond _ _ h))

          pub line_v : (v : Values) → Some v ≡ values_of N (line text (at + 2)) (at + 2)
              → Some (record { end = v.end; said = record { verdict = said.verdict; closed = v.closed } }) ≡ line_of N l at said
          unfolding values_of
          line_v v h =
              let (r, ev) = some_cond _ _ v h in
              let en : at + 2 + length (line text (at + 2)) ≡ at + length l = omega (arith, ap length v_both) in
              rw (ev, en)
              (ap (λ (b : Bool). Some (record { end = at + length l; said = record { verdict = said.verdict; closed = b || any zero? (pieces 32 (line text (at + 2))) } })) (sym t)
              ∙ right_kind (values (pieces 32 (line text (at + 2)))) v_kind (rw (t, r)))

-- ---- the lines one after another
abbrev Next : List ℕ → ℕ → Type 0
Next l k = ((k < length l) × (behind 10 l ≡ pieces 10 (drop (suc k) l))) ⊎ ((k ≡ length l) × (behind 10 l ≡ []))

next : (l : List ℕ) → Next l (length (ahead 10 l))
unfolding ahead behind
next [] = inr (refl, refl)
next (x ∷ l) =
    split (eqb x 10)
    (λ h. rw h (inl (omega arith, refl)))
    (λ h. rw h (⊎_elim (λ a. inl (omega (arith, a.0), a.1)) (λ a. inr (ap suc a.0, a.1)) (next l)))

-- the lines from a place on: none beyond the text
unfoldable pub lines_at : List ℕ → ℕ → List (List ℕ)
lines_at text at = cond (leb at (length text)) (lines (drop at text)) []

module _ (text : List ℕ) where
  pub all_lines : lines_at text 0 ≡ lines text
  unfolding lines_at
  all_lines = rw (le-leb 0 (length text) (omega arith))

  lines_in : (at : ℕ) → at ≤ length text → lines_at text at ≡ line text at ∷ behind 10 (drop at text)
  unfolding lines_at line
  lines_in at h = rw (le-leb at (length text) h)

  lines_out : (at : ℕ) → length text < at → lines_at text at ≡ []
  unfolding lines_at
  lines_out at h = rw (lt-leb at (length text) h)

  lines_more : (at e : ℕ) → at ≤ length text → e ≡ at + length (line text at) → lines_at text at ≡ line text at ∷ lines_at text (e + 1)
  unfolding line
  lines_more at e h q =
      let k : ℕ = length (ahead 10 (drop at text)) in
      let len : length (drop at text) ≡ length text - at = length-drop at text in
      let w : at + suc k ≡ e + 1 = omega arith in
      lines_in at h
      ∙ ap (λ (ls : List (List ℕ)). line text at ∷ ls)
      (⊎_elim
      (λ a. a.1 ∙ ap (λ (r : List ℕ). pieces 10 r) (drop-drop (suc k) at text ∙ ap (λ (i : ℕ). drop i text) w) ∙ sym (lines_in (e + 1) (omega (arith, a.0))))
      (λ a. a.1 ∙ sym (lines_out (e + 1) (omega (arith, a.0))))
      (next (drop at text)))

  module _ (N at : ℕ) (said : Said) where
    pub none_wrong : length text < at → wrong_lines N at said (lines_at text at) ≡ []
    unfolding wrong_lines
    none_wrong h = rw (lines_out at h)

    pub none_said : length text < at → said_after at said (lines_at text at) ≡ said
    unfolding said_after
    none_said h = rw (lines_out at h)

    pub none_marked : (ms : List Mark) → length text < at → marked ms (literals_of (lines_at text at)) ≡ ms
    unfolding literals_of marked
    none_marked ms h = rw (lines_out at h)

    module _ (h : at ≤ length text) where
      pub first_wrong : None ≡ line_of N (line text at) at said → (qs : List Question) (c : ℕ) → decide (wrong_lines N at said (lines_at text at) ∷ qs) c ≡ refuse 27 at
      unfolding line_of wrong_lines decide
      first_wrong e qs c = rw (lines_in at h, none_cond (right? N said (kind (line text at))) _ e)

      module _ (x : Line) (ex : Some x ≡ line_of N (line text at) at said) where
        facts : (right? N said (kind (line text at)) ≡ true) × (x ≡ record { end = at + length (line text at); said = after at said (kind (line text at)) })
        unfolding line_of
        facts = some_cond (right? N said (kind (line text at))) _ x ex

        pub end_is : x.end ≡ at + length (line text at)
        end_is = ap (λ (y : Line). y.end) facts.1

        said_is : x.said ≡ after at said (kind (line text at))
        said_is = ap (λ (y : Line). y.said) facts.1

        more : lines_at text at ≡ line text at ∷ lines_at text (x.end + 1)
        more = lines_more at x.end h end_is

        pub next_wrong : wrong_lines N (x.end + 1) x.said (lines_at text (x.end + 1)) ≡ wrong_lines N at said (lines_at text at)
        unfolding wrong_lines
        next_wrong =
            ap₂ (λ (j : ℕ) (s : Said). wrong_lines N (j + 1) s (lines_at text (x.end + 1))) end_is said_is
            ∙ sym (ap (wrong_lines N at said) more ∙ rw facts.0)

        pub next_said : said_after (x.end + 1) x.said (lines_at text (x.end + 1)) ≡ said_after at said (lines_at text at)
        unfolding said_after
        next_said =
            ap₂ (λ (j : ℕ) (s : Said). said_after (j + 1) s (lines_at text (x.end + 1))) end_is said_is
            ∙ sym (ap (said_after at said) more)

        pub next_marked : (ms ms1 : List Mark) → ms1 ≡ marked ms (literals_on (kind (line text at)))
            → marked ms1 (literals_of (lines_at text (x.end + 1))) ≡ marked ms (literals_of (lines_at text at))
        unfolding literals_of
        next_marked ms ms1 em =
            sym
            (ap (λ (ls : List (List ℕ)). marked ms (literals_of ls)) more
            ∙ marked_append ms (literals_on (kind (line text at))) (literals_of (lines_at text (x.end + 1)))
            ∙ ap (λ (y : List Mark). marked y (literals_of (lines_at text (x.end + 1)))) (sym em))

        -- all three of the lines that are left
        pub next_line : (ms ms1 : List Mark) → ms1 ≡ marked ms (literals_on (kind (line text at)))
            → (wrong_lines N (x.end + 1) x.said (lines_at text (x.end + 1)) ≡ wrong_lines N at said (lines_at text at))
            × (said_after (x.end + 1) x.said (lines_at text (x.end + 1)) ≡ said_after at said (lines_at text at))
            × (marked ms1 (literals_of (lines_at text (x.end + 1))) ≡ marked ms (literals_of (lines_at text at)))
        next_line ms ms1 em = (next_wrong, next_said, next_marked ms ms1 em)
