-- The claim of the calls with a ceiling, proved for every accepted instance and every c from 0 to 128: by the laws of the added clauses, and by
-- what the base formula says of the plan named.
use mathlib.Core.Path.{◌≡◌, refl, sym, ◌∙◌, ap, ap₂, subst}
use mathlib.Core.Logic.Iff
use mathlib.Core.Logic.{◌↔◌, ◌≢◌, by_cases}
use mathlib.Core.List.{List, [], ◌∷◌, ◌++◌, append-nil, append_assoc}
use mathlib.Core.Bool.{Bool}
use Prim.Native.Nat.{ℕ, suc, ◌+◌, ◌*◌, ◌-◌, ◌≤◌, ◌<◌}
use native.Mathlib.Nat.{zero-mul}
use native.Mathlib.Numerals.{add-one}
use native.Mathlib.Decide.{dec_lt}
use native.Mathlib.Omega.{arith}
use borrow.Author.Tests.{le-ltb}
use lib.ListN.{length, length-append, drop}
use lib.Seq.{drop_at}
use lib.Dec.{T, ltb, leb, eqb}
use lib.IntN.{ℤ}
use Rattle.lists.specs.Loop.{all, any, each}
use Rattle.lists.proofs.Tests.{T_ext, and_iff, ltb_iff, leb_iff, eqb_iff}
use Rattle.lists.proofs.Loops.{all_append, each_append}
use Rattle.lists.proofs.Rising.{when_yes}
use Rattle.answers.specs.declared.Answer.{Answer}
use Rattle.answers.specs.Answers.{Question, refuse, decide, with_clauses, clear}
use Rattle.answers.proofs.Laws.{numbered, clear_iff, clear_second, numbered_second, decide_iff, decide_count, decide_after, decide_refused, count_free, lent_take, ask_no, ask_yes, ask_nil, ask_all}
use Rattle.instance.specs.Instance.{Instance, instance, Edges, Endpoints, Counted}
use Rattle.instance.specs.Limits.{Limits}
use Rattle.instance.specs.Questions.{instance_questions, instance_answer}
use Rattle.instance.proofs.Instance.{instance_iff, endpoints, edges_known, goals_counted, limits}
use Rattle.formula.specs.Variables.{variable_count}
use Rattle.formula.specs.Formula.{Clause, Formula, clauses, formula, line, words}
use Rattle.formula.specs.Counts.{most_words}
use Rattle.formula.proofs.Limits.{clauses_most, words_most}
use Rattle.plan.specs.Plan.{plan_row, rest_time, cost}
use Rattle.plan.specs.Passing.{Passes}
use Rattle.plan.proofs.Rest.{busy_iff}
use Rattle.plan.proofs.Rows.{plan_ext}
use Rattle.valuation.specs.Valuation.{true?, named_plan}
use Rattle.valuation.specs.Satisfying.{True, Valuation}
use Rattle.valuation.specs.Places.{Places}
use Rattle.valuation.proofs.Families.{Sat, satisfies_iff, places_unique}
use Rattle.valuation.proofs.Entries.{named_size}
use Rattle.ceiling.specs.Tree.{Tree, input, node, inputs, variables, before, tree_clauses, count, on, off}
use Rattle.ceiling.specs.Ceiling.{busy_number, root, moves, chain, counters, limit, added_clauses, added_variables, over_number, ceiling_variables, ceiling_count, ceiling_words, under_ceiling}
use Rattle.ceiling.specs.Encoded.{busy, busy_at, ceiling_valuation}
use Rattle.ceiling.proofs.Tree.{tree_one, tree_two, tree_inputs, count_same, Means}
use Rattle.ceiling.proofs.Entries.{clash}
use Rattle.ceiling.proofs.Counts.{ceiling_count_lem, ceiling_words_lem, variables_top, count_top, words_top, largest_ceiling, largest_one_lem}
use Rattle.ceiling.proofs.Ceiling.{says_iff, ceiling_places, ceiling_passes, ceiling_cost, ceiling_valuation_lem, ceiling_written, ceiling_means, says_busy, says_B, added_hold, over_last, no_limit}
use Rattle.calls.specs.Questions.{question13, question14, question15, question16, question23, question24, question33}
use Rattle.calls.specs.Calls.{plan_questions, encode_rest, decode_rest, check_answer}
use Rattle.calls.specs.Ceiling.{ceiling_questions, ceiling_answer, ceiling_size_answer, ceiling_write_answer, ceiling_decode_questions, ceiling_decode_answer, ceiling_decode_slice, ceiling_encode_questions, ceiling_encode_answer, ceiling_encode_slice, ceiling_read_questions, ceiling_read_answer}
use Rattle.calls.proofs.Size.{size_refused}
use Rattle.calls.proofs.Plan.{numbered_plan, clear_plan, check_iff}
use Rattle.calls.proofs.Valuation.{true_iff, satisfies_mem, numbered_valuation, clear_valuation}
use Rattle.calls.proofs.Ceiling.{numbered_ceiling, clear_ceiling, ceiling_iff, check_refuses, check_high}
use Rattle.claims.specs.Correspondence.{Accepts}
use Rattle.claims.specs.Ceiling.{Counts, Ceiling, Refused, Claim, bytes, handed_back, written}
use Rattle.claims.proofs.CeilingWorked.{worked}
use Rattle.claims.proofs.Correspondence.{fits, inside_at, names}
use Rattle.claims.proofs.Refusals.{numbered_ceiling_decode, numbered_ceiling_encode, numbered_ceiling_read}

-- a second question that is answered yes may be passed over
skip_second : (q r : Question) (qs : List Question) (n : ℕ) → r ≡ [] → decide (q ∷ r ∷ qs) n ≡ decide (q ∷ qs) n
unfolding decide
skip_second [] r qs n e = rw e refl
skip_second (x ∷ q) r qs n e = refl

-- the count of an acceptance
count_second : (qs : List Question) (n : ℕ) → T (all numbered qs) → (decide qs n).number ≡ 0 → (decide qs n).second ≡ n
count_second qs n known e = ap (λ (a : Answer). a.second) (decide_count qs n ((decide_iff qs n known).0 e))

-- outputs that say their meaning, as propositions
counts_mean : (c : ℕ) (es : List ℤ) → ((z : ℕ) → T (true? es (on z)) → T (true? es (off z)) → ⊥) → (b : ℕ → Bool) (t : Tree) (x y : ℕ)
    → Means c (true? es) b t x y → Counts es b c t x y
unfolding Means
counts_mean c es q b input x y w = tt
counts_mean c es q b (node l r) x y w = (
  counts_mean c es q b l x y w.0,
  counts_mean c es q b r (x + inputs l) (y + variables c l) w.1,
  (λ i h k.
      Iff.trans (Iff.symm (true_iff es (on (before c (node l r) x y + i))))
      (Iff.trans (says_iff (true? es) q (before c (node l r) x y + i) (leb i (count b x (inputs (node l r)))) (w.2 i h k)).0
      (leb_iff i (count b x (inputs (node l r)))))),
)

-- they go by the truth of the inputs alone
counts_same : (es : List ℤ) (b b' : ℕ → Bool) (c : ℕ) (t : Tree) (x y : ℕ) → ((j : ℕ) → j < inputs t → b (x + suc j) ≡ b' (x + suc j)) → Counts es b c t x y → Counts es b' c t x y
unfolding inputs
counts_same es b b' c input x y h w = tt
counts_same es b b' c (node l r) x y h w = (
  counts_same es b b' c l x y (λ j q. h j (omega arith)) w.0,
  counts_same es b b' c r (x + inputs l) (y + variables c l)
      (λ j q. let e : x + inputs l + suc j ≡ x + suc (inputs l + j) = omega arith in rw e (h (inputs l + j) (omega arith))) w.1,
  (λ i p q. subst (λ (k : ℕ). True es (on (before c (node l r) x y + i)) ↔ (i ≤ k)) (count_same b b' (inputs l + inputs r) x x h) (w.2 i p q)),
)

-- the limit is the last clause, and speaks of the last variable
last_clause : (I : Instance) (c : ℕ) → Counted I → c < I.sizes.m * I.sizes.k
    → drop (ceiling_count I.sizes c - 1) (under_ceiling c I).clauses ≡ (off (under_ceiling c I).variables ∷ []) ∷ []
unfolding added_clauses limit
last_clause I c w l =
    let s = I.sizes in
    let front : List Clause = clauses I ++ (moves s ++ chain s ++ counters s c) in
    let end : List Clause = (off (over_number s c) ∷ []) ∷ [] in
    let whole : (under_ceiling c I).clauses ≡ front ++ end =
    ap (λ (cs : List Clause). clauses I ++ ((moves s ++ chain s ++ counters s c) ++ cs)) (when_yes (ltb c (s.m * s.k)) end ((ltb_iff c (s.m * s.k)).1 l))
    ∙ sym (append_assoc (clauses I) (moves s ++ chain s ++ counters s c) end) in
    let n : ceiling_count s c - 1 ≡ length front = let q = sym (ceiling_count_lem I c w) ∙ ap length whole ∙ length-append front end in omega arith in
    ap₂ (λ (i : ℕ) (cs : List Clause). drop i cs) n whole ∙ drop_at front end (length front) refl ∙ ap (λ (z : ℕ). (off z ∷ []) ∷ []) (over_last s c l)

module _ (b : List ℕ) (m rule c : ℕ) (ok : T (all clear (instance_questions b m rule))) (small : c ≤ 128) where
  abbrev I : Instance
  I = instance b m rule

  abbrev L : Formula
  L = under_ceiling c I

  ends : Endpoints I
  ends = endpoints b m rule ok

  edges : Edges I
  edges = edges_known b m rule ok

  asked : T (all clear (ceiling_questions b m rule c))
  asked = (clear_ceiling b m rule c).1 (ok, small)

  decode_iff : (es : List ℤ) (s : ℕ) → bytes b m rule c ≤ s → Accepts (ceiling_decode_answer b m rule c es s) ↔ (Valuation L.variables es × Sat (true? es) L.clauses)
  unfolding ceiling_decode_answer
  decode_iff es s l =
      rw (decide_after (ceiling_questions b m rule c) _ _ asked)
      (Iff.trans (decide_iff (decode_rest I L es s) _ (numbered_second (question14 L es) (question15 I s) (question23 L es ∷ question24 L es ∷ []) ((ask_all _ (leb (bytes b m rule c) s) _).1 (λ f. tt)) (numbered_valuation L es)))
      (Iff.trans (clear_second (question14 L es) (question15 I s) (question23 L es ∷ question24 L es ∷ []) (fits (bytes b m rule c) s _ l))
      (clear_valuation L es)))

  abbrev own : List ℕ → ℕ → List Question
  own p s = encode_rest I L.variables p s

  numbered_own : (p : List ℕ) (s : ℕ) → T (all numbered (own p s))
  numbered_own p s = numbered_second (question13 I p) (question16 L.variables s) (plan_questions I p) ((ask_all _ (leb L.variables s) _).1 (λ f. tt)) (numbered_plan I p)

  -- the encoder's answer, behind what is asked first
  encodes : (p : List ℕ) (s : ℕ) → ceiling_encode_answer b m rule c p s ≡ decide (own p s ++ question33 c I p ∷ []) L.variables
  unfolding ceiling_encode_answer
  encodes p s = decide_after (ceiling_questions b m rule c) _ _ asked

  clear_own : (p : List ℕ) (s : ℕ) → L.variables ≤ s → T (all clear (own p s)) ↔ Passes I p
  clear_own p s l = Iff.trans (clear_second (question13 I p) (question16 L.variables s) (plan_questions I p) (fits L.variables s _ l)) (clear_plan I p)

  clear_33 : (p : List ℕ) → T (all clear (question33 c I p ∷ [])) ↔ (cost I.sizes p ≤ c)
  clear_33 p = simp (and_iff, clear_iff, ask_nil, leb_iff) ((λ h. h.0), (λ h. (h, tt)))

  encode_iff : (p : List ℕ) (s : ℕ) → L.variables ≤ s → Accepts (ceiling_encode_answer b m rule c p s) ↔ (Passes I p × (cost I.sizes p ≤ c))
  encode_iff p s l =
      rw (encodes p s)
      (Iff.trans (decide_iff (own p s ++ question33 c I p ∷ []) _ ((all_append numbered (own p s) (question33 c I p ∷ [])).1 (numbered_own p s, simp (and_iff, ask_all) ((λ f. tt), tt))))
      (Iff.trans (all_append clear (own p s) (question33 c I p ∷ []))
      ((λ (x, y). ((clear_own p s l).0 x, (clear_33 p).0 y)), (λ (x, y). ((clear_own p s l).1 x, (clear_33 p).1 y)))))

  -- ---- refusals of the encoder
  costly : (p : List ℕ) (s : ℕ) → L.variables ≤ s → Passes I p → c < cost I.sizes p → ceiling_encode_answer b m rule c p s ≡ refuse 33 (cost I.sizes p)
  costly p s l w h =
      encodes p s
      ∙ decide_after (own p s) (question33 c I p ∷ []) _ ((clear_own p s l).1 w)
      ∙ ask_no (leb (cost I.sizes p) c) _ [] _ (λ t. let q = (leb_iff (cost I.sizes p) c).0 t in let f : ⊥ = omega arith in f)

  -- what the plan check refuses
  alike : (p : List ℕ) (s : ℕ) → L.variables ≤ s → (check_answer b m rule p).number ≢ 0 → ceiling_encode_answer b m rule c p s ≡ check_answer b m rule p
  unfolding check_answer
  alike p s l d =
      let q13 = question13 I p in
      let q16 = question16 L.variables s in
      let plan = plan_questions I p in
      let N = L.variables in
      let e : check_answer b m rule p ≡ decide (q13 ∷ plan) (cost I.sizes p) = decide_after (instance_questions b m rule) (q13 ∷ plan) _ ok in
      let e' : decide (own p s) N ≡ decide (q13 ∷ plan) N = skip_second q13 q16 plan N ((clear_iff q16).0 (fits N s _ l)) in
      let d' : (decide (q13 ∷ plan) (cost I.sizes p)).number ≢ 0 = λ z. d (ap (λ (a : Answer). a.number) e ∙ z) in
      let f : decide (q13 ∷ plan) (cost I.sizes p) ≡ decide (q13 ∷ plan) N = count_free (q13 ∷ plan) _ N d' in
      encodes p s
      ∙ decide_refused (own p s) (question33 c I p ∷ []) N N (λ z. d' (ap (λ (a : Answer). a.number) (f ∙ sym e') ∙ z))
      ∙ e' ∙ sym f ∙ sym e

  -- ---- slices
  handed : (es : List ℤ) (s : List ℕ) → Accepts (ceiling_decode_answer b m rule c es (length s)) → handed_back b m rule c es s ≡ named_plan I.sizes es
  unfolding ceiling_decode_slice
  handed es s e = rw (← (named_size I.sizes es)) (lent_take (ceiling_decode_answer b m rule c es (length s)) (named_plan I.sizes es) s e)

  wrote : (p : List ℕ) (z : List ℤ) → Accepts (ceiling_encode_answer b m rule c p (length z)) → written b m rule c p z ≡ ceiling_valuation I.sizes p c
  unfolding ceiling_encode_slice
  wrote p z e = rw (← (ceiling_valuation_lem I.sizes p c).size) (lent_take (ceiling_encode_answer b m rule c p (length z)) (ceiling_valuation I.sizes p c) z e)

  -- ---- what the valuation of a passing plan does
  module _ (p : List ℕ) (w : Passes I p) (l : cost I.sizes p ≤ c) where
    abbrev es : List ℤ
    es = ceiling_valuation I.sizes p c

    at_places : Places I.sizes (true? es) (plan_row I.sizes p)
    at_places = ceiling_written I.sizes p c (inside_at I p w)

    sat_all : Sat (true? es) L.clauses
    sat_all =
        (all_append (any (true? es)) (clauses I) (added_clauses I.sizes c)).1
        ((satisfies_iff I ends edges (plan_row I.sizes p) (true? es) at_places).1 w.leads, added_hold I.sizes p c (inside_at I p w) l)

    round_trip : named_plan I.sizes es ≡ p
    round_trip =
        plan_ext I.sizes.k I.sizes.m (named_plan I.sizes es) p (named_size I.sizes es) w.size
        (places_unique I.sizes _ _ _ (ceiling_places I ends edges c es (ceiling_valuation_lem I.sizes p c) sat_all) at_places)

    busy_means : (t a : ℕ) → t < I.sizes.m → a < I.sizes.k → True es (on (busy_number I.sizes t a)) ↔ (t < rest_time I.sizes.m (plan_row I.sizes p) a)
    busy_means t a x y =
        Iff.trans (Iff.symm (true_iff es (on (busy_number I.sizes t a))))
        (Iff.trans (says_iff (true? es) (clash _ es (ceiling_valuation_lem I.sizes p c)) (busy_number I.sizes t a) (busy I.sizes p t a) (says_B I.sizes p c t a x y)).0
        (busy_iff I.sizes.m (plan_row I.sizes p) a t))

  -- ---- lengths come first
  entries_14 : (es : List ℤ) (room : ℕ) → length es ≢ L.variables → ceiling_decode_answer b m rule c es room ≡ refuse 14 (length es)
  unfolding ceiling_decode_answer
  entries_14 es room d =
      decide_after (ceiling_questions b m rule c) _ _ asked ∙ ask_no (eqb (length es) L.variables) _ _ _ (λ t. d ((eqb_iff (length es) L.variables).0 t))

  room_15 : (es : List ℤ) (room : ℕ) → length es ≡ L.variables → room < bytes b m rule c → ceiling_decode_answer b m rule c es room ≡ refuse 15 (bytes b m rule c)
  unfolding ceiling_decode_answer
  room_15 es room e l =
      decide_after (ceiling_questions b m rule c) _ _ asked
      ∙ ask_yes (eqb (length es) L.variables) _ _ _ ((eqb_iff (length es) L.variables).1 e)
      ∙ ask_no (leb (bytes b m rule c) room) _ _ _ (λ t. let h = (leb_iff (bytes b m rule c) room).0 t in let f : ⊥ = omega arith in f)

  bytes_13 : (p : List ℕ) (room : ℕ) → length p ≢ bytes b m rule c → ceiling_encode_answer b m rule c p room ≡ refuse 13 (length p)
  bytes_13 p room d =
      encodes p room ∙ ask_no (eqb (length p) (bytes b m rule c)) _ _ _ (λ t. d ((eqb_iff (length p) (bytes b m rule c)).0 t))

  room_16 : (p : List ℕ) (room : ℕ) → length p ≡ bytes b m rule c → room < L.variables → ceiling_encode_answer b m rule c p room ≡ refuse 16 L.variables
  room_16 p room e l =
      encodes p room
      ∙ ask_yes (eqb (length p) (bytes b m rule c)) _ _ _ ((eqb_iff (length p) (bytes b m rule c)).1 e)
      ∙ ask_no (leb L.variables room) _ _ _ (λ t. let h = (leb_iff L.variables room).0 t in let f : ⊥ = omega arith in f)

  text_16 : (text : List ℕ) (room : ℕ) → room < L.variables → ceiling_read_answer b m rule c text room ≡ refuse 16 L.variables
  unfolding ceiling_read_answer
  text_16 text room l =
      decide_after (ceiling_questions b m rule c) _ _ asked
      ∙ ask_no (leb L.variables room) _ _ _ (λ t. let h = (leb_iff L.variables room).0 t in let f : ⊥ = omega arith in f)

  -- ---- where what is added stands
  after : words L ≡ words (formula I) ++ each line (added_clauses I.sizes c)
  unfolding words
  after = each_append line (clauses I) (added_clauses I.sizes c)

  last : c < I.sizes.m * I.sizes.k → drop (ceiling_count I.sizes c - 1) L.clauses ≡ (off L.variables ∷ []) ∷ []
  last l = last_clause I c (goals_counted b m rule) l

  lim : Limits I.sizes
  lim = limits b m rule ok

  most : L.variables ≤ 38275
  most = variables_top I.sizes lim c small

  most_clauses_lem : length L.clauses ≤ 16953636
  unfolding ceiling_count
  most_clauses_lem = rw (ceiling_count_lem I c (goals_counted b m rule)) (omega (arith, clauses_most I.sizes lim, count_top I.sizes lim c small))

  most_words_lem : length (words L) ≤ most_words I.sizes + 473308
  unfolding ceiling_words
  most_words_lem = rw (ceiling_words_lem I c edges (goals_counted b m rule)) (omega (arith, words_most I.sizes lim, words_top I.sizes lim c small))

  -- each node's outputs count its true inputs
  written_counts : (p : List ℕ) → Counts (ceiling_valuation I.sizes p c) (λ x. true? (ceiling_valuation I.sizes p c) (on x)) c (root I.sizes) (variable_count I.sizes) (variable_count I.sizes + I.sizes.m * I.sizes.k)
  written_counts p =
      by_cases (dec_lt 0 (I.sizes.m * I.sizes.k))
      (λ o.
      counts_same (ceiling_valuation I.sizes p c) (busy_at I.sizes p) (λ x. true? (ceiling_valuation I.sizes p c) (on x)) c (root I.sizes) _ _
      (λ j l.
      let e = tree_inputs (I.sizes.m * I.sizes.k) o in
      T_ext _ _ (Iff.symm (says_iff (true? (ceiling_valuation I.sizes p c)) (clash _ _ (ceiling_valuation_lem I.sizes p c)) (variable_count I.sizes + suc j) (busy_at I.sizes p (variable_count I.sizes + suc j)) (says_busy I.sizes p c j (omega arith))).0))
      (counts_mean c (ceiling_valuation I.sizes p c) (clash _ _ (ceiling_valuation_lem I.sizes p c)) (busy_at I.sizes p) (root I.sizes) _ _ (ceiling_means I.sizes p c o)))
      (λ o. rw (tree_one (I.sizes.m * I.sizes.k) (omega arith)) tt)

  ceiling_at : Ceiling b m rule c
  unfolding ceiling_decode_answer ceiling_encode_answer ceiling_read_answer instance
  ceiling_at =
      record {
        decoder = λ es s l. Iff.trans (decode_iff es (length s) l) ((λ (w, h). (w, (satisfies_mem L es).0 h)), (λ (w, h). (w, (satisfies_mem L es).1 h)));
        decoded = λ es s l e.
            let (w, h) = (decode_iff es (length s) l).0 e in
            rw (handed es s e) (
              names I es (named_plan I.sizes es) (named_size I.sizes es) (ceiling_places I ends edges c es w h),
              ((check_iff b m rule ok (named_plan I.sizes es)).1 (ceiling_passes I ends edges c es w h), ceiling_cost I ends edges c es w h),
            );
        decoded_count = λ es room e. count_second (ceiling_decode_questions b m rule c es room) _ (numbered_ceiling_decode b m rule c es room) e ∙ ap (λ (x : ℕ). x * I.sizes.k) (sym (add-one m));
        encoder = λ p z l. Iff.trans (encode_iff p (length z) l) ((λ h. ((check_iff b m rule ok p).1 h.0, h.1)), (λ h. ((check_iff b m rule ok p).0 h.0, h.1)));
        encoded = λ p z l e.
            let (w, k) = (encode_iff p (length z) l).0 e in
            let v = ceiling_valuation_lem I.sizes p c in
            let h = sat_all p w k in
            rw (wrote p z e) (
              v,
              (satisfies_mem L (ceiling_valuation I.sizes p c)).0 h,
              names I (ceiling_valuation I.sizes p c) p w.size (at_places p w k),
              (λ s l'.
                  let a = (decode_iff (ceiling_valuation I.sizes p c) (length s) l').1 (v, h) in
                  (a, handed (ceiling_valuation I.sizes p c) s a ∙ round_trip p w k)),
            );
        busy = λ p z l e. let (w, k) = (encode_iff p (length z) l).0 e in rw (wrote p z e) (busy_means p w k);
        counted = λ p z l e. rw (wrote p z e) (written_counts p);
        encoded_count = λ p room e. count_second (ceiling_encode_questions b m rule c p room) _ (numbered_ceiling_encode b m rule c p room) e;
        read_count = λ text room e. count_second (ceiling_read_questions b m rule c text room) _ (numbered_ceiling_read b m rule c text room) e;
        alike = λ p z l d. alike p (length z) l d;
        costly = λ p z l e h. costly p (length z) l ((check_iff b m rule ok p).0 e) h;
        satisfiable = (
          (λ (es, w, h).
              let h' = (satisfies_mem L es).1 h in
              (named_plan I.sizes es, ((check_iff b m rule ok (named_plan I.sizes es)).1 (ceiling_passes I ends edges c es w h'), ceiling_cost I ends edges c es w h'))),
          (λ (p, (e, l)).
              let w = (check_iff b m rule ok p).0 e in
              (ceiling_valuation I.sizes p c, ceiling_valuation_lem I.sizes p c, (satisfies_mem L (ceiling_valuation I.sizes p c)).0 (sat_all p w l))),
        );
        entries14 = entries_14;
        room15 = room_15;
        bytes13 = bytes_13;
        room16 = room_16;
        text16 = text_16;
        after = after;
        last = last;
        unlimited = no_limit I.sizes c;
        clause_total = ceiling_count_lem I c (goals_counted b m rule);
        word_total = ceiling_words_lem I c edges (goals_counted b m rule);
        most = most;
        most_clauses = most_clauses_lem;
        most_words = most_words_lem;
      }

-- ---- what is refused first
module _ (b : List ℕ) (m rule c : ℕ) (r : Answer) (e : ceiling_answer b m rule c ≡ r) (d : r.number ≢ 0) where
  not_passed : (ceiling_answer b m rule c).number ≢ 0
  not_passed z = d (sym (ap (λ (a : Answer). a.number) e) ∙ z)

  stops : (qs : List Question) (n : ℕ) → decide (ceiling_questions b m rule c ++ qs) n ≡ r
  unfolding ceiling_answer
  stops qs n = decide_refused (ceiling_questions b m rule c) qs 0 n not_passed ∙ e

  refused : Refused r b m rule c
  unfolding ceiling_size_answer ceiling_write_answer ceiling_decode_answer ceiling_encode_answer ceiling_read_answer ceiling_answer
  refused =
      record {
        size = sym (size_refused (ceiling_questions b m rule c) (numbered_ceiling b m rule c) (under_ceiling c (instance b m rule)) not_passed) ∙ ap (λ (a : Answer). with_clauses a 0) e;
        writer = λ room. stops _ _;
        decoder = λ es room. stops _ _;
        encoder = λ p room. stops _ _;
        reader = λ text room. stops _ _;
      }

-- ---- at m 0
no_steps : (I : Instance) (c : ℕ) → I.sizes.m ≡ 0 → (added_clauses I.sizes c ≡ []) × (ceiling_variables I.sizes c ≡ variable_count I.sizes)
unfolding added_clauses moves chain counters limit ceiling_variables added_variables tree_clauses variables
no_steps I c e =
    let z : I.sizes.m * I.sizes.k ≡ 0 = ap (λ (x : ℕ). x * I.sizes.k) e ∙ zero-mul I.sizes.k in
    rw (z, e, tree_one 0 (omega arith), le-ltb c 0 (omega arith)) (refl, omega arith)

at_zero : (b : List ℕ) (rule : ℕ) → (instance b 0 rule).sizes.m ≡ 0
unfolding instance
at_zero b rule = refl

nothing_added : (b : List ℕ) (rule c : ℕ) → under_ceiling c (instance b 0 rule) ≡ formula (instance b 0 rule)
nothing_added b rule c =
    let I = instance b 0 rule in
    let (x, y) = no_steps I c (at_zero b rule) in
    ap₂ (λ (n : ℕ) (cs : List Clause). record { variables = n; clauses = cs }) y (ap (λ (cs : List Clause). clauses I ++ cs) x ∙ append-nil (clauses I))

pub ceiling_claim : Claim
ceiling_claim =
    record {
      ceiling = λ b m rule c o l. ceiling_at b m rule c ((instance_iff b m rule).0 o) l;
      accepts = ceiling_iff;
      first = λ b m rule c d. refused b m rule c (instance_answer b m rule) (sym (check_refuses b m rule c (instance_answer b m rule) refl d)) d;
      high = λ b m rule c o l. refused b m rule c (refuse 32 0) (sym (check_high b m rule c (instance_answer b m rule) refl o l)) (λ z. let f : ⊥ = omega arith in f);
      cut = tree_two;
      single = tree_one 1 (omega arith);
      width = tree_inputs;
      nothing = nothing_added;
      largest = largest_ceiling;
      largest_one = largest_one_lem;
      worked = worked;
    }
