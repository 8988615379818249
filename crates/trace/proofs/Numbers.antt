-- What is printed, and the number of a call, by document 01's conditions and in its order.
-- Assumes nothing.
use Rattle.std.specs.Prelude.{Ok, Err}
use Prim.Native.Nat.{ℕ, zero, suc, ◌+◌, ◌<◌, ◌≤◌}
use mathlib.Core.Path.{◌≡◌, refl, sym, ap, ◌∙◌}
use mathlib.Core.Bool.{Bool, true, false, not}
use mathlib.Core.List.{List, [], ◌∷◌}
use native.Mathlib.Decide.{ℕ_discrete, dec_lt}
use native.Mathlib.Nat.{le_of_suc-le-suc}
use native.Mathlib.Omega.{arith}
use lib.ListN.{length, get_or, drop, replicate}
use lib.Dec.{ltb}
use lib.Seq.{take_at}
use borrow.Author.Tests.{lt-ltb, le-ltb}
use Rattle.parts.specs.declared.Refusal.{Refusal}
use Rattle.parts.specs.declared.Refusal.TheVariants.{NoPart, WrongEnable, BadEvent, TooMany}
use Rattle.parts.specs.Verdict.{Verdict}
use Rattle.parts.specs.Table.{facts_of, enable_right_of}
use Rattle.parts.specs.Events.{event_right_of}
use Rattle.parts.specs.Refusals.{rank_of, claim_of, sooner_of}
use Rattle.parts.proofs.Laws.{known, unknown}
use Rattle.parts.proofs.Claims.{Later, later_claim, later_sooner, given_first}
use Rattle.chip.specs.Calls.{scan_of}
use Rattle.chip.proofs.Laws.{scan_later}
use Rattle.trace.specs.Trace.{head_right_of, letters_end_of, letters_of, code_of, codes_of, leading_of, decimal_of, refusal_text_of, ran_text_of, traced_verdict_of, traced_of, trace_of, room_verdict_of}
use Rattle.trace.specs.Numbers.{Tracing, tracing, part_named, enable_named, taken_at, TextNamed, TextShort, refused_line, refused_at, call_number, printed, Prints, TraceNumbers, OneTraceNumber, EagerTraceBreaks}
use Rattle.trace.proofs.Runs.{claimed_letters, trace_right}

-- ---- a text laid into a lent buffer

prints : (t out lines : List ℕ) → trace_of t ≡ lines → Prints tracing t out lines
unfolding room_verdict_of
prints t out lines e =
    record {
      short_buffer = λ h. rw (e, lt-ltb (length out) (length lines) h) refl;
      none = λ h. (rw (e, le-ltb (length out) (length lines) h) refl, rw (e, le-ltb (length out) (length lines) h) (take_at lines (drop (length lines) out) (length lines) refl));
    }

-- ---- the scan for 5

scan_at : (pin : Bool) (s k : ℕ) (xs : List ℕ) → k < length xs → ((j : ℕ) → j < k → event_right_of pin (code_of (get_or xs j 0)) ≡ true)
    → event_right_of pin (code_of (get_or xs k 0)) ≡ false → scan_of pin s (codes_of xs) ≡ Err (BadEvent (s + k))
scan_at pin s k [] h t b = absurd (omega arith)
scan_at pin s zero (x ∷ xs) h t b = rw b (ap (λ (n : ℕ). Err (BadEvent n)) (omega arith))
scan_at pin s (suc k) (x ∷ xs) h t b =
    rw (t 0 (omega arith)) (scan_at pin (suc s) k xs (le_of_suc-le-suc h) (λ j i. t (suc j) (omega (arith, i))) b ∙ ap (λ (n : ℕ). Err (BadEvent n)) (omega arith))

scan_clean : (pin : Bool) (s : ℕ) (xs : List ℕ) → ((j : ℕ) → j < length xs → event_right_of pin (code_of (get_or xs j 0)) ≡ true) → scan_of pin s (codes_of xs) ≡ Ok tt
scan_clean pin s [] t = refl
scan_clean pin s (x ∷ xs) t = rw (t 0 (omega arith)) (scan_clean pin (suc s) xs (λ j h. t (suc j) (omega (arith, h))))

-- ---- the verdict of a part, an enable and letters

module _ (part en : ℕ) (xs : List ℕ) where
  abbrev verdict : Verdict
  verdict = traced_verdict_of part en (codes_of xs)

  abbrev enable : Verdict
  enable = claim_of (not (enable_right_of (facts_of part) en)) WrongEnable

  abbrev many : Verdict
  many = claim_of (ltb 32768 (length xs)) TooMany

  abbrev scan : Verdict
  scan = scan_of (facts_of part).pin 0 (codes_of xs)

  later : (k : ℕ) → k ≤ rank_of TooMany → Later k (sooner_of many scan)
  later k h =
      later_sooner k many scan (later_claim k (ltb 32768 (length xs)) TooMany h) (scan_later k (facts_of part).pin 0 (codes_of xs) (omega (arith, h)))

  verdict_1 : 5 < part → verdict ≡ Err NoPart
  verdict_1 h =
      sym (claimed_letters part en xs)
      ∙ ap (λ (b : Bool). sooner_of (claim_of (not b) NoPart) (sooner_of enable (sooner_of many scan))) (unknown part h)
      ∙ given_first NoPart (sooner_of enable (sooner_of many scan))
      (later_sooner (rank_of NoPart) enable (sooner_of many scan) (later_claim (rank_of NoPart) (not (enable_right_of (facts_of part) en)) WrongEnable (omega arith)) (later (rank_of NoPart) (omega arith)))

  -- 1 does not apply
  known_part : part ≤ 5 → verdict ≡ sooner_of enable (sooner_of many scan)
  unfolding sooner_of
  known_part k =
      sym (claimed_letters part en xs) ∙ ap (λ (b : Bool). sooner_of (claim_of (not b) NoPart) (sooner_of enable (sooner_of many scan))) (known part k)

  verdict_2 : part ≤ 5 → (facts_of part).enables ≤ en → verdict ≡ Err WrongEnable
  unfolding enable_right_of
  verdict_2 k h =
      known_part k ∙ ap (λ (b : Bool). sooner_of (claim_of (not b) WrongEnable) (sooner_of many scan)) (le-ltb en (facts_of part).enables h)
      ∙ given_first WrongEnable (sooner_of many scan) (later (rank_of WrongEnable) (omega arith))

  -- nor does 2
  enabled : part ≤ 5 → en < (facts_of part).enables → verdict ≡ sooner_of many scan
  unfolding enable_right_of sooner_of
  enabled k h = known_part k ∙ ap (λ (b : Bool). sooner_of (claim_of (not b) WrongEnable) (sooner_of many scan)) (lt-ltb en (facts_of part).enables h)

  verdict_13 : part ≤ 5 → en < (facts_of part).enables → 32768 < length xs → verdict ≡ Err TooMany
  verdict_13 k h l =
      enabled k h ∙ ap (λ (b : Bool). sooner_of (claim_of b TooMany) scan) (lt-ltb 32768 (length xs) l)
      ∙ given_first TooMany scan (scan_later (rank_of TooMany) (facts_of part).pin 0 (codes_of xs) (omega arith))

  -- nor does 13
  few : part ≤ 5 → en < (facts_of part).enables → length xs ≤ 32768 → verdict ≡ scan
  unfolding sooner_of
  few k h l = enabled k h ∙ ap (λ (b : Bool). sooner_of (claim_of b TooMany) scan) (le-ltb 32768 (length xs) l)

-- ---- the text that is printed

module _ (t : List ℕ) where
  abbrev p : ℕ
  p = part_named t

  abbrev e : ℕ
  e = enable_named t

  refused_text : (r : Refusal) → head_right_of t ≡ true → traced_verdict_of p e (codes_of (letters_of t)) ≡ Err r → trace_of t ≡ refusal_text_of r
  unfolding traced_of
  refused_text r h v = trace_right t h ∙ rw v refl

  answered_text : head_right_of t ≡ true → traced_verdict_of p e (codes_of (letters_of t)) ≡ Ok tt → trace_of t ≡ ran_text_of p e (codes_of (letters_of t))
  unfolding traced_of
  answered_text h v = trace_right t h ∙ rw v refl

  malformed_text : head_right_of t ≡ false → trace_of t ≡ refused_line 1
  unfolding trace_of refusal_text_of
  malformed_text h = rw h refl

-- a refusal's line has its number, and 5 its place

line_1 : refusal_text_of NoPart ≡ refused_line 1
unfolding refusal_text_of
line_1 = refl

line_2 : refusal_text_of WrongEnable ≡ refused_line 2
unfolding refusal_text_of
line_2 = refl

line_13 : refusal_text_of TooMany ≡ refused_line 13
unfolding refusal_text_of
line_13 = refl

line_5 : (k : ℕ) → refusal_text_of (BadEvent k) ≡ refused_at k
unfolding refusal_text_of
line_5 k = refl

pub trace_numbers : TraceNumbers tracing
trace_numbers t out =
    let part = part_named t in
    let en = enable_named t in
    let xs = letters_of t in
    record {
      malformed = λ h. prints t out _ (malformed_text t h);
      no_part = λ h k. prints t out _ (refused_text t NoPart h (verdict_1 part en xs k) ∙ line_1);
      wrong_enable = λ h k o. prints t out _ (refused_text t WrongEnable h (verdict_2 part en xs k o) ∙ line_2);
      too_many = λ n l. prints t out _ (refused_text t TooMany n.head (verdict_13 part en xs n.known n.enabled l) ∙ line_13);
      bad_event = λ k s i r b.
          let n = s.named in
          prints t out _
          (refused_text t (BadEvent k) n.head (few part en xs n.known n.enabled s.few ∙ scan_at (facts_of part).pin 0 k xs i r b ∙ ap (λ (x : ℕ). Err (BadEvent x)) (omega arith))
          ∙ line_5 k);
      answered = λ s r.
          let n = s.named in
          prints t out _ (answered_text t n.head (few part en xs n.known n.enabled s.few ∙ scan_clean (facts_of part).pin 0 xs r));
    }

-- ---- one of the conditions holds of every text

-- the first letter below n that the part does not take, or none
first_wrong : {G : Type 0} (t : List ℕ) (n : ℕ) → (((j : ℕ) → j < n → taken_at t j ≡ true) → G)
    → ((k : ℕ) → k < n → ((j : ℕ) → j < k → taken_at t j ≡ true) → taken_at t k ≡ false → G) → G
first_wrong t zero f g = f (λ j h. absurd (omega (arith, h)))
first_wrong {G} t (suc n) f g = first_wrong t n (λ r. go r (taken_at t n) refl) (λ k h r b. g k (omega (arith, h)) r b)
  where
    further : ((j : ℕ) → j < n → taken_at t j ≡ true) → taken_at t n ≡ true → (j : ℕ) → j < suc n → taken_at t j ≡ true
    further r b j h = at (ℕ_discrete j n)
      where
        at : Dec (j ≡ n) → taken_at t j ≡ true
        at (yes i) = ap (taken_at t) i ∙ b
        at (no i) = r j (omega (arith, h, i))

    go : ((j : ℕ) → j < n → taken_at t j ≡ true) → (b : Bool) → taken_at t n ≡ b → G
    go r true b = f (further r b)
    go r false b = g n (omega arith) r b

module _ (S T : Tracing) (p : TraceNumbers S) (q : TraceNumbers T) (t out : List ℕ) where
  abbrev Same : Type 0
  Same = (call_number S t out ≡ call_number T t out) × (call_number S t out ≡ 0 → printed S t out ≡ printed T t out)

  same : (lines : List ℕ) → Prints S t out lines → Prints T t out lines → Same
  same lines a b = go (dec_lt (length out) (length lines))
    where
      go : Dec (length out < length lines) → Same
      go (yes h) = (a.short_buffer h ∙ sym (b.short_buffer h), λ z. absurd (let x : ◌≡◌ {A = ℕ} 6 0 = sym (a.short_buffer h) ∙ z in omega (arith, x)))
      go (no h) =
          let l : length lines ≤ length out = omega (arith, h) in
          ((a.none l).0 ∙ sym (b.none l).0, λ _. (a.none l).1 ∙ sym (b.none l).1)

  same_letters : TextNamed t → Dec (32768 < length (letters_of t)) → Same
  same_letters n (yes h) = same (refused_line 13) ((p t out).too_many n h) ((q t out).too_many n h)
  same_letters n (no h) =
      let s : TextShort t = record { named = n; few = omega (arith, h) } in
      first_wrong t (length (letters_of t)) (λ r. same (ran_text_of (part_named t) (enable_named t) (codes_of (letters_of t))) ((p t out).answered s r) ((q t out).answered s r))
      (λ k i r b. same (refused_at k) ((p t out).bad_event k s i r b) ((q t out).bad_event k s i r b))

  same_enable : head_right_of t ≡ true → part_named t ≤ 5 → Dec (enable_named t < (facts_of (part_named t)).enables) → Same
  same_enable h k (yes e) = same_letters record { head = h; known = k; enabled = e } (dec_lt 32768 (length (letters_of t)))
  same_enable h k (no e) =
      let o : (facts_of (part_named t)).enables ≤ enable_named t = omega (arith, e) in
      same (refused_line 2) ((p t out).wrong_enable h k o) ((q t out).wrong_enable h k o)

  same_part : head_right_of t ≡ true → Dec (5 < part_named t) → Same
  same_part h (yes k) = same (refused_line 1) ((p t out).no_part h k) ((q t out).no_part h k)
  same_part h (no k) = same_enable h (omega (arith, k)) (dec_lt (enable_named t) (facts_of (part_named t)).enables)

  same_head : (b : Bool) → head_right_of t ≡ b → Same
  same_head true h = same_part h (dec_lt 5 (part_named t))
  same_head false h = same (refused_line 1) ((p t out).malformed h) ((q t out).malformed h)

pub one_trace_number : OneTraceNumber
one_trace_number S T p q t out = same_head S T p q t out (head_right_of t) refl

-- ---- 5 before 2

-- "2 9", newline, "x": a wrong enable, and a letter that is no event
abbrev wrong_twice : List ℕ
wrong_twice = 50 ∷ 32 ∷ 57 ∷ 10 ∷ 120 ∷ []

pub eager_trace_breaks : EagerTraceBreaks
unfolding head_right_of letters_end_of letters_of code_of facts_of event_right_of refusal_text_of decimal_of leading_of room_verdict_of
eager_trace_breaks h =
    let q = (((h wrong_twice (replicate 20 0)).wrong_enable refl (omega arith) (omega arith)).none (omega arith)).1 in
    let z : ◌≡◌ {A = ℕ} 53 50 = ap (λ (x : List ℕ). get_or x 8 0) q in
    absurd (omega (arith, z))
