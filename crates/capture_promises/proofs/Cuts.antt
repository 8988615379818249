-- A capture cut behind a Stop, samples 1 and 3: its events are those of the first piece, which end with that Stop, and then of the second; and the
-- samples of the clocks too.
-- Assumes nothing.
use Prim.Native.Nat.{ℕ, zero, suc, ◌+◌, ◌<◌, ◌≤◌}
use mathlib.Core.Path.{◌≡◌, refl, sym, ap, ◌∙◌}
use mathlib.Core.Bool.{Bool, true, false, not, cond, ◌&&◌}
use mathlib.Core.List.{List, [], ◌∷◌, ◌++◌, map, map-append, append_assoc}
use native.Mathlib.Nat.{add-zero}
use native.Mathlib.Omega.{arith}
use lib.ListN.{length, get_or, length-append}
use lib.Dec.{eqb, ltb}
use borrow.Author.Tests.{lt-ltb, le-ltb, eq-eqb, eqb-true}
use Rattle.capture.specs.Samples.{clock_in, data_in, still_of, pair_of, events_from, events_of, rises_in, rises_from, rises_of}
use Rattle.parts.proofs.Laws.{branch}
use Rattle.capture.specs.Marks.{place_of, clocks_in}
use Rattle.capture_promises.specs.Running.{place_after}

-- ---- events

-- what follows a Stop does not tell whether data stay still before it: they don't
still_stop : (d : ℕ) (ys : List ℕ) → still_of d (1 ∷ 3 ∷ ys) ≡ false
still_stop d ys = go (eqb d 0) refl
  where
    go : (b : Bool) → eqb d 0 ≡ b → still_of d (1 ∷ 3 ∷ ys) ≡ false
    go true e = rw (eqb-true d 0 e) refl
    go false e = rw e refl

still_cut : (d : ℕ) (ws ys : List ℕ) → still_of d (ws ++ 1 ∷ 3 ∷ ys) ≡ still_of d (ws ++ 1 ∷ 3 ∷ [])
still_cut d [] ys = still_stop d ys ∙ sym (still_stop d [])
still_cut d (w ∷ ws) ys = rw (still_cut d ws ys) refl

events_from_cut : (bus : Bool) (b : ℕ) (ws ys : List ℕ)
    → events_from bus b (ws ++ 1 ∷ 3 ∷ ys) ≡ events_from bus b (ws ++ 1 ∷ 3 ∷ []) ++ events_from bus 3 ys
events_from_cut bus b [] ys = sym (append_assoc (pair_of bus b 1 (3 ∷ [])) (3 ∷ []) (events_from bus 3 ys))
events_from_cut bus b (w ∷ ws) ys =
    rw (still_cut (data_in w) ws ys, events_from_cut bus w ws ys)
    (sym (append_assoc (pair_of bus b w (ws ++ 1 ∷ 3 ∷ [])) (events_from bus w (ws ++ 1 ∷ 3 ∷ [])) (events_from bus 3 ys)))

pub events_cut : (bus : Bool) (ws ys : List ℕ) → events_of bus (ws ++ 1 ∷ 3 ∷ ys) ≡ events_of bus (ws ++ 1 ∷ 3 ∷ []) ++ events_of bus (3 ∷ ys)
unfolding events_of
events_cut bus [] ys = refl
events_cut bus (w ∷ ws) ys = events_from_cut bus w ws ys

-- the first piece's last event is the Stop: the next byte begins anew

pub record Stopped (es : List ℕ) : Type 0 where
  pub front : List ℕ
  pub last : es ≡ front ++ (3 ∷ [])

stopped_from : (bus : Bool) (b : ℕ) (ws : List ℕ) → Stopped (events_from bus b (ws ++ 1 ∷ 3 ∷ []))
stopped_from bus b [] = record { front = pair_of bus b 1 (3 ∷ []); last = refl }
stopped_from bus b (w ∷ ws) =
    let more = stopped_from bus w ws in
    record {
      front = pair_of bus b w (ws ++ 1 ∷ 3 ∷ []) ++ more.front;
      last =
          ap (λ (es : List ℕ). pair_of bus b w (ws ++ 1 ∷ 3 ∷ []) ++ es) more.last
          ∙ sym (append_assoc (pair_of bus b w (ws ++ 1 ∷ 3 ∷ [])) more.front (3 ∷ []));
    }

pub stopped : (bus : Bool) (ws : List ℕ) → Stopped (events_of bus (ws ++ 1 ∷ 3 ∷ []))
unfolding events_of
stopped bus [] = record { front = []; last = refl }
stopped bus (w ∷ ws) = stopped_from bus w ws

pub place_append : (place : ℕ) (xs ys : List ℕ) → place_after place (xs ++ ys) ≡ place_after (place_after place xs) ys
place_append place [] ys = refl
place_append place (x ∷ xs) ys = place_append (place_of place x) xs ys

pub place_stopped : (place : ℕ) (es : List ℕ) → Stopped es → place_after place es ≡ 0
unfolding place_of
place_stopped place es h = ap (place_after place) h.last ∙ place_append place h.front (3 ∷ [])

pub place_cut : (bus : Bool) (ws : List ℕ) → place_after 0 (events_of bus (ws ++ 1 ∷ 3 ∷ [])) ≡ 0
place_cut bus ws = place_stopped 0 (events_of bus (ws ++ 1 ∷ 3 ∷ [])) (stopped bus ws)

-- ---- the samples of the clocks

-- one for each clock
pub clocks_append : (xs ys : List ℕ) → clocks_in (xs ++ ys) ≡ clocks_in xs + clocks_in ys
clocks_append [] ys = omega arith
clocks_append (x ∷ xs) ys = omega (arith, clocks_append xs ys)

-- what a sample makes is one event at most
rises_one : (bus : Bool) (before k s : ℕ) (ss : List ℕ) → length (rises_in k (pair_of bus before s ss)) ≡ clocks_in (pair_of bus before s ss)
rises_one bus before k s ss =
    branch Q (eqb (clock_in s) 0) (λ _. refl) (λ _.
    branch Q (eqb (clock_in before) 0)
    (λ _. branch Q (bus && not (still_of (data_in s) ss)) (λ _. refl) (λ _. made (data_in s)))
    (λ _. branch Q (eqb (data_in before) (data_in s)) (λ _. refl) (λ _. branch Q (eqb (data_in s) 0) (λ _. refl) (λ _. refl))))
  where
    Q : List ℕ → Type 0
    Q es = length (rises_in k es) ≡ clocks_in es

    made : (e : ℕ) → Q (e ∷ [])
    made e = go (ltb e 2) refl
      where
        go : (b : Bool) → ltb e 2 ≡ b → Q (e ∷ [])
        go true h = rw h refl
        go false h = rw h refl

pub rises_clocks_from : (bus : Bool) (before k : ℕ) (ss : List ℕ) → length (rises_from bus before k ss) ≡ clocks_in (events_from bus before ss)
rises_clocks_from bus before k [] = refl
rises_clocks_from bus before k (s ∷ ss) =
    omega (
      arith,
      length-append (rises_in k (pair_of bus before s ss)) (rises_from bus s (suc k) ss),
      rises_one bus before k s ss,
      rises_clocks_from bus s (suc k) ss,
      clocks_append (pair_of bus before s ss) (events_from bus s ss),
    )

pub rises_clocks : (bus : Bool) (ss : List ℕ) → length (rises_of bus ss) ≡ clocks_in (events_of bus ss)
unfolding rises_of events_of
rises_clocks bus [] = refl
rises_clocks bus (s ∷ ss) = rises_clocks_from bus s 1 ss

-- the same clocks, each sample moved by f
moved_in : (f : ℕ → ℕ) (j k : ℕ) (es : List ℕ) → j ≡ f k → rises_in j es ≡ map f (rises_in k es)
moved_in f j k [] h = refl
moved_in f j k (e ∷ es) h = go (ltb e 2) refl
  where
    go : (b : Bool) → ltb e 2 ≡ b → rises_in j (e ∷ es) ≡ map f (rises_in k (e ∷ es))
    go true g = rw (g, h) refl
    go false g = rw g refl

moved_from : (f : ℕ → ℕ) (bus : Bool) (before j k : ℕ) (ss : List ℕ) → ((n : ℕ) → j + n ≡ f (k + n))
    → rises_from bus before j ss ≡ map f (rises_from bus before k ss)
moved_from f bus before j k [] h = refl
moved_from f bus before j k (s ∷ ss) h =
    let now : j ≡ f k = omega (arith, h 0, ap f (add-zero k)) in
    let next : (n : ℕ) → suc j + n ≡ f (suc k + n) = λ n. later n (h (suc n)) in
    rw (moved_in f j k (pair_of bus before s ss) now, moved_from f bus s (suc j) (suc k) ss next)
    (sym (map-append f (rises_in k (pair_of bus before s ss)) (rises_from bus s (suc k) ss)))
  where
    later : (n : ℕ) → j + suc n ≡ f (k + suc n) → suc j + n ≡ f (suc k + n)
    later n e = let m : k + suc n ≡ suc k + n = omega arith in omega (arith, e, ap f m)

rises_from_cut : (bus : Bool) (b k n : ℕ) (ws ys : List ℕ) → n ≡ k + length ws + 2
    → rises_from bus b k (ws ++ 1 ∷ 3 ∷ ys) ≡ rises_from bus b k (ws ++ 1 ∷ 3 ∷ []) ++ rises_from bus 3 n ys
rises_from_cut bus b k n [] ys h =
    let m : n ≡ suc (suc k) = omega (arith, h) in rw m (sym (append_assoc (rises_in k (pair_of bus b 1 (3 ∷ []))) [] (rises_from bus 3 (suc (suc k)) ys)))
rises_from_cut bus b k n (w ∷ ws) ys h =
    rw (still_cut (data_in w) ws ys, rises_from_cut bus w (suc k) n ws ys (omega (arith, h)))
    (sym (append_assoc (rises_in k (pair_of bus b w (ws ++ 1 ∷ 3 ∷ []))) (rises_from bus w (suc k) (ws ++ 1 ∷ 3 ∷ [])) (rises_from bus 3 n ys)))

pub rises_cut : (bus : Bool) (ws ys : List ℕ)
    → rises_of bus (ws ++ 1 ∷ 3 ∷ ys) ≡ rises_of bus (ws ++ 1 ∷ 3 ∷ []) ++ map (λ (s : ℕ). length ws + 1 + s) (rises_of bus (3 ∷ ys))
unfolding rises_of
rises_cut bus [] ys = moved_from (λ (s : ℕ). 0 + 1 + s) bus 3 2 1 ys (λ n. omega arith)
rises_cut bus (w ∷ ws) ys =
    rises_from_cut bus w 1 (length ws + 3) ws ys (omega arith)
    ∙ ap (λ (l : List ℕ). rises_from bus w 1 (ws ++ 1 ∷ 3 ∷ []) ++ l)
    (moved_from (λ (s : ℕ). suc (length ws) + 1 + s) bus 3 (length ws + 3) 1 ys (λ n. omega arith))

pub map_at : (f : ℕ → ℕ) (l : List ℕ) (n : ℕ) → n < length l → get_or (map f l) n 0 ≡ f (get_or l n 0)
map_at f [] n h = absurd (omega arith)
map_at f (x ∷ l) zero h = refl
map_at f (x ∷ l) (suc n) h = map_at f l n (omega arith)

-- ---- a sample equal to the one before it

still_same : (d s : ℕ) (ys : List ℕ) → still_of d (s ∷ s ∷ ys) ≡ still_of d (s ∷ ys)
still_same d s ys = go (eqb (clock_in s) 0) refl (eqb d (data_in s)) refl
  where
    go : (b : Bool) → eqb (clock_in s) 0 ≡ b → (k : Bool) → eqb d (data_in s) ≡ k → still_of d (s ∷ s ∷ ys) ≡ still_of d (s ∷ ys)
    go true e k g = rw e refl
    go false e true g = rw (e, g) refl
    go false e false g = rw (e, g) refl

still_repeat : (d s : ℕ) (ws ys : List ℕ) → still_of d (ws ++ s ∷ s ∷ ys) ≡ still_of d (ws ++ s ∷ ys)
still_repeat d s [] ys = still_same d s ys
still_repeat d s (w ∷ ws) ys = rw (still_repeat d s ws ys) refl

-- the second makes none, and the first what it made
pub pair_second : (bus : Bool) (s : ℕ) (ys : List ℕ) → pair_of bus s s ys ≡ []
pair_second bus s ys = go (eqb (clock_in s) 0) refl
  where
    go : (b : Bool) → eqb (clock_in s) 0 ≡ b → pair_of bus s s ys ≡ []
    go true e = rw e refl
    go false e = rw (e, eq-eqb (data_in s) (data_in s) refl) refl

pair_first : (bus : Bool) (b s : ℕ) (ys : List ℕ) → pair_of bus b s (s ∷ ys) ≡ pair_of bus b s ys
pair_first bus b s ys = go (eqb (clock_in s) 0) refl
  where
    go : (t : Bool) → eqb (clock_in s) 0 ≡ t → pair_of bus b s (s ∷ ys) ≡ pair_of bus b s ys
    go true e = rw e refl
    go false e = rw (e, eq-eqb (data_in s) (data_in s) refl) refl

events_from_repeat : (bus : Bool) (b s : ℕ) (ws ys : List ℕ) → events_from bus b (ws ++ s ∷ s ∷ ys) ≡ events_from bus b (ws ++ s ∷ ys)
events_from_repeat bus b s [] ys =
    ap (λ (l : List ℕ). pair_of bus b s (s ∷ ys) ++ (l ++ events_from bus s ys)) (pair_second bus s ys)
    ∙ ap (λ (l : List ℕ). l ++ events_from bus s ys) (pair_first bus b s ys)
events_from_repeat bus b s (w ∷ ws) ys = rw (still_repeat (data_in w) s ws ys, events_from_repeat bus w s ws ys) refl

pub events_repeat : (bus : Bool) (s : ℕ) (ws ys : List ℕ) → events_of bus (ws ++ s ∷ s ∷ ys) ≡ events_of bus (ws ++ s ∷ ys)
unfolding events_of
events_repeat bus s [] ys = ap (λ (l : List ℕ). l ++ events_from bus s ys) (pair_second bus s ys)
events_repeat bus s (w ∷ ws) ys = events_from_repeat bus w s ws ys

-- the samples behind it come one later
abbrev pub moved_past : ℕ → ℕ → ℕ
moved_past k s = cond (ltb s k) s (s + 1)

moved_before : (k s : ℕ) → s < k → s ≡ moved_past k s
moved_before k s h = rw (lt-ltb s k h) refl

moved_behind : (k s : ℕ) → k ≤ s → s + 1 ≡ moved_past k s
moved_behind k s h = rw (le-ltb s k h) refl

both_moved : (f : ℕ → ℕ) {a b : List ℕ} (c d : List ℕ) → a ≡ map f c → b ≡ map f d → a ++ b ≡ map f (c ++ d)
both_moved f c d g h = rw (g, h) (sym (map-append f c d))

rises_from_repeat : (bus : Bool) (b k n s : ℕ) (ws ys : List ℕ) → n ≡ k + length ws + 1
    → rises_from bus b k (ws ++ s ∷ s ∷ ys) ≡ map (moved_past n) (rises_from bus b k (ws ++ s ∷ ys))
rises_from_repeat bus b k n s [] ys h =
    let front = moved_in (moved_past n) k k (pair_of bus b s ys) (moved_before n k (omega (arith, h))) in
    let rest = moved_from (moved_past n) bus s (suc (suc k)) (suc k) ys (λ m. moved m) in
    ap (λ (l : List ℕ). rises_in k (pair_of bus b s (s ∷ ys)) ++ (rises_in (suc k) l ++ rises_from bus s (suc (suc k)) ys)) (pair_second bus s ys)
    ∙ ap (λ (l : List ℕ). rises_in k l ++ rises_from bus s (suc (suc k)) ys) (pair_first bus b s ys)
    ∙ both_moved (moved_past n) (rises_in k (pair_of bus b s ys)) (rises_from bus s (suc k) ys) front rest
  where
    moved : (m : ℕ) → suc (suc k) + m ≡ moved_past n (suc k + m)
    moved m = omega (arith, moved_behind n (suc k + m) (omega (arith, h)))
rises_from_repeat bus b k n s (w ∷ ws) ys h =
    let front = moved_in (moved_past n) k k (pair_of bus b w (ws ++ s ∷ ys)) (moved_before n k (omega (arith, h))) in
    let rest = rises_from_repeat bus w (suc k) n s ws ys (omega (arith, h)) in
    rw (still_repeat (data_in w) s ws ys)
    (both_moved (moved_past n) (rises_in k (pair_of bus b w (ws ++ s ∷ ys))) (rises_from bus w (suc k) (ws ++ s ∷ ys)) front rest)

pub rises_repeat : (bus : Bool) (s : ℕ) (ws ys : List ℕ)
    → rises_of bus (ws ++ s ∷ s ∷ ys) ≡ map (moved_past (length ws + 1)) (rises_of bus (ws ++ s ∷ ys))
unfolding rises_of
rises_repeat bus s [] ys =
    ap (λ (l : List ℕ). rises_in 1 l ++ rises_from bus s 2 ys) (pair_second bus s ys)
    ∙ moved_from (moved_past (0 + 1)) bus s 2 1 ys (λ m. omega (arith, moved_behind 1 (1 + m) (omega arith)))
rises_repeat bus s (w ∷ ws) ys = rises_from_repeat bus w 1 (length (w ∷ ws) + 1) s ws ys (omega arith)
