-- The byte law, by recursion on the bits that are left.
-- Assumes nothing.
use Prim.Native.Nat.{ℕ, zero, suc, ◌+◌, ◌*◌, ◌/◌, ◌%◌, ◌^◌, ◌<◌, ◌≤◌}
use native.Mathlib.Nat.{pow-suc, mod-lt, mod-eq_of_lt, pow-le-pow_right}
use native.Mathlib.Numerals.{one-add}
use native.Mathlib.Omega.{arith}
use mathlib.Core.Path.{◌≡◌, refl, sym, ap, subst, ◌∙◌}
use mathlib.Core.Bool.{Bool, true, false, cond}
use mathlib.Core.List.{List, [], ◌∷◌, ◌++◌}
use lib.ListN.{replicate}
use lib.Dec.{eqb, lit<}
use lib.Pow.{mod-pow-add}
use Rattle.parts.specs.declared.Facts.{Facts}
use Rattle.parts.specs.declared.Event.{Event}
use Rattle.parts.specs.declared.Event.TheVariants.{Clock}
use Rattle.parts.specs.Events.{event_with, event_of}
use Rattle.parts.specs.Bytes.{flag_of}
use Rattle.parts.proofs.Bytes.{flag_below, flag_in}
use Rattle.parts.proofs.Laws.{clock_code}
use Rattle.line.specs.declared.Target.{Target}
use Rattle.line.specs.declared.Target.TheVariants.{Array, Ident}
use Rattle.line.specs.declared.Recv.{Recv}
use Rattle.line.specs.declared.Phase.{Phase}
use Rattle.line.specs.declared.Phase.TheVariants.{Idle, Receive, Send, Busy}
use Rattle.line.specs.declared.Core.{Core}
use Rattle.line.specs.declared.Line.{Line}
use Rattle.line.specs.declared.Act.{Act}
use Rattle.line.specs.declared.Act.TheVariants.{Keep}
use Rattle.line.specs.Rules.{at, taken_of, landed, released_in, received_of, receive_act_of, receive_level_of, moved_of, sent_of, send_level_of, clocked_of, clock_act_of, clock_level_of, next_of, act_of, level_of, begun_of, NoTransfer}
use Rattle.state.specs.declared.Chip.{Chip}
use Rattle.chip.specs.Model.{Model, ours}
use Rattle.chip.specs.Memory.{Mem, chip, latch_of, shown_of, seen_of, state_of, store_with, store_of, chip_level_of}
use Rattle.chip.specs.Runs.{after_of, memory_of, levels_of, cycles_of}
use Rattle.chip_laws.specs.Bytes.{bits_from, bits_of, byte_of, Clocks, line_of, acts_of, latches_of, AfterIsLine, LineIn, ByteIn, LineOut, ByteOut, ClocksIgnored, ClocksQuiet, BytesAreClocks, RunsJoin}

-- ---- runs put together

pub after-append : (M : Model) (c : Chip) (xs ys : List ℕ) → after_of M c (xs ++ ys) ≡ after_of M (after_of M c xs) ys
unfolding after_of
after-append M c [] ys = refl
after-append M c (x ∷ xs) ys = after-append M (M.next c x) xs ys

pub memory_append : (M : Model) (c : Chip) (m : Mem) (xs ys : List ℕ)
    → memory_of M c m (xs ++ ys) ≡ memory_of M (after_of M c xs) (memory_of M c m xs) ys
unfolding after_of memory_of
memory_append M c m [] ys = refl
memory_append M c m (x ∷ xs) ys = memory_append M (M.next c x) (M.store c m x) xs ys

pub levels_append : (M : Model) (c : Chip) (m : Mem) (xs ys : List ℕ)
    → levels_of M c m (xs ++ ys) ≡ levels_of M c m xs ++ levels_of M (after_of M c xs) (memory_of M c m xs) ys
unfolding after_of memory_of levels_of
levels_append M c m [] ys = refl
levels_append M c m (x ∷ xs) ys =
    ap (λ (l : List ℕ). M.level c m x ∷ l) (levels_append M (M.next c x) (M.store c m x) xs ys)

pub cycles_append : (M : Model) (c : Chip) (xs ys : List ℕ) → cycles_of M c (xs ++ ys) ≡ cycles_of M c xs + cycles_of M (after_of M c xs) ys
unfolding after_of cycles_of
cycles_append M c [] ys = omega arith
cycles_append M c (x ∷ xs) ys = omega (arith, cycles_append M (M.next c x) xs ys)

pub runs_join : RunsJoin
runs_join M c m xs ys = (after-append M c xs ys, memory_append M c m xs ys, levels_append M c m xs ys, cycles_append M c xs ys)

pub line_append : (f : Facts) (en : ℕ) (l : Line) (xs ys : List ℕ) → line_of f en l (xs ++ ys) ≡ line_of f en (line_of f en l xs) ys
unfolding line_of
line_append f en l [] ys = refl
line_append f en l (x ∷ xs) ys = line_append f en (next_of f en l (event_of x)) xs ys

pub acts_append : (f : Facts) (en : ℕ) (l : Line) (xs ys : List ℕ) → acts_of f en l (xs ++ ys) ≡ acts_of f en l xs ++ acts_of f en (line_of f en l xs) ys
unfolding line_of acts_of
acts_append f en l [] ys = refl
acts_append f en l (x ∷ xs) ys = ap (λ (a : List Act). act_of f en l (event_of x) ∷ a) (acts_append f en (next_of f en l (event_of x)) xs ys)

pub after_is_line : AfterIsLine
unfolding after_of line_of acts_of state_of
after_is_line f en l k [] = refl
after_is_line f en l k (x ∷ xs) = after_is_line f en (next_of f en l (event_of x)) (latch_of k (act_of f en l (event_of x))) xs

-- ---- codes of clocks

pub code_of_lem : (v : Bool) → event_of (flag_of v) ≡ Clock v
unfolding event_with
code_of_lem true = refl
code_of_lem false = refl

pub bits_clocks : (k b : ℕ) → Clocks k (bits_from k b)
bits_clocks zero b = tt
bits_clocks (suc k) b = (mod-lt (b / 2 ^ k) (lit< tt), bits_clocks k b)

pub bytes_are_clocks : BytesAreClocks
unfolding bits_of byte_of
bytes_are_clocks b v = (bits_clocks 8 b, clocks_more 8 (bits_from 8 b) (bits_clocks 8 b))
  where
    clocks_more : (k : ℕ) (xs : List ℕ) → Clocks k xs → Clocks (suc k) (xs ++ (flag_of v ∷ []))
    clocks_more zero [] h = (flag_below v, tt)
    clocks_more zero (x ∷ xs) h = absurd h
    clocks_more (suc k) [] h = absurd h
    clocks_more (suc k) (x ∷ xs) h = (h.0, clocks_more k xs h.1)

-- ---- receiving

abbrev pub taking : Core → Recv → ℕ → ℕ → Line
taking c r k x = record { core = c; phase = Receive r; left = k; shift = x }

-- one bit more, where there is room for it
next_bit : (f : Facts) (en : ℕ) (c : Core) (r : Recv) (k x y : ℕ) → y < 2 → x < 128
    → next_of f en (taking c r (suc k) x) (event_of y) ≡ taking c r k (x * 2 + y)
unfolding next_of clocked_of received_of
next_bit f en c r k x y h small =
    ap (next_of f en (taking c r (suc k) x)) (clock_code y h)
    ∙ ap (taking c r k) (omega (arith, mod-eq_of_lt small, flag_in y h))

act_bit : (f : Facts) (en : ℕ) (c : Core) (r : Recv) (k x y : ℕ) → y < 2 → act_of f en (taking c r (suc k) x) (event_of y) ≡ Keep
unfolding act_of clock_act_of receive_act_of
act_bit f en c r k x y h = ap (act_of f en (taking c r (suc k) x)) (clock_code y h)

shift_value : (x k b : ℕ) → (x * 2 + b / 2 ^ k % 2) * 2 ^ k + b % 2 ^ k ≡ x * 2 ^ suc k + b % 2 ^ suc k
shift_value x k b =
    omega
    (arith, subst (λ (n : ℕ). b % 2 ^ n ≡ (b / 2 ^ k % 2) * 2 ^ k + b % 2 ^ k) (one-add k) (mod-pow-add b 1 k), ap (λ (n : ℕ). x * n) (pow-suc 2 k))

-- j bits are in, and k to come
bits_in : (f : Facts) (en : ℕ) (c : Core) (r : Recv) (j k x b : ℕ) → j + k ≡ 8 → x < 2 ^ j
    → (line_of f en (taking c r k x) (bits_from k b) ≡ taking c r 0 (x * 2 ^ k + b % 2 ^ k)) × (acts_of f en (taking c r k x) (bits_from k b) ≡ replicate k Keep)
unfolding line_of acts_of
bits_in f en c r j zero x b e h = (ap (taking c r 0) (omega arith), refl)
bits_in f en c r j (suc k) x b e h =
    let y = b / 2 ^ k % 2 in
    let small : y < 2 = mod-lt (b / 2 ^ k) (lit< tt) in
    let most : 2 ^ j ≤ 2 ^ 7 = pow-le-pow_right {n = 2} (omega arith) {i = j} {j = 7} (omega arith) in
    let room : x < 128 = omega (arith, most) in
    let n = next_bit f en c r k x y small room in
    let i = bits_in f en c r (suc j) k (x * 2 + y) b (omega arith) (omega (arith, pow-suc 2 j)) in (
      ap (λ (l : Line). line_of f en l (bits_from k b)) n ∙ i.0 ∙ ap (taking c r 0) (shift_value x k b),
      ap (λ (a : Act). a ∷ acts_of f en (next_of f en (taking c r (suc k) x) (event_of y)) (bits_from k b)) (act_bit f en c r k x y small)
          ∙ ap (λ (l : Line). Keep ∷ acts_of f en l (bits_from k b)) n
          ∙ ap (λ (a : List Act). Keep ∷ a) i.1,
    )

-- eight bits of a byte
pub eight_in : (f : Facts) (en : ℕ) (c : Core) (r : Recv) (b : ℕ) → b < 256
    → (line_of f en (at c (Receive r)) (bits_of b) ≡ taking c r 0 b) × (acts_of f en (at c (Receive r)) (bits_of b) ≡ replicate 8 Keep)
unfolding bits_of
eight_in f en c r b h =
    let w = bits_in f en c r 0 8 0 b refl (omega arith) in
    (w.0 ∙ ap (taking c r 0) (omega arith), w.1)

-- the ninth clock
ninth_in : (f : Facts) (en : ℕ) (c : Core) (r : Recv) (b : ℕ) (v : Bool) → next_of f en (taking c r 0 b) (event_of (flag_of v)) ≡ landed (taken_of f en c r b)
unfolding next_of clocked_of received_of
ninth_in f en c r b v = ap (next_of f en (taking c r 0 b)) (code_of_lem v)

ninth_act : (f : Facts) (en : ℕ) (c : Core) (r : Recv) (b : ℕ) (v : Bool) → act_of f en (taking c r 0 b) (event_of (flag_of v)) ≡ (taken_of f en c r b).act
unfolding act_of clock_act_of receive_act_of
ninth_act f en c r b v = ap (act_of f en (taking c r 0 b)) (code_of_lem v)

pub line_in_lem : LineIn
unfolding byte_of line_of acts_of
line_in_lem f en c r b v h =
    let w = eight_in f en c r b h in (
      line_append f en (at c (Receive r)) (bits_of b) (flag_of v ∷ [])
          ∙ ap (λ (l : Line). next_of f en l (event_of (flag_of v))) w.0
          ∙ ninth_in f en c r b v,
      acts_append f en (at c (Receive r)) (bits_of b) (flag_of v ∷ [])
          ∙ ap (λ (a : List Act). a ++ (act_of f en (line_of f en (at c (Receive r)) (bits_of b)) (event_of (flag_of v)) ∷ [])) w.1
          ∙ ap (λ (l : Line). replicate 8 Keep ++ (act_of f en l (event_of (flag_of v)) ∷ [])) w.0
          ∙ ap (λ (a : Act). replicate 8 Keep ++ (a ∷ [])) (ninth_act f en c r b v),
    )

-- ---- clocks store nothing and begin nothing

clock_stores : (f : Facts) (c : Chip) (m : Mem) (x : ℕ) → x < 2 → store_of f c m (event_of x) ≡ m
unfolding store_with
clock_stores f c m x h = ap (store_of f c m) (clock_code x h)

pub clock_begins : (l : Line) (x : ℕ) → x < 2 → begun_of l (event_of x) ≡ 0
unfolding begun_of
clock_begins l x h = ap (begun_of l) (clock_code x h)

pub clocks_quiet : ClocksQuiet
unfolding memory_of cycles_of
clocks_quiet f en c m zero [] h = (refl, refl)
clocks_quiet f en c m zero (x ∷ xs) h = absurd h
clocks_quiet f en c m (suc n) [] h = absurd h
clocks_quiet f en c m (suc n) (x ∷ xs) h =
    let d = state_of f en c (event_of x) in
    let i = clocks_quiet f en d m n xs h.1 in
    (ap (λ (w : Mem). memory_of (ours f en) d w xs) (clock_stores f c m x h.0) ∙ i.0, omega (arith, clock_begins c.line x h.0, i.1))

-- ---- the levels of a byte received

levels_in : (f : Facts) (en : ℕ) (c : Core) (r : Recv) (k : List ℕ) (m : Mem) (n x : ℕ) (xs : List ℕ) → Clocks n xs
    → levels_of (ours f en) (chip (taking c r n x) k) m xs ≡ replicate n 1
unfolding levels_of state_of next_of clocked_of received_of act_of clock_act_of receive_act_of chip_level_of level_of clock_level_of receive_level_of store_with
levels_in f en c r k m zero x [] h = refl
levels_in f en c r k m zero x (y ∷ ys) h = absurd h
levels_in f en c r k m (suc n) x [] h = absurd h
levels_in f en c r k m (suc n) x (y ∷ ys) h =
    let d = chip (taking c r (suc n) x) k in
    subst (λ (e : Event). chip_level_of f en d m e ∷ levels_of (ours f en) (state_of f en d e) (store_of f d m e) ys ≡ 1 ∷ replicate n 1) (sym (clock_code y h.0))
    (ap (λ (l : List ℕ). 1 ∷ l) (levels_in f en c r k m n (x % 128 * 2 + flag_of (eqb y 1)) ys h.1))

pub eight_after : (f : Facts) (en : ℕ) (c : Core) (r : Recv) (k : List ℕ) (b : ℕ) → b < 256
    → after_of (ours f en) (chip (at c (Receive r)) k) (bits_of b) ≡ chip (taking c r 0 b) k
eight_after f en c r k b h =
    let w = eight_in f en c r b h in
    after_is_line f en (at c (Receive r)) k (bits_of b)
    ∙ ap (λ (l : Line). chip l (latches_of k (acts_of f en (at c (Receive r)) (bits_of b)))) w.0
    ∙ ap (λ (a : List Act). chip (taking c r 0 b) (latches_of k a)) w.1

ninth_level : (f : Facts) (en : ℕ) (c : Core) (r : Recv) (k : List ℕ) (m : Mem) (b : ℕ) (v : Bool)
    → chip_level_of f en (chip (taking c r 0 b) k) m (event_of (flag_of v)) ≡ released_in (taken_of f en c r b).phase
unfolding chip_level_of level_of clock_level_of receive_level_of
ninth_level f en c r k m b v = ap (chip_level_of f en (chip (taking c r 0 b) k) m) (code_of_lem v)

pub byte_in_lem : ByteIn
unfolding byte_of levels_of
byte_in_lem f en c r k m b v h =
    let w = line_in_lem f en c r b v h in
    let l = at c (Receive r) in
    let m' = memory_of (ours f en) (chip l k) m (bits_of b) in (
      after_is_line f en l k (byte_of b v)
          ∙ ap (λ (l' : Line). chip l' (latches_of k (acts_of f en l (byte_of b v)))) w.0
          ∙ ap (λ (a : List Act). chip (landed (taken_of f en c r b)) (latches_of k a)) w.1,
      levels_append (ours f en) (chip l k) m (bits_of b) (flag_of v ∷ [])
          ∙ ap (λ (z : List ℕ). z ++ (chip_level_of f en (after_of (ours f en) (chip l k) (bits_of b)) m' (event_of (flag_of v)) ∷ [])) (levels_in f en c r k m 8 0 (bits_of b) (bytes_are_clocks b v).0)
          ∙ ap (λ (d : Chip). replicate 8 1 ++ (chip_level_of f en d m' (event_of (flag_of v)) ∷ [])) (eight_after f en c r k b h)
          ∙ ap (λ (n : ℕ). replicate 8 1 ++ (n ∷ [])) (ninth_level f en c r k m' b v),
    )

-- ---- sending

abbrev pub sending : Core → Target → ℕ → Line
sending c t k = record { core = c; phase = Send t; left = k; shift = 0 }

next_sent : (f : Facts) (en : ℕ) (c : Core) (t : Target) (k x : ℕ) → x < 2 → next_of f en (sending c t (suc k)) (event_of x) ≡ sending (moved_of f c t k) t k
unfolding next_of clocked_of sent_of
next_sent f en c t k x h = ap (next_of f en (sending c t (suc k))) (clock_code x h)

act_sent : (f : Facts) (en : ℕ) (c : Core) (t : Target) (k x : ℕ) → x < 2 → act_of f en (sending c t k) (event_of x) ≡ Keep
unfolding act_of clock_act_of
act_sent f en c t k x h = ap (act_of f en (sending c t k)) (clock_code x h)

-- only the eighth bit moves the counter
pub moved_more : (f : Facts) (c : Core) (t : Target) (k : ℕ) → moved_of f c t (suc k) ≡ c
unfolding moved_of
moved_more f c Array k = refl
moved_more f c Ident k = refl

bits_out : (f : Facts) (en : ℕ) (c : Core) (t : Target) (k : ℕ) (xs : List ℕ) → Clocks (suc k) xs
    → (line_of f en (sending c t (suc k)) xs ≡ sending (moved_of f c t 0) t 0) × (acts_of f en (sending c t (suc k)) xs ≡ replicate (suc k) Keep)
unfolding line_of acts_of
bits_out f en c t k [] h = absurd h
bits_out f en c t zero (x ∷ y ∷ ys) h = absurd h.1
bits_out f en c t zero (x ∷ []) h = (next_sent f en c t 0 x h.0, ap (λ (a : Act). a ∷ []) (act_sent f en c t 1 x h.0))
bits_out f en c t (suc k) (x ∷ xs) h =
    let n : next_of f en (sending c t (suc (suc k))) (event_of x) ≡ sending c t (suc k) =
    next_sent f en c t (suc k) x h.0 ∙ ap (λ (d : Core). sending d t (suc k)) (moved_more f c t k) in
    let i = bits_out f en c t k xs h.1 in (
      ap (λ (l : Line). line_of f en l xs) n ∙ i.0,
      ap (λ (a : Act). a ∷ acts_of f en (next_of f en (sending c t (suc (suc k))) (event_of x)) xs) (act_sent f en c t (suc (suc k)) x h.0)
          ∙ ap (λ (l : Line). Keep ∷ acts_of f en l xs) n
          ∙ ap (λ (a : List Act). Keep ∷ a) i.1,
    )

ninth_out : (f : Facts) (en : ℕ) (c : Core) (t : Target) (v : Bool) → next_of f en (sending c t 0) (event_of (flag_of v)) ≡ at c (cond v Idle (Send t))
unfolding next_of clocked_of sent_of
ninth_out f en c t v = ap (next_of f en (sending c t 0)) (code_of_lem v)

pub line_out : LineOut
unfolding line_of acts_of
line_out f en c t xs v h =
    let w = bits_out f en c t 7 xs h in
    let l = at c (Send t) in (
      line_append f en l xs (flag_of v ∷ [])
          ∙ ap (λ (l' : Line). next_of f en l' (event_of (flag_of v))) w.0
          ∙ ninth_out f en (moved_of f c t 0) t v,
      acts_append f en l xs (flag_of v ∷ [])
          ∙ ap (λ (a : List Act). a ++ (act_of f en (line_of f en l xs) (event_of (flag_of v)) ∷ [])) w.1
          ∙ ap (λ (l' : Line). replicate 8 Keep ++ (act_of f en l' (event_of (flag_of v)) ∷ [])) w.0
          ∙ ap (λ (a : Act). replicate 8 Keep ++ (a ∷ [])) (act_sent f en (moved_of f c t 0) t 0 (flag_of v) (flag_below v)),
    )

-- the level of a bit is the byte's
level_sent : (f : Facts) (en : ℕ) (c : Core) (t : Target) (k : List ℕ) (m : Mem) (n x : ℕ) → x < 2
    → chip_level_of f en (chip (sending c t (suc n)) k) m (event_of x) ≡ shown_of f c.counter m t / 2 ^ n % 2
unfolding chip_level_of seen_of level_of clock_level_of send_level_of
level_sent f en c t k m n x h = ap (chip_level_of f en (chip (sending c t (suc n)) k) m) (clock_code x h)

state_sent : (f : Facts) (en : ℕ) (c : Core) (t : Target) (k : List ℕ) (n x : ℕ) → x < 2
    → state_of f en (chip (sending c t (suc (suc n))) k) (event_of x) ≡ chip (sending c t (suc n)) k
unfolding state_of
state_sent f en c t k n x h =
    ap (λ (a : Act). chip (next_of f en (sending c t (suc (suc n))) (event_of x)) (latch_of k a)) (act_sent f en c t (suc (suc n)) x h)
    ∙ ap (λ (l : Line). chip l k) (next_sent f en c t (suc n) x h ∙ ap (λ (d : Core). sending d t (suc n)) (moved_more f c t n))

levels_out : (f : Facts) (en : ℕ) (c : Core) (t : Target) (k : List ℕ) (m : Mem) (n : ℕ) (xs : List ℕ) → Clocks (suc n) xs
    → levels_of (ours f en) (chip (sending c t (suc n)) k) m xs ≡ bits_from (suc n) (shown_of f c.counter m t)
unfolding levels_of
levels_out f en c t k m n [] h = absurd h
levels_out f en c t k m zero (x ∷ y ∷ ys) h = absurd h.1
levels_out f en c t k m zero (x ∷ []) h = ap (λ (z : ℕ). z ∷ []) (level_sent f en c t k m 0 x h.0)
levels_out f en c t k m (suc n) (x ∷ xs) h =
    let d = chip (sending c t (suc (suc n))) k in
    let b = shown_of f c.counter m t in
    ap (λ (z : ℕ). z ∷ levels_of (ours f en) (state_of f en d (event_of x)) (store_of f d m (event_of x)) xs) (level_sent f en c t k m (suc n) x h.0)
    ∙ ap (λ (w : Mem). b / 2 ^ suc n % 2 ∷ levels_of (ours f en) (state_of f en d (event_of x)) w xs) (clock_stores f d m x h.0)
    ∙ ap (λ (g : Chip). b / 2 ^ suc n % 2 ∷ levels_of (ours f en) g m xs) (state_sent f en c t k n x h.0)
    ∙ ap (λ (z : List ℕ). b / 2 ^ suc n % 2 ∷ z) (levels_out f en c t k m n xs h.1)

eight_out : (f : Facts) (en : ℕ) (c : Core) (t : Target) (k xs : List ℕ) → Clocks 8 xs
    → after_of (ours f en) (chip (at c (Send t)) k) xs ≡ chip (sending (moved_of f c t 0) t 0) k
eight_out f en c t k xs h =
    let w = bits_out f en c t 7 xs h in
    after_is_line f en (at c (Send t)) k xs
    ∙ ap (λ (l : Line). chip l (latches_of k (acts_of f en (at c (Send t)) xs))) w.0
    ∙ ap (λ (a : List Act). chip (sending (moved_of f c t 0) t 0) (latches_of k a)) w.1

ninth_released : (f : Facts) (en : ℕ) (c : Core) (t : Target) (k : List ℕ) (m : Mem) (v : Bool) → chip_level_of f en (chip (sending c t 0) k) m (event_of (flag_of v)) ≡ 1
unfolding chip_level_of seen_of level_of clock_level_of send_level_of
ninth_released f en c t k m v = ap (chip_level_of f en (chip (sending c t 0) k) m) (code_of_lem v)

pub byte_out : ByteOut
unfolding bits_of levels_of
byte_out f en c t k m xs v h =
    let w = line_out f en c t xs v h in
    let l = at c (Send t) in
    let e = flag_of v ∷ [] in
    let m' = memory_of (ours f en) (chip l k) m xs in
    let b = bits_of (shown_of f c.counter m t) in (
      after_is_line f en l k (xs ++ e)
          ∙ ap (λ (l' : Line). chip l' (latches_of k (acts_of f en l (xs ++ e)))) w.0
          ∙ ap (λ (a : List Act). chip (at (moved_of f c t 0) (cond v Idle (Send t))) (latches_of k a)) w.1,
      levels_append (ours f en) (chip l k) m xs e
          ∙ ap (λ (z : List ℕ). z ++ (chip_level_of f en (after_of (ours f en) (chip l k) xs) m' (event_of (flag_of v)) ∷ [])) (levels_out f en c t k m 7 xs h)
          ∙ ap (λ (d : Chip). b ++ (chip_level_of f en d m' (event_of (flag_of v)) ∷ [])) (eight_out f en c t k xs h)
          ∙ ap (λ (n : ℕ). b ++ (n ∷ [])) (ninth_released f en (moved_of f c t 0) t k m' v),
    )

-- ---- idle and busy chips

deaf_state : (f : Facts) (en : ℕ) (l : Line) (k : List ℕ) (v : Bool) (ph : Phase) → NoTransfer ph
    → chip (clocked_of f en l v ph) (latch_of k (clock_act_of f en l ph)) ≡ chip l k
unfolding clocked_of clock_act_of
deaf_state f en l k v Idle h = refl
deaf_state f en l k v (Receive r) h = absurd h
deaf_state f en l k v (Send t) h = absurd h
deaf_state f en l k v (Busy y) h = refl

deaf_level : (f : Facts) (en : ℕ) (l : Line) (b : ℕ) (ph : Phase) → NoTransfer ph → clock_level_of f en l b ph ≡ 1
unfolding clock_level_of
deaf_level f en l b Idle h = refl
deaf_level f en l b (Receive r) h = absurd h
deaf_level f en l b (Send t) h = absurd h
deaf_level f en l b (Busy y) h = refl

deaf_clock : (f : Facts) (en : ℕ) (c : Chip) (m : Mem) (x : ℕ) → x < 2 → NoTransfer c.line.phase
    → (state_of f en c (event_of x) ≡ c) × (chip_level_of f en c m (event_of x) ≡ 1)
unfolding state_of next_of act_of chip_level_of level_of
deaf_clock f en c m x s h = (
  ap (state_of f en c) (clock_code x s) ∙ deaf_state f en c.line c.latch (eqb x 1) c.line.phase h,
  ap (chip_level_of f en c m) (clock_code x s) ∙ deaf_level f en c.line (seen_of f c.line m c.line.phase) c.line.phase h,
)

pub clocks_ignored : ClocksIgnored
unfolding after_of levels_of
clocks_ignored f en c m zero [] h d = (refl, refl)
clocks_ignored f en c m zero (x ∷ xs) h d = absurd h
clocks_ignored f en c m (suc n) [] h d = absurd h
clocks_ignored f en c m (suc n) (x ∷ xs) h d =
    let w = deaf_clock f en c m x h.0 d in
    let i = clocks_ignored f en c m n xs h.1 d in (
      ap (λ (g : Chip). after_of (ours f en) g xs) w.0 ∙ i.0,
      ap (λ (z : ℕ). z ∷ levels_of (ours f en) (state_of f en c (event_of x)) (store_of f c m (event_of x)) xs) w.1
          ∙ ap (λ (g : Chip). 1 ∷ levels_of (ours f en) g (store_of f c m (event_of x)) xs) w.0
          ∙ ap (λ (q : Mem). 1 ∷ levels_of (ours f en) c q xs) (clock_stores f c m x h.0)
          ∙ ap (λ (z : List ℕ). 1 ∷ z) i.1,
    )
