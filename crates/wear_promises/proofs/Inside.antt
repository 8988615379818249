-- The chip and the history side by side, as for promise 4, and what they have of the bytes: in a transfer those seen say what is latched, and in a
-- cycle those of the transfer that began it.
-- Assumes nothing.
use Rattle.std.specs.Prelude.{Option, None, Some}
use Prim.Native.Nat.{ℕ, zero, suc, ◌+◌, ◌*◌, ◌/◌, ◌%◌, ◌^◌, ◌<◌}
use mathlib.Core.Path.{◌≡◌, ◌∙◌, refl, sym, ap, subst}
use mathlib.Core.Bool.{Bool, true, false, cond}
use mathlib.Core.List.{List, [], ◌∷◌, ◌++◌, append_assoc}
use native.Mathlib.Nat.{zero-add}
use native.Mathlib.Omega.{arith}
use lib.Dec.{eqb}
use borrow.Author.Tests.{eq-eqb, ne_eqb}
use Rattle.parts.specs.declared.Facts.{Facts}
use Rattle.parts.specs.declared.Event.{Event}
use Rattle.parts.specs.declared.Event.TheVariants.{Clock, Start, Stop, Ends, PinLow, PinHigh, PinFloat, Reset, Unknown}
use Rattle.parts.specs.Table.{address_bytes_of}
use Rattle.parts.specs.Sound.{Sound}
use Rattle.parts.specs.Bytes.{flag_of}
use Rattle.parts.proofs.Laws.{branch}
use Rattle.line.specs.declared.Pin.{Pin}
use Rattle.line.specs.declared.Pin.TheVariants.{Low, High, Floating}
use Rattle.line.specs.declared.Target.{Target}
use Rattle.line.specs.declared.Target.TheVariants.{Array, Ident}
use Rattle.line.specs.declared.Recv.{Recv}
use Rattle.line.specs.declared.Recv.TheVariants.{Select, AddressHigh, AddressLow, Fill, LockByte, LockTaken}
use Rattle.line.specs.declared.Cycle.{Cycle}
use Rattle.line.specs.declared.Cycle.TheVariants.{Writing, Locking}
use Rattle.line.specs.declared.Phase.{Phase}
use Rattle.line.specs.declared.Phase.TheVariants.{Idle, Receive, Send, Busy}
use Rattle.line.specs.declared.Core.{Core}
use Rattle.line.specs.declared.Line.{Line}
use Rattle.line.specs.declared.Act.TheVariants.{Drop}
use Rattle.line.specs.declared.After.{After}
use Rattle.line.specs.Rules.{bit_on, is_high, enabled_of, named_of, decode_of, address_start_of, selected_of, load_array_of, load_id_of, loaded_of, refuses_of, latched_of, filled_of, locked_by_of, taken_of, received_of, receive_act_of, sent_of, clocked_of, clock_act_of, started_of, start_act_of, stopped_by_lem, stop_act_by, begun_by, due_of, placed_of, asks_of, stopped_of, stop_act_of, stop_begun_of, ended_by_of, ended_of, end_act_of, pinned_of, reset_of, next_of, act_of, level_of, begun_of}
use Rattle.state.specs.declared.Chip.{Chip}
use Rattle.chip.specs.Memory.{latch_of, state_of}
use Rattle.chip_promises.specs.Stops.{Byte, seen_byte, address_in, Seen, quiet, cycling, since, start_seen, clock_seen, stop_seen, end_seen, pin_seen, Watch, watch_of, stop_of}
use Rattle.chip_promises.proofs.Stops.{Hears, Side, Beside, together}
use Rattle.wear_promises.specs.History.{address_of, names_array, bytes_seen, pending_of}
use Rattle.wear_promises.proofs.Landed.{Loaded, Landed, loaded, put}

-- whatever bytes follow, the array is not named
abbrev pub Other : List Byte → Type 0
Other bs = (ds : List Byte) → names_array (bs ++ ds) ≡ false

-- what the bytes of a transfer are where the chip is to take the next; n is the counter and k the latches
abbrev pub Lies : Facts → ℕ → List ℕ → Recv → List Byte → Type 0
Lies f n k Select bs = bs ≡ []
Lies f n k (AddressHigh Array) bs = (h d : Byte) → Loaded f (bs ++ (h ∷ d ∷ [])) ((h.value * 256 + d.value) % f.size)
Lies f n k (AddressHigh Ident) bs = Other bs
Lies f n k (AddressLow Array high) bs = (d : Byte) → Loaded f (bs ++ (d ∷ [])) ((high * 256 + d.value) % f.size)
Lies f n k (AddressLow Ident high) bs = Other bs
Lies f n k (Fill Array w) bs = Landed f bs n k
Lies f n k (Fill Ident w) bs = Other bs
Lies f n k LockByte bs = Other bs
Lies f n k (LockTaken w) bs = Other bs

-- and of the one that began a cycle
abbrev pub Runs : Facts → ℕ → List ℕ → Cycle → List Byte → Type 0
Runs f n k (Writing Array) p = Landed f p n k
Runs f n k (Writing Ident) p = Other p
Runs f n k Locking p = Other p

abbrev pub Inside : Facts → ℕ → List ℕ → Phase → List Byte → List Byte → Type 0
Inside f n k Idle bs p = Unit {0}
Inside f n k (Receive r) bs p = Lies f n k r bs
Inside f n k (Send t) bs p = Unit {0}
Inside f n k (Busy y) bs p = Runs f n k y p

abbrev pub InsideAt : Facts → Chip → Watch → List Byte → Type 0
InsideAt f c w p = Inside f c.line.core.counter c.latch c.line.phase (bytes_seen w.seen) p

-- ---- a whole byte

other_more : (bs : List Byte) (d : Byte) → Other bs → Other (bs ++ (d ∷ []))
other_more bs d o ds = ap names_array (append_assoc bs (d ∷ []) ds) ∙ o (d ∷ ds)

-- what a select byte names
abbrev NamedIs : ℕ → Option (Target × Bool) → Type 0
NamedIs b None = Unit {0}
NamedIs b (Some (Array, r)) = eqb (b / 16) 10 ≡ true
NamedIs b (Some (Ident, r)) = eqb (b / 16) 10 ≡ false

named_is : (f : Facts) (en b : ℕ) → NamedIs b (decode_of f en b)
unfolding decode_of named_of
named_is f en b =
    branch (NamedIs b) (enabled_of f en b)
    (λ _. branch (NamedIs b) (eqb (b / 16) 10) (λ e. e)
    (λ e. branch (NamedIs b) (eqb (b / 16) 11) (λ _. branch (NamedIs b) f.ident (λ _. e) (λ _. tt)) (λ _. tt)))
    (λ _. tt)

start_array : (f : Facts) (n b : ℕ) (k : List ℕ) (q w : Bool) → f.wide ≡ w → eqb (b / 16) 10 ≡ true
    → Lies f n k (cond w (AddressHigh Array) (AddressLow Array (b / 2 % 8))) (seen_byte b q ∷ [])
unfolding address_bytes_of address_of names_array
start_array f n b k q true e o = λ h d.
    record {
      names = o;
      size = ap (λ (w : Bool). suc (cond w 2 1)) (sym e);
      address =
          ap (λ (w : Bool). (cond w 0 (b / 2 % 8 * 256) + address_in w (h ∷ d ∷ [])) % f.size) e
          ∙ ap (λ (z : ℕ). z % f.size) (zero-add (h.value * 256 + d.value));
    }
start_array f n b k q false e o = λ d.
    record {
      names = o;
      size = ap (λ (w : Bool). suc (cond w 2 1)) (sym e);
      address = ap (λ (w : Bool). (cond w 0 (b / 2 % 8 * 256) + address_in w (d ∷ [])) % f.size) e;
    }

-- counter, latches and phase after a byte
abbrev AfterIn : Facts → List ℕ → List Byte → List Byte → After → Type 0
AfterIn f k bs p a = Inside f a.core.counter (latch_of k a.act) a.phase bs p

selected_in : (f : Facts) (c : Core) (k : List ℕ) (b : ℕ) (q : Bool) (p : List Byte) (h : Option (Target × Bool)) → NamedIs b h
    → AfterIn f k (seen_byte b q ∷ []) p (selected_of f c b h)
unfolding selected_of address_start_of names_array
selected_in f c k b q p None o = tt
selected_in f c k b q p (Some (t, true)) o = tt
selected_in f c k b q p (Some (Array, false)) o = start_array f c.counter b k q f.wide refl o
selected_in f c k b q p (Some (Ident, false)) o =
    branch (λ (r : Recv). Lies f c.counter k r (seen_byte b q ∷ [])) f.wide (λ _ ds. o) (λ _ ds. o)

taken_in : (f : Facts) → Sound f → (en : ℕ) (c : Core) (k : List ℕ) (r : Recv) (b : ℕ) (q : Bool) (bs p : List Byte) → b < 256
    → Lies f c.counter k r bs → AfterIn f k (bs ++ (seen_byte b q ∷ [])) p (taken_of f en c r b)
unfolding taken_of loaded_of load_array_of load_id_of filled_of latched_of locked_by_of
taken_in f ok en c k Select b q bs p small o =
    subst (λ (l : List Byte). AfterIn f k (l ++ (seen_byte b q ∷ [])) p (selected_of f c b (decode_of f en b))) (sym o)
    (selected_in f c k b q p (decode_of f en b) (named_is f en b))
taken_in f ok en c k (AddressHigh Array) b q bs p small o = λ d.
    subst (λ (l : List Byte). Loaded f l ((b * 256 + d.value) % f.size)) (sym (append_assoc bs (seen_byte b q ∷ []) (d ∷ []))) (o (seen_byte b q) d)
taken_in f ok en c k (AddressHigh Ident) b q bs p small o = other_more bs (seen_byte b q) o
taken_in f ok en c k (AddressLow Array high) b q bs p small o = loaded f (bs ++ (seen_byte b q ∷ [])) ((high * 256 + b) % f.size) (o (seen_byte b q))
taken_in f ok en c k (AddressLow Ident high) b q bs p small o =
    branch (λ (r : Recv). Lies f ((high * 256 + b) % f.page) (latch_of k Drop) r (bs ++ (seen_byte b q ∷ []))) (bit_on (high * 256 + b) f.lock)
    (λ _. other_more bs (seen_byte b q) o) (λ _. other_more bs (seen_byte b q) o)
taken_in f ok en c k (Fill Array w) b q bs p small o =
    branch (AfterIn f k (bs ++ (seen_byte b q ∷ [])) p) (refuses_of c Array) (λ _. tt) (λ _. put f ok bs c.counter k o (seen_byte b q) b small)
taken_in f ok en c k (Fill Ident w) b q bs p small o =
    branch (AfterIn f k (bs ++ (seen_byte b q ∷ [])) p) (refuses_of c Ident) (λ _. tt) (λ _. other_more bs (seen_byte b q) o)
taken_in f ok en c k LockByte b q bs p small o =
    branch (AfterIn f k (bs ++ (seen_byte b q ∷ [])) p) (refuses_of c Ident) (λ _. tt) (λ _. other_more bs (seen_byte b q) o)
taken_in f ok en c k (LockTaken w) b q bs p small o = tt

-- ---- clocks

received_in : (f : Facts) → Sound f → (en : ℕ) (l : Line) (k : List ℕ) (v : Bool) (r : Recv) (left x : ℕ) (h : Bool) (bs : List Byte) (j n : ℕ) (p : List Byte)
    → l.left ≡ left → Hears f l r h bs j n → Lies f l.core.counter k r bs
    → Inside f (received_of f en l v r left).core.counter (latch_of k (receive_act_of f en l r left)) (received_of f en l v r left).phase
    (bytes_seen (clock_seen v x (since h bs j n))) p
unfolding received_of receive_act_of clock_seen
received_in f ok en l k v r zero x h bs j n p e s o =
    let full : j ≡ 8 = omega (arith, s.bits) in
    let small : n < 256 = subst (λ (z : ℕ). n < 2 ^ z) full s.small in
    let a : After = taken_of f en l.core r l.shift in
    subst (λ (t : Bool). AfterIn f k (bytes_seen (cond t (since h (bs ++ (seen_byte n (eqb x 0) ∷ [])) 0 0) (since h bs (j + 1) (n * 2 + flag_of v)))) p a) (sym (eq-eqb j 8 full))
    (subst (λ (z : ℕ). AfterIn f k (bs ++ (seen_byte z (eqb x 0) ∷ [])) p a) s.value
    (taken_in f ok en l.core k r l.shift (eqb x 0) bs p (omega (arith, s.value, small)) o))
received_in f ok en l k v r (suc left) x h bs j n p e s o =
    subst (λ (t : Bool). Lies f l.core.counter k r (bytes_seen (cond t (since h (bs ++ (seen_byte n (eqb x 0) ∷ [])) 0 0) (since h bs (j + 1) (n * 2 + flag_of v)))))
    (sym (ne_eqb j 8 (λ q. omega (arith, s.bits)))) o

sent_in : (f : Facts) (l : Line) (k : List ℕ) (v : Bool) (t : Target) (left : ℕ) (bs p : List Byte)
    → Inside f (sent_of f l v t left).core.counter k (sent_of f l v t left).phase bs p
unfolding sent_of
sent_in f l k v t zero bs p = branch (λ (ph : Phase). Inside f l.core.counter k ph bs p) v (λ _. tt) (λ _. tt)
sent_in f l k v t (suc left) bs p = tt

-- the line as it is
abbrev LineIn : Facts → Line → List ℕ → List Byte → List Byte → Type 0
LineIn f l k bs p = Inside f l.core.counter k l.phase bs p

line_in_lem : (f : Facts) (l : Line) (k : List ℕ) (ph : Phase) (bs p : List Byte) → l.phase ≡ ph → Inside f l.core.counter k ph bs p → LineIn f l k bs p
line_in_lem f l k ph bs p e o = subst (λ (x : Phase). Inside f l.core.counter k x bs p) (sym e) o

clocked_in : (f : Facts) → Sound f → (en : ℕ) (l : Line) (k : List ℕ) (v : Bool) (x : ℕ) (ph : Phase) (s : Seen) (p : List Byte)
    → l.phase ≡ ph → Side f l ph s → Inside f l.core.counter k ph (bytes_seen s) p
    → LineIn f (clocked_of f en l v ph) (latch_of k (clock_act_of f en l ph)) (bytes_seen (clock_seen v x s)) p
unfolding clocked_of clock_act_of
clocked_in f ok en l k v x Idle s p e i o = line_in_lem f l k Idle (bytes_seen (clock_seen v x s)) p e tt
clocked_in f ok en l k v x (Receive r) quiet p e i o = absurd i
clocked_in f ok en l k v x (Receive r) cycling p e i o = absurd i
clocked_in f ok en l k v x (Receive r) (since h bs j n) p e i o = received_in f ok en l k v r l.left x h bs j n p refl i o
clocked_in f ok en l k v x (Send t) s p e i o = sent_in f l k v t l.left (bytes_seen (clock_seen v x s)) p
clocked_in f ok en l k v x (Busy y) s p e i o = line_in_lem f l k (Busy y) (bytes_seen (clock_seen v x s)) p e o

-- ---- Start and Stop

start_none : (v : Bool) (s : Seen) → bytes_seen (start_seen v s) ≡ []
unfolding start_seen
start_none v quiet = refl
start_none v cycling = refl
start_none v (since h bs j n) = refl

started_in : (f : Facts) (l : Line) (k : List ℕ) (v : Bool) (ph : Phase) (s : Seen) (p : List Byte)
    → l.phase ≡ ph → Inside f l.core.counter k ph (bytes_seen s) p
    → LineIn f (started_of l ph) (latch_of k (start_act_of ph)) (bytes_seen (start_seen v s)) p
unfolding started_of start_act_of
started_in f l k v Idle s p e o = start_none v s
started_in f l k v (Receive r) s p e o = start_none v s
started_in f l k v (Send t) s p e o = start_none v s
started_in f l k v (Busy y) s p e o = line_in_lem f l k (Busy y) (bytes_seen (start_seen v s)) p e o

due_in : (f : Facts) (c : Core) (k : List ℕ) (u : Bool) (r : Recv) (bs ds p : List Byte) → Lies f c.counter k r bs
    → LineIn f (stopped_by_lem c (due_of u (asks_of r))) (latch_of k (stop_act_by (due_of u (asks_of r)))) ds (cond (eqb (begun_by (due_of u (asks_of r))) 1) bs p)
unfolding asks_of
due_in f c k false r bs ds p o = tt
due_in f c k true Select bs ds p o = tt
due_in f c k true (AddressHigh t) bs ds p o = tt
due_in f c k true (AddressLow t high) bs ds p o = tt
due_in f c k true (Fill Array true) bs ds p o = o
due_in f c k true (Fill Ident true) bs ds p o = o
due_in f c k true (Fill t false) bs ds p o = tt
due_in f c k true LockByte bs ds p o = tt
due_in f c k true (LockTaken true) bs ds p o = o
due_in f c k true (LockTaken false) bs ds p o = tt

stopped_in : (f : Facts) (l : Line) (k : List ℕ) (ph : Phase) (bs ds p : List Byte)
    → l.phase ≡ ph → Inside f l.core.counter k ph bs p
    → LineIn f (stopped_of l ph) (latch_of k (stop_act_of l ph)) ds (cond (eqb (stop_begun_of l ph) 1) bs p)
unfolding stopped_of stop_act_of stop_begun_of
stopped_in f l k Idle bs ds p e o = tt
stopped_in f l k (Receive r) bs ds p e o = due_in f l.core k (placed_of l) r bs ds p o
stopped_in f l k (Send t) bs ds p e o = tt
stopped_in f l k (Busy y) bs ds p e o = line_in_lem f l k (Busy y) ds p e o

-- ---- the cycle's end, and the pin

end_same : (s : Seen) → bytes_seen (end_seen s) ≡ bytes_seen s
unfolding end_seen
end_same quiet = refl
end_same cycling = refl
end_same (since h bs j n) = refl

ended_in : (f : Facts) (l : Line) (k : List ℕ) (ph : Phase) (bs p : List Byte)
    → l.phase ≡ ph → Inside f l.core.counter k ph bs p → LineIn f (ended_of f l ph) (latch_of k (end_act_of ph)) bs p
unfolding ended_of ended_by_of end_act_of
ended_in f l k Idle bs p e o = line_in_lem f l k Idle bs p e o
ended_in f l k (Receive r) bs p e o = line_in_lem f l k (Receive r) bs p e o
ended_in f l k (Send t) bs p e o = line_in_lem f l k (Send t) bs p e o
ended_in f l k (Busy (Writing Array)) bs p e o = tt
ended_in f l k (Busy (Writing Ident)) bs p e o = tt
ended_in f l k (Busy Locking) bs p e o = tt

pin_same : (v : Bool) (s : Seen) → bytes_seen (pin_seen v s) ≡ bytes_seen s
unfolding pin_seen
pin_same v quiet = refl
pin_same v cycling = refl
pin_same v (since h bs j n) = refl

pinned_in : (f : Facts) (l : Line) (k : List ℕ) (v : Pin) (ph : Phase) (bs p : List Byte) → LineIn f l k bs p → LineIn f (pinned_of l v ph) k bs p
unfolding pinned_of
pinned_in f l k v Idle bs p o = o
pinned_in f l k v (Receive r) bs p o = o
pinned_in f l k v (Send t) bs p o = o
pinned_in f l k v (Busy y) bs p o = o

pin_in_lem : (f : Facts) (c : Chip) (v : Pin) (w : Watch) (p : List Byte) → InsideAt f c w p
    → LineIn f (pinned_of c.line v c.line.phase) c.latch (bytes_seen (pin_seen (is_high v) w.seen)) p
pin_in_lem f c v w p o =
    subst (λ (z : List Byte). LineIn f (pinned_of c.line v c.line.phase) c.latch z p) (sym (pin_same (is_high v) w.seen))
    (pinned_in f c.line c.latch v c.line.phase (bytes_seen w.seen) p o)

-- ---- an event

pub inside_step : (f : Facts) → Sound f → (en : ℕ) (c : Chip) (b : ℕ) (w : Watch) (p : List Byte) (d : Event) → Beside f c.line w → InsideAt f c w p
    → InsideAt f (state_of f en c d) (watch_of f w d (level_of f en c.line b d)) (pending_of f w.seen p d)
unfolding state_of next_of act_of level_of watch_of pending_of stop_of begun_of reset_of
inside_step f ok en c b w p (Clock v) i o = clocked_in f ok en c.line c.latch v _ c.line.phase w.seen p refl i.side o
inside_step f ok en c b w p Start i o = started_in f c.line c.latch w.pin c.line.phase w.seen p refl o
inside_step f ok en c b w p Stop i o =
    subst (λ (z : ℕ). InsideAt f (state_of f en c Stop) (watch_of f w Stop 2) (cond (eqb z 1) (bytes_seen w.seen) p)) (together f en c.line b w Stop i).1
    (stopped_in f c.line c.latch c.line.phase (bytes_seen w.seen) (bytes_seen (stop_seen f w.seen)) p refl o)
inside_step f ok en c b w p Ends i o =
    subst (λ (z : List Byte). LineIn f (ended_of f c.line c.line.phase) (latch_of c.latch (end_act_of c.line.phase)) z p) (sym (end_same w.seen))
    (ended_in f c.line c.latch c.line.phase (bytes_seen w.seen) p refl o)
inside_step f ok en c b w p PinLow i o = pin_in_lem f c Low w p o
inside_step f ok en c b w p PinHigh i o = pin_in_lem f c High w p o
inside_step f ok en c b w p PinFloat i o = pin_in_lem f c Floating w p o
inside_step f ok en c b w p (Reset v) i o = tt
inside_step f ok en c b w p Unknown i o = o
