-- A page write cut by a Stop, byte after byte: a Stop inside a byte begins nothing, and one between bytes what the byte before it asks.
-- Assumes nothing.
use Rattle.std.specs.Prelude.{Some}
use Prim.Native.Nat.{ℕ, zero, suc, ◌+◌, ◌-◌, ◌*◌, ◌/◌, ◌%◌, ◌<◌, ◌≤◌}
use native.Mathlib.Omega.{arith}
use mathlib.Core.Path.{◌≡◌, refl, sym, ap, subst, ◌∙◌}
use mathlib.Core.Bool.{Bool, true, false, not, cond, ◌&&◌}
use mathlib.Core.List.{List, [], ◌∷◌, ◌++◌, append_assoc}
use lib.ListN.{length, take}
use lib.Dec.{eqb, ltb}
use borrow.Author.Tests.{ne_eqb, ltb-true, ltb-false}
use Rattle.parts.specs.declared.Facts.{Facts}
use Rattle.parts.specs.declared.Event.{Event}
use Rattle.parts.specs.Table.{address_bytes_of}
use Rattle.parts.specs.Events.{event_with}
use Rattle.parts.specs.Bytes.{flag_of, AllBelow}
use Rattle.parts.proofs.Laws.{clock_code}
use Rattle.line.specs.declared.Target.{Target}
use Rattle.line.specs.declared.Target.TheVariants.{Array, Ident}
use Rattle.line.specs.declared.Recv.{Recv}
use Rattle.line.specs.declared.Recv.TheVariants.{Select, AddressHigh, AddressLow, Fill}
use Rattle.line.specs.declared.Phase.{Phase}
use Rattle.line.specs.declared.Phase.TheVariants.{Idle, Receive}
use Rattle.line.specs.declared.Core.{Core}
use Rattle.line.specs.declared.Line.{Line}
use Rattle.line.specs.declared.Act.{Act}
use Rattle.line.specs.declared.Act.TheVariants.{Keep, Drop, Put}
use Rattle.line.specs.declared.After.{After}
use Rattle.line.specs.Rules.{is_high, at, goes, marking, roll_of, counting, decode_of, address_start_of, selected_of, load_array_of, load_id_of, loaded_of, refuses_of, latched_of, filled_of, taken_of, landed, received_of, receive_act_of, clocked_of, clock_act_of, opened, started_of, start_act_of, asks_of, placed_of, due_of, begun_by, stop_begun_of, next_of, act_of, begun_of}
use Rattle.state.specs.declared.Chip.{Chip}
use Rattle.chip.specs.Model.{ours}
use Rattle.chip.specs.Memory.{mem, chip, latch_of, no_latch, state_of}
use Rattle.chip.specs.Runs.{after_of, cycles_of}
use Rattle.chip_laws.specs.Bytes.{byte_of, Clocks, bytes_of}
use Rattle.chip_laws.proofs.Bytes.{taking, bytes_are_clocks, cycles_append, clocks_quiet, byte_in_lem}
use Rattle.chip_promises.specs.Cut.{write_bytes, above_of, Permitted, CutByStop}

-- a Stop after n clocks of bytes of which the first g are to pass before one begins a cycle
abbrev Due : ℕ → ℕ → Type 0
Due g n = (n % 9 ≡ 0) × (g ≤ n / 9)

abbrev Told : ℕ → ℕ → ℕ → Type 0
Told g n cycles = (Due g n → cycles ≡ 1) × ((Due g n → ⊥) → cycles ≡ 0)

plus_zero : (z : ℕ) → z + 0 ≡ z
plus_zero z = omega arith

zero_plus : (z : ℕ) → 0 + z ≡ z
zero_plus z = omega arith

-- ---- a Stop alone

stop_at : (f : Facts) (en : ℕ) (l : Line) (k : List ℕ) → cycles_of (ours f en) (chip l k) (3 ∷ []) ≡ stop_begun_of l l.phase
unfolding cycles_of event_with begun_of
stop_at f en l k = plus_zero (stop_begun_of l l.phase)

stop_late : (f : Facts) (en : ℕ) (c : Core) (r : Recv) (k : List ℕ) (p x : ℕ) → p < 8 → cycles_of (ours f en) (chip (taking c r p x) k) (3 ∷ []) ≡ 0
unfolding stop_begun_of placed_of
stop_late f en c r k p x h =
    stop_at f en (taking c r p x) k
    ∙ ap (λ (b : Bool). begun_by (due_of (b && not c.inhibited) (asks_of r))) (ne_eqb p 8 (λ e. omega arith))

stop_whole : (f : Facts) (en : ℕ) (c : Core) (r : Recv) (k : List ℕ) → c.inhibited ≡ false
    → cycles_of (ours f en) (chip (at c (Receive r)) k) (3 ∷ []) ≡ begun_by (asks_of r)
unfolding stop_begun_of placed_of
stop_whole f en c r k h =
    stop_at f en (at c (Receive r)) k ∙ ap (λ (b : Bool). begun_by (due_of (true && not b) (asks_of r))) h

-- a Stop inside a byte, i of its clocks taken
stop_inside : (f : Facts) (en : ℕ) (c : Core) (r : Recv) (k : List ℕ) (i p x : ℕ) (ys : List ℕ) → Clocks i ys → i ≤ p → p < 8 + i
    → cycles_of (ours f en) (chip (taking c r p x) k) (ys ++ (3 ∷ [])) ≡ 0
unfolding cycles_of begun_of state_of next_of clocked_of received_of act_of clock_act_of receive_act_of
stop_inside f en c r k zero p x [] h a b = stop_late f en c r k p x (omega arith)
stop_inside f en c r k zero p x (y ∷ ys) h a b = absurd h
stop_inside f en c r k (suc i) p x [] h a b = absurd h
stop_inside f en c r k (suc i) zero x (y ∷ ys) h a b = absurd (omega arith)
stop_inside f en c r k (suc i) (suc p) x (y ∷ ys) h a b =
    let d = chip (taking c r (suc p) x) k in
    let x' = x % 128 * 2 + flag_of (eqb y 1) in
    subst (λ (e : Event). begun_of d.line e + cycles_of (ours f en) (state_of f en d e) (ys ++ (3 ∷ [])) ≡ 0) (sym (clock_code y h.0))
    (zero_plus (cycles_of (ours f en) (chip (taking c r p x') k) (ys ++ (3 ∷ []))) ∙ stop_inside f en c r k i p x' ys h.1 (omega arith) (omega arith))

-- ---- the first clocks of a list

clocks_front : (n m : ℕ) (xs ys : List ℕ) → Clocks m xs → n ≤ m → Clocks n (take n (xs ++ ys))
clocks_front zero m xs ys h a = tt
clocks_front (suc n) zero xs ys h a = absurd (omega arith)
clocks_front (suc n) (suc m) [] ys h a = absurd h
clocks_front (suc n) (suc m) (x ∷ xs) ys h a = (h.0, clocks_front n m xs ys h.1 (omega arith))

take_past : (m j n : ℕ) (xs ys : List ℕ) → Clocks m xs → n ≡ m + j → take n (xs ++ ys) ≡ xs ++ take j ys
take_past zero j n [] ys h e =
    let same : n ≡ j = omega (arith, e) in
    ap (λ (z : ℕ). take z ys) same
take_past zero j n (x ∷ xs) ys h e = absurd h
take_past (suc m) j n [] ys h e = absurd h
take_past (suc m) j zero (x ∷ xs) ys h e = absurd (omega arith)
take_past (suc m) j (suc n) (x ∷ xs) ys h e = ap (λ (z : List ℕ). x ∷ z) (take_past m j n xs ys h.1 (omega arith))

-- ---- one byte before the rest

-- from this state, whatever the latches, over these bytes
abbrev Cut : Facts → ℕ → Core → Recv → ℕ → List ℕ → Type 0
Cut f en c r g bs = (k : List ℕ) (n : ℕ) → n ≤ 9 * length bs → Told g n (cycles_of (ours f en) (chip (at c (Receive r)) k) (take n (bytes_of bs) ++ (3 ∷ [])))

-- what a Stop before any clock begins
abbrev Asks : Recv → ℕ → Type 0
Asks r g = (g ≡ 0 → begun_by (asks_of r) ≡ 1) × (0 < g → begun_by (asks_of r) ≡ 0)

told_first : (f : Facts) (en : ℕ) (c : Core) (r : Recv) (g : ℕ) (k : List ℕ) → c.inhibited ≡ false → Asks r g
    → Told g 0 (cycles_of (ours f en) (chip (at c (Receive r)) k) (3 ∷ []))
told_first f en c r g k q a =
    let s = stop_whole f en c r k q in
    (λ d. s ∙ a.0 (omega (arith, d.1)), λ d. s ∙ a.1 (positive g (λ e. d (refl, omega (arith, e)))))
  where
    positive : (g : ℕ) → (g ≡ 0 → ⊥) → 0 < g
    positive zero h = absurd (h refl)
    positive (suc g) h = omega arith

told_none : (g n z : ℕ) → 0 < n → n < 9 → z ≡ 0 → Told g n z
told_none g n z a b e = (λ d. absurd (omega (arith, d.0)), λ d. e)

told_on : (g n j z : ℕ) → n ≡ 9 + j → Told (g - 1) j z → Told g n z
told_on g n j z e t =
    (λ d. t.0 (omega (arith, d.0), omega (arith, d.1)), λ d. t.1 (λ w. d (omega (arith, w.0), omega (arith, w.1))))

none_left : (f : Facts) (en : ℕ) (c : Core) (r : Recv) (g : ℕ) → c.inhibited ≡ false → Asks r g → Cut f en c r g []
none_left f en c r g q a k zero h = told_first f en c r g k q a
none_left f en c r g q a k (suc n) h = absurd (omega (arith, h))

-- a byte that is acknowledged
module _ (f : Facts) (en : ℕ) (c c' : Core) (r r' : Recv) (a : Act) (b : ℕ) (small : b < 256) (t : taken_of f en c r b ≡ goes c' (Receive r') a) where
  past : (k zs : List ℕ) → cycles_of (ours f en) (chip (at c (Receive r)) k) (byte_of b true ++ zs) ≡ cycles_of (ours f en) (chip (at c' (Receive r')) (latch_of k a)) zs
  past k zs =
      let d = chip (at c (Receive r)) k in
      let after = (byte_in_lem f en c r k (mem [] []) b true small).0 in
      cycles_append (ours f en) d (byte_of b true) zs
      ∙ ap (λ (z : ℕ). z + cycles_of (ours f en) (after_of (ours f en) d (byte_of b true)) zs) (clocks_quiet f en d (mem [] []) 9 (byte_of b true) (bytes_are_clocks b true).1).1
      ∙ zero_plus (cycles_of (ours f en) (after_of (ours f en) d (byte_of b true)) zs)
      ∙ ap (λ (e : Chip). cycles_of (ours f en) e zs) after
      ∙ ap (λ (w : After). cycles_of (ours f en) (chip (landed w) (latch_of k w.act)) zs) t

  pub byte_cut : (g : ℕ) (bs : List ℕ) → c.inhibited ≡ false → Asks r g → Cut f en c' r' (g - 1) bs → Cut f en c r g (b ∷ bs)
  byte_cut g bs q asks rest k zero h = told_first f en c r g k q asks
  byte_cut g bs q asks rest k (suc n) h = go (ltb (suc n) 9) refl
    where
      go : (v : Bool) → ltb (suc n) 9 ≡ v
          → Told g (suc n) (cycles_of (ours f en) (chip (at c (Receive r)) k) (take (suc n) (byte_of b true ++ bytes_of bs) ++ (3 ∷ [])))
      go true e =
          let few : suc n < 9 = ltb-true (suc n) 9 e in
          told_none g (suc n) (cycles_of (ours f en) (chip (at c (Receive r)) k) (take (suc n) (byte_of b true ++ bytes_of bs) ++ (3 ∷ []))) (omega arith) few
          (stop_inside f en c r k (suc n) 8 0 (take (suc n) (byte_of b true ++ bytes_of bs)) (clocks_front (suc n) 9 (byte_of b true) (bytes_of bs) (bytes_are_clocks b true).1 (omega (arith, few))) (omega (arith, few)) (omega arith))
      go false e =
          let many : 9 ≤ suc n = ltb-false (suc n) 9 e in
          let j = suc n - 9 in
          let s : suc n ≡ 9 + j = omega (arith, many) in
          let cut =
          ap (λ (z : List ℕ). cycles_of (ours f en) (chip (at c (Receive r)) k) (z ++ (3 ∷ []))) (take_past 9 j (suc n) (byte_of b true) (bytes_of bs) (bytes_are_clocks b true).1 s)
          ∙ ap (cycles_of (ours f en) (chip (at c (Receive r)) k)) (append_assoc (byte_of b true) (take j (bytes_of bs)) (3 ∷ []))
          ∙ past k (take j (bytes_of bs) ++ (3 ∷ [])) in
          subst (Told g (suc n)) (sym cut) (told_on g (suc n) j (cycles_of (ours f en) (chip (at c' (Receive r')) (latch_of k a)) (take j (bytes_of bs) ++ (3 ∷ []))) s (rest (latch_of k a) j (omega (arith, s, h))))

-- ---- data

-- what a write needs of the core until its end
abbrev Open : Core → Target → Type 0
Open c t = (c.inhibited ≡ false) × (refuses_of c t ≡ false)

fill_taken : (f : Facts) (en : ℕ) (c : Core) (t : Target) (w : Bool) (b : ℕ) → refuses_of c t ≡ false
    → taken_of f en c (Fill t w) b ≡ goes (counting c (roll_of f.page c.counter)) (Receive (Fill t true)) (Put (c.counter % f.page) b)
unfolding taken_of filled_of latched_of
fill_taken f en c t w b h = rw h refl

open_counting : (c : Core) (t : Target) (n : ℕ) → refuses_of c t ≡ false → refuses_of (counting c n) t ≡ false
unfolding refuses_of
open_counting c Array n h = h
open_counting c Ident n h = h

asks_none : (t : Target) → Asks (Fill t false) 1
unfolding asks_of
asks_none t = (λ e. absurd (omega (arith, e)), λ e. refl)

asks_one : (t : Target) → Asks (Fill t true) 0
unfolding asks_of
asks_one t = (λ e. refl, λ e. absurd (omega (arith, e)))

data_on : (f : Facts) (en : ℕ) (c : Core) (t : Target) (bs : List ℕ) → Open c t → AllBelow 256 bs → Cut f en c (Fill t true) 0 bs
data_on f en c t [] o h = none_left f en c (Fill t true) 0 o.0 (asks_one t)
data_on f en c t (b ∷ bs) o h =
    let d = counting c (roll_of f.page c.counter) in
    byte_cut f en c d (Fill t true) (Fill t true) (Put (c.counter % f.page) b) b h.0 (fill_taken f en c t true b o.1) 0 bs o.0 (asks_one t)
    (data_on f en d t bs (o.0, open_counting c t (roll_of f.page c.counter) o.1) h.1)

data_cut : (f : Facts) (en : ℕ) (c : Core) (t : Target) (bs : List ℕ) → Open c t → AllBelow 256 bs → Cut f en c (Fill t false) 1 bs
data_cut f en c t [] o h = none_left f en c (Fill t false) 1 o.0 (asks_none t)
data_cut f en c t (b ∷ bs) o h =
    let d = counting c (roll_of f.page c.counter) in
    byte_cut f en c d (Fill t false) (Fill t true) (Put (c.counter % f.page) b) b h.0 (fill_taken f en c t false b o.1) 1 bs o.0 (asks_none t)
    (data_on f en d t bs (o.0, open_counting c t (roll_of f.page c.counter) o.1) h.1)

-- ---- address and select

-- what the address is taken modulo
abbrev room_of : Facts → Target → ℕ
room_of f Array = f.size
room_of f Ident = f.page

low_taken : (f : Facts) (en : ℕ) (c : Core) (t : Target) (above low : ℕ) → Permitted f c t (above * 256 + low)
    → taken_of f en c (AddressLow t above) low ≡ goes (counting c ((above * 256 + low) % room_of f t)) (Receive (Fill t false)) Drop
unfolding taken_of loaded_of load_array_of load_id_of
low_taken f en c Array above low p = refl
low_taken f en c Ident above low p = rw p.1 refl

asks_low : (t : Target) (above : ℕ) → Asks (AddressLow t above) 2
unfolding asks_of
asks_low t above = (λ e. absurd (omega (arith, e)), λ e. refl)

low_cut : (f : Facts) (en : ℕ) (c : Core) (t : Target) (above low : ℕ) (bs : List ℕ) → Open c t → Permitted f c t (above * 256 + low) → AllBelow 256 (low ∷ bs)
    → Cut f en c (AddressLow t above) 2 (low ∷ bs)
low_cut f en c t above low bs o p h =
    let n = (above * 256 + low) % room_of f t in
    byte_cut f en c (counting c n) (AddressLow t above) (Fill t false) Drop low h.0 (low_taken f en c t above low p) 2 bs o.0 (asks_low t above)
    (data_cut f en (counting c n) t bs (o.0, open_counting c t n o.1) h.1)

high_taken : (f : Facts) (en : ℕ) (c : Core) (t : Target) (high : ℕ) → taken_of f en c (AddressHigh t) high ≡ goes c (Receive (AddressLow t high)) Keep
unfolding taken_of
high_taken f en c t high = refl

asks_high : (t : Target) → Asks (AddressHigh t) 3
unfolding asks_of
asks_high t = (λ e. absurd (omega (arith, e)), λ e. refl)

high_cut : (f : Facts) (en : ℕ) (c : Core) (t : Target) (high low : ℕ) (bs : List ℕ) → Open c t → Permitted f c t (high * 256 + low) → AllBelow 256 (high ∷ low ∷ bs)
    → Cut f en c (AddressHigh t) 3 (high ∷ low ∷ bs)
high_cut f en c t high low bs o p h =
    byte_cut f en c c (AddressHigh t) (AddressLow t high) Keep high h.0 (high_taken f en c t high) 3 (low ∷ bs) o.0 (asks_high t)
    (low_cut f en c t high low bs o p h.1)

select_wide : (f : Facts) (en : ℕ) (c : Core) (t : Target) (select : ℕ) → f.wide ≡ true → decode_of f en select ≡ Some (t, false)
    → taken_of f en c Select select ≡ goes c (Receive (AddressHigh t)) Keep
unfolding taken_of selected_of address_start_of
select_wide f en c Array select w h = rw (h, w) refl
select_wide f en c Ident select w h = rw (h, w) refl

select_narrow : (f : Facts) (en : ℕ) (c : Core) (t : Target) (select high : ℕ) → f.wide ≡ false → decode_of f en select ≡ Some (t, false)
    → taken_of f en c Select select ≡ goes c (Receive (AddressLow t (above_of false t select high))) Keep
unfolding taken_of selected_of address_start_of
select_narrow f en c Array select high w h = rw (h, w) refl
select_narrow f en c Ident select high w h = rw (h, w) refl

asks_select : (g : ℕ) → 0 < g → Asks Select g
unfolding asks_of
asks_select g h = (λ e. absurd (omega (arith, e)), λ e. refl)

-- by the number of address bytes
select_cut : (f : Facts) (en : ℕ) (c : Core) (t : Target) (select high low : ℕ) (bs : List ℕ) (v : Bool) → f.wide ≡ v → decode_of f en select ≡ Some (t, false)
    → Open c t → Permitted f c t (above_of v t select high * 256 + low) → AllBelow 256 (select ∷ high ∷ low ∷ bs)
    → Cut f en c Select (2 + cond v 2 1) (write_bytes v select high low bs)
select_cut f en c t select high low bs true w names o p h =
    byte_cut f en c c Select (AddressHigh t) Keep select h.0 (select_wide f en c t select w names) 4 (high ∷ low ∷ bs) o.0 (asks_select 4 (omega arith))
    (high_cut f en c t high low bs o p h.1)
select_cut f en c t select high low bs false w names o p h =
    let above = above_of false t select high in
    byte_cut f en c c Select (AddressLow t above) Keep select h.0 (select_narrow f en c t select high w names) 3 (low ∷ bs) o.0 (asks_select 3 (omega arith))
    (low_cut f en c t above low bs o p h.1.1)

-- ---- the Start

start_cycles : (f : Facts) (en : ℕ) (l : Line) (k zs : List ℕ) → l.phase ≡ Idle
    → cycles_of (ours f en) (chip l k) (2 ∷ zs) ≡ cycles_of (ours f en) (chip (opened l.core) no_latch) zs
unfolding cycles_of event_with begun_of state_of next_of act_of started_of start_act_of
start_cycles f en l k zs h =
    zero_plus (cycles_of (ours f en) (chip (started_of l l.phase) (latch_of k (start_act_of l.phase))) zs)
    ∙ ap (λ (ph : Phase). cycles_of (ours f en) (chip (started_of l ph) (latch_of k (start_act_of ph))) zs) h

abbrev begun : Core → Core
begun c = marking c c.pin (is_high c.pin)

open_begun : (f : Facts) (c : Core) (t : Target) (a : ℕ) → is_high c.pin ≡ false → Permitted f c t a → refuses_of (begun c) t ≡ false
unfolding refuses_of
open_begun f c Array a h p = h
open_begun f c Ident a h p = rw (h, p.0) refl

permitted_begun : (f : Facts) (c : Core) (t : Target) (a : ℕ) → Permitted f c t a → Permitted f (begun c) t a
permitted_begun f c Array a p = tt
permitted_begun f c Ident a p = p

pub cut_by_stop : CutByStop
unfolding address_bytes_of
cut_by_stop f en l k t select high low bs n w h =
    let c = l.core in
    let a = above_of f.wide t select high * 256 + low in
    let bytes = write_bytes f.wide select high low bs in
    let s = start_cycles f en l k (take n (bytes_of bytes) ++ (3 ∷ [])) w.idle in
    let told =
    select_cut f en (begun c) t select high low bs f.wide refl w.names (w.pin, open_begun f c t a w.pin w.permitted)
    (permitted_begun f c t a w.permitted) w.bytes no_latch n h in
    (λ d. s ∙ told.0 (d.0, omega (arith, d.1)), λ d. s ∙ told.1 (λ u. d (u.0, omega (arith, u.1))))
