-- The buffer of our driver at every moment.
-- Assumes nothing.
use Prim.Native.Nat.{ℕ, zero, suc, ◌+◌, ◌*◌, ◌/◌, ◌%◌, ◌≤◌, ◌<◌}
use mathlib.Core.Path.{◌≡◌, refl, sym, ◌∙◌, ap, subst}
use mathlib.Core.Bool.{Bool, true, false, cond, false≢true}
use mathlib.Core.List.{List, [], ◌∷◌}
use lib.ListN.{length, get_or, length-append}
use lib.Dec.{eqb}
use native.Mathlib.Omega.{arith}
use borrow.Author.Tests.{eqb-true}
use Rattle.parts.proofs.Laws.{branch}
use Rattle.parts.proofs.Tests.{not_yes}
use Rattle.driver.specs.declared.Request.{Request}
use Rattle.parts.specs.declared.Refusal.{Refusal}
use Rattle.driver.specs.declared.Failed.{Failed}
use Rattle.driver.specs.declared.Slot.TheVariants.{Select, High, Low, Data, Poll, Turn, Take}
use Rattle.driver.specs.declared.Phase.{Phase}
use Rattle.driver.specs.declared.Phase.TheVariants.{Ready, Bits, Heard, Rest, Over}
use Rattle.driver.specs.declared.Counts.{Counts}
use Rattle.driver.specs.declared.Driver.{Driver}
use Rattle.driver.specs.declared.Asked.{Asked}
use Rattle.driver.specs.Step.{bit_of, refusal_of, driver_step_of, range_of, driver_next_of}
use Rattle.driver.specs.Machine.{our_driver}
use Rattle.driver_promises.specs.Run.{DriverHeld, told, after_all, clock_of_byte}
use Rattle.driver_promises.specs.Plan.{then_start, then_bits, then_byte, address_at, select_of, then_select, then_high, then_head}
use Rattle.driver_promises.specs.Where.{RefusedByte, the_select, the_first, the_only, the_second, the_turn, the_data, the_poll}
use Rattle.driver_promises.proofs.Inv.{wide, Head}
use Rattle.driver_promises.proofs.Grow.{A, D, heads, ends, two_bytes, one_byte}
use Rattle.driver_promises.proofs.Bound.{no_polls}
use Rattle.driver_promises.proofs.Trail.{read_before}
use Rattle.driver_promises.proofs.Got.{Bytes}
use Rattle.driver_promises.proofs.Story.{Ahead, Story, long}
use Rattle.driver_promises.proofs.Extra.{write_keeps}

-- ---- how long the events are
bits_length : (es : List ℕ) (v n : ℕ) → length (then_bits es v n) ≡ length es + n
bits_length es v zero = omega arith
bits_length es v (suc n) = omega (arith, bits_length es v n, length-append (then_bits es v n) (bit_of v n ∷ []))

byte_length : (es : List ℕ) (v n : ℕ) → length (then_byte es v n) ≡ length es + 9
byte_length es v n = omega (arith, bits_length es v 8, length-append (then_bits es v 8) (n ∷ []))

module _ (r : Request) (o : ℕ) where
  high_length : (b : Bool) → wide r ≡ b → length (then_high r b [] o) ≡ 1 + 9 * A r
  high_length true e = omega (arith, two_bytes r e, byte_length (then_start []) (select_of r o) 1, byte_length (then_select r [] o) (address_at r o / 256 % 256) 1)
  high_length false e = omega (arith, one_byte r e, byte_length (then_start []) (select_of r o) 1)

  head_length : length (then_head r [] o) ≡ 10 + 9 * A r
  head_length = omega (arith, high_length (wide r) refl, byte_length (then_high r (wide r) [] o) (address_at r o % 256) 1)

  -- a read is refused before the first clock of its first byte
  refused_early : {xs ls : List ℕ} {f : Refusal} {v : ℕ} {bef : List ℕ} → r.reads ≡ true → RefusedByte r xs ls [] o f v bef → length bef + 9 ≤ clock_of_byte r 0
  refused_early w the_select = omega arith
  refused_early w (the_first e a) = omega (arith, byte_length (then_start []) (select_of r o) 1)
  refused_early w (the_only e a) = omega (arith, byte_length (then_start []) (select_of r o) 1)
  refused_early w (the_second e a) = omega (arith, high_length true e)
  refused_early w (the_turn e a) = omega (arith, head_length, length-append (then_head r [] o) (2 ∷ []))
  refused_early w (the_data i e l a) = absurd (false≢true (sym e ∙ w))
  refused_early w (the_poll e a p) = absurd (false≢true (sym e ∙ w))

-- ---- a read has got the first n bytes: as many as ninth clocks are sent
pub record Upto (r : Request) (xs ys es ls : List ℕ) : Type 0 where
  pub count : ℕ
  pub bytes : Bytes r count ys ls
  pub ahead : (i : ℕ) → count ≤ i → get_or ys i 0 ≡ get_or xs i 0
  pub high : (i : ℕ) → clock_of_byte r i + 8 < length es → i < count
  pub low : (i : ℕ) → length es ≤ clock_of_byte r i + 8 → count ≤ i

module _ (r : Request) (xs : List ℕ) (w : r.reads ≡ true) where
  heads_read : (s : ℕ) → heads r s ≡ cond {A = ℕ} (eqb s 0) 0 (2 + A r)
  heads_read s = ap (λ (t : Bool). cond t (cond (eqb s 0) 0 (2 + A r)) (D r s * (1 + A r))) w

  ends_read : (s : ℕ) → ends r s ≡ cond {A = ℕ} (eqb s 0) 0 3
  ends_read s = ap (λ (t : Bool). cond t (cond (eqb s 0) 0 3) (3 * D r s)) w

  module _ (c : Counts) (ys es ls : List ℕ) where
    -- nothing is done yet
    started : c.seen ≡ 0 → (heads r c.seen ≡ 0) × (ends r c.seen ≡ 0)
    started z = (ap (heads r) z ∙ heads_read 0, ap (ends r) z ∙ ends_read 0)

    polls : {p : Phase} → Story r xs p c ys es ls → c.polls ≡ 0
    polls v = no_polls r c.polls w v.inv.common.most

    -- before the first byte
    none : Ahead c ys xs → c.at ≡ 0 → length es ≤ clock_of_byte r 0 + 8 → Upto r xs ys es ls
    none v z h = record { count = 0; bytes = λ i l. absurd (omega arith); ahead = λ i l. v i (omega arith); high = λ i l. absurd (omega arith); low = λ i l. omega arith }

    in_head : {p : Phase} → Story r xs p c ys es ls → Head r c.at c.seen c.tries → (n m : ℕ) → n ≤ 9 * (2 + A r) → m ≤ 2 → length es ≡ 9 * (heads r c.seen + c.at + c.polls) + n + (ends r c.seen + c.polls + m) → Upto r xs ys es ls
    in_head v h n m k j e =
        let z = h.first w in
        let y = h.same in
        let g = started (omega arith) in
        none v.ahead z (omega (arith, g.0, g.1, polls v))

    -- some bytes are there
    some : Ahead c ys xs → Bytes r c.at ys ls → (b : ℕ) → b ≤ 8 → length es ≡ clock_of_byte r c.at + b → Upto r xs ys es ls
    some v g b k e = record { count = c.at; bytes = g; ahead = v; high = λ i l. omega arith; low = λ i l. omega arith }

    -- refused: the buffer is as before
    refused : (f : Failed) → Story r xs (Over f) c ys es ls → Upto r xs ys es ls
    refused f v =
        let t = v.told in
        let z = v.inv.here w in
        let e = read_before r.reads r ys ls t.past c.seen t.spent w z t.parts in
        let k = refused_early r c.seen w (subst (λ (y : List ℕ). RefusedByte r ys ls y c.seen (refusal_of r c f) t.byte t.before) e t.which) in
        let n : length es ≡ length t.before + 10 = ap length t.events ∙ omega (arith, byte_length t.before t.byte 1, length-append (then_byte t.before t.byte 1) (3 ∷ [])) in
        record {
          count = 0;
          bytes = λ i l. absurd (omega arith);
          ahead = λ i l. ap (λ (y : List ℕ). get_or y i 0) v.kept;
          high = λ i l. absurd (omega arith);
          low = λ i l. omega arith;
        }

    -- before the first Start, or all bytes are there
    ready : Story r xs Ready c ys es ls → Upto r xs ys es ls
    ready v = go (eqb c.seen 0) refl
      where
        go : (t : Bool) → eqb c.seen 0 ≡ t → Upto r xs ys es ls
        go true e =
            let z = eqb-true c.seen 0 e in
            let y = v.inv.here.same in
            let g = started z in
            let k = v.ends refl in
            none v.ahead (omega arith) (omega (arith, g.0, g.1, polls v))
        go false e =
            let y = v.inv.here.same in
            let h : heads r c.seen ≡ 2 + A r = heads_read c.seen ∙ ap (λ (t : Bool). cond {A = ℕ} t 0 (2 + A r)) e in
            let d : ends r c.seen ≡ 3 = ends_read c.seen ∙ ap (λ (t : Bool). cond {A = ℕ} t 0 3) e in
            let k = v.ends refl in
            some v.ahead (v.got w) 1 (omega arith) (omega (arith, polls v))

    pub upto : (p : Phase) → Story r xs p c ys es ls → Upto r xs ys es ls
    upto Ready v = ready v
    upto (Bits Select b) v = let k = v.inv.bits in in_head v v.inv.here b 1 (omega arith) (omega arith) (omega (arith, v.ends refl))
    upto (Bits High b) v = let k = v.inv.bits in in_head v v.inv.here.0 (9 + b) 1 (omega arith) (omega arith) (omega (arith, v.ends refl))
    upto (Bits Low b) v = let k = v.inv.bits in in_head v v.inv.here (9 * A r + b) 1 (omega arith) (omega arith) (omega (arith, v.ends refl))
    upto (Bits Data b) v = absurd (false≢true (sym (not_yes r.reads v.inv.right) ∙ w))
    upto (Bits Poll b) v = absurd (false≢true (sym (not_yes r.reads v.inv.right) ∙ w))
    upto (Bits Turn b) v = let k = v.inv.bits in in_head v v.inv.here (9 * (1 + A r) + b) 2 (omega arith) (omega arith) (omega (arith, v.ends refl))
    upto (Bits Take b) v = some v.ahead v.got.0 b v.inv.bits (v.told.1 ∙ long r xs (Bits Take b) c ys es ls v refl)
    upto (Heard Select) v = in_head v v.inv.here 9 1 (omega arith) (omega arith) (omega (arith, v.ends refl))
    upto (Heard High) v = in_head v v.inv.here.0 18 1 (omega arith) (omega arith) (omega (arith, v.ends refl))
    upto (Heard Low) v = in_head v v.inv.here (9 * (1 + A r)) 1 (omega arith) (omega arith) (omega (arith, v.ends refl))
    upto (Heard Data) v = absurd (false≢true (sym (not_yes r.reads v.inv.right) ∙ w))
    upto (Heard Poll) v = absurd (false≢true (sym (not_yes r.reads v.inv.right) ∙ w))
    upto (Heard Turn) v = in_head v v.inv.here (9 * (2 + A r)) 2 (omega arith) (omega arith) (omega (arith, v.ends refl))
    upto (Heard Take) v =
        let z = v.inv.here.0.zero in
        let g = started z in
        some v.ahead v.got 0 (omega arith) (omega (arith, v.ends refl, g.0, g.1, polls v))
    upto Rest v = absurd (false≢true (sym (not_yes r.reads v.inv.right) ∙ w))
    upto (Over f) v = refused f v

-- ---- a write, from any driver: the buffer is left alone
request_same : (d : Driver) (l : ℕ) (xs : List ℕ) → (driver_next_of d l xs).driver.request ≡ d.request
unfolding driver_next_of driver_step_of
request_same d l xs = branch (λ (a : Asked). a.driver.request ≡ d.request) (range_of d (length xs)) (λ e. refl) (λ e. refl)

pub write_left : (h : DriverHeld) (ls : List ℕ) → h.driver.request.reads ≡ false → (after_all our_driver h ls).buffer ≡ h.buffer
write_left h [] w = refl
write_left h (l ∷ ls) w =
    write_left (told our_driver h l) ls (ap (λ (r : Request). r.reads) (request_same h.driver l h.buffer) ∙ w) ∙ write_keeps h.driver l h.buffer w
