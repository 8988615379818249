-- No level but those that are listened to changes what our driver does.
-- Assumes nothing.
use Prim.Native.Nat.{ℕ, ◌+◌, ◌*◌, ◌%◌, ◌≤◌, ◌<◌}
use mathlib.Core.Path.{◌≡◌, refl, sym, ◌∙◌, ap, subst}
use mathlib.Core.Bool.{Bool, true, false, cond, not, false≢true, ◌&&◌}
use mathlib.Core.List.{List, [], ◌∷◌, ◌++◌}
use lib.ListN.{length, get_or, set}
use lib.Dec.{eqb, ltb, leb}
use native.Mathlib.Omega.{arith}
use borrow.Author.Tests.{lt-ltb, eq-eqb, ne_eqb, lt-leb, eqb-true, eqb-false}
use Rattle.parts.specs.Refusals.{is_fine}
use Rattle.driver.specs.declared.Request.{Request}
use Rattle.driver.specs.declared.Slot.{Slot}
use Rattle.driver.specs.declared.Failed.{Failed}
use Rattle.driver.specs.declared.Slot.TheVariants.{Select, High, Low, Data, Poll, Turn, Take}
use Rattle.driver.specs.declared.Phase.{Phase}
use Rattle.driver.specs.declared.Phase.TheVariants.{Ready, Bits, Heard, Rest, Over}
use Rattle.driver.specs.declared.Counts.{Counts}
use Rattle.driver.specs.declared.Driver.{Driver}
use Rattle.driver.specs.declared.Move.{Move}
use Rattle.driver.specs.declared.Asked.{Asked}
use Rattle.driver.specs.Step.{wire_of, slot_byte_of, bit_of, shift_of, with_byte, sent_counts_of, ninth_of, bits_at, lead_at, low_at, data_at, answered_of, heard_at, heard_move_of, bits_move_of, move_at, driver_step_of, bad_state_of, range_of, driver_next_of, whole_of, byte_kept_of, buffer_of, fresh}
use Rattle.driver.specs.Machine.{our_driver}
use Rattle.driver_promises.specs.Run.{DriverHeld, sent_by, answer_to, after_all, events_sent}
use Rattle.driver_promises.specs.Plan.{select_of}
use Rattle.driver_promises.specs.Listens.{Ear, silence, hears, ear_of, listens, Alike, Agree, OnlyThoseLevels}
use Rattle.driver_promises.proofs.View.{at, takes, clock_of, Way, w_done, w_open, w_bit, w_ninth, w_got, w_nack, w_high, w_only, w_low, w_turn, w_data, w_more, w_close, w_drop, w_poll, w_again, w_give, w_page, w_take, w_next, w_end, w_over, Steps}
use Rattle.driver_promises.proofs.Inv.{Inv}
use Rattle.driver_promises.proofs.Grow.{bit_lt}
use Rattle.driver_promises.proofs.Story.{Story, held, one_step, story_step, start}
use Rattle.driver_promises.proofs.Extra.{seven_bits}

-- ---- by phase: whether the level told is looked at
abbrev looks : Phase → Bool
looks Ready = false
looks (Bits s b) = takes s
looks (Heard s) = not (takes s)
looks Rest = false
looks (Over f) = false

-- one step, told one level or another: any driver, any buffer
module _ (l j : ℕ) where
  shift_alike : (b : ℕ) → Alike l j → shift_of b l ≡ shift_of b j
  unfolding shift_of
  shift_alike b e = ap (λ (t : Bool). cond t (b % 128 * 2) (b % 128 * 2 + 1)) e

  module _ (d : Driver) (v : ℕ) where
    bits_alike : (s : Slot) (b : ℕ) → (takes s ≡ true → Alike l j) → bits_move_of d s b l v ≡ bits_move_of d s b j v
    unfolding bits_move_of
    bits_alike Select b f = refl
    bits_alike High b f = refl
    bits_alike Low b f = refl
    bits_alike Data b f = refl
    bits_alike Poll b f = refl
    bits_alike Turn b f = refl
    bits_alike Take b f =
        ap (λ (x : ℕ). bits_at Take b (bit_of (slot_byte_of (wire_of d v) Take) b) (ninth_of Take (eqb (d.counts.at + 1) d.request.length)) (with_byte d.counts x) (sent_counts_of Take d.counts)) (shift_alike d.counts.byte (f refl))

    lead_alike : (c : Counts) (w : Failed) (s : Slot) (x : ℕ) → Alike l j → lead_at c w s x l ≡ lead_at c w s x j
    unfolding lead_at
    lead_alike c w s x e = simp e

    heard_alike : (s : Slot) (x : ℕ) → (not (takes s) ≡ true → Alike l j) → heard_at d s l x ≡ heard_at d s j x
    unfolding low_at data_at answered_of
    heard_alike Select x f = lead_alike _ _ _ x (f refl)
    heard_alike High x f = lead_alike _ _ _ x (f refl)
    heard_alike Low x f = let e = f refl in simp e
    heard_alike Data x f = let e = f refl in simp e
    heard_alike Poll x f = let e = f refl in simp e
    heard_alike Turn x f = lead_alike _ _ _ x (f refl)
    heard_alike Take x f = refl

    move_alike : (p : Phase) → (looks p ≡ true → Alike l j) → move_at p d l v ≡ move_at p d j v
    unfolding heard_move_of
    move_alike Ready f = refl
    move_alike (Bits s b) f = bits_alike s b f
    move_alike (Heard s) f = heard_alike s _ f
    move_alike Rest f = refl
    move_alike (Over w) f = refl

  next_alike : (d : Driver) (ys : List ℕ) → (looks d.phase ≡ true → Alike l j) → driver_next_of d l ys ≡ driver_next_of d j ys
  unfolding driver_next_of driver_step_of
  next_alike d ys f =
      ap (λ (m : Move). cond (range_of d (length ys)) (record { answer = m.answer; driver = record { request = d.request; phase = m.phase; counts = m.counts } }) (bad_state_of d))
      (move_alike d (get_or ys d.counts.at 0) d.phase f)

  kept_alike : (p : Phase) (c : Counts) (ys : List ℕ) → (looks p ≡ true → Alike l j) → cond (whole_of p) (cond (ltb c.at (length ys)) (set ys c.at (shift_of c.byte l)) ys) ys ≡ cond (whole_of p) (cond (ltb c.at (length ys)) (set ys c.at (shift_of c.byte j)) ys) ys
  kept_alike Ready c ys f = refl
  kept_alike (Bits Select b) c ys f = refl
  kept_alike (Bits High b) c ys f = refl
  kept_alike (Bits Low b) c ys f = refl
  kept_alike (Bits Data b) c ys f = refl
  kept_alike (Bits Poll b) c ys f = refl
  kept_alike (Bits Turn b) c ys f = refl
  kept_alike (Bits Take b) c ys f = ap (λ (x : ℕ). cond (leb 8 b) (cond (ltb c.at (length ys)) (set ys c.at x) ys) ys) (shift_alike c.byte (f refl))
  kept_alike (Heard s) c ys f = refl
  kept_alike Rest c ys f = refl
  kept_alike (Over w) c ys f = refl

  buffer_alike : (d : Driver) (ys : List ℕ) → (looks d.phase ≡ true → Alike l j) → buffer_of d l ys ≡ buffer_of d j ys
  unfolding buffer_of byte_kept_of
  buffer_alike d ys f = ap (λ (zs : List ℕ). cond (range_of d (length ys)) zs ys) (kept_alike d.phase d.counts ys f)

-- ---- the ear, by phase: n bytes of the transfer are sent or read before this one
pub record Place (k : Ear) (n b : ℕ) (t : Bool) : Type 0 where
  pub clocks : k.clocks ≡ 9 * n + b
  pub reads : k.reads ≡ t

abbrev Later : Ear → ℕ → Bool → Type 0
Later k b t = (n : ℕ) × (1 ≤ n) × Place k n b t

-- in a select code: its last bit is u
abbrev First : Ear → ℕ → Bool → Type 0
First k b u = Place k 0 b (leb 8 b && u)

abbrev EarBits : Slot → ℕ → Ear → Type 0
EarBits Select b k = First k b false
EarBits High b k = Later k b false
EarBits Low b k = Later k b false
EarBits Data b k = Later k b false
EarBits Poll b k = First k b false
EarBits Turn b k = First k b true
EarBits Take b k = Later k b true × (1 ≤ b)

abbrev EarHeard : Slot → Ear → Type 0
EarHeard Select k = Later k 0 false
EarHeard High k = Later k 0 false
EarHeard Low k = Later k 0 false
EarHeard Data k = Later k 0 false
EarHeard Poll k = Later k 0 false
EarHeard Turn k = Place k 1 0 true
EarHeard Take k = Later k 0 true

abbrev EarIn : Phase → Ear → Type 0
EarIn Ready k = k ≡ silence
EarIn (Bits s b) k = EarBits s b k
EarIn (Heard s) k = EarHeard s k
EarIn Rest k = k ≡ silence
EarIn (Over f) k = k ≡ silence

-- where the driver looks, the ear listens
acks : (k : Ear) → Later k 0 false → listens k ≡ true
acks k (n, o, p) =
    let c = p.clocks in
    let e : k.clocks % 9 ≡ 0 = omega arith in
    simp (p.reads, lt-ltb 0 k.clocks (omega arith), eq-eqb (k.clocks % 9) 0 e) (no (ltb 9 k.clocks))
  where
    no : (b : Bool) → cond (b && false) false true ≡ true
    no true = refl
    no false = refl

turn_acks : (k : Ear) → Place k 1 0 true → listens k ≡ true
turn_acks k p =
    let c : k.clocks ≡ 9 = p.clocks in
    simp c

bit_read : (k : Ear) (b : ℕ) → Later k b true → 1 ≤ b → b ≤ 8 → listens k ≡ true
bit_read k b (n, o, p) i m =
    let c = p.clocks in
    simp (p.reads, lt-ltb 9 k.clocks (omega arith), ne_eqb (k.clocks % 9) 0 (λ e. omega arith))

ear_listens : (p : Phase) (k : Ear) (r : Request) (c : Counts) → Inv r p c → EarIn p k → looks p ≡ true → listens k ≡ true
ear_listens Ready k r c v o t = absurd (false≢true t)
ear_listens (Bits s b) k r c v o t = go s o t v.bits
  where
    go : (s : Slot) → EarBits s b k → takes s ≡ true → b ≤ 8 → listens k ≡ true
    go Select o t m = absurd (false≢true t)
    go High o t m = absurd (false≢true t)
    go Low o t m = absurd (false≢true t)
    go Data o t m = absurd (false≢true t)
    go Poll o t m = absurd (false≢true t)
    go Turn o t m = absurd (false≢true t)
    go Take o t m = bit_read k b o.0 o.1 m
ear_listens (Heard Select) k r c v o t = acks k o
ear_listens (Heard High) k r c v o t = acks k o
ear_listens (Heard Low) k r c v o t = acks k o
ear_listens (Heard Data) k r c v o t = acks k o
ear_listens (Heard Poll) k r c v o t = acks k o
ear_listens (Heard Turn) k r c v o t = turn_acks k o
ear_listens (Heard Take) k r c v o t = absurd (false≢true t)
ear_listens Rest k r c v o t = absurd (false≢true t)
ear_listens (Over f) k r c v o t = absurd (false≢true t)

-- ---- a clock more
module _ (k : Ear) (e : ℕ) (h : e < 2) where
  clocked : (n b n' b' : ℕ) (t : Bool) → Place k n b t → (9 * n + b ≡ 7 → ⊥) → 9 * n + b + 1 ≡ 9 * n' + b' → Place (hears k e) n' b' t
  clocked n b n' b' t p f g =
      let c = p.clocks in
      simp (lt-ltb e 2 h, ne_eqb k.clocks 7 (λ z. f (sym c ∙ z))) (record { clocks = omega arith; reads = p.reads })

  later : (b : ℕ) (t : Bool) → Later k b t → Later (hears k e) (b + 1) t
  later b t (n, o, p) = (n, o, clocked n b n (b + 1) t p (λ z. omega arith) (omega arith))

  later_ninth : (b : ℕ) (t : Bool) → b ≡ 8 → Later k b t → Later (hears k e) 0 t
  later_ninth b t z (n, o, p) = (n + 1, omega arith, clocked n b (n + 1) 0 t p (λ z. omega arith) (omega arith))

  -- the eighth clock of a select code
  eighth : (t : Bool) → Place k 0 7 t → Place (hears k e) 0 8 (eqb e 1)
  eighth t p =
      let c : k.clocks ≡ 7 = p.clocks in
      simp (lt-ltb e 2 h, c) (record { clocks = refl; reads = refl })

  first : (b : ℕ) (u : Bool) → First k b u → b < 8 → (b ≡ 7 → eqb e 1 ≡ u) → First (hears k e) (b + 1) u
  first b u p m f = go (eqb b 7) refl
    where
      go : (t : Bool) → eqb b 7 ≡ t → First (hears k e) (b + 1) u
      go true q =
          let z = eqb-true b 7 q in
          subst (λ (i : ℕ). First (hears k e) (i + 1) u) (sym z)
          (subst (λ (t : Bool). Place (hears k e) 0 8 t) (f z) (eighth (leb 8 b && u) (subst (λ (i : ℕ). Place k 0 i (leb 8 b && u)) z p)))
      go false q =
          let z = eqb-false b 7 q in
          let x : leb 8 b ≡ leb 8 (b + 1) = lt-leb 8 b m ∙ sym (lt-leb 8 (b + 1) (less b z m)) in
          clocked 0 b 0 (b + 1) (leb 8 (b + 1) && u) (subst (λ (t : Bool). Place k 0 b (t && u)) x p) (λ y. z (omega arith)) (omega arith)
        where
          less : (b : ℕ) → (b ≡ 7 → ⊥) → b < 8 → b + 1 < 8
          less b z m = omega (arith, z)

  first_ninth : (b : ℕ) (u : Bool) → b ≡ 8 → First k b u → Place (hears k e) 1 0 u
  first_ninth b u z p = clocked 0 8 1 0 u (subst (λ (i : ℕ). First k i u) z p) (λ y. omega arith) refl

last_bit : (v : ℕ) → bit_of v 7 ≡ v % 2
unfolding bit_of
last_bit v = omega arith

module _ (r : Request) where
  -- the last bit of the select codes
  writes_bit : (o b : ℕ) → b ≡ 7 → eqb (bit_of (select_of r o) b) 1 ≡ false
  writes_bit o b z =
      let e = (seven_bits r o).even in
      ap (λ (i : ℕ). eqb (bit_of (select_of r o) i) 1) z ∙ ne_eqb (bit_of (select_of r o) 7) 1 (λ y. omega (arith, last_bit (select_of r o)))

  reads_bit : (o b : ℕ) → b ≡ 7 → eqb (bit_of (select_of r o + 1) b) 1 ≡ true
  reads_bit o b z =
      let e = (seven_bits r o).even in
      ap (λ (i : ℕ). eqb (bit_of (select_of r o + 1) i) 1) z ∙ eq-eqb (bit_of (select_of r o + 1) 7) 1 (omega (arith, last_bit (select_of r o + 1)))

  bit_ear : (s : Slot) (b : ℕ) (c : Counts) (xs : List ℕ) (k : Ear) → b < 8 → EarBits s b k → EarBits s (b + 1) (hears k (clock_of r c xs s b))
  unfolding wire_of
  bit_ear Select b c xs k h o = first k _ (bit_lt _ b) b false o h (writes_bit c.seen b)
  bit_ear High b c xs k h o = later k _ (bit_lt _ b) b false o
  bit_ear Low b c xs k h o = later k _ (bit_lt _ b) b false o
  bit_ear Data b c xs k h o = later k _ (bit_lt _ b) b false o
  bit_ear Poll b c xs k h o = first k _ (bit_lt _ b) b false o h (writes_bit c.seen b)
  bit_ear Turn b c xs k h o = first k _ (bit_lt _ b) b true o h (reads_bit c.seen b)
  bit_ear Take b c xs k h o = (later k _ (bit_lt _ b) b true o.0, omega arith)

  ninth_ear : (s : Slot) (b : ℕ) (k : Ear) → takes s ≡ false → b ≡ 8 → EarBits s b k → EarHeard s (hears k 1)
  ninth_ear Select b k e z o = (1, omega arith, first_ninth k 1 (omega arith) b false z o)
  ninth_ear High b k e z o = later_ninth k 1 (omega arith) b false z o
  ninth_ear Low b k e z o = later_ninth k 1 (omega arith) b false z o
  ninth_ear Data b k e z o = later_ninth k 1 (omega arith) b false z o
  ninth_ear Poll b k e z o = (1, omega arith, first_ninth k 1 (omega arith) b false z o)
  ninth_ear Turn b k e z o = first_ninth k 1 (omega arith) b true z o
  ninth_ear Take b k e z o = absurd (false≢true (sym e))

  got_lt : (t : Bool) → cond {A = ℕ} t 1 0 < 2
  got_lt true = omega arith
  got_lt false = omega arith

  ear_step : {c : Counts} {l : ℕ} {xs ys : List ℕ} {p : Phase} {m : Move} (k : Ear) → EarIn p k → Way r c l xs p m ys → EarIn m.phase (ear_of k (sent_by m.answer))
  ear_step k o (w_done e) = o
  ear_step k o (w_open n) = record { clocks = refl; reads = refl }
  ear_step {c} {xs = xs} k o (w_bit s b h) = bit_ear s b c xs k h o
  ear_step k o (w_ninth s b e z) = ninth_ear s b k e z o
  ear_step {c} k o (w_got b z h) = later_ninth k _ (got_lt (eqb (c.at + 1) r.length)) b true z o.0
  ear_step k o (w_nack s e h) = refl
  ear_step k o (w_high z e) = later k _ (bit_lt _ 0) 0 false o
  ear_step k o (w_only z e) = later k _ (bit_lt _ 0) 0 false o
  ear_step k o (w_low z) = later k _ (bit_lt _ 0) 0 false o
  ear_step k o (w_turn z e) = record { clocks = refl; reads = refl }
  ear_step k o (w_data z e) = later k _ (bit_lt _ 0) 0 false o
  ear_step k o (w_more z n) = later k _ (bit_lt _ 0) 0 false o
  ear_step k o (w_close z e) = refl
  ear_step k o (w_drop z) = refl
  ear_step k o w_poll = record { clocks = refl; reads = refl }
  ear_step k o (w_again z h) = record { clocks = refl; reads = refl }
  ear_step k o (w_give z h) = refl
  ear_step k o (w_page z) = refl
  ear_step k o (w_take z) = (later k _ (bit_lt _ 0) 0 true (1, omega arith, o), omega arith)
  ear_step k o (w_next n) = (later k _ (bit_lt _ 0) 0 true o, omega arith)
  ear_step k o (w_end e) = refl
  ear_step k o (w_over f) = o

-- ---- two runs
module _ (r : Request) (xs : List ℕ) where
  abbrev hold : Driver → List ℕ → DriverHeld
  hold d ys = record { driver = d; buffer = ys }

  -- one event and what comes after it, from the answers to the two levels
  abbrev Twin : Asked → List ℕ → List ℕ → Asked → List ℕ → List ℕ → Type 0
  Twin a ys ks b zs js =
      (sent_by a.answer ++ events_sent our_driver (hold a.driver ys) ks ≡ sent_by b.answer ++ events_sent our_driver (hold b.driver zs) js)
      × (after_all our_driver (hold a.driver ys) ks ≡ after_all our_driver (hold b.driver zs) js)

  twins : (p : Phase) (c : Counts) (ys es ls : List ℕ) → Story r xs p c ys es ls → (k : Ear) → EarIn p k → (ks js : List ℕ) → Agree our_driver k (held r xs p c ys) ks js → (events_sent our_driver (held r xs p c ys) ks ≡ events_sent our_driver (held r xs p c ys) js) × (after_all our_driver (held r xs p c ys) ks ≡ after_all our_driver (held r xs p c ys) js)
  twins p c ys es ls v k o [] [] a = (refl, refl)
  twins p c ys es ls v k o [] (j ∷ js) a = absurd a
  twins p c ys es ls v k o (l ∷ ks) [] a = absurd a
  twins p c ys es ls v k o (l ∷ ks) (j ∷ js) a =
      go (one_step r xs v l) (λ m zs w u b. twins m.phase m.counts zs (es ++ sent_by m.answer) (ls ++ (l ∷ [])) w (ear_of k (sent_by m.answer)) u ks js b)
    where
      go : (s : Steps r p c l ys) → ((m : Move) (zs : List ℕ) → Story r xs m.phase m.counts zs (es ++ sent_by m.answer) (ls ++ (l ∷ [])) → EarIn m.phase (ear_of k (sent_by m.answer)) → Agree our_driver (ear_of k (sent_by m.answer)) (held r xs m.phase m.counts zs) ks js → (events_sent our_driver (held r xs m.phase m.counts zs) ks ≡ events_sent our_driver (held r xs m.phase m.counts zs) js) × (after_all our_driver (held r xs m.phase m.counts zs) ks ≡ after_all our_driver (held r xs m.phase m.counts zs) js)) → Twin (driver_next_of (at r p c) l ys) (buffer_of (at r p c) l ys) ks (driver_next_of (at r p c) j ys) (buffer_of (at r p c) j ys) js
      go s f =
          let m = s.move in
          let d = at r p c in
          let zs = buffer_of d l ys in
          let t : Asked = record { answer = m.answer; driver = at r m.phase m.counts } in
          let b = subst (λ (x : Asked). Agree our_driver (ear_of k (sent_by x.answer)) (hold x.driver zs) ks js) s.asked a.1 in
          let w = f m zs (story_step r xs v s.way) (ear_step r k o s.way) b in
          let q : looks p ≡ true → Alike l j = λ z. a.0 (ear_listens p k r c v.inv o z) in
          let both : Twin t zs ks t zs js = (ap (λ (y : List ℕ). sent_by m.answer ++ y) w.0, w.1) in
          subst (λ (y : List ℕ). Twin (driver_next_of d l ys) zs ks (driver_next_of d j ys) y js) (buffer_alike l j d ys q)
          (subst (λ (x : Asked). Twin (driver_next_of d l ys) zs ks x zs js) (next_alike l j d ys q)
          (subst (λ (x : Asked). Twin x zs ks x zs js) (sym s.asked) both))

pub only_those_levels : OnlyThoseLevels our_driver
only_those_levels r xs a ls js g =
    let w = twins r xs Ready (fresh r).counts xs [] [] (start r xs (ap is_fine a.fine) a.size) silence refl ls js g in
    record { events = w.0; answers = λ l. ap (λ (h : DriverHeld). answer_to our_driver h l) w.1; buffer = ap (λ (h : DriverHeld). h.buffer) w.1 }
