-- The bytes that the driver sends are what the chip hears: select codes and addresses.
-- Assumes nothing.
use Rattle.std.specs.Prelude.{None, Some}
use Prim.Native.Nat.{ℕ, ◌+◌, ◌-◌, ◌*◌, ◌/◌, ◌%◌, ◌^◌, ◌≤◌, ◌<◌}
use mathlib.Core.Path.{◌≡◌, refl, sym, ◌∙◌, ap, subst}
use mathlib.Core.Bool.{Bool, true, false, cond, false≢true}
use lib.ListN.{get_or}
use lib.Dec.{eqb}
use lib.Arith.{digits_mod}
use native.Mathlib.Omega.{arith}
use native.Mathlib.Nat.{mod-eq_of_lt, div-eq_of_lt, div-le_self, div-add-mod'}
use borrow.Author.Tests.{eq-eqb, ne_eqb}
use Rattle.parts.specs.declared.Facts.{Facts}
use Rattle.parts.specs.Sound.{Reached}
use Rattle.parts.specs.Table.{facts_of, id_size_of}
use Rattle.parts.proofs.Laws.{sound, branch}
use Rattle.line.specs.declared.Target.{Target}
use Rattle.line.specs.declared.Target.TheVariants.{Array as TheArray, Ident as TheIdent}
use Rattle.line.specs.declared.Recv.{Recv}
use Rattle.line.specs.declared.Recv.TheVariants.{AddressHigh, AddressLow, Fill, LockByte}
use Rattle.line.specs.declared.Phase.TheVariants.{Receive}
use Rattle.line.specs.declared.Core.{Core}
use Rattle.line.specs.declared.Act.TheVariants.{Drop}
use Rattle.line.specs.Rules.{counting, goes, bit_on, enabled_of, named_of, decode_of, address_start_of, load_array_of, load_id_of, loaded_of, asks_of, moved_of}
use Rattle.chip.specs.Memory.{Mem, cells_of, shown_of}
use Rattle.driver.specs.declared.Place.{Place}
use Rattle.driver.specs.declared.Place.TheVariants.{Array, Ident}
use Rattle.driver.specs.Request.{room_of, there_of}
use Rattle.driver.specs.Step.{select_name_of, select_at, bit_of}
use Rattle.driver_promises.proofs.Bytes.{register, register_next}
use Rattle.bench_promises.specs.Ground.{target_of}

-- ---- select codes

module _ (f : Facts) (en : ℕ) where
  named_hit : (p : Place) (b y z : ℕ) → b ≡ select_name_of p + 2 * y + z → y ≤ 7 → z < 2 → there_of f p ≡ true → named_of f b ≡ Some ((target_of p), (eqb z 1))
  unfolding named_of
  named_hit (Array a) b y z e h o t =
      let d : b % 2 ≡ z = omega arith in
      simp (eq-eqb (b / 16) 10 (omega arith), d)
  named_hit (Ident i) b y z e h o t =
      let d : b % 2 ≡ z = omega arith in
      simp (ne_eqb (b / 16) 10 (λ k. omega arith), eq-eqb (b / 16) 11 (omega arith), t, d)

  even_name : (p : Place) → select_name_of p / 2 % 8 ≡ 0
  even_name (Array a) = refl
  even_name (Ident i) = refl

  whole_name : (p : Place) → select_name_of p ≡ select_name_of p / 16 * 16
  whole_name (Array a) = refl
  whole_name (Ident i) = refl

  enabled : (p : Place) (b y z : ℕ) → b ≡ select_name_of p + 2 * y + z → y ≤ 7 → z < 2 → (f.wide ≡ true → y ≡ en) → enabled_of f en b ≡ true
  unfolding enabled_of
  enabled p b y z e h o w =
      branch (λ (t : Bool). t ≡ true) f.wide
      (λ k. eq-eqb (b / 2 % 8) en (let n = whole_name p in let q = w k in omega arith))
      (λ k. refl)

  pub decode_hit : (p : Place) (b y z : ℕ) → b ≡ select_name_of p + 2 * y + z → y ≤ 7 → z < 2 → (f.wide ≡ true → y ≡ en) → there_of f p ≡ true → decode_of f en b ≡ Some ((target_of p), (eqb z 1))
  unfolding decode_of
  decode_hit p b y z e h o w t =
      ap (λ (u : Bool). cond u (named_of f b) None) (enabled p b y z e h o w) ∙ named_hit p b y z e h o t

-- what follows the select of a write begins no cycle
pub asks_none : (f : Facts) (t : Target) (b : ℕ) → asks_of (address_start_of f t b) ≡ None
unfolding address_start_of asks_of
asks_none f t b = go t
  where
    go : (t : Target) → asks_of (address_start_of f t b) ≡ None
    go TheArray = branch (λ (r : Recv). asks_of r ≡ None) f.wide (λ _. refl) (λ _. refl)
    go TheIdent = branch (λ (r : Recv). asks_of r ≡ None) f.wide (λ _. refl) (λ _. refl)

pub first_wide : (f : Facts) (p : Place) (b : ℕ) → f.wide ≡ true → address_start_of f (target_of p) b ≡ AddressHigh (target_of p)
unfolding address_start_of
first_wide f (Array a) b w = simp w
first_wide f (Ident i) b w = simp w

-- ---- addresses

-- a place of the request
pub record Placed (f : Facts) (p : Place) (x : ℕ) : Type 0 where
  pub there : there_of f p ≡ true
  pub room : x < room_of f p

module _ (n : ℕ) where
  abbrev f : Facts
  f = facts_of n

  reach_narrow : (w : Bool) → f.wide ≡ w → w ≡ false → f.size ≤ 2048
  reach_narrow true e k = absurd (false≢true (sym k))
  reach_narrow false e k = subst (λ (b : Bool). Reached b f.size) e (sound n).reached

  ident_room : (i x : ℕ) → x < cond f.ident f.page 0 → x < f.page
  ident_room i x = branch (λ (k : ℕ). x < k → x < f.page) f.ident (λ e h. h) (λ e h. absurd (omega arith))

  pub room_most : (p : Place) (x : ℕ) → Placed f p x → x < 32768
  unfolding id_size_of
  room_most (Array a) x h = let k = h.room in omega (arith, (sound n).size_most)
  room_most (Ident i) x h = let k = ident_room 0 x h.room in omega (arith, (sound n).page_most)

  -- one address byte: the bits of the select code, and it
  pub first_narrow : (p : Place) (x en : ℕ) → Placed f p x → f.wide ≡ false
      → (bits : ℕ) × (address_start_of f (target_of p) (select_at (select_name_of p) f.wide en x) ≡ AddressLow (target_of p) bits) × (bits * 256 + x % 256 ≡ x)
  unfolding address_start_of select_at id_size_of
  first_narrow (Array a) x en h w =
      let s = reach_narrow f.wide refl w in
      let k = h.room in
      ((160 + 2 * cond f.wide en (x / 256 % 8)) / 2 % 8, simp w, simp w (omega arith))
  first_narrow (Ident i) x en h w = let k = ident_room 0 x h.room in (0, simp w, omega (arith, (sound n).page_most))

  -- the counter is loaded with the address, and what comes are data
  pub load_is : (c : Core) (p : Place) (x : ℕ) → Placed f p x → loaded_of f c (target_of p) x ≡ goes (counting c x) (Receive (Fill (target_of p) false)) Drop
  unfolding loaded_of load_array_of load_id_of id_size_of
  load_is c (Array a) x h = ap (λ (k : ℕ). goes (counting c k) (Receive (Fill (target_of (Array a)) false)) Drop) (mod-eq_of_lt h.room)
  load_is c (Ident i) x h =
      let k = ident_room 0 x h.room in
      let z : bit_on x f.lock ≡ false = ap (λ (q : ℕ). eqb (q % 2) 1) (div-eq_of_lt {n = x} {m = f.lock} (omega (arith, (sound n).lock_above))) in
      ap (λ (b : Bool). goes (counting c (x % f.page)) (Receive (cond b LockByte (Fill (target_of (Ident i)) false))) Drop) z
      ∙ ap (λ (k : ℕ). goes (counting c k) (Receive (Fill (target_of (Ident i)) false)) Drop) (mod-eq_of_lt k)

  -- the byte at the counter
  pub shown_is : (m : Mem) (p : Place) (x : ℕ) → Placed f p x → shown_of f x m (target_of p) ≡ get_or (cells_of (target_of p) m) x 0
  unfolding shown_of id_size_of
  shown_is m (Array a) x h = refl
  shown_is m (Ident i) x h = ap (λ (k : ℕ). get_or m.ident k 0) (mod-eq_of_lt (ident_room 0 x h.room))

  pub moved_last : (c : Core) (p : Place) → there_of f p ≡ true → moved_of f c (target_of p) 0 ≡ counting c ((c.counter + 1) % room_of f p)
  unfolding moved_of id_size_of
  moved_last c (Array a) t = refl
  moved_last c (Ident i) t = simp t

-- ---- the register

pub register_low : (v b : ℕ) → v < 256 → b < 8 → register v b < 128
register_low v b o h = omega (arith, register_next v b h, div-le_self v (2 ^ (8 - (b + 1))))

pub register_step : (v b x : ℕ) → v < 256 → b < 8 → x ≡ register v b → x % 128 * 2 + bit_of v b ≡ register v (b + 1)
register_step v b x o h e =
    let s = register_low v b o h in
    let k : x % 128 ≡ x = mod-eq_of_lt {n = x} {m = 128} (omega arith) in
    omega (arith, register_next v b h)

-- ---- places of a page
pub inside_page : (P x j : ℕ) → x % P + j < P → (x + j) % P ≡ x % P + j
inside_page P x j h =
    let e : x / P * P + (x % P + j) ≡ x + j = omega (arith, div-add-mod' x P) in
    ap (λ (n : ℕ). n % P) (sym e) ∙ digits_mod (x / P) h
