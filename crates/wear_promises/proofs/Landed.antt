-- What the chip has latched is what the bytes of the transfer say: group by group of the page, once over P and the group's bytes.
-- Assumes nothing.
use Prim.Native.Nat.{ℕ, zero, suc, ◌+◌, ◌*◌, ◌/◌, ◌%◌, ◌<◌, ◌≤◌}
use mathlib.Core.Path.{◌≡◌, ◌∙◌, refl, sym, ap}
use mathlib.Core.Bool.{Bool, true, false, cond, ◌||◌}
use mathlib.Core.List.{List, [], ◌∷◌, ◌++◌}
use native.Mathlib.Nat.{mod-lt, div-add-mod', div-eq_of_lt-le, div-lt_iff_lt-mul, mul-add-div_right, mul-div_cancel, mul-add-mod_self_right, mod-add-mod, add_assoc, add-zero, mul_assoc}
use native.Mathlib.Decide.{ℕ_discrete}
use native.Mathlib.Omega.{arith}
use lib.Arith.{digits_div, digits_mod}
use lib.Dec.{eqb, ltb}
use lib.ListN.{length, get_or, set, replicate, length-append, length-drop, length-set}
use lib.Seq.{get_or-set_same, get_or-set_other}
use borrow.Author.Tests.{eqb-true, eqb-false, eq-eqb, ne_eqb, lt-ltb}
use Rattle.parts.specs.declared.Facts.{Facts}
use Rattle.parts.specs.Table.{address_bytes_of}
use Rattle.parts.specs.Sound.{Sound}
use Rattle.parts.proofs.Laws.{branch}
use Rattle.line.specs.Rules.{roll_of}
use Rattle.chip.specs.Memory.{no_latch, latched_in, touched_of}
use Rattle.chip_promises.specs.Stops.{Byte, address_in}
use Rattle.wear_promises.specs.History.{address_of, data_count_of, lands_of, lands_in, names_array}

-- ---- whether a byte is latched at one of n places, after one more is latched at place i

latched_put : (k : List ℕ) (i b a n : ℕ) → i < length k → b < 256 → a ≤ i → i < a + n → latched_in (set k i b) a n ≡ true
latched_put k i b a zero hi hb l r = absurd (omega arith)
latched_put k i b a (suc n) hi hb l r = go (ℕ_discrete a i) (λ o. latched_put k i b (suc a) n hi hb (omega (arith, o)) (omega arith))
  where
    go : Dec (a ≡ i) → ((a ≡ i → ⊥) → latched_in (set k i b) (suc a) n ≡ true) → latched_in (set k i b) a (suc n) ≡ true
    go (yes e) rest =
        let s : get_or (set k i b) a 256 ≡ b = ap (λ (z : ℕ). get_or (set k i b) z 256) e ∙ get_or-set_same k i b 256 hi in
        rw (s, lt-ltb b 256 hb) refl
    go (no e) rest = branch (λ (z : Bool). z ≡ true) (ltb (get_or (set k i b) a 256) 256) (λ _. refl) (λ _. rest e)

latched_apart : (k : List ℕ) (i b a n : ℕ) → (a ≤ i → i < a + n → ⊥) → latched_in (set k i b) a n ≡ latched_in k a n
latched_apart k i b a zero o = refl
latched_apart k i b a (suc n) o =
    let s : get_or (set k i b) a 256 ≡ get_or k a 256 = get_or-set_other k i a b 256 (λ e. o (omega arith) (omega arith)) in
    ap (λ (x : ℕ). cond (ltb x 256) true (latched_in (set k i b) (suc a) n)) s
    ∙ ap (λ (x : Bool). cond (ltb (get_or k a 256) 256) true x) (latched_apart k i b (suc a) n (λ l r. o (omega arith) (omega arith)))

touched_put : (g : ℕ) (k : List ℕ) (i b j : ℕ) → 0 < g → i < length k → b < 256 → touched_of g (set k i b) j ≡ (eqb (i / g) j || touched_of g k j)
unfolding touched_of
touched_put g k i b j pos hi hb = go (eqb (i / g) j) refl
  where
    go : (t : Bool) → eqb (i / g) j ≡ t → latched_in (set k i b) (j * g) g ≡ (t || latched_in k (j * g) g)
    go true e =
        let q : i / g * g ≡ j * g = ap (λ (z : ℕ). z * g) (eqb-true (i / g) j e) in
        latched_put k i b (j * g) g hi hb (omega (arith, q, div-add-mod' i g)) (omega (arith, q, div-add-mod' i g, mod-lt i pos))
    go false e = latched_apart k i b (j * g) g (λ l r. eqb-false (i / g) j e (div-eq_of_lt-le g (omega (arith, l)) (omega (arith, r))))

fill_at : (n i x : ℕ) → get_or (replicate n x) i x ≡ x
fill_at zero zero x = refl
fill_at zero (suc i) x = refl
fill_at (suc n) zero x = refl
fill_at (suc n) (suc i) x = fill_at n i x

latched_none : (i n : ℕ) → latched_in no_latch i n ≡ false
unfolding no_latch
latched_none i zero = refl
latched_none i (suc n) = ap (λ (x : ℕ). cond (ltb x 256) true (latched_in (replicate 64 256) (suc i) n)) (fill_at 64 i 256) ∙ latched_none (suc i) n

touched_none : (g j : ℕ) → touched_of g no_latch j ≡ false
unfolding touched_of
touched_none g j = latched_none (j * g) g

-- ---- places of a page, and groups of the array

-- the page rule: from where data byte i lands to where the next does
roll_on : (P a i : ℕ) → 0 < P → roll_of P (a / P * P + (a + i) % P) ≡ a / P * P + (a + suc i) % P
unfolding roll_of
roll_on P a i pos =
    let n : ℕ = a / P * P + (a + i) % P in
    let q : n / P ≡ a / P = digits_div (a / P) (mod-lt (a + i) pos) in
    let s : a + i + 1 ≡ a + suc i = omega arith in
    ap (λ (z : ℕ). z * P + (n + 1) % P) q
    ∙ ap (λ (z : ℕ). a / P * P + z) (ap (λ (z : ℕ). z % P) (add_assoc (a / P * P) ((a + i) % P) 1)
    ∙ (mul-add-mod_self_right (a / P) P ((a + i) % P + 1) ∙ (mod-add-mod (a + i) P 1 ∙ ap (λ (z : ℕ). z % P) s)))

-- a group lies in one page
group_in : (P g q r : ℕ) → 0 < g → P ≡ P / g * g → (q * P + r) / g ≡ q * P / g + r / g
group_in P g q r pos whole =
    let e : q * P ≡ q * (P / g) * g = ap (λ (z : ℕ). q * z) whole ∙ sym (mul_assoc q (P / g) g) in
    ap (λ (z : ℕ). (z + r) / g) e ∙ (mul-add-div_right pos (q * (P / g)) r
    ∙ ap (λ (z : ℕ). z + r / g) (sym (ap (λ (z : ℕ). z / g) e ∙ mul-div_cancel (q * (P / g)) pos)))

same_shift : (a x y : ℕ) → eqb (a + x) (a + y) ≡ eqb x y
same_shift a x y = go (eqb x y) refl
  where
    go : (t : Bool) → eqb x y ≡ t → eqb (a + x) (a + y) ≡ t
    go true e = eq-eqb (a + x) (a + y) (ap (λ (z : ℕ). a + z) (eqb-true x y e))
    go false e = ne_eqb (a + x) (a + y) (λ q. eqb-false x y e (omega (arith, q)))

-- ---- bytes behind the address change neither what is named nor the address

names_more : (bs ds : List Byte) → 0 < length bs → names_array (bs ++ ds) ≡ names_array bs
unfolding names_array
names_more [] ds h = absurd (omega arith)
names_more (s ∷ bs) ds h = refl

in_more : (w : Bool) (bs ds : List Byte) → cond w 2 1 ≤ length bs → address_in w (bs ++ ds) ≡ address_in w bs
in_more true [] ds h = absurd (omega arith)
in_more true (a ∷ []) ds h = absurd (omega arith)
in_more true (a ∷ b ∷ bs) ds h = refl
in_more false [] ds h = absurd (omega arith)
in_more false (a ∷ bs) ds h = refl

address_more : (f : Facts) (bs ds : List Byte) → address_bytes_of f < length bs → address_of f (bs ++ ds) ≡ address_of f bs
unfolding address_of address_bytes_of
address_more f [] ds h = absurd (omega arith)
address_more f (s ∷ bs) ds h =
    ap (λ (x : ℕ). (cond f.wide 0 (s.value / 2 % 8 * 256) + x) % f.size) (in_more f.wide bs ds (omega arith))

count_more : (f : Facts) (bs : List Byte) (d : Byte) → address_bytes_of f < length bs → data_count_of f (bs ++ (d ∷ [])) ≡ suc (data_count_of f bs)
unfolding data_count_of
count_more f [] d h = absurd (omega arith)
count_more f (s ∷ bs) d h =
    omega (arith, length-drop (address_bytes_of f) (bs ++ (d ∷ [])), length-drop (address_bytes_of f) bs, length-append bs (d ∷ []))

count_none : (f : Facts) (bs : List Byte) → length bs ≡ suc (address_bytes_of f) → data_count_of f bs ≡ 0
unfolding data_count_of
count_none f [] h = refl
count_none f (s ∷ bs) h = omega (arith, length-drop (address_bytes_of f) bs)

lands_same : (f : Facts) (bs cs : List Byte) (i : ℕ) → address_of f bs ≡ address_of f cs → lands_of f bs i ≡ lands_of f cs i
unfolding lands_of
lands_same f bs cs i e = ap (λ (a : ℕ). a / f.page * f.page + (a + i) % f.page) e

in_same : (f : Facts) (bs cs : List Byte) (n k : ℕ) → address_of f bs ≡ address_of f cs → lands_in f bs n k ≡ lands_in f cs n k
in_same f bs cs n zero e = refl
in_same f bs cs n (suc k) e =
    ap (λ (x : ℕ). eqb (x / f.group) n || lands_in f bs n k) (lands_same f bs cs k e)
    ∙ ap (λ (x : Bool). eqb (lands_of f cs k / f.group) n || x) (in_same f bs cs n k e)

-- ---- the latches say where the data bytes landed

-- the first group of the page
abbrev pub first_of : Facts → ℕ → ℕ
first_of f a = a / f.page * f.page / f.group

-- the bytes name an address of the array, and none is behind it
pub record Loaded (f : Facts) (bs : List Byte) (a : ℕ) : Type 0 where
  pub names : names_array bs ≡ true
  pub size : length bs ≡ suc (address_bytes_of f)
  pub address : address_of f bs ≡ a

-- the counter is where the next byte lands, and a group of the page has a latched byte where one landed in it
pub record Landed (f : Facts) (bs : List Byte) (n : ℕ) (k : List ℕ) : Type 0 where
  pub names : names_array bs ≡ true
  pub long : address_bytes_of f < length bs
  pub size : length k ≡ 64
  pub place : n ≡ lands_of f bs (data_count_of f bs)
  pub touched : (j : ℕ) → touched_of f.group k j ≡ lands_in f bs (first_of f (address_of f bs) + j) (data_count_of f bs)

pub loaded : (f : Facts) (bs : List Byte) (a : ℕ) → Loaded f bs a → Landed f bs a no_latch
unfolding no_latch lands_of
loaded f bs a o =
    let none : data_count_of f bs ≡ 0 = count_none f bs o.size in
    let here : (a : ℕ) → a ≡ a / f.page * f.page + (a + 0) % f.page =
    (λ (a : ℕ). sym (ap (λ (z : ℕ). a / f.page * f.page + z % f.page) (add-zero a) ∙ div-add-mod' a f.page)) in
    record {
      names = o.names;
      long = omega (arith, o.size);
      size = refl;
      place = sym o.address ∙ (here (address_of f bs) ∙ ap (λ (z : ℕ). lands_of f bs z) (sym none));
      touched = λ j. touched_none f.group j ∙ ap (λ (z : ℕ). lands_in f bs (first_of f (address_of f bs) + j) z) (sym none);
    }

module _ (f : Facts) (ok : Sound f) (bs : List Byte) where
  -- where a data byte lands, by its place in the page and by its group
  lands_group : (i : ℕ) → lands_of f bs i / f.group ≡ first_of f (address_of f bs) + (address_of f bs + i) % f.page / f.group
  unfolding lands_of
  lands_group i = group_in f.page f.group (address_of f bs / f.page) ((address_of f bs + i) % f.page) ok.group_pos ok.groups

  -- no byte lands outside the page
  pub outside : (m c : ℕ) → ((i : ℕ) → i < f.page / f.group → m ≡ first_of f (address_of f bs) + i → ⊥) → lands_in f bs m c ≡ false
  outside m zero h = refl
  outside m (suc c) h =
      let r : ℕ = (address_of f bs + c) % f.page in
      let inside : r / f.group < f.page / f.group = (div-lt_iff_lt-mul ok.group_pos).1 (omega (arith, mod-lt (address_of f bs + c) ok.page_pos, ok.groups)) in
      ap (λ (z : Bool). z || lands_in f bs m c) (ne_eqb (lands_of f bs c / f.group) m (λ e. h (r / f.group) inside (sym e ∙ lands_group c)))
      ∙ outside m c h

  module _ (n : ℕ) (k : List ℕ) (o : Landed f bs n k) where
    pub page_is : n / f.page ≡ address_of f bs / f.page
    unfolding lands_of
    page_is =
        ap (λ (z : ℕ). z / f.page) o.place
        ∙ digits_div (address_of f bs / f.page) (mod-lt (address_of f bs + data_count_of f bs) ok.page_pos)

    place_is : n % f.page ≡ (address_of f bs + data_count_of f bs) % f.page
    unfolding lands_of
    place_is =
        ap (λ (z : ℕ). z % f.page) o.place
        ∙ digits_mod (address_of f bs / f.page) (mod-lt (address_of f bs + data_count_of f bs) ok.page_pos)

    -- one more
    pub put : (d : Byte) (b : ℕ) → b < 256 → Landed f (bs ++ (d ∷ [])) (roll_of f.page n) (set k (n % f.page) b)
    unfolding lands_of
    put d b small =
        let cs : List Byte = bs ++ (d ∷ []) in
        let count : data_count_of f cs ≡ suc (data_count_of f bs) = count_more f bs d o.long in
        let address : address_of f bs ≡ address_of f cs = sym (address_more f bs (d ∷ []) o.long) in
        record {
          names = names_more bs (d ∷ []) (omega (arith, o.long)) ∙ o.names;
          long = omega (arith, o.long, length-append bs (d ∷ []));
          size = length-set k (n % f.page) b ∙ o.size;
          place = ap (roll_of f.page) o.place ∙ (roll_on f.page (address_of f bs) (data_count_of f bs) ok.page_pos ∙ (lands_same f bs cs (suc (data_count_of f bs)) address ∙ ap (λ (z : ℕ). lands_of f cs z) (sym count)));
          touched = λ j. more j ∙ (in_same f bs cs (first_of f (address_of f bs) + j) (suc (data_count_of f bs)) address ∙ (ap (λ (z : ℕ). lands_in f cs (first_of f z + j) (suc (data_count_of f bs))) address ∙ ap (λ (z : ℕ). lands_in f cs (first_of f (address_of f cs) + j) z) (sym count)));
        }
      where
        more : (j : ℕ) → touched_of f.group (set k (n % f.page) b) j ≡ lands_in f bs (first_of f (address_of f bs) + j) (suc (data_count_of f bs))
        more j =
            let first : ℕ = first_of f (address_of f bs) in
            let here : eqb (n % f.page / f.group) j ≡ eqb (lands_of f bs (data_count_of f bs) / f.group) (first + j) =
            ap (λ (z : ℕ). eqb (z / f.group) j) place_is
            ∙ (sym (same_shift first ((address_of f bs + data_count_of f bs) % f.page / f.group) j) ∙ ap (λ (z : ℕ). eqb z (first + j)) (sym (lands_group (data_count_of f bs)))) in
            touched_put f.group k (n % f.page) b j ok.group_pos (omega (arith, mod-lt n ok.page_pos, ok.page_most, o.size)) small
            ∙ (ap (λ (z : Bool). z || touched_of f.group k j) here ∙ ap (λ (z : Bool). eqb (lands_of f bs (data_count_of f bs) / f.group) (first + j) || z) (o.touched j))
