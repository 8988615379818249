-- The cells after records: what each record names, and which records have their places.
-- Assumes nothing.
use Prim.Native.Nat.{ℕ, zero, suc, ◌+◌, ◌-◌, ◌<◌, ◌≤◌}
use mathlib.Core.Path.{◌≡◌, refl, ap, ◌∙◌}
use mathlib.Core.Bool.{Bool, true}
use mathlib.Core.List.{List, [], ◌∷◌, ◌++◌}
use native.Mathlib.Omega.{arith}
use native.Mathlib.Decide.{dec_lt}
use lib.Dec.{leb, ltb}
use lib.ListN.{length, get_or, take, drop, replicate, length-append, length-drop, length-replicate, get_or-replicate, take-append-drop, get_or-append}
use lib.Seq.{length-take-le, get_or-take, get_or-drop, get_or-append-add, drop-drop}
use borrow.Author.Tests.{lt-ltb, le-ltb, le-leb, ltb-true, ltb-false, leb-true}
use Rattle.parts.specs.Bytes.{AllBelow}
use Rattle.parts.proofs.Laws.{branch}
use Rattle.parts.proofs.Tests.{both}
use Rattle.parts.proofs.Bytes.{below_at}
use Rattle.hexfile.specs.File.{free_of, fits_of, entered_of, blank_of, filled_of, named_of}
use Rattle.hexfile_promises.specs.Files.{Each, Piece, Names, Inside, Apart, Placed, NamedBy, bytes_in}

-- ---- free cells

free_head : (x : ℕ) (l : List ℕ) → free_of (x ∷ l) ≡ true → (256 ≤ x) × (free_of l ≡ true)
free_head x l =
    branch (λ (b : Bool). b ≡ true → (256 ≤ x) × (free_of l ≡ true)) (ltb x 256) (λ _ g. absurd (let z : ◌≡◌ {A = ℕ} 0 1 = cc in omega arith)) (λ e g. (ltb-false x 256 e, g))

free_at : (l : List ℕ) → free_of l ≡ true → (i : ℕ) → i < length l → 256 ≤ get_or l i 0
free_at [] h i n = absurd (omega arith)
free_at (x ∷ l) h zero n = (free_head x l h).0
free_at (x ∷ l) h (suc i) n = free_at l (free_head x l h).1 i (omega arith)

free_all : (l : List ℕ) → ((i : ℕ) → i < length l → 256 ≤ get_or l i 0) → free_of l ≡ true
free_all [] h = refl
free_all (x ∷ l) h = rw (le-ltb x 256 (h 0 (omega arith))) (free_all l (λ i n. h (suc i) (omega arith)))

free_named : (l : List ℕ) → free_of l ≡ true → named_of l ≡ 0
free_named [] h = refl
free_named (x ∷ l) h = let f = free_head x l h in rw (le-ltb x 256 f.0, free_named l f.1) refl

-- ---- one record

-- no cell that a record names is taken
abbrev pub Free : List ℕ → Piece → Type 0
Free cells p = (i : ℕ) → Names p i → 256 ≤ get_or cells i 0

abbrev pub fit : List ℕ → Piece → Bool
fit cells p = fits_of cells p.at (length p.bytes)

abbrev pub enter : List ℕ → Piece → List ℕ
enter cells p = entered_of cells p.at p.bytes

module _ (cells : List ℕ) (p : Piece) where
  abbrev part : List ℕ
  part = take (length p.bytes) (drop p.at cells)

  part_long : Inside (length cells) p → length part ≡ length p.bytes
  part_long n = length-take-le (length p.bytes) (drop p.at cells) (omega (arith, length-drop p.at cells))

  part_at : (i : ℕ) → i < length p.bytes → get_or part i 0 ≡ get_or cells (p.at + i) 0
  part_at i h = get_or-take (length p.bytes) (drop p.at cells) i 0 h ∙ get_or-drop p.at cells i 0

  pub fit_free : fit cells p ≡ true → Inside (length cells) p × Free cells p
  unfolding fits_of
  fit_free h =
      let q = both (leb (p.at + length p.bytes) (length cells)) (free_of part) h in
      let n : Inside (length cells) p = leb-true (p.at + length p.bytes) (length cells) q.0 in (
        n,
        λ i m.
            let e : p.at + (i - p.at) ≡ i = omega arith in
            let j : i - p.at < length p.bytes = omega arith in
            rw (part_at (i - p.at) j, e) at (free_at part q.1 (i - p.at) (omega (arith, part_long n))),
      )

  pub free_fit : Inside (length cells) p → Free cells p → fit cells p ≡ true
  unfolding fits_of
  free_fit n f =
      rw (le-leb (p.at + length p.bytes) (length cells) n)
      (free_all part (λ i h. let j : i < length p.bytes = omega (arith, part_long n) in rw (part_at i j) (f (p.at + i) (omega arith, omega arith))))

  module _ (n : Inside (length cells) p) where
    head_long : length (take p.at cells) ≡ p.at
    head_long = length-take-le p.at cells (omega arith)

    pub enter_long : length (enter cells p) ≡ length cells
    unfolding entered_of
    enter_long =
        omega (arith, length-append (take p.at cells ++ p.bytes) (drop (p.at + length p.bytes) cells), length-append (take p.at cells) p.bytes, length-drop (p.at + length p.bytes) cells, head_long)

    pub enter_named : (i : ℕ) → Names p i → get_or (enter cells p) i 0 ≡ get_or p.bytes (i - p.at) 0
    unfolding entered_of
    enter_named i m =
        let e : i ≡ length (take p.at cells) + (i - p.at) = omega (arith, head_long) in
        get_or-append (take p.at cells ++ p.bytes) (drop (p.at + length p.bytes) cells) 0 i (omega (arith, length-append (take p.at cells) p.bytes, head_long))
        ∙ ap (λ (j : ℕ). get_or (take p.at cells ++ p.bytes) j 0) e
        ∙ get_or-append-add (take p.at cells) p.bytes (i - p.at) 0

    before_it : (i : ℕ) → i < p.at → get_or (enter cells p) i 0 ≡ get_or cells i 0
    unfolding entered_of
    before_it i m =
        get_or-append (take p.at cells ++ p.bytes) (drop (p.at + length p.bytes) cells) 0 i (omega (arith, length-append (take p.at cells) p.bytes, head_long))
        ∙ get_or-append (take p.at cells) p.bytes 0 i (omega (arith, head_long))
        ∙ get_or-take p.at cells i 0 m

    behind_it : (i : ℕ) → p.at + length p.bytes ≤ i → get_or (enter cells p) i 0 ≡ get_or cells i 0
    unfolding entered_of
    behind_it i m =
        let e : i ≡ length (take p.at cells ++ p.bytes) + (i - (p.at + length p.bytes)) = omega (arith, length-append (take p.at cells) p.bytes, head_long) in
        let g : p.at + length p.bytes + (i - (p.at + length p.bytes)) ≡ i = omega arith in
        ap (λ (j : ℕ). get_or (enter cells p) j 0) e
        ∙ get_or-append-add (take p.at cells ++ p.bytes) (drop (p.at + length p.bytes) cells) (i - (p.at + length p.bytes)) 0
        ∙ get_or-drop (p.at + length p.bytes) cells (i - (p.at + length p.bytes)) 0
        ∙ ap (λ (j : ℕ). get_or cells j 0) g

    pub enter_other : (i : ℕ) → (Names p i → ⊥) → get_or (enter cells p) i 0 ≡ get_or cells i 0
    enter_other i m =
        elim (dec_lt i p.at) [
          | yes h ↦ before_it i h
          | no h ↦ elim (dec_lt i (p.at + length p.bytes)) [ yes g ↦ absurd (m (omega arith, g)) | no g ↦ behind_it i (omega arith) ]
        ]

-- ---- how many cells are named

named_append : (v w : List ℕ) → named_of (v ++ w) ≡ named_of v + named_of w
named_append [] w = omega arith
named_append (x ∷ v) w = omega (arith, named_append v w)

named_bytes : (v : List ℕ) → AllBelow 256 v → named_of v ≡ length v
named_bytes [] h = refl
named_bytes (x ∷ v) h = rw (lt-ltb x 256 h.0, named_bytes v h.1) (omega arith)

module _ (cells : List ℕ) (p : Piece) (f : fit cells p ≡ true) (b : AllBelow 256 p.bytes) where
  enter_count : named_of (enter cells p) ≡ named_of cells + length p.bytes
  unfolding entered_of fits_of
  enter_count =
      let q = both (leb (p.at + length p.bytes) (length cells)) (free_of (part cells p)) f in
      let w : named_of cells ≡ named_of (take p.at cells) + named_of (drop p.at cells) = rw (← named_append (take p.at cells) (drop p.at cells), take-append-drop p.at cells) in
      let v : named_of (drop p.at cells) ≡ named_of (part cells p) + named_of (drop (length p.bytes) (drop p.at cells)) =
      rw (← named_append (part cells p) (drop (length p.bytes) (drop p.at cells)), take-append-drop (length p.bytes) (drop p.at cells)) in
      let u : named_of (drop (length p.bytes) (drop p.at cells)) ≡ named_of (drop (p.at + length p.bytes) cells) = ap named_of (drop-drop (length p.bytes) p.at cells) in
      omega (arith, w, v, u, free_named (part cells p) q.1, named_bytes p.bytes b, named_append (take p.at cells ++ p.bytes) (drop (p.at + length p.bytes) cells), named_append (take p.at cells) p.bytes)

-- ---- records one behind the other

abbrev pub Bytes : Piece → Type 0
Bytes p = AllBelow 256 p.bytes

abbrev pub entered : List ℕ → List Piece → List ℕ
entered cells [] = cells
entered cells (p ∷ ps) = entered (enter cells p) ps

-- each has its places when its turn comes
abbrev pub Fit : List ℕ → List Piece → Type 0
Fit cells [] = Unit {0}
Fit cells (p ∷ ps) = (fit cells p ≡ true) × Fit (enter cells p) ps

module _ (cells : List ℕ) (p : Piece) (n : Inside (length cells) p) where
  -- what is free behind a record was free before it, and is not named by it
  free_before : (q : Piece) → Bytes p → Free (enter cells p) q → Free cells q × Apart p q
  free_before q b f =
      let apart : Apart p q = λ i m k. omega (arith, f i k, enter_named cells p n i m, below_at p.bytes b (i - p.at)) in
      (λ i k. rw (enter_other cells p n i (λ m. apart i m k)) at (f i k), apart)

  free_behind : (q : Piece) → Apart p q → Free cells q → Free (enter cells p) q
  free_behind q o f i k = rw (enter_other cells p n i (λ m. o i m k)) (f i k)

  frees_before : (qs : List Piece) → Bytes p → Each (Free (enter cells p)) qs → Each (Free cells) qs × Each (Apart p) qs
  frees_before [] b f = (tt, tt)
  frees_before (q ∷ qs) b f =
      let x = free_before q b f.0 in
      let y = frees_before qs b f.1 in
      ((x.0, y.0), (x.1, y.1))

  frees_behind : (qs : List Piece) → Each (Apart p) qs → Each (Free cells) qs → Each (Free (enter cells p)) qs
  frees_behind [] o f = tt
  frees_behind (q ∷ qs) o f = (free_behind q o.0 f.0, frees_behind qs o.1 f.1)

pub fit_placed : (size : ℕ) (cells : List ℕ) (ps : List Piece) → length cells ≡ size → Each Bytes ps → Fit cells ps → Placed size ps × Each (Free cells) ps
fit_placed size cells [] l b f = (tt, tt)
fit_placed size cells (p ∷ ps) l b f =
    let x = fit_free cells p f.0 in
    let y = fit_placed size (enter cells p) ps (enter_long cells p x.0 ∙ l) b.1 f.1 in
    let z = frees_before cells p x.0 ps b.0 y.1 in
    ((rw l at x.0, z.1, y.0), (x.1, z.0))

pub placed_fit : (size : ℕ) (cells : List ℕ) (ps : List Piece) → length cells ≡ size → Placed size ps → Each (Free cells) ps → Fit cells ps
placed_fit size cells [] l h f = tt
placed_fit size cells (p ∷ ps) l h f =
    let n : Inside (length cells) p = rw l h.0 in
    (free_fit cells p n f.0, placed_fit size (enter cells p) ps (enter_long cells p n ∙ l) h.2 (frees_behind cells p n ps h.1 f.1))

module _ (i : ℕ) where
  -- a place that no record names
  pub entered_other : (cells : List ℕ) (ps : List Piece) → Fit cells ps → Each (λ p. Names p i → ⊥) ps → get_or (entered cells ps) i 0 ≡ get_or cells i 0
  entered_other cells [] f h = refl
  entered_other cells (p ∷ ps) f h = entered_other (enter cells p) ps f.1 h.1 ∙ enter_other cells p (fit_free cells p f.0).0 i h.0

pub entered_long : (cells : List ℕ) (ps : List Piece) → Fit cells ps → length (entered cells ps) ≡ length cells
entered_long cells [] f = refl
entered_long cells (p ∷ ps) f = entered_long (enter cells p) ps f.1 ∙ enter_long cells p (fit_free cells p f.0).0

pub entered_count : (cells : List ℕ) (ps : List Piece) → Fit cells ps → Each Bytes ps → named_of (entered cells ps) ≡ named_of cells + bytes_in ps
entered_count cells [] f b = omega arith
entered_count cells (p ∷ ps) f b = omega (arith, entered_count (enter cells p) ps f.1 b.1, enter_count cells p f.0 b.0)

module _ (q : Piece) where
  pub entered_free_before : (cells : List ℕ) (ps : List Piece) → Fit cells ps → Each Bytes ps → Free (entered cells ps) q → Free cells q × Each (Apart q) ps
  entered_free_before cells [] f b h = (h, tt)
  entered_free_before cells (p ∷ ps) f b h =
      let x = entered_free_before (enter cells p) ps f.1 b.1 h in
      let y = free_before cells p (fit_free cells p f.0).0 q b.0 x.0 in
      (y.0, (λ i m k. y.1 i k m, x.1))

  pub entered_free_behind : (cells : List ℕ) (ps : List Piece) → Fit cells ps → Each (Apart q) ps → Free cells q → Free (entered cells ps) q
  entered_free_behind cells [] f o h = h
  entered_free_behind cells (p ∷ ps) f o h =
      entered_free_behind (enter cells p) ps f.1 o.1 (free_behind cells p (fit_free cells p f.0).0 q (λ i m k. o.0 i k m) h)

-- ---- the array

pub filled_long : (cells : List ℕ) → length (filled_of cells) ≡ length cells
filled_long [] = refl
filled_long (x ∷ l) = ap suc (filled_long l)

pub filled_below : (cells : List ℕ) → AllBelow 256 (filled_of cells)
filled_below [] = tt
filled_below (x ∷ l) = (branch (λ (y : ℕ). y < 256) (ltb x 256) (λ e. ltb-true x 256 e) (λ _. omega arith), filled_below l)

filled_at : (cells : List ℕ) (i : ℕ) → i < length cells → get_or (filled_of cells) i 0 ≡ blank_of (get_or cells i 0)
filled_at [] i h = absurd (omega arith)
filled_at (x ∷ l) zero h = refl
filled_at (x ∷ l) (suc i) h = filled_at l i (omega arith)

filled_byte : (cells : List ℕ) (i x : ℕ) → i < length cells → x < 256 → get_or cells i 0 ≡ x → get_or (filled_of cells) i 0 ≡ x
filled_byte cells i x h b e = filled_at cells i h ∙ rw (e, lt-ltb x 256 b)

abbrev Read : List ℕ → Piece → Type 0
Read m p = (i : ℕ) → Names p i → get_or m i 0 ≡ get_or p.bytes (i - p.at) 0

none_named : (p : Piece) (ps : List Piece) → Each (Apart p) ps → (i : ℕ) → Names p i → Each (λ q. Names q i → ⊥) ps
none_named p [] o i m = tt
none_named p (q ∷ ps) o i m = (λ k. o.0 i m k, none_named p ps o.1 i m)

filled_named : (size : ℕ) (cells : List ℕ) (ps : List Piece) → length cells ≡ size → Fit cells ps → Each Bytes ps → Placed size ps → Each (Read (filled_of (entered cells ps))) ps
filled_named size cells [] l f b h = tt
filled_named size cells (p ∷ ps) l f b h =
    let n = (fit_free cells p f.0).0 in
    let k = enter_long cells p n in (
      λ i m. filled_byte (entered (enter cells p) ps) i (get_or p.bytes (i - p.at) 0) (omega (arith, entered_long (enter cells p) ps f.1)) (below_at p.bytes b.0 (i - p.at))
          (entered_other i (enter cells p) ps f.1 (none_named p ps h.1 i m) ∙ enter_named cells p n i m),
      filled_named size (enter cells p) ps (k ∙ l) f.1 b.1 h.2,
    )

-- ---- from cells that are all free

module _ (size : ℕ) where
  abbrev pub clear : List ℕ
  clear = replicate size 256

  pub clear_free : (p : Piece) → Inside size p → Free clear p
  clear_free p n i m = omega (arith, get_or-replicate {A = ℕ} size i 256 0 (omega arith))

  clear_frees : (ps : List Piece) → Placed size ps → Each (Free clear) ps
  clear_frees [] h = tt
  clear_frees (p ∷ ps) h = (clear_free p h.0, clear_frees ps h.2)

  pub clear_fit : (ps : List Piece) → Placed size ps → Fit clear ps
  clear_fit ps h = placed_fit size clear ps (length-replicate size 256) h (clear_frees ps h)

  pub clear_placed : (ps : List Piece) → Each Bytes ps → Fit clear ps → Placed size ps
  clear_placed ps b f = (fit_placed size clear ps (length-replicate size 256) b f).0

  module _ (ps : List Piece) (f : Fit clear ps) (b : Each Bytes ps) where
    pub clear_named : NamedBy size ps (filled_of (entered clear ps))
    clear_named =
        let l = length-replicate {A = ℕ} size 256 in
        let k = entered_long clear ps f in
        record {
          long = filled_long (entered clear ps) ∙ k ∙ l;
          named = filled_named size clear ps l f b (clear_placed ps b f);
          blank = λ i h o. filled_at (entered clear ps) i (omega arith) ∙ ap blank_of (entered_other i clear ps f o ∙ get_or-replicate size i 256 0 h);
        }

    pub clear_count : named_of (entered clear ps) ≡ bytes_in ps
    clear_count = omega (arith, entered_count clear ps f b, nothing size)
      where
        nothing : (n : ℕ) → named_of (replicate n 256) ≡ 0
        nothing zero = refl
        nothing (suc n) = rw (nothing n)

    -- one record more
    pub clear_more : (p : Piece) → fit (entered clear ps) p ≡ true → Inside size p × Each (Apart p) ps
    clear_more p h =
        let x = fit_free (entered clear ps) p h in
        let k = entered_long clear ps f in
        let l = length-replicate {A = ℕ} size 256 in
        (omega (arith, x.0), (entered_free_before p clear ps f b x.1).1)

    pub more_clear : (p : Piece) → Inside size p → Each (Apart p) ps → fit (entered clear ps) p ≡ true
    more_clear p n o =
        let k = entered_long clear ps f in
        let l = length-replicate {A = ℕ} size 256 in
        free_fit (entered clear ps) p (omega arith) (entered_free_behind p clear ps f o (clear_free p n))
