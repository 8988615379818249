-- Over a list of events the counts grow by what its history has: chip and history go side by side, and each event adds to both.
-- Assumes nothing.
use Prim.Native.Nat.{ℕ, ◌+◌, ◌<◌}
use mathlib.Core.Path.{◌≡◌, ◌∙◌, refl, sym, ap, subst}
use mathlib.Core.Bool.{cond, ◌&&◌}
use mathlib.Core.List.{List, [], ◌∷◌, ◌++◌}
use native.Mathlib.Nat.{add-zero}
use native.Mathlib.Decide.{dec_lt}
use native.Mathlib.Omega.{arith}
use lib.Dec.{eqb}
use lib.ListN.{length, get_or}
use Rattle.parts.specs.declared.Facts.{Facts}
use Rattle.parts.specs.declared.Loss.{Loss}
use Rattle.parts.specs.declared.Event.{Event}
use Rattle.parts.specs.Sound.{Sound}
use Rattle.parts.specs.Events.{event_with, event_of}
use Rattle.parts.specs.Bytes.{AllBelow, topped}
use Rattle.parts.proofs.Bytes.{top_low, top_high, up_step}
use Rattle.state.specs.declared.Chip.{Chip}
use Rattle.chip.specs.Memory.{Mem, state_of, chip_level_of, seen_of}
use Rattle.chip.specs.Model.{Model, PowerCut, ours_with}
use Rattle.chip.specs.Runs.{after_of, levels_of}
use Rattle.chip_promises.specs.Stops.{Byte, Seen, Watch, watch_of}
use Rattle.chip_promises.proofs.Stops.{Beside, together, watches_of, watch_any, stop_any}
use Rattle.wear.specs.Wear.{worn_of, our_counter, worn_by}
use Rattle.wear_promises.specs.History.{touches_of, bytes_seen, pending_of, completes_of, times_of}
use Rattle.wear_promises.proofs.Inside.{InsideAt, inside_step}
use Rattle.wear_promises.proofs.Worn.{below_get, worn_kept, worn_is}

-- ---- a history goes on where it stopped

-- the bytes of the transfer whose Stop began the cycle that runs at its end
abbrev pub pendings_of : Facts → Watch → List Byte → List ℕ → List ℕ → List Byte
pendings_of f w p [] levels = p
pendings_of f w p (e ∷ es) [] = p
pendings_of f w p (e ∷ es) (x ∷ xs) = pendings_of f (watch_of f w (event_of e) x) (pending_of f w.seen p (event_of e)) es xs

module _ (f : Facts) (more levels : List ℕ) where
  pub watches_append : (w : Watch) (es xs : List ℕ) → length es ≡ length xs → watches_of f w (es ++ more) (xs ++ levels) ≡ watches_of f (watches_of f w es xs) more levels
  watches_append w [] [] h = refl
  watches_append w [] (x ∷ xs) h = absurd (omega arith)
  watches_append w (e ∷ es) [] h = absurd (omega arith)
  watches_append w (e ∷ es) (x ∷ xs) h = watches_append (watch_of f w (event_of e) x) es xs (omega arith)

  pub pendings_append : (w : Watch) (p : List Byte) (es xs : List ℕ) → length es ≡ length xs
      → pendings_of f w p (es ++ more) (xs ++ levels) ≡ pendings_of f (watches_of f w es xs) (pendings_of f w p es xs) more levels
  pendings_append w p [] [] h = refl
  pendings_append w p [] (x ∷ xs) h = absurd (omega arith)
  pendings_append w p (e ∷ es) [] h = absurd (omega arith)
  pendings_append w p (e ∷ es) (x ∷ xs) h = pendings_append (watch_of f w (event_of e) x) (pending_of f w.seen p (event_of e)) es xs (omega arith)

  pub times_append : (w : Watch) (p : List Byte) (es xs : List ℕ) (n : ℕ) → length es ≡ length xs
      → times_of f w p (es ++ more) (xs ++ levels) n ≡ times_of f w p es xs n + times_of f (watches_of f w es xs) (pendings_of f w p es xs) more levels n
  unfolding times_of
  times_append w p [] [] n h = omega arith
  times_append w p [] (x ∷ xs) n h = absurd (omega arith)
  times_append w p (e ∷ es) [] n h = absurd (omega arith)
  times_append w p (e ∷ es) (x ∷ xs) n h =
      omega (arith, times_append (watch_of f w (event_of e) x) (pending_of f w.seen p (event_of e)) es xs n (omega arith))

-- ---- a list of events

-- the chip and its history, the watch and the bytes of the cycle's transfer
pub record Meets (f : Facts) (c : Chip) (v : Watch) (p : List Byte) : Type 0 where
  pub beside : Beside f c.line v
  pub inside : InsideAt f c v p

-- what the chip, the counts and the history have come to
pub record Went (f : Facts) (M : Model) (c : Chip) (m : Mem) (counts es : List ℕ) (v : Watch) (p : List Byte) : Type 0 where
  pub size : length (worn_by our_counter M f c counts es) ≡ length counts
  pub wide : AllBelow 4294967296 (worn_by our_counter M f c counts es)
  pub each : (n : ℕ) → n < length counts
      → get_or (worn_by our_counter M f c counts es) n 0 ≡ topped (get_or counts n 0 + times_of f v p es (levels_of M c m es) n)
  pub meets : Meets f (after_of M c es) (watches_of f v es (levels_of M c m es)) (pendings_of f v p es (levels_of M c m es))

-- nothing was counted
pub still : (counts : List ℕ) (n : ℕ) → AllBelow 4294967296 counts → get_or counts n 0 ≡ topped (get_or counts n 0 + 0)
still counts n o = sym (ap topped (add-zero (get_or counts n 0)) ∙ top_low (get_or counts n 0) (below_get 4294967296 counts n (omega arith) o))

-- of two sums the first may be taken to the top before
pub top_in : (n k : ℕ) → topped (topped n + k) ≡ topped (n + k)
top_in n k = go (dec_lt n 4294967296)
  where
    go : Dec (n < 4294967296) → topped (topped n + k) ≡ topped (n + k)
    go (yes h) = ap (λ (z : ℕ). topped (z + k)) (top_low n h)
    go (no h) = ap (λ (z : ℕ). topped (z + k)) (top_high n (omega arith)) ∙ (top_high (4294967295 + k) (omega arith) ∙ sym (top_high (n + k) (omega arith)))

pending_any : (f : Facts) (s : Seen) (p : List Byte) (w : Loss) (e : ℕ) → pending_of f s p (event_with w e) ≡ pending_of f s p (event_of e)
unfolding pending_of
pending_any f s p w e = ap (λ (z : ℕ). cond (eqb z 1) (bytes_seen s) p) (stop_any f s w e)

module _ (f : Facts) (ok : Sound f) (en : ℕ) (w : PowerCut) where
  meets_step : (c : Chip) (m : Mem) (v : Watch) (p : List Byte) (e : ℕ) → Meets f c v p
      → Meets f ((ours_with w f en).next c e) (watch_of f v (event_of e) ((ours_with w f en).level c m e)) (pending_of f v.seen p (event_of e))
  unfolding state_of chip_level_of
  meets_step c m v p e o =
      let d : Event = event_with w.loss e in
      let b : ℕ = seen_of f c.line m c.line.phase in
      let x : ℕ = chip_level_of f en c m d in
      subst (λ (z : Watch). Meets f (state_of f en c d) z (pending_of f v.seen p (event_of e))) (watch_any f v w.loss e x)
      (subst (λ (z : List Byte). Meets f (state_of f en c d) (watch_of f v d x) z) (pending_any f v.seen p w.loss e)
      record { beside = (together f en c.line b v d o.beside).0; inside = inside_step f ok en c b v p d o.beside o.inside })

  pub went : (es : List ℕ) (c : Chip) (m : Mem) (counts : List ℕ) (v : Watch) (p : List Byte) → AllBelow 4294967296 counts → Meets f c v p → Went f (ours_with w f en) c m counts es v p
  unfolding worn_by times_of after_of levels_of
  went [] c m counts v p wide o = record { size = refl; wide = wide; each = λ n h. still counts n wide; meets = o }
  went (e ∷ es) c m counts v p wide o =
      let M : Model = ours_with w f en in
      let x : ℕ = M.level c m e in
      let kept = worn_kept f c counts (event_of e) in
      let v' : Watch = watch_of f v (event_of e) x in
      let p' : List Byte = pending_of f v.seen p (event_of e) in
      let counts' : List ℕ = worn_of f c counts (event_of e) in
      let r : Went f M (M.next c e) (M.store c m e) counts' es v' p' =
      went es (M.next c e) (M.store c m e) counts' v' p' (kept.1 wide) (meets_step c m v p e o) in
      record {
        size = r.size ∙ kept.0;
        wide = r.wide;
        each = λ n h.
            let t : ℕ = times_of f v' p' es (levels_of M (M.next c e) (M.store c m e) es) n in
            r.each n (omega (arith, h, kept.0))
            ∙ (ap (λ (z : ℕ). topped (z + t)) (worn_is f c counts ok v p o.beside o.inside n h e)
            ∙ up_step (get_or counts n 0) t (completes_of v.seen e && touches_of f p n) (below_get 4294967296 counts n (omega arith) wide));
        meets = r.meets;
      }
