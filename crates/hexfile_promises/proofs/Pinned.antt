-- The promises of reading leave no choice.
-- Assumes nothing.
use Rattle.std.specs.Prelude.{Ok, Err}
use Prim.Native.Nat.{ℕ, ◌+◌, ◌-◌, ◌<◌, ◌≤◌}
use mathlib.Core.Path.{◌≡◌, refl, sym, ap, ◌∙◌}
use mathlib.Core.Logic.{◌⊎◌, inl, inr}
use mathlib.Core.List.{List, [], ◌∷◌}
use native.Mathlib.Omega.{arith}
use native.Mathlib.Decide.{ℕ_discrete, dec_le, dec_lt}
use lib.ListN.{length, get_or}
use lib.Seq.{ext_get_or}
use Rattle.parts.specs.declared.Refusal.{Refusal}
use Rattle.parts.specs.declared.Refusal.TheVariants.{NoPart, WrongBuffer}
use Rattle.parts.specs.Verdict.{Verdict}
use Rattle.hexfile.specs.Calls.{reading_of}
use Rattle.hexfile.specs.declared.HexRead.{HexRead}
use Rattle.hexfile_promises.specs.Files.{Each, Piece, Names, NamedBy}
use Rattle.hexfile_promises.specs.Promises.{Reading, size_of, Lent}
use Rattle.hexfile_promises.specs.Pinned.{HexReader, HexPinned}
use Rattle.hexfile_promises.proofs.Kept.{accepts_all, accepts_only, names_each, stops_first, refused_keeps}
use Rattle.hexfile_promises.proofs.Numbers.{hex_read_numbers}

-- ---- records name one array

module _ (m n : List ℕ) (i : ℕ) where
  -- a place that is named holds one byte, and the others are not named
  same_named : (ps : List Piece)
      → Each (λ p. (j : ℕ) → Names p j → get_or m j 0 ≡ get_or p.bytes (j - p.at) 0) ps
      → Each (λ p. (j : ℕ) → Names p j → get_or n j 0 ≡ get_or p.bytes (j - p.at) 0) ps
      → (get_or m i 0 ≡ get_or n i 0) ⊎ Each (λ p. Names p i → ⊥) ps
  same_named [] f g = inr tt
  same_named (p ∷ ps) f g = go (dec_le p.at i) (dec_lt i (p.at + length p.bytes)) (same_named ps f.1 g.1)
    where
      go : Dec (p.at ≤ i) → Dec (i < p.at + length p.bytes) → (get_or m i 0 ≡ get_or n i 0) ⊎ Each (λ q. Names q i → ⊥) ps
          → (get_or m i 0 ≡ get_or n i 0) ⊎ Each (λ q. Names q i → ⊥) (p ∷ ps)
      go (yes a) (yes b) h = inl (f.0 i (a, b) ∙ sym (g.0 i (a, b)))
      go (yes a) (no b) (inl h) = inl h
      go (yes a) (no b) (inr h) = inr (λ k. b k.1, h)
      go (no a) b (inl h) = inl h
      go (no a) b (inr h) = inr (λ k. a k.0, h)

one_array : (size : ℕ) (ps : List Piece) (m n : List ℕ) → NamedBy size ps m → NamedBy size ps n → m ≡ n
one_array size ps m n f g = ext_get_or 0 m n (f.long ∙ sym g.long) (λ i h. go i (omega (arith, f.long)) (same_named m n i ps f.named g.named))
  where
    go : (i : ℕ) → i < size → (get_or m i 0 ≡ get_or n i 0) ⊎ Each (λ p. Names p i → ⊥) ps → get_or m i 0 ≡ get_or n i 0
    go i h (inl e) = e
    go i h (inr o) = f.blank i h o ∙ sym (g.blank i h o)

-- ---- two readers

module _ (read other : Reading) (p : HexReader read) (q : HexReader other) (part : ℕ) (text array : List ℕ) where
  both_refuse : (r : Refusal) → (read part text array).answer.verdict ≡ Err r → (other part text array).answer.verdict ≡ Err r → read part text array ≡ other part text array
  both_refuse r e f = p.keeps part text array r e ∙ sym (q.keeps part text array r f)

  both_read : (read part text array).answer.verdict ≡ Ok tt → read part text array ≡ other part text array
  both_read e =
      let x = p.accepts_only part text array e in
      let a = p.accepts_all part text array x.records x.lent x.file x.placed in
      let b = q.accepts_all part text array x.records x.lent x.file x.placed in
      let f : (other part text array).answer.verdict ≡ (Ok tt) = ap (λ (h : HexRead). h.verdict) b in
      let c : (read part text array).answer ≡ (other part text array).answer = a ∙ sym b in
      let d : (read part text array).array ≡ (other part text array).array =
      one_array (size_of part) x.records (read part text array).array (other part text array).array (p.names_each part text array x.records e x.file) (q.names_each part text array x.records f x.file) in
      λ i. record { answer = c i; array = d i }

  lent_same : Lent part array → read part text array ≡ other part text array
  lent_same l = go (read part text array).answer.verdict refl
    where
      go : (v : Verdict) → (read part text array).answer.verdict ≡ v → read part text array ≡ other part text array
      go (Ok _) e = both_read e
      go (Err r) e = both_refuse r e (q.stops_first.first part text array r l (p.stops_first.stops part text array r l e))

pub hex_pinned : HexPinned
hex_pinned read other p q part text array = known (dec_le part 5)
  where
    long : part ≤ 5 → Dec (length array ≡ size_of part) → read part text array ≡ other part text array
    long k (yes e) = lent_same read other p q part text array record { known = k; long = e }
    long k (no e) =
        both_refuse read other p q part text array WrongBuffer ((p.numbers part text array).wrong_buffer k e) ((q.numbers part text array).wrong_buffer k e)

    known : Dec (part ≤ 5) → read part text array ≡ other part text array
    known (yes k) = long k (ℕ_discrete (length array) (size_of part))
    known (no k) =
        let h : 5 < part = omega (arith, k) in
        both_refuse read other p q part text array NoPart ((p.numbers part text array).no_part h) ((q.numbers part text array).no_part h)

-- ---- ours is one of them

pub hex_reader : HexReader reading_of
hex_reader = record { accepts_all = accepts_all; accepts_only = accepts_only; names_each = names_each; stops_first = stops_first; keeps = refused_keeps.reading; numbers = hex_read_numbers }
