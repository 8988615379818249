-- Which texts are Intel HEX files and what they name (document 02, §2), as relations that have no reader in them.
-- Assumes nothing.
use Rattle.std.specs.Prelude.{ℕ, suc, ◌+◌, ◌-◌, ◌*◌, ◌%◌, ◌<◌, ◌≤◌, ◌≡◌, List, [], ◌∷◌, ◌++◌, length, get_or}
use Rattle.parts.specs.declared.Refusal.{Refusal}
use Rattle.parts.specs.declared.Refusal.TheVariants.{BadRecord, BadSum, Misplaced, NoEnd}
use Rattle.hexfile.specs.Record.{sum_of, end_bytes}

abbrev pub Each {ℓ} : {A : Type ℓ} → (A → Type 0) → List A → Type 0
Each P [] = Unit {0}
Each P (x ∷ xs) = P x × Each P xs

-- ---- digits: "Either case of hex"

-- a byte of the text that is a digit, and its value: `0` is 48, `A` 65, `a` 97
pub data Digit : ℕ → ℕ → Type 0 where
  figure : {c x : ℕ} → c ≡ 48 + x → x < 10 → Digit c x
  capital : {c x : ℕ} → c ≡ 55 + x → 10 ≤ x → x < 16 → Digit c x
  small : {c x : ℕ} → c ≡ 87 + x → 10 ≤ x → x < 16 → Digit c x

-- two digits a byte, the high one first
pub data Digits : List ℕ → List ℕ → Type 0 where
  none : Digits [] []
  byte : {a b x y v : ℕ} {l vs : List ℕ} → Digit a x → Digit b y → v ≡ 16 * x + y → Digits l vs → Digits (a ∷ b ∷ l) (v ∷ vs)

-- ':' and the digits of these bytes
pub record Spells (l vs : List ℕ) : Type 0 where
  pub digits : List ℕ
  pub colon : l ≡ 58 ∷ digits
  pub spelled : Digits digits vs

-- ---- records: lines without their end

-- how many bytes, the address high and low, type 00, the bytes, and the last one
abbrev pub data_bytes : ℕ → ℕ → List ℕ → ℕ → List ℕ
data_bytes high low d check = length d ∷ high ∷ low ∷ 0 ∷ (d ++ (check ∷ []))

-- a data record, whatever its sum
pub record DataLine (l : List ℕ) (a : ℕ) (d : List ℕ) : Type 0 where
  pub high : ℕ
  pub low : ℕ
  pub check : ℕ
  pub spells : Spells l (data_bytes high low d check)
  pub address : a ≡ 256 * high + low

abbrev pub SumRight : (l : List ℕ) (a : ℕ) (d : List ℕ) → DataLine l a d → Type 0
SumRight l a d r = sum_of (data_bytes r.high r.low d r.check) % 256 ≡ 0

pub record GoodLine (l : List ℕ) (a : ℕ) (d : List ℕ) : Type 0 where
  pub formed : DataLine l a d
  pub sum : SumRight l a d formed

-- "the end record is `:00000001FF`", in either case
abbrev pub EndLine : List ℕ → Type 0
EndLine l = Spells l end_bytes

-- ---- line ends: "LF or CR LF are read, the last line end may be missing"

pub data LineEnd : List ℕ → Type 0 where
  lf : LineEnd (10 ∷ [])
  cr_lf : LineEnd (13 ∷ 10 ∷ [])

pub data LastEnd : List ℕ → Type 0 where
  closed : {z : List ℕ} → LineEnd z → LastEnd z
  missing : LastEnd []

-- ---- files

-- what a data record names: bytes from an address on
pub record Piece : Type 0 where
  pub at : ℕ
  pub bytes : List ℕ

-- a text that begins with good data records, and the rest of it: none where the last line end is missing
pub data Begins : List ℕ → List Piece → List ℕ → Type 0 where
  rest : {t : List ℕ} → Begins t [] t
  more : {t l z u r : List ℕ} {p : Piece} {ps : List Piece} → t ≡ l ++ z ++ u → GoodLine l p.at p.bytes → LineEnd z → Begins u ps r → Begins t (p ∷ ps) r
  unended : {t : List ℕ} {p : Piece} → GoodLine t p.at p.bytes → Begins t (p ∷ []) []

-- good data records, the end record, and nothing behind it
pub record IsFile (t : List ℕ) (ps : List Piece) : Type 0 where
  pub line : List ℕ
  pub stop : List ℕ
  pub begins : Begins t ps (line ++ stop)
  pub end : EndLine line
  pub ends : LastEnd stop

-- ---- places

abbrev pub Names : Piece → ℕ → Type 0
Names p i = (p.at ≤ i) × (i < p.at + length p.bytes)

abbrev pub Inside : ℕ → Piece → Type 0
Inside size p = p.at + length p.bytes ≤ size

-- no place is named by both
abbrev pub Apart : Piece → Piece → Type 0
Apart p q = (i : ℕ) → Names p i → Names q i → ⊥

-- inside the array, and apart from each other
abbrev pub Placed : ℕ → List Piece → Type 0
Placed size [] = Unit {0}
Placed size (p ∷ ps) = Inside size p × Each (Apart p) ps × Placed size ps

-- the array that records name: "bytes not named are FFh"
pub record NamedBy (size : ℕ) (ps : List Piece) (m : List ℕ) : Type 0 where
  pub long : length m ≡ size
  pub named : Each (λ p. (i : ℕ) → Names p i → get_or m i 0 ≡ get_or p.bytes (i - p.at) 0) ps
  pub blank : (i : ℕ) → i < size → Each (λ p. Names p i → ⊥) ps → get_or m i 0 ≡ 255

abbrev pub bytes_in : List Piece → ℕ
bytes_in [] = 0
bytes_in (p ∷ ps) = length p.bytes + bytes_in ps

-- ---- what a text is refused for: "16 malformed record, 17 wrong sum, 18 overlap or beyond the array, 19 no end record or text after it"

abbrev pub NoLf : List ℕ → Type 0
NoLf l = Each (λ x. x ≡ 10 → ⊥) l

-- the first line of a text without its end, and what is behind it
pub data FirstLine : List ℕ → List ℕ → List ℕ → Type 0 where
  by_lf : {t l b : List ℕ} → t ≡ l ++ 10 ∷ b → NoLf l → ((k : List ℕ) → l ≡ k ++ (13 ∷ []) → ⊥) → FirstLine t l b
  by_cr_lf : {t l b : List ℕ} → t ≡ l ++ 13 ∷ 10 ∷ b → NoLf l → FirstLine t l b
  by_end : {t : List ℕ} → NoLf t → 0 < length t → FirstLine t t []

-- the fault of the line behind these records: its number, and the line's from 1
pub data Fault (size : ℕ) (ps : List Piece) (t : List ℕ) : Refusal → Type 0 where
  bad_record : {l b : List ℕ} → FirstLine t l b → ((a : ℕ) (d : List ℕ) → DataLine l a d → ⊥) → (EndLine l → ⊥) → Fault size ps t (BadRecord (suc (length ps)))
  bad_sum : {l b d : List ℕ} {a : ℕ} → FirstLine t l b → (r : DataLine l a d) → (SumRight l a d r → ⊥) → Fault size ps t (BadSum (suc (length ps)))
  misplaced : {l b : List ℕ} {p : Piece} → FirstLine t l b → GoodLine l p.at p.bytes → (Inside size p → Each (Apart p) ps → ⊥) → Fault size ps t (Misplaced (suc (length ps)))
  no_end : t ≡ [] → Fault size ps t (NoEnd (suc (length ps)))
  text_after : {l b : List ℕ} → FirstLine t l b → EndLine l → 0 < length b → Fault size ps t (NoEnd (suc (suc (length ps))))

-- "the earliest record decides": good records that have their places, and behind them the fault
pub record Stops (size : ℕ) (t : List ℕ) (r : Refusal) : Type 0 where
  pub before : List Piece
  pub rest : List ℕ
  pub begins : Begins t before rest
  pub placed : Placed size before
  pub fault : Fault size before rest r
