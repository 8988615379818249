-- Document 01, "Strength of the promises": "Every public function states what it answers, and on every input, refused ones too, its
-- statement determines the answer, the state and each lent byte afterwards. Any pair of answers allowed by it is proved equal".
-- What that means of a contract, whichever it is. A contract comes here as the toolchain itself makes it of the clauses in src/:
--     ended     the function's signature: what it takes, what it returns, what is lent to it
--     asked     what its `requires` asks of the input
--     learnt    what its `ensures` tells of the input, the result and each lent buffer at exit. The function's module `Reads` proves
--               that whoever has the contract has this, so answers that the contract allows are among those that `learnt` allows.
-- Assumes nothing.
use Rattle.std.specs.Prelude.{◌≡◌, List, ℕ}
use contract.Lifetimes.{Lfts}
use Rattle.std.specs.Borrow.{Bor}
use denote.Triple.Entry.{Args, Res}
use denote.Triple.Clauses.{Ended, Lasts, AtExit, at_exit}

module _ (ended : Ended) where
  abbrev pub InputAsked : Type 1
  InputAsked = (κs : Lfts ended.signature.lifetimes) → Args ended.signature κs → Type 0

  abbrev pub Learnt : Type 1
  Learnt = (κs : Lfts ended.signature.lifetimes) → Args ended.signature κs → Res ended.signature κs → AtExit ended κs → Type 0

  -- an answer to the input `a`: the result, the state in it, and the bytes that each buffer lent for a change holds afterwards
  pub record AnswerTo (κs : Lfts ended.signature.lifetimes) (a : Args ended.signature κs) : Type 0 where
    pub result : Res ended.signature κs
    pub left : Lasts ended κs a

  -- the contract `learnt` allows the answer `x` to the input `a`
  abbrev pub Allows : Learnt → (κs : Lfts ended.signature.lifetimes) (a : Args ended.signature κs) → AnswerTo κs a → Type 0
  Allows learnt κs a x = learnt κs a x.result (at_exit ended κs a x.left)

  -- every input is taken, and two answers that are allowed to the same input are equal
  pub record Determined (asked : InputAsked) (learnt : Learnt) : Type 0 where
    pub taken : (κs : Lfts ended.signature.lifetimes) (a : Args ended.signature κs) → asked κs a
    pub equal : (κs : Lfts ended.signature.lifetimes) (a : Args ended.signature κs) (x y : AnswerTo κs a) →
        Allows learnt κs a x → Allows learnt κs a y → x ≡ y

  -- the same where the result is a part of a lent buffer: equal in what `seen` shows of the part, and in what is left
  pub record DeterminedAs {Shown : Type 0} (seen : (κs : Lfts ended.signature.lifetimes) → Res ended.signature κs → Shown)
      (asked : InputAsked) (learnt : Learnt) : Type 0 where
    pub taken : (κs : Lfts ended.signature.lifetimes) (a : Args ended.signature κs) → asked κs a
    pub equal : (κs : Lfts ended.signature.lifetimes) (a : Args ended.signature κs) (x y : AnswerTo κs a) →
        Allows learnt κs a x → Allows learnt κs a y →
        (seen κs x.result ≡ seen κs y.result) × (x.left ≡ y.left)

-- what there is to see of a result that is a part of a lent buffer: its bytes, and where in memory it lies
pub record Part : Type 0 where
  pub bytes : List ℕ
  pub place : ℕ × ℕ

abbrev pub part : Bor (List ℕ) → Part
part r = record { bytes = r.now; place = r.ref_ptr }
